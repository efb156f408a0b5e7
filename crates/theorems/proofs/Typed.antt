-- Every operation of an accepted table is on an object of its kind, and a wait's mutex is one. The words are in specs/Typed.antt.
use Rattle.std.specs.Prelude.{◌≡◌, refl, true, List, ◌∷◌, [], ℕ, ◌+◌, ◌-◌, ◌*◌, ◌<◌, eqb, ltb, length, get_or, set, drop, None, Option, Some, Err, Ok}
use Rattle.std.proofs.Common.{sym, ◌∙◌, ap, arith, length-drop, get_or-set_same, get_or-set_other, get_or-take, get_or-drop, ltb-true, ltb-false, eqb-true}
use Rattle.std.proofs.lemmas.Bool.{eqb-false}
use Rattle.clocks.specs.Clock.{max_threads}
use Rattle.rules.specs.declared.object.ObjectId.{ObjectId}
use Rattle.rules.specs.declared.object.Kind.{Kind}
use Rattle.rules.specs.declared.object.Kind.TheVariants as kind
use Rattle.rules.specs.declared.answer.Answer.{Answer}
use Rattle.rules.specs.declared.answer.Answer.TheVariants.{BadRecord, TooMany, BadObject}
use Rattle.rules.specs.declared.table.Made.{Made}
use Rattle.rules.specs.declared.table.Op.{Op}
use Rattle.rules.specs.declared.table.Table.{Table}
use Rattle.rules.specs.Limits.{max_objects, max_operations}
use Rattle.rules.specs.Object.{no_object}
use Rattle.rules.specs.Effect.{wait_of}
use Rattle.rules.specs.Table.{Read, kind_of, kind_number, is_kind, mutex_fine, objects_fine, no_op, with_object, with_thread, last_count, with_op, empty_table, read_table, ops_of}
use Rattle.rules.proofs.TableLaws.{split, empty-within, op-within, object_within, thread-within, ops_counted, read_by}
use Rattle.theorems.proofs.All.{all_same}
use Rattle.theorems.proofs.Named.{both}
use Rattle.theorems.specs.Typed.{Fits, WaitsOnMutex, OnKind}

empty_fits : Fits empty_table
unfolding empty_table
empty_fits =
    let zeros = all_same (λ (x : ℕ). x ≡ 0) 0 refl max_threads in
    record { within = empty-within; none = λ j l. zeros j; fine = λ j i l. absurd (omega (arith, l, zeros j)) }

-- an object comes before any thread
object_fits : (t : Table) (m : Made) → t.thread_count ≡ 0 → t.object_count < max_objects → Fits t → Fits (with_object t m)
unfolding with_object
object_fits t m z l h = record { within = object_within t m l h.within; none = h.none; fine = λ j i k. absurd (omega (arith, k, h.none j (omega (arith, z)))) }

thread_fits : (t : Table) → t.thread_count < max_threads → Fits t → Fits (with_thread t)
unfolding with_thread
thread_fits t l h = record { within = thread-within t l h.within; none = λ j k. h.none j (omega (arith, k)); fine = h.fine }

op_fits : (t : Table) (op : Op) → 0 < t.thread_count → last_count t < max_operations → objects_fine t.objects op ≡ true → Fits t → Fits (with_op t op)
unfolding with_op
op_fits t op some l f h =
    record {
      within = op-within t op l h.within;
      none = λ j k. get_or-set_other t.counts last j _ 0 (λ e. omega (arith, e, k, some)) ∙ h.none j k;
      fine = λ j i k. split (eqb j last) (λ e. own j i (eqb-true j last e) k) (λ e. other j i (eqb-false j last e) k);
    }
  where
    last : ℕ
    last = t.thread_count - 1

    at : ℕ
    at = max_operations * last + last_count t

    at_there : at < length t.ops
    at_there = omega (arith, l, some, h.within.ops, h.within.threads)

    -- the thread's own
    own : (j i : ℕ) → j ≡ last → i < get_or (set t.counts last (last_count t + 1)) j 0 → objects_fine t.objects (get_or (set t.ops at op) (max_operations * j + i) no_op) ≡ true
    own j i e k =
        let n : get_or (set t.counts last (last_count t + 1)) j 0 ≡ last_count t + 1 =
        ap (λ (x : ℕ). get_or (set t.counts last (last_count t + 1)) x 0) e ∙ get_or-set_same t.counts last _ 0 (omega (arith, some, h.within.counts, h.within.threads)) in
        split (eqb i (last_count t))
        (λ q.
        let p : max_operations * j + i ≡ at = omega (arith, e, eqb-true i (last_count t) q) in
        ap (λ (x : ℕ). objects_fine t.objects (get_or (set t.ops at op) x no_op)) p ∙ ap (objects_fine t.objects) (get_or-set_same t.ops at op no_op at_there) ∙ f)
        (λ q.
        let u = eqb-false i (last_count t) q in
        let c : get_or t.counts j 0 ≡ last_count t = ap (λ (x : ℕ). get_or t.counts x 0) e in
        ap (objects_fine t.objects) (get_or-set_other t.ops at (max_operations * j + i) op no_op (λ p. u (omega (arith, p, e)))) ∙ h.fine j i (omega (arith, k, n, c, less i u k n)))
      where
        less : (i : ℕ) → (i ≡ last_count t → ⊥) → i < get_or (set t.counts last (last_count t + 1)) j 0 → get_or (set t.counts last (last_count t + 1)) j 0 ≡ last_count t + 1 → i < last_count t
        less i u k n = split (ltb i (last_count t)) (λ x. ltb-true i (last_count t) x) (λ x. absurd (u (omega (arith, k, n, ltb-false i (last_count t) x))))

    -- another's
    other : (j i : ℕ) → (j ≡ last → ⊥) → i < get_or (set t.counts last (last_count t + 1)) j 0 → objects_fine t.objects (get_or (set t.ops at op) (max_operations * j + i) no_op) ≡ true
    other j i u k =
        let n = get_or-set_other t.counts last j (last_count t + 1) 0 u in
        ap (objects_fine t.objects) (get_or-set_other t.ops at (max_operations * j + i) op no_op (λ p. u (omega (arith, p, l, k, n, h.within.most j)))) ∙ h.fine j i (omega (arith, k, n))

-- what an accepted table has
abbrev Accepts : Read → Type 0
Accepts r = (table : Table) → r ≡ Ok table → Fits table

never : (a : Answer) → Accepts (Err a)
never a table e = let q : ◌≡◌ {A = ℕ} 0 1 = cc in absurd (omega (arith, q))

pub read_fits : (bs : List ℕ) → Accepts (read_table bs)
read_fits bs =
    read_by (λ at t. Fits t) Accepts (λ at t i. (never (BadRecord at), never (TooMany at), never (BadObject at))) (λ at past t m on z l i. object_fits t m z l i) (λ at past t on l i. thread_fits t l i)
    (λ at past t op on some l f i. op_fits t op some l f i) (λ at t some i table e. let same : t ≡ table = cc in rw (← same) i) bs empty_fits

-- a kind by its number
abbrev kind_at : ℕ → Kind
kind_at n = get_or (kind.Mutex ∷ kind.RwLock ∷ kind.Condvar ∷ kind.Notify ∷ kind.Channel ∷ kind.Arc ∷ kind.Cell ∷ []) n kind.Nothing

kind_back : (k : Kind) → kind_at (kind_number k) ≡ k
kind_back kind.Mutex = refl
kind_back kind.RwLock = refl
kind_back kind.Condvar = refl
kind_back kind.Notify = refl
kind_back kind.Channel = refl
kind_back kind.Arc = refl
kind_back kind.Cell = refl
kind_back kind.Nothing = refl

kind_is : (ms : List Made) (o : ObjectId) (k : Kind) → is_kind ms o k ≡ true → (get_or ms o.0 no_object).kind ≡ k
unfolding is_kind
kind_is ms o k e = sym (kind_back (get_or ms o.0 no_object).kind) ∙ ap kind_at (eqb-true (kind_number (get_or ms o.0 no_object).kind) (kind_number k) e) ∙ kind_back k

mutex_is : (ms : List Made) (m : Option ObjectId) → mutex_fine ms m ≡ true → WaitsOnMutex ms m
mutex_is ms None e = tt
mutex_is ms (Some m) e = kind_is ms m kind.Mutex e

on_kind : (ms : List Made) (op : Op) → objects_fine ms op ≡ true → OnKind ms op
unfolding objects_fine
on_kind ms op e = let h = both (is_kind ms op.object (kind_of op.call)) (mutex_fine ms (wait_of op.call)) e in (kind_is ms op.object (kind_of op.call) h.0, mutex_is ms (wait_of op.call) h.1)

-- of every operation that is left to a thread from a position on, the first
pub ops_typed : (bs : List ℕ) (table : Table) → read_table bs ≡ Ok table → (t q : ℕ) → 0 < length (drop q (ops_of table t)) → OnKind table.objects (get_or (drop q (ops_of table t)) 0 no_op)
unfolding ops_of
ops_typed bs table a t q l =
    let h = read_fits bs table a in
    let n : ℕ = get_or table.counts t 0 in
    let few : q < n = omega (arith, l, length-drop q (ops_of table t), ops_counted table t) in
    let e : get_or (drop q (ops_of table t)) 0 no_op ≡ get_or table.ops (max_operations * t + q) no_op =
    get_or-drop q (ops_of table t) 0 no_op ∙ get_or-take n (drop (max_operations * t) table.ops) (q + 0) no_op (omega (arith, few)) ∙ get_or-drop (max_operations * t) table.ops (q + 0) no_op
    ∙ (let z : max_operations * t + (q + 0) ≡ max_operations * t + q = omega arith in ap (λ (x : ℕ). get_or table.ops x no_op) z) in
    on_kind table.objects _ (ap (objects_fine table.objects) e ∙ h.fine t q few)
