-- How a table is read, a record after the other; and an accepted one is within document 01's limits, as specs/TableLaws.antt has them.
use Rattle.std.specs.Prelude.{◌≡◌, Bool, true, false, ◌&&◌, eqb, ltb, leb, length, set, drop, replicate, None, Option, Some, Err, Ok}
use Rattle.rules.specs.declared.table.Record.{Record}
use Rattle.std.proofs.Math.Path.{refl, ap, fun_ext}
use Rattle.std.proofs.Common.{sym, ◌∙◌, arith, length-set, length-take, length-drop, drop_of_length-le, drop-cons, drop-drop, ltb-true, ltb-false, leb-true, eqb-true}
use Rattle.std.proofs.lemmas.Bool.{false≢true, eqb-false}
use mathlib.Core.List.{List, [], ◌∷◌}
use Prim.Native.Nat.{ℕ, zero, suc, ◌+◌, ◌-◌, ◌*◌, ◌≤◌, ◌<◌}
use Rattle.std.proofs.Math.Numerals.{add-one}
use Rattle.std.proofs.Math.ListN.{get_or}
use Rattle.clocks.specs.Clock.{max_threads, risen}
use Rattle.rules.specs.Limits.{max_objects, max_operations, op_places}
use Rattle.rules.specs.declared.table.Op.{Op}
use Rattle.rules.specs.declared.table.Made.{Made}
use Rattle.rules.specs.declared.table.Table.{Table}
use Rattle.rules.specs.declared.table.Record.TheVariants as rec
use Rattle.rules.specs.declared.answer.Answer.{Answer}
use Rattle.rules.specs.declared.answer.Answer.TheVariants.{BadRecord, TooMany, BadObject}
use Rattle.rules.specs.Table.{object_record, thread_record, operation_record, is_object, is_operation, Read, last_count, objects_fine, with_object, with_thread, with_op, one_record, at_end, record_of, body_length, empty_table, read_from, read_table, ops_of}
use Rattle.rules.specs.TableLaws.{Within}

-- a statement about a choice, by its test
pub by_test : {A : Type 0} (P : A → Type 0) (b : Bool) {x y : A} → (b ≡ true → P x) → (b ≡ false → P y) → P (elim b [ true ↦ x | false ↦ y ])
by_test P true p q = p refl
by_test P false p q = q refl

-- the two cases of a test
pub split : {X : Type 0} (b : Bool) → (b ≡ true → X) → (b ≡ false → X) → X
split true f g = f refl
split false f g = g refl

-- the operations of a thread: how many there may be, by the places and by its count
pub ops_few : (table : Table) (k : ℕ) → length table.ops ≡ op_places → length (ops_of table k) ≤ op_places - max_operations * k
unfolding ops_of
ops_few table k l = omega (arith, length-take (get_or table.counts k 0) (drop (max_operations * k) table.ops), length-drop (max_operations * k) table.ops, l)

pub ops_counted : (table : Table) (k : ℕ) → length (ops_of table k) ≤ get_or table.counts k 0
unfolding ops_of
ops_counted table k = omega (arith, length-take (get_or table.counts k 0) (drop (max_operations * k) table.ops))

-- those after the one at p, as a position that stays at its type's end counts them
pub ops-next : (table : Table) (k p : ℕ) → get_or table.counts k 0 ≤ 255 → drop (risen 255 p) (ops_of table k) ≡ drop 1 (drop p (ops_of table k))
ops-next table k p few =
    let os : List Op = ops_of table k in
    split (ltb p 255) (λ e. let r : risen 255 p ≡ p + 1 = omega (arith, ltb-true p 255 e) in ap (λ (j : ℕ). drop j os) r ∙ sym (drop-drop 1 p os))
    (λ e.
    let r : length os ≤ risen 255 p = omega (arith, ops_counted table k, few, ltb-false p 255 e) in
    let s : length os ≤ p + 1 = omega (arith, ops_counted table k, few, ltb-false p 255 e) in
    drop_of_length-le os {i = risen 255 p} r ∙ sym (drop-drop 1 p os ∙ drop_of_length-le os {i = p + 1} s))

-- the ranges of kinds
pub object_low : (k : ℕ) → is_object k ≡ true → 0x10 ≤ k
unfolding is_object
object_low k e = go (leb 0x10 k) refl e
  where
    go : (b : Bool) → leb 0x10 k ≡ b → (b && leb k 0x16) ≡ true → 0x10 ≤ k
    go true t q = leb-true 0x10 k t
    go false t q = absurd (false≢true q)

pub operation_low : (k : ℕ) → is_operation k ≡ true → 0x30 ≤ k
unfolding is_operation
operation_low k e = go (leb 0x30 k) refl e
  where
    go : (b : Bool) → leb 0x30 k ≡ b → (b && leb k 0x47) ≡ true → 0x30 ≤ k
    go true t q = leb-true 0x30 k t
    go false t q = absurd (false≢true q)

-- a record is judged first, and the rest is read from the table that it leaves
abbrev pub and_then : Read → (Table → Read) → Read
and_then (Err a) go = Err a
and_then (Ok t) go = go t

pub one_then : (at : ℕ) (t : Table) (r : Option Record) (go : Table → Read) → one_record at t r go ≡ and_then (one_record at t r Ok) go
unfolding one_record object_record thread_record operation_record
one_then at t (Some (rec.Object m)) go = choose (eqb t.thread_count 0) (ltb t.object_count max_objects)
  where
    choose : (b c : Bool)
        → elim b [ true ↦ elim c [ true ↦ go (with_object t m) | false ↦ Err (TooMany at) ] | false ↦ Err (BadRecord at) ]
        ≡ and_then (elim b [ true ↦ elim c [ true ↦ Ok (with_object t m) | false ↦ Err (TooMany at) ] | false ↦ Err (BadRecord at) ]) go
    choose true true = refl
    choose true false = refl
    choose false c = refl
one_then at t (Some rec.Thread) go = choose (ltb t.thread_count max_threads)
  where
    choose : (b : Bool)
        → elim b [ true ↦ go (with_thread t) | false ↦ Err (TooMany at) ] ≡ and_then (elim b [ true ↦ Ok (with_thread t) | false ↦ Err (TooMany at) ]) go
    choose true = refl
    choose false = refl
one_then at t (Some (rec.Operation op)) go = choose (eqb t.thread_count 0) (ltb (last_count t) max_operations) (objects_fine t.objects op)
  where
    choose : (b c d : Bool)
        → elim b [ true ↦ Err (BadRecord at) | false ↦ elim c [ true ↦ elim d [ true ↦ go (with_op t op) | false ↦ Err (BadObject at) ] | false ↦ Err (TooMany at) ] ]
        ≡ and_then (elim b [ true ↦ Err (BadRecord at) | false ↦ elim c [ true ↦ elim d [ true ↦ Ok (with_op t op) | false ↦ Err (BadObject at) ] | false ↦ Err (TooMany at) ] ]) go
    choose true c d = refl
    choose false true true = refl
    choose false true false = refl
    choose false false d = refl
one_then at t None go = refl

-- more than enough is as good as enough: the number only has to be at least the bytes left
pub enough : (n m at : ℕ) (bs : List ℕ) (t : Table) → length bs ≤ n → length bs ≤ m → read_from n at bs t ≡ read_from m at bs t
unfolding read_from
enough zero zero at bs t h k = refl
enough zero (suc m) at [] t h k = refl
enough zero (suc m) at (b ∷ bs) t h k = absurd (omega arith)
enough (suc n) zero at [] t h k = refl
enough (suc n) zero at (b ∷ bs) t h k = absurd (omega arith)
enough (suc n) (suc m) at [] t h k = refl
enough (suc n) (suc m) at (b ∷ bs) t h k =
    let l = length-drop (body_length b) bs in
    ap (one_record at t (record_of b bs)) (fun_ext (λ u. enough n m (at + 1 + body_length b) (drop (body_length b) bs) u (omega arith) (omega arith)))

-- the reader's loop: what the whole table comes to is what the rest from `at` on comes to
abbrev pub Reading : List ℕ → ℕ → Table → Type 0
Reading bs at t = read_table bs ≡ read_from (length bs) at (drop at bs) t

pub reading-start : (bs : List ℕ) → Reading bs 0 empty_table
unfolding read_table
reading-start bs = refl

module _ (bs : List ℕ) (at : ℕ) (t : Table) (r : Reading bs at t) where
  pub reading_end : length bs ≤ at → read_table bs ≡ at_end at t
  unfolding read_from
  reading_end h = r ∙ ap (λ (l : List ℕ). read_from (length bs) at l t) (drop_of_length-le bs h) ∙ none (length bs)
    where
      none : (n : ℕ) → read_from n at [] t ≡ at_end at t
      none zero = refl
      none (suc n) = refl

  -- the record that begins at `at`, with what it leaves
  abbrev here : Read
  here = one_record at t (record_of (get_or bs at 0) (drop (at + 1) bs)) Ok

  abbrev past : ℕ
  past = at + 1 + body_length (get_or bs at 0)

  reading_one : at < length bs → read_table bs ≡ and_then here (read_from (length bs) past (drop past bs))
  unfolding read_from
  reading_one h = r ∙ ap (λ (l : List ℕ). read_from (length bs) at l t) (drop-cons bs at 0 h ∙ rw (← add-one at)) ∙ first (length bs) refl
    where
      k : ℕ
      k = get_or bs at 0

      rest : List ℕ
      rest = drop (at + 1) bs

      first : (n : ℕ) → length bs ≡ n → read_from n at (k ∷ rest) t ≡ and_then here (read_from (length bs) past (drop past bs))
      first zero e = absurd (omega arith)
      first (suc n) e =
          let a = length-drop (at + 1) bs in
          let b = length-drop (body_length k) rest in
          one_then at t (record_of k rest) _
          ∙ ap (and_then here) (fun_ext (λ u. enough n (length bs) past (drop (body_length k) rest) u (omega arith) (omega arith)))
          ∙ ap (λ (l : List ℕ). and_then here (read_from (length bs) past l)) (drop-drop (body_length k) (at + 1) bs)

  -- as the code sees it: a record that is refused ends the reading, and any other leaves the table from which the rest is read
  pub reading-stops : at < length bs → (a : Answer) → here ≡ Err a → read_table bs ≡ Err a
  reading-stops h a e = reading_one h ∙ ap (λ (y : Read). and_then y (read_from (length bs) past (drop past bs))) e

  pub reading-goes : at < length bs → (u : Table) → here ≡ Ok u → Reading bs past u
  reading-goes h u e = reading_one h ∙ ap (λ (y : Read). and_then y (read_from (length bs) past (drop past bs))) e

-- a body has at most two bytes
pub body_small : (k : ℕ) → body_length k ≤ 2
unfolding body_length
body_small k =
    by_test (λ (n : ℕ). n ≤ 2) (eqb k 0x10) (λ e. omega arith)
    (λ e. by_test (λ (n : ℕ). n ≤ 2) (eqb k 0x13) (λ f. omega arith) (λ f. by_test (λ (n : ℕ). n ≤ 2) (eqb k 0x39) (λ g. omega arith) (λ g. by_test (λ (n : ℕ). n ≤ 2) (is_operation k) (λ o. omega arith) (λ o. omega arith))))

-- What holds of every table that is read: `I` of the place and the table, kept by each record that is accepted, and what it comes to, `Q`.
module _ (I : ℕ → Table → Type 0) (Q : Read → Type 0)
    (stops : (at : ℕ) (t : Table) → I at t → Q (Err (BadRecord at)) × Q (Err (TooMany at)) × Q (Err (BadObject at)))
    (object : (at past : ℕ) (t : Table) (m : Made) → past ≤ at + 3 → t.thread_count ≡ 0 → t.object_count < max_objects → I at t → I past (with_object t m))
    (thread : (at past : ℕ) (t : Table) → past ≤ at + 3 → t.thread_count < max_threads → I at t → I past (with_thread t))
    (operation : (at past : ℕ) (t : Table) (op : Op) → past ≤ at + 3 → 0 < t.thread_count → last_count t < max_operations → objects_fine t.objects op ≡ true → I at t → I past (with_op t op))
    (ends : (at : ℕ) (t : Table) → 0 < t.thread_count → I at t → Q (Ok t)) where
  positive : (n : ℕ) → eqb n 0 ≡ false → 0 < n
  positive zero e = absurd (eqb-false 0 0 e refl)
  positive (suc n) e = omega arith

  one_by : (at past : ℕ) → past ≤ at + 3 → (t : Table) (r : Option Record) (go : Table → Read) → I at t → ((u : Table) → I past u → Q (go u)) → Q (one_record at t r go)
  unfolding one_record object_record thread_record operation_record
  one_by at past on t (Some (rec.Object m)) go i next =
      by_test Q (eqb t.thread_count 0)
      (λ z.
      by_test Q (ltb t.object_count max_objects)
      (λ l. next _ (object at past t m on (eqb-true t.thread_count 0 z) (ltb-true t.object_count max_objects l) i)) (λ l. (stops at t i).1)) (λ z. (stops at t i).0)
  one_by at past on t (Some rec.Thread) go i next =
      by_test Q (ltb t.thread_count max_threads) (λ l. next _ (thread at past t on (ltb-true t.thread_count max_threads l) i)) (λ l. (stops at t i).1)
  one_by at past on t (Some (rec.Operation op)) go i next =
      by_test Q (eqb t.thread_count 0) (λ z. (stops at t i).0)
      (λ z.
      by_test Q (ltb (last_count t) max_operations)
      (λ l.
      by_test Q (objects_fine t.objects op) (λ f. next _ (operation at past t op on (positive t.thread_count z) (ltb-true (last_count t) max_operations l) f i)) (λ f. (stops at t i).2))
      (λ l. (stops at t i).1))
  one_by at past on t None go i next = (stops at t i).0

  end_by : (at : ℕ) (t : Table) → I at t → Q (at_end at t)
  unfolding at_end
  end_by at t i = by_test Q (eqb t.thread_count 0) (λ z. (stops at t i).1) (λ z. ends at t (positive t.thread_count z) i)

  from-by : (n at : ℕ) (bs : List ℕ) (t : Table) → I at t → Q (read_from n at bs t)
  unfolding read_from
  from-by zero at bs t i = end_by at t i
  from-by (suc n) at [] t i = end_by at t i
  from-by (suc n) at (k ∷ bs) t i =
      one_by at (at + 1 + body_length k) (omega (arith, body_small k)) t (record_of k bs) _ i (λ u v. from-by n (at + 1 + body_length k) (drop (body_length k) bs) u v)

  pub read_by : (bs : List ℕ) → I 0 empty_table → Q (read_table bs)
  unfolding read_table
  read_by bs i = from-by (length bs) 0 bs empty_table i

-- So what holds of a table with no record, and is kept by each record, holds of every accepted one, which has a thread.
module _ (I : Table → Type 0) (object : (t : Table) (m : Made) → t.object_count < max_objects → I t → I (with_object t m))
    (thread : (t : Table) → t.thread_count < max_threads → I t → I (with_thread t))
    (operation : (t : Table) (op : Op) → last_count t < max_operations → objects_fine t.objects op ≡ true → I t → I (with_op t op)) (none : I empty_table) where
  abbrev Accepts : Read → Type 0
  Accepts r = (table : Table) → r ≡ Ok table → I table × (0 < table.thread_count)

  never : (a : Answer) → Accepts (Err a)
  never a table e = let q : ◌≡◌ {A = ℕ} 0 1 = cc in absurd (omega (arith, q))

  pub accepted_by : (bs : List ℕ) → Accepts (read_table bs)
  accepted_by bs =
      read_by (λ at t. I t) Accepts (λ at t i. (never (BadRecord at), never (TooMany at), never (BadObject at))) (λ at past t m on z l i. object t m l i)
      (λ at past t on l i. thread t l i) (λ at past t op on some l f i. operation t op l f i) (λ at t some i table e. let same : t ≡ table = cc in rw (← same) (i, some)) bs none

-- one count more, where there was room
count_most : (counts : List ℕ) (i n : ℕ) → n ≤ max_operations → ((k : ℕ) → get_or counts k 0 ≤ max_operations) → (k : ℕ) → get_or (set counts i n) k 0 ≤ max_operations
count_most [] i n l h k = h k
count_most (x ∷ counts) zero n l h zero = l
count_most (x ∷ counts) zero n l h (suc k) = h (suc k)
count_most (x ∷ counts) (suc i) n l h zero = h 0
count_most (x ∷ counts) (suc i) n l h (suc k) = count_most counts i n l (λ j. h (suc j)) k

no_count : (n k : ℕ) → get_or (replicate n 0) k 0 ≤ max_operations
no_count zero k = omega arith
no_count (suc n) zero = omega arith
no_count (suc n) (suc k) = no_count n k

pub empty-within : Within empty_table
unfolding empty_table
empty-within = record { objects = omega arith; threads = omega arith; ops = refl; counts = refl; most = no_count max_threads }

pub op-within : (t : Table) (op : Op) → last_count t < max_operations → Within t → Within (with_op t op)
unfolding with_op
op-within t op l w =
    record {
      objects = w.objects;
      threads = w.threads;
      ops = length-set t.ops _ op ∙ w.ops;
      counts = length-set t.counts _ _ ∙ w.counts;
      most = count_most t.counts _ (last_count t + 1) (omega (arith, l)) w.most;
    }

pub object_within : (t : Table) (m : Made) → t.object_count < max_objects → Within t → Within (with_object t m)
unfolding with_object
object_within t m l w = record { objects = omega (arith, l); threads = w.threads; ops = w.ops; counts = w.counts; most = w.most }

pub thread-within : (t : Table) → t.thread_count < max_threads → Within t → Within (with_thread t)
unfolding with_thread
thread-within t l w = record { objects = w.objects; threads = omega (arith, l); ops = w.ops; counts = w.counts; most = w.most }

-- what is accepted is within the limits, and has a thread
pub read-within : (bs : List ℕ) (table : Table) → read_table bs ≡ Ok table → Within table × (0 < table.thread_count)
read-within = accepted_by Within (λ t m l w. object_within t m l w) (λ t l w. thread-within t l w) (λ t op l f w. op-within t op l w) empty-within

-- a position counts the operations of a thread of such a table
pub step_on : (table : Table) → Within table → (k p : ℕ) → drop (risen 255 p) (ops_of table k) ≡ drop 1 (drop p (ops_of table k))
step_on table n k p = ops-next table k p (omega (arith, n.most k))
