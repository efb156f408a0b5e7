-- A table is accepted or refused within its first 2,048 bytes.
use Rattle.std.proofs.Common.{◌≡◌, ℕ, zero, suc, ◌+◌, ◌-◌, ◌≤◌, ◌<◌, List, [], ◌∷◌, arith, length, get_or, take, drop, set, min, refl, sym, ap, ◌∙◌, length-take, length-drop, length-set, get_or-set_same, take-take}
use Rattle.rules.specs.declared.table.Record.{Record}
use Rattle.std.specs.Prelude.{Bool, true, false, eqb, ltb, leb, None, Option, Some}
use Rattle.std.proofs.Math.Seq.{take-nil}
use Rattle.std.proofs.lemmas.Bool.{eqb-false}
use Rattle.std.proofs.lemmas.Bool.Decides.{nat_tests}
use Rattle.std.proofs.lemmas.List.{drop-take}
use borrow.Author.Tests.{eqb-true, ltb-true}
use Rattle.clocks.specs.Clock.{max_threads}
use Rattle.rules.specs.declared.table.Table.{Table}
use Rattle.rules.specs.declared.table.Op.{Op}
use Rattle.rules.specs.declared.table.Made.{Made}
use Rattle.rules.specs.declared.table.Record.TheVariants as rec
use Rattle.rules.specs.Limits.{max_objects, max_operations}
use Rattle.rules.specs.Table.{Read, body_length, body_byte, whole_record, record_of, objects_fine, empty_table, with_object, with_thread, with_op, last_count, object_record, thread_record, operation_record, one_record, at_end, read_from, read_table}
use Rattle.rules.proofs.TableLaws.{body_small}
use Rattle.theorems.specs.Places.{Room}

positive : (n : ℕ) → eqb n 0 ≡ false → 0 < n
positive n e = omega (arith, eqb-false n 0 e)

object_room : (at past : ℕ) (t : Table) (m : Made) → past ≤ at + 3 → t.thread_count ≡ 0 → t.object_count < max_objects → Room at t → Room past (with_object t m)
unfolding with_object
object_room at past t m on none l r =
    record { before = omega (arith, r.before, on); inside = λ some. absurd (omega (arith, some, none)); objects = omega (arith, l); threads = r.threads; counts = r.counts }

thread_room : (at past : ℕ) (t : Table) → past ≤ at + 3 → t.thread_count < max_threads → Room at t → Room past (with_thread t)
unfolding with_thread
thread_room at past t on l r =
    record { before = omega (arith, r.before, on); inside = λ some. omega (arith, r.before, on); objects = r.objects; threads = omega (arith, l); counts = r.counts }

operation_room : (at past : ℕ) (t : Table) (op : Op) → past ≤ at + 3 → 0 < t.thread_count → last_count t < max_operations → Room at t → Room past (with_op t op)
unfolding with_op
operation_room at past t op on some l r =
    let last : ℕ = t.thread_count - 1 in
    let there : last < length t.counts = omega (arith, some, r.threads, r.counts) in
    let one : get_or (set t.counts last (last_count t + 1)) last 0 ≡ last_count t + 1 = get_or-set_same t.counts last (last_count t + 1) 0 there in
    record {
      before = omega (arith, r.inside some, on, l);
      inside = λ q. omega (arith, r.inside some, on, one);
      objects = r.objects;
      threads = r.threads;
      counts = length-set t.counts last (last_count t + 1) ∙ r.counts;
    }

empty_room : Room 0 empty_table
unfolding empty_table
empty_room = record { before = omega arith; inside = λ some. absurd (omega (arith, some)); objects = omega arith; threads = omega arith; counts = refl }

same_test : (b : Bool) (x y u v : Read) → (b ≡ true → x ≡ u) → (b ≡ false → y ≡ v) → elim b as (λ _. Read) [ true ↦ x | false ↦ y ] ≡ elim b as (λ _. Read) [ true ↦ u | false ↦ v ]
same_test true x y u v f g = f refl
same_test false x y u v f g = g refl

-- a record is judged the same, where the rest is read the same
one_same : (at past : ℕ) → past ≤ at + 3 → (t : Table) (r : Option Record) (go on : Table → Read) → Room at t → ((u : Table) → Room past u → go u ≡ on u) → one_record at t r go ≡ one_record at t r on
unfolding one_record object_record thread_record operation_record
one_same at past small t (Some (rec.Object m)) go on i next =
    same_test (eqb t.thread_count 0) _ _ _ _
    (λ z. same_test (ltb t.object_count max_objects) _ _ _ _ (λ l. next _ (object_room at past t m small (eqb-true t.thread_count 0 z) (ltb-true t.object_count max_objects l) i)) (λ l. refl)) (λ z. refl)
one_same at past small t (Some rec.Thread) go on i next =
    same_test (ltb t.thread_count max_threads) _ _ _ _ (λ l. next _ (thread_room at past t small (ltb-true t.thread_count max_threads l) i)) (λ l. refl)
one_same at past small t (Some (rec.Operation op)) go on i next =
    same_test (eqb t.thread_count 0) _ _ _ _ (λ z. refl)
    (λ z.
    same_test (ltb (last_count t) max_operations) _ _ _ _
    (λ l. same_test (objects_fine t.objects op) _ _ _ _ (λ f. next _ (operation_room at past t op small (positive t.thread_count z) (ltb-true (last_count t) max_operations l) i)) (λ f. refl)) (λ l. refl))
one_same at past small t None go on i next = refl

-- a body lies in the front part, or in neither
leb_min : (a n m : ℕ) → a ≤ n → leb a (min n m) ≡ leb a m
leb_min a n m h = grind (arith, nat_tests)

-- a record's kind and body, of a front part that has room for them
record_same : (k n : ℕ) (rest : List ℕ) → body_length k ≤ n → record_of k (take n rest) ≡ record_of k rest
unfolding record_of
record_same k n rest h =
    let body : take (body_length k) (take n rest) ≡ take (body_length k) rest = take-take (body_length k) n rest h in
    let fits : leb (body_length k) (length (take n rest)) ≡ leb (body_length k) (length rest) =
    ap (leb (body_length k)) (length-take n rest) ∙ leb_min (body_length k) n (length rest) h in
    ap (λ (b : Bool). elim b as (λ _. (Option Record)) [ true ↦ whole_record k (body_byte (body_length k) (take n rest) 0) (body_byte (body_length k) (take n rest) 1) | false ↦ None ]) fits
    ∙ ap (λ (l : List ℕ). elim (leb (body_length k) (length rest)) as (λ _. (Option Record)) [ true ↦ whole_record k (get_or l 0 0) (get_or l 1 0) | false ↦ None ]) body

none_left : (n at : ℕ) (t : Table) → read_from n at [] t ≡ at_end at t
unfolding read_from
none_left zero at t = refl
none_left (suc n) at t = refl

-- from a place on, with so many bytes more of the front part
front_from : (n m at k : ℕ) (bs : List ℕ) (t : Table) → length bs ≤ n → length (take k bs) ≤ m → at + k ≡ 2048 → Room at t → read_from m at (take k bs) t ≡ read_from n at bs t
unfolding read_from
front_from n m at k [] t a b e i = ap (λ (l : List ℕ). read_from m at l t) (take-nil k) ∙ none_left m at t ∙ sym (none_left n at t)
front_from zero m at k (x ∷ rest) t a b e i = absurd (omega (arith, a))
front_from (suc n) m at zero (x ∷ rest) t a b e i = absurd (omega (arith, e, i.before, i.objects, i.threads))
front_from (suc n) zero at (suc k) (x ∷ rest) t a b e i = absurd (omega (arith, b))
front_from (suc n) (suc m) at (suc k) (x ∷ rest) t a b e i =
    let body = body_length x in
    let past = at + 1 + body in
    let small = body_small x in
    let room : body ≤ k = omega (arith, small, e, i.before, i.objects, i.threads) in
    let split : body + (k - body) ≡ k = omega arith in
    let part : drop body (take k rest) ≡ take (k - body) (drop body rest) = ap (λ (j : ℕ). drop body (take j rest)) (sym split) ∙ drop-take body (k - body) rest in
    ap (λ (r : Option Record). one_record at t r (read_from m past (drop body (take k rest)))) (record_same x k rest room)
    ∙ one_same at past (omega (arith, small)) t (record_of x rest) _ _ i
    (λ u v.
    ap (λ (l : List ℕ). read_from m past l u) part
    ∙ front_from n m past (k - body) (drop body rest) u (omega (arith, a, length-drop body rest)) (omega (arith, b, ap length part, length-drop body (take k rest))) (omega (arith, e, room)) v)

-- THE FRONT PART: what lies past it changes nothing
pub read_front : (bs : List ℕ) → read_table (take 2048 bs) ≡ read_table bs
unfolding read_table
read_front bs = front_from (length bs) (length (take 2048 bs)) 0 2048 bs empty_table (omega arith) (omega arith) refl empty_room
