-- Every place that an answer names is small: it fits 16 bits. The words are in specs/Places.antt.
use Rattle.std.specs.Prelude.{◌≡◌, leb, length, get_or, set, Err, Ok, None, Option, Some}
use Rattle.std.proofs.Math.Path.{refl}
use Rattle.std.proofs.Common.{◌∙◌, subst, length-set, get_or-set_same}
use mathlib.Core.List.{List, [], ◌∷◌}
use Prim.Native.Nat.{ℕ, suc, ◌+◌, ◌-◌, ◌≤◌, ◌<◌}
use native.Mathlib.Omega.{arith}
use Rattle.lists.specs.Rules.{Outcome, Answers}
use Rattle.lists.specs.Rules as outcome
use Rattle.lists.specs.Judge.{Judged, not_allowed, surplus, unfinished, verdict, judge_at, place_of, judge}
use Rattle.lists.specs.Next as next
use Rattle.rules.specs.declared.table.Table.{Table}
use Rattle.rules.specs.declared.table.Op.{Op}
use Rattle.rules.specs.declared.table.Made.{Made}
use Rattle.rules.specs.declared.answer.Answer.{Answer}
use Rattle.rules.specs.declared.answer.Answer.TheVariants as answer
use Rattle.rules.specs.declared.world.World.{World}
use Rattle.clocks.specs.Clock.{max_threads}
use Rattle.rules.specs.Limits.{max_objects, max_operations, max_list, max_sheet}
use Rattle.rules.specs.Answer.{numbers_of}
use Rattle.rules.specs.Table.{Read, last_count, with_object, with_thread, with_op, empty_table, read_table}
use Rattle.rules.specs.TableLaws.{Within}
use Rattle.rules.proofs.TableLaws.{by_test, read_by, read-within}
use Rattle.rules.specs.Turn.{start}
use Rattle.rules.specs.Judge.{Verdict, step, Given, shown, judge_table, judge_of}
use Rattle.rules.proofs.JudgeLaws.{Told, judge_told}
use Rattle.rules.specs.Sheet.{sheet_length}
use Rattle.rules.proofs.SheetLaws.{sheet_small}
use Rattle.rules.specs.Walk.{decisions, left, hand_over, first_table, first_of, next_list, next_judged, next_table, next_of}
use Rattle.theorems.specs.Falling.{Good}
use Rattle.theorems.proofs.Machine.{keeps, falls}
use Rattle.theorems.proofs.Length.{start_left}
use Rattle.theorems.proofs.Fits.{list_fits}
use Rattle.theorems.proofs.Accepted.{start_good}
use Rattle.theorems.proofs.Meets.{first_is, next_is, complete_told}
use Rattle.theorems.specs.Places.{max_table, Room}

abbrev place : Answer → ℕ
place a = (numbers_of a).place

-- a list's places: each decision before takes one off the falling number
module _ (table : Table) (w : Within table) where
  judged_place : (l : List ℕ) (i : ℕ) (v : World) → Good table v → place_of (judge (step table) i v l) ≤ i + suc (left table v)
  unfolding judge
  judged_place [] i v g = omega arith
  judged_place (d ∷ l) i v g = go (step table v d) refl l (λ u h. judged_place l (suc i) u h)
    where
      go : (o : Outcome World Verdict) → step table v d ≡ o → (m : List ℕ) → ((u : World) → Good table u → place_of (judge (step table) (suc i) u m) ≤ suc i + suc (left table u))
          → place_of (judge_at o i m (λ u. judge (step table) (suc i) u m)) ≤ i + suc (left table v)
      go outcome.refused e m ih = omega arith
      go (outcome.done x) e [] ih = omega arith
      go (outcome.done x) e (y ∷ m) ih = omega arith
      go (outcome.wants u) e m ih =
          let k : Good table u = keeps table w v d u g e in
          let f : left table u < left table v = falls table w v d u g e in
          let h = ih u k in
          omega (arith, f, h)

abbrev Small : Read → Type 0
Small r = (a : Answer) → r ≡ Err a → place a ≤ max_table

at_small : (a : Answer) → place a ≤ max_table → Small (Err a)
at_small a h b e = let same : a ≡ b = cc in subst (λ (x : Answer). place x ≤ max_table) same h

accepted_small : (t : Table) → Small (Ok t)
accepted_small t a e = let q : ◌≡◌ {A = ℕ} 0 1 = cc in absurd (omega (arith, q))

stops_small : (at : ℕ) (t : Table) → Room at t → Small (Err (answer.BadRecord at)) × Small (Err (answer.TooMany at)) × Small (Err (answer.BadObject at))
unfolding numbers_of
stops_small at t r = let small : at ≤ max_table = omega (arith, r.before, r.objects, r.threads) in (at_small _ small, at_small _ small, at_small _ small)

object_room : (at past : ℕ) (t : Table) (m : Made) → past ≤ at + 3 → t.thread_count ≡ 0 → t.object_count < max_objects → Room at t → Room past (with_object t m)
unfolding with_object
object_room at past t m on none l r =
    record { before = omega (arith, r.before, on); inside = λ some. absurd (omega (arith, some, none)); objects = omega (arith, l); threads = r.threads; counts = r.counts }

thread-room : (at past : ℕ) (t : Table) → past ≤ at + 3 → t.thread_count < max_threads → Room at t → Room past (with_thread t)
unfolding with_thread
thread-room at past t on l r =
    record { before = omega (arith, r.before, on); inside = λ some. omega (arith, r.before, on); objects = r.objects; threads = omega (arith, l); counts = r.counts }

operation-room : (at past : ℕ) (t : Table) (op : Op) → past ≤ at + 3 → 0 < t.thread_count → last_count t < max_operations → Room at t → Room past (with_op t op)
unfolding with_op
operation-room at past t op on some l r =
    let last : ℕ = t.thread_count - 1 in
    let there : last < length t.counts = omega (arith, some, r.threads, r.counts) in
    let one : get_or (set t.counts last (last_count t + 1)) last 0 ≡ last_count t + 1 = get_or-set_same t.counts last (last_count t + 1) 0 there in
    record {
      before = omega (arith, r.inside some, on, l);
      inside = λ q. omega (arith, r.inside some, on, one);
      objects = r.objects;
      threads = r.threads;
      counts = length-set t.counts last (last_count t + 1) ∙ r.counts;
    }

empty-room : Room 0 empty_table
unfolding empty_table
empty-room = record { before = omega arith; inside = λ some. absurd (omega (arith, some)); objects = omega arith; threads = omega arith; counts = refl }

pub refused-place : (bs : List ℕ) (a : Answer) → read_table bs ≡ Err a → place a ≤ max_table
refused-place bs = read_by Room Small stops_small object_room thread-room (λ at past t op on some l f r. operation-room at past t op on some l r) (λ at t some r. accepted_small t) bs empty-room

-- a verdict has no place
verdict_place : (a : Answer) → (numbers_of a).number ≤ 5 → place a ≡ 0
unfolding numbers_of
verdict_place answer.Clean h = refl
verdict_place (answer.Race s o) h = refl
verdict_place (answer.Deadlock s) h = refl
verdict_place (answer.Leak o) h = refl
verdict_place (answer.Misuse s) h = refl
verdict_place (answer.NoRoom s) h = refl
verdict_place answer.More h = refl
verdict_place answer.NoLaterList h = refl
verdict_place (answer.ListWritten n) h = absurd (omega (arith, h))
verdict_place (answer.BadRecord n) h = absurd (omega (arith, h))
verdict_place (answer.TooMany n) h = absurd (omega (arith, h))
verdict_place (answer.BadObject n) h = absurd (omega (arith, h))
verdict_place (answer.NotAllowed n) h = absurd (omega (arith, h))
verdict_place (answer.Surplus n) h = absurd (omega (arith, h))
verdict_place (answer.TooShort n) h = absurd (omega (arith, h))
verdict_place answer.NotComplete h = refl

-- what the judge shows
shown-place : (table : Table) (j : Judged World Verdict) (buffer : List ℕ) → Told j → place_of j ≤ max_list + 1 → place (shown table j buffer).answer ≤ max_sheet
unfolding shown numbers_of
shown-place table (not_allowed i) buffer t h = omega (arith, h)
shown-place table (surplus i) buffer t h = omega (arith, h)
shown-place table (unfinished w) buffer t h = omega arith
shown-place table (verdict v) buffer t h = omega (arith, verdict_place v.answer t)

-- the place of every answer of the judge
pub judge-place : (bs list buffer : List ℕ) → place (judge_of bs list buffer).answer ≤ max_sheet
unfolding judge_of judge_table numbers_of
judge-place bs list buffer = go (read_table bs) refl
  where
    go : (r : Read) → read_table bs ≡ r → place (judge_table r list buffer).answer ≤ max_sheet
    go (Err a) e = omega (arith, refused-place bs a e)
    go (Ok t) e =
        let h = read-within bs t e in
        let j = judged_place t h.0 list 0 (start t) (start_good t h.0 h.1) in
        by_test (λ (g : Given). place g.answer ≤ max_sheet) (leb (sheet_length t) (length buffer))
        (λ l. shown-place t _ buffer (judge_told t 0 (start t) list) (omega (arith, j, start_left t h.0, h.0.threads))) (λ l. sheet_small bs t e)

-- a list that is handed over
hand_place : (list buffer : List ℕ) → length list ≤ max_list → place (hand_over list buffer).answer ≤ max_sheet
unfolding hand_over numbers_of
hand_place list buffer h = by_test (λ (g : Given). place g.answer ≤ max_sheet) (leb (length list) (length buffer)) (λ l. omega (arith, h)) (λ l. omega (arith, h))

-- the place of every answer of "first", and of "next"
pub first-place : (bs buffer : List ℕ) → place (first_of bs buffer).answer ≤ max_sheet
unfolding first_of first_table
first-place bs buffer = go (read_table bs) refl
  where
    go : (r : Read) → read_table bs ≡ r → place (first_table r buffer).answer ≤ max_sheet
    go (Err a) e = omega (arith, refused-place bs a e)
    go (Ok t) e =
        let h = read-within bs t e in
        hand_place _ buffer (list_fits bs t e _ (first_is t h.0 h.1).whole)

pub next_place : (bs list buffer : List ℕ) → place (next_of bs list buffer).answer ≤ max_sheet
unfolding next_of next_table next_judged next_list numbers_of
next_place bs list buffer = go (read_table bs) refl
  where
    found : (t : Table) → read_table bs ≡ Ok t → (o : Option (List ℕ)) → Answers (step t) (start t) list o → place (next_list o buffer).answer ≤ max_sheet
    found t e None a = omega arith
    found t e (Some m) a = hand_place m buffer (list_fits bs t e m a.whole)

    by_list : (t : Table) → read_table bs ≡ Ok t → (j : Judged World Verdict) → judge (step t) 0 (start t) list ≡ j → place_of j ≤ max_list + 1
        → place (next_judged j (next.next_of (step t) decisions (left t) (start t) list) buffer).answer ≤ max_sheet
    by_list t e (not_allowed i) q h = omega (arith, h)
    by_list t e (surplus i) q h = omega (arith, h)
    by_list t e (unfinished v) q h = omega arith
    by_list t e (verdict v) q h =
        let n = read-within bs t e in
        found t e (next.next_of (step t) decisions (left t) (start t) list) (next_is t n.0 n.1 list (complete_told t list v q))

    go : (r : Read) → read_table bs ≡ r → place (next_table r list buffer).answer ≤ max_sheet
    go (Err a) e = omega (arith, refused-place bs a e)
    go (Ok t) e =
        let h = read-within bs t e in
        let j = judged_place t h.0 list 0 (start t) (start_good t h.0 h.1) in
        by_list t e (judge (step t) 0 (start t) list) refl (omega (arith, j, start_left t h.0, h.0.threads))
