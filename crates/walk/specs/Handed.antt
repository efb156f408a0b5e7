-- What is handed over, as the code makes it.
use Rattle.std.specs.Prelude.{◌≡◌, Some, None, List, ◌++◌, ℕ, ◌≤◌, ◌<◌, length, Ok, Option}
use Rattle.std.proofs.Math.Path.{refl, sym, ap}
use Rattle.std.proofs.Common.{◌∙◌, subst, arith, take_at, length-take-le}
use Rattle.std.specs.Prelude as core
use Rattle.std.proofs.lemmas.Option.{same_Some, none-some}
use Rattle.std.proofs.Math.ListN.{take, drop}
use borrow.Author.Tests.{le-leb, lt-leb}
use Rattle.lists.specs.Judge.{Judged, not_allowed, surplus, unfinished, verdict, judge}
use Rattle.lists.specs.Next.{Pivot, finish, raised}
use Rattle.lists.specs.Next as next
use Rattle.lists.proofs.CodeLaws.{copied_length}
use Rattle.rules.specs.declared.answer.Answer.{Answer}
use Rattle.rules.specs.declared.answer.Answer.TheVariants.{ListWritten, TooShort, NoLaterList}
use Rattle.rules.specs.declared.table.Table.{Table}
use Rattle.rules.specs.declared.world.World.{World}
use Rattle.rules.specs.Limits.{max_list}
use Rattle.rules.specs.Table.{read_table}
use Rattle.rules.proofs.TableLaws.{read-within}
use Rattle.rules.specs.Turn.{start}
use Rattle.rules.specs.Judge.{Verdict, step, Given, untouched}
use Rattle.rules.specs.Walk.{decisions, left, hand_over, first_table, first_of, next_list, next_judged, next_table, next_of}
use Rattle.walk.specs.declared.Completion.{Completion}
use Rattle.walk.specs.declared.Mark.{Mark}
use Rattle.theorems.specs.Falling.{Good}
use Rattle.theorems.proofs.Length.{start_left, left_some}
use Rattle.theorems.proofs.Accepted.{start_good}
use Rattle.walk.specs.Says.{Completable, Continues, Completes, pivot_of, Started, fault, Whole, Raisable, raised_to}

-- a list that is made, where it fits and where it does not
module _ (made buffer : List ℕ) where
  pub gave_fits : length made ≤ length buffer → record { answer = ListWritten (length made); buffer = made ++ drop (length made) buffer } ≡ hand_over made buffer
  unfolding hand_over
  gave_fits h = sym (rw (hand_over, le-leb (length made) (length buffer) h))

  pub gave_short : length buffer < length made → untouched (TooShort (length made)) buffer ≡ hand_over made buffer
  unfolding hand_over
  gave_short h = sym (rw (hand_over, lt-leb (length made) (length buffer) h))

-- an accepted table has few decisions before it
pub left_few : (table : Table) → Started table → left table (start table) ≤ max_list
left_few table b = omega (arith, start_left table b.within, b.within.threads)

-- so has a mark
pub place_few : (table : Table) (l : List ℕ) (m : Mark) → Raisable table l m → m.at < max_list
place_few table l m r = omega (arith, r.placed.few, left_few table r.started, left_some table r.started.within m.world r.placed.good)

-- the first list: the completion of the empty one
module _ (table : Table) (b : Started table) (w : World) (e : w ≡ start table) (l : List ℕ) where
  abbrev from : Completion
  from = record { table = table; world = w; list = l; at = 0 }

  pub first_ready : length l ≡ max_list → Completable from
  first_ready long = record {
    within = b.within;
    good = subst (Good table) (sym e) (start_good table b.within b.some);
    few = omega (arith, ap (left table) e, left_few table b);
    long = long;
  }

  pub first_made : (r : Completion) → Completes from r → take r.at r.list ≡ next.first_of (step table) decisions (left table) (start table)
  first_made r x = x.made ∙ ap (next.first_of (step table) decisions (left table)) e

-- a list is raised: copied up to the mark, then the mark's decision, then the completion
module _ (table : Table) (l : List ℕ) (k : Mark) (h : Raisable table l k) (s : List ℕ) (long : length s ≡ max_list) (b : List ℕ) (copied : b ≡ take k.at l ++ drop k.at s) where
  abbrev i : ℕ
  i = k.at

  abbrev kept : Completion
  kept = record { table = table; world = k.world; list = b; at = i }

  in_list : i ≤ length l
  in_list = omega (arith, h.placed.inside)

  pub raised_ready : Completable kept
  raised_ready = record {
    within = h.started.within;
    good = h.placed.good;
    few = omega (arith, h.placed.few, left_few table h.started);
    long = ap length copied ∙ copied_length l s i in_list (omega (arith, place_few table l k h, long)) ∙ long;
  }

  pub raised_made : (r : Completion) → Continues kept k.decision r → take r.at r.list ≡ raised_to table l k
  raised_made r x =
      x.made
      ∙ ap (λ (z : List ℕ). take i z ++ raised (step table) decisions (left table) k.world k.decision) copied
      ∙ ap (λ (z : List ℕ). z ++ raised (step table) decisions (left table) k.world k.decision) (take_at (take i l) (drop i s) i (length-take-le i l in_list))

-- a table that was read has what its walk needs
pub started : (bs : List ℕ) (table : Table) → read_table bs ≡ Ok table → Started table
started bs table e = let h = read-within bs table e in record { within = h.0; some = h.1 }

-- an accepted table: its first list, and what is given by how a list ends
pub first-given : (table : Table) (buffer : List ℕ) → hand_over (next.first_of (step table) decisions (left table) (start table)) buffer ≡ first_table (Ok table) buffer
unfolding first_table
first-given table buffer = refl

module _ (table : Table) (buffer list : List ℕ) where
  abbrev j : Judged World Verdict
  j = judge (step table) 0 (start table) list

  faulty_given : (j : Judged World Verdict) (found : Option (List ℕ)) (a : Answer) → fault j ≡ Some a → untouched a buffer ≡ next_judged j found buffer
  unfolding next_judged
  faulty_given (not_allowed i) found a e = ap (λ (x : Answer). untouched x buffer) (sym (same_Some _ a e))
  faulty_given (surplus i) found a e = ap (λ (x : Answer). untouched x buffer) (sym (same_Some _ a e))
  faulty_given (unfinished w) found a e = ap (λ (x : Answer). untouched x buffer) (sym (same_Some _ a e))
  faulty_given (verdict v) found a e = absurd (none-some a e)

  whole_given : (j : Judged World Verdict) (found : Option (List ℕ)) → fault j ≡ None → next_list found buffer ≡ next_judged j found buffer
  unfolding next_judged
  whole_given (not_allowed i) found e = absurd (none-some _ (sym e))
  whole_given (surplus i) found e = absurd (none-some _ (sym e))
  whole_given (unfinished w) found e = absurd (none-some _ (sym e))
  whole_given (verdict v) found e = refl

  pub next_faulty : (a : Answer) → fault j ≡ Some a → untouched a buffer ≡ next_table (Ok table) list buffer
  unfolding next_table
  next_faulty a e = faulty_given j _ a e

  next_whole : (m : core.Option Mark) → Whole table list m → next_list (finish (step table) decisions (left table) list (pivot_of m)) buffer ≡ next_table (Ok table) list buffer
  unfolding next_table next.next_of
  next_whole m says =
      ap (λ (z : Pivot World). next_list (finish (step table) decisions (left table) list z) buffer) says.pivot
      ∙ whole_given j _ says.whole

  pub next-none : Whole table list None → untouched NoLaterList buffer ≡ next_table (Ok table) list buffer
  unfolding next_list
  next-none says = next_whole None says

  pub next-raised : (m : Mark) → Whole table list (Some m) → (g : Given) → g ≡ hand_over (raised_to table list m) buffer → g ≡ next_table (Ok table) list buffer
  unfolding next_list
  next-raised m says g h = h ∙ next_whole (Some m) says
