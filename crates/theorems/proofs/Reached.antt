-- The worlds of a run: what holds of the first and is kept by each decision, the last one too, holds of every world that a sheet shows. The words are in specs/Reached.antt.
use Rattle.std.specs.Prelude.{◌≡◌, refl, ℕ, suc, ◌+◌, ◌≤◌, ◌<◌, Ok}
use Rattle.std.proofs.Common.{sym, subst, arith}
use mathlib.Core.List.{List, [], ◌∷◌}
use Rattle.lists.specs.Judge.{Judged, not_allowed, surplus, unfinished, verdict, judge_end, judge_at, judge}
use Rattle.rules.specs.declared.table.Table.{Table}
use Rattle.rules.specs.declared.world.World.{World}
use Rattle.rules.specs.declared.world.Step.{Step}
use Rattle.rules.specs.declared.world.Step.TheVariants.{Refused, Done, Wants}
use Rattle.rules.specs.Limits.{max_list}
use Rattle.rules.specs.Table.{read_table}
use Rattle.rules.specs.TableLaws.{Within}
use Rattle.rules.proofs.TableLaws.{read-within}
use Rattle.rules.specs.Turn.{start, decide}
use Rattle.rules.specs.Judge.{Verdict, outcome_of, step}
use Rattle.rules.specs.Walk.{left}
use Rattle.theorems.specs.Falling.{Good, Then}
use Rattle.theorems.proofs.Falling.{decide_then}
use Rattle.theorems.proofs.Accepted.{start_good}
use Rattle.theorems.proofs.Length.{start_left, left_some}
use Rattle.theorems.specs.Reached.{ShownBy, Shown, Reached}

-- such a world is shown
pub reached-shown : (table : Table) (list : List ℕ) (w : World) → Reached table list w → Shown table list w
reached-shown table list w e = subst (λ (j : Judged World Verdict). ShownBy j w) (sym e) refl

module _ (table : Table) (n : Within table) where
  module _ (I : ℕ → World → Type 0) (on : (u : ℕ) (w : World) (d : ℕ) → Good table w → u ≤ max_list → I u w → I (suc u) (decide table w d).world) where
    -- what stands after u decisions, at most `max_list`, where another is wanted; the decisions left are within `max_list` too
    abbrev pub Stands : ℕ → World → Type 0
    Stands u w = Good table w × I u w × (u + left table w ≤ max_list)

    -- what is shown after at most `max_list` decisions; where another is wanted the world is good
    abbrev Shows : Judged World Verdict → Type 0
    Shows (not_allowed i) = Unit {0}
    Shows (surplus i) = Unit {0}
    Shows (unfinished v) = (m : ℕ) × Stands m v
    Shows (verdict v) = (m : ℕ) × I m v.world × (m ≤ max_list)

    -- a verdict
    ends : (v : Verdict) (i : ℕ) (l : List ℕ) → (m : ℕ) × I m v.world × (m ≤ max_list) → Shows (judge_end v i l)
    ends v i [] h = h
    ends v i (d ∷ l) h = tt

    -- the rest of a list, from a world on
    run-from : (list : List ℕ) (i u : ℕ) (w : World) → Stands u w → Shows (judge (step table) i w list)
    unfolding judge step outcome_of
    run-from [] i u w s = (u, s)
    run-from (d ∷ l) i u w s =
        go (decide table w d).step (decide table w d).world (decide_then table w s.0 n d) (on u w d s.0 (omega (arith, s.2)) s.1) (λ v h. run-from l (suc i) (suc u) v h)
      where
        go : (x : Step) (v : World) → Then table (left table w) x v → I (suc u) v
            → ((y : World) → Stands (suc u) y → Shows (judge (step table) (suc i) y l)) → Shows (judge_at (outcome_of x v) i l (λ y. judge (step table) (suc i) y l))
        go Refused v g h ih = tt
        go (Done a) v g h ih = ends (record { answer = a; world = v }) (suc i) l (suc u, h, omega (arith, s.2, left_some table n w s.0))
        go Wants v g h ih = ih v (g.0, h, omega (arith, s.2, g.1))

    module _ (some : 0 < table.thread_count) (first : I 0 (start table)) where
      run : (list : List ℕ) → Shows (judge (step table) 0 (start table) list)
      run list = run-from list 0 0 (start table) (start_good table n some, first, omega (arith, start_left table n, n.threads))

      -- every world of a run in which a decision is wanted
      pub run_by : (list : List ℕ) (w : World) → Reached table list w → (u : ℕ) × Stands u w
      run_by list w e = subst Shows e (run list)

      -- every world that is shown
      pub shown_by : (list : List ℕ) (w : World) → Shown table list w → (u : ℕ) × I u w × (u ≤ max_list)
      shown_by list w e = go (judge (step table) 0 (start table) list) (run list) e
        where
          go : (j : Judged World Verdict) → Shows j → ShownBy j w → (u : ℕ) × I u w × (u ≤ max_list)
          go (not_allowed i) h s = absurd s
          go (surplus i) h s = absurd s
          go (unfinished v) h s = subst (λ (x : World). (u : ℕ) × I u x × (u ≤ max_list)) s (h.0, h.1.1, omega (arith, h.1.2))
          go (verdict v) h s = subst (λ (x : World). (u : ℕ) × I u x × (u ≤ max_list)) s h

-- of an accepted table, every world in which a decision is wanted is good
pub reached_good : (bs list : List ℕ) (table : Table) (w : World) → read_table bs ≡ Ok table → Reached table list w → Good table w
reached_good bs list table w a e = let h = read-within bs table a in (run_by table h.0 (λ u v. Unit {0}) (λ u v d g l i. tt) h.1 tt list w e).1.0
