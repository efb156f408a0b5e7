-- The counts whose type ends at 255: positions and clocks. In every world that a sheet shows a position is at most 32, every count of every clock, a thread's, an
-- object's or a message's, at most 32, and every count of every dependence clock, a thread's or a recorded access's, at most 64. The words are in specs/Clocks.antt.
use Rattle.std.specs.Prelude.{◌≡◌, refl, Bool, true, false, List, ℕ, ◌+◌, ◌≤◌, ◌<◌, eqb, length, get_or, Some, Ok}
use Rattle.std.proofs.Common.{sym, arith, eqb-true}
use Rattle.std.proofs.lemmas.Bool.{eqb-false}
use Rattle.clocks.specs.Clock.{join_of}
use Rattle.clocks.specs.declared.thread.ThreadId.{ThreadId}
use Rattle.rules.specs.declared.object.ObjectId.{ObjectId}
use Rattle.rules.specs.declared.thread.Phase.{Phase}
use Rattle.rules.specs.declared.thread.Phase.TheVariants.{Nothing, Announced, Parked, Retaking}
use Rattle.rules.specs.declared.table.Call.{Call}
use Rattle.rules.specs.declared.table.Op.{Op}
use Rattle.rules.specs.declared.table.Table.{Table}
use Rattle.rules.specs.declared.world.World.{World}
use Rattle.rules.specs.Limits.{max_operations}
use Rattle.rules.specs.Ground.{thread_at}
use Rattle.rules.specs.Effect.{last_dependent_access}
use Rattle.rules.specs.Table.{read_table}
use Rattle.rules.specs.TableLaws.{Within}
use Rattle.rules.proofs.TableLaws.{split, read-within}
use Rattle.rules.specs.Turn.{thread_in, entry_in, start, ops_left, decide}
use Rattle.theorems.specs.Falling.{Good, Ready}
use Rattle.theorems.proofs.Falling.{sound_here}
use Rattle.theorems.specs.Reached.{Shown, Reached}
use Rattle.theorems.proofs.Reached.{shown_by, reached-shown, reached_good}
use Rattle.theorems.specs.Each.{Acts, Each, Begins, Answers}
use Rattle.theorems.proofs.Each.{each_both, decide-each, decide_passes}
use Rattle.theorems.specs.Kept.{Object}
use Rattle.theorems.proofs.Kept.{start_threads, start_objects, last_version}
use Rattle.theorems.specs.Phases.{PhaseIs}
use Rattle.theorems.proofs.Phases.{orderly}
use Rattle.theorems.specs.Place.{At}
use Rattle.theorems.proofs.Place.{zero_at, join_at_most}
use Rattle.theorems.specs.Moves.{Clocks}
use Rattle.theorems.proofs.Moves.{more}
use Rattle.theorems.specs.Weight.{dependence_of, Stay, Bounded, Spare, Mid}
use Rattle.theorems.proofs.Weight.{room}
use Rattle.theorems.specs.Others.{Under}
use Rattle.theorems.proofs.Others.{other_turn}
use Rattle.theorems.proofs.Own.{own_begins, own_answers}
use Rattle.theorems.specs.Clocks.{most_own, most_dependence}

-- a wait that is queued is not done
deep_most : (p : ℕ) (f : Phase) (ops : List Op) → PhaseIs f ops → p + length ops ≤ max_operations → dependence_of p f ≤ most_dependence
deep_most p Nothing ops h l = omega (arith, l)
deep_most p (Announced a) ops h l = omega (arith, l)
deep_most p Parked ops h l = omega (arith, l, h.0)
deep_most p (Retaking a) ops h l = omega (arith, l, h.0)

module _ (k : ℕ) where
  -- at the start nothing is counted
  start_bounded : (table : Table) → Bounded k (start table)
  start_bounded table =
      record {
        bound = 0;
        depth = 0;
        clocks = record {
          threads = start_threads (At k 0) (At k 0) (Stay k 0 0) (zero_at k 0) (zero_at k 0) (λ j e. (omega arith, refl, refl)) table;
          objects = start_objects (At k 0) (At k 0) (zero_at k 0) (zero_at k 0) table;
        };
      }

  module _ (table : Table) (n : Within table) (w : World) (g : Good table w) (h : Bounded k w) where
    -- in a turn: of thread k, or of another
    abbrev MidOf : Bool → List Op → World → Type 0
    MidOf true m v = Mid k m v
    MidOf false m v = Under k h.bound h.depth v

    -- a turn, of thread k or of another
    begins : (t : ThreadId) → Acts w t → Begins table w t (Spare k) (MidOf (eqb t.0 k)) (Bounded k)
    begins t l = go (eqb t.0 k) refl
      where
        go : (b : Bool) → eqb t.0 k ≡ b → Begins table w t (Spare k) (MidOf b) (Bounded k)
        go true e = own_begins k t l.within (eqb-true t.0 k e) table n w h.bound h.depth h.clocks (sound_here table w g n t l.within)
        go false e = (other_turn k h.bound h.depth t (λ f. eqb-false t.0 k e (sym f)) table w h.clocks).0

    -- an answer to a question, likewise
    answers : (t : ThreadId) → w.asked ≡ Some t → Ready table (Some t) w.threads → Answers table w t (Bounded k)
    answers t q r =
        split (eqb t.0 k) (λ e. own_answers k t r.0 (eqb-true t.0 k e) table n w h.bound h.depth h.clocks r)
        (λ e. (other_turn k h.bound h.depth t (λ f. eqb-false t.0 k e (sym f)) table w h.clocks).1)

    -- the bound is kept by each decision
    decide_bounded : (d : ℕ) → Bounded k (decide table w d).world
    decide_bounded = decide_passes table n w g (Spare k) (λ t. MidOf (eqb t.0 k)) (Bounded k) h begins answers

    -- and thread k's counts have room before each of its effects
    each_spare : (d : ℕ) → Each (Spare k) table w d
    each_spare = decide-each table n w g (Spare k) (λ t. MidOf (eqb t.0 k)) (Bounded k) h begins answers

-- every world that the sheet of an accepted table shows
module _ (bs list : List ℕ) (table : Table) (w : World) (a : read_table bs ≡ Ok table) (e : Shown table list w) where
  -- each thread's place of every clock is bounded
  bounded : (k : ℕ) → Bounded k w
  bounded =
      let h = read-within bs table a in
      (shown_by table h.0 (λ u v. (k : ℕ) → Bounded k v) (λ u v d g l i k. decide_bounded k table h.0 v g (i k) d) h.1 (λ k. start_bounded k table) list w e).1

  -- positions
  pub position_few : (t : ThreadId) → (thread_in w t).position ≤ max_operations
  position_few t = (((bounded t.0).clocks.threads.1 t.0).2 refl).0

  -- what thread k may have counted
  low : (k : ℕ) → (bounded k).bound ≤ most_own
  low k = omega (arith, position_few (record { 0 = k }), (((bounded k).clocks.threads.1 k).2 refl).1)

  deep : (k : ℕ) → (bounded k).depth ≤ most_dependence
  deep k =
      let t : ThreadId = record { 0 = k } in
      let o = ((orderly bs list table w a e).threads.1 k).0 in
      omega (arith, (((bounded k).clocks.threads.1 k).2 refl).2, deep_most (thread_in w t).position (thread_in w t).phase (ops_left table w t) o (room table (read-within bs table a).0 w t (position_few t)))

  -- so no count is above that
  all_few : (k : ℕ) → Clocks k most_own most_dependence (Stay k (bounded k).bound (bounded k).depth) w.threads w.objects
  all_few k = more k (bounded k).bound (bounded k).depth most_own most_dependence (Stay k (bounded k).bound (bounded k).depth) w.threads w.objects (low k) (deep k) (bounded k).clocks

  -- every count of a thread's two clocks
  pub clock_few : (t : ThreadId) (k : ℕ) → (get_or (thread_in w t).clock.counts k 0 ≤ most_own) × (get_or (thread_in w t).dependence.counts k 0 ≤ most_dependence)
  clock_few t k = (((all_few k).threads.1 t.0).0, ((all_few k).threads.1 t.0).1)

  -- every count of every clock of an object, and of every recorded access
  pub object_few : (o : ObjectId) (k : ℕ) → Object (At k most_own) (At k most_dependence) (entry_in w o)
  object_few o k = (all_few k).objects o.0

  -- a dependence count, where it rises
  pub dependence_below : (t : ThreadId) (x : Call) (o : ObjectId)
      → get_or (join_of (thread_in w t).dependence (last_dependent_access x (entry_in w o)).version).counts t.0 0 ≤ most_dependence
  dependence_below t x o =
      let k : ℕ = t.0 in
      join_at_most k most_dependence (thread_in w t).dependence (last_dependent_access x (entry_in w o)).version (clock_few t k).1
      (last_version (At k most_own) (At k most_dependence) (zero_at k most_own) (zero_at k most_dependence) x (entry_in w o) (object_few o k))

-- a position and an own count, before each effect of a further decision
pub counts_below : (bs list : List ℕ) (table : Table) (w : World) → read_table bs ≡ Ok table → Reached table list w
    → (d : ℕ) → Each (λ t c x ts. ((thread_at ts t).position < max_operations) × (get_or (thread_at ts t).clock.counts t.0 0 < most_own)) table w d
counts_below bs list table w a e d =
    let h = each_spare d table (read-within bs table a).0 w (reached_good bs list table w a e) (bounded bs list table w a (reached-shown table list w e) d) d in
    each_both (Spare d) (Spare d) (λ t c x ts. ((thread_at ts t).position < max_operations) × (get_or (thread_at ts t).clock.counts t.0 0 < most_own)) d (λ c x ts s r. s refl) table w h h
