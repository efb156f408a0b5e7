-- No run of an accepted table meets a type's end: wherever a count rises, it rises by one. The laws are in proofs/Ends.antt.
use Rattle.std.specs.Prelude.{◌≡◌, List, ℕ, ◌+◌, get_or}
use Rattle.clocks.specs.Clock.{risen, join_of}
use Rattle.clocks.specs.declared.thread.ThreadId.{ThreadId}
use Rattle.rules.specs.declared.object.ObjectId.{ObjectId}
use Rattle.rules.specs.declared.object.Entry.{Entry}
use Rattle.rules.specs.declared.thread.Thread.{Thread}
use Rattle.rules.specs.declared.table.Call.{Call}
use Rattle.rules.specs.declared.table.Table.{Table}
use Rattle.rules.specs.declared.world.World.{World}
use Rattle.rules.specs.Ground.{thread_at}
use Rattle.rules.specs.Effect.{last_dependent_access, effect}
use Rattle.rules.specs.Turn.{thread_in, entry_in}
use Rattle.theorems.specs.Reached.{Reached}
use Rattle.theorems.specs.Each.{Each}

-- Before an effect of the thread t: its own count, the Arc's count and the cell's readers rise by one if the effect raises them; and so does its
-- position after the effect, on whichever object.
pub record Plain (t : ThreadId) (c : Call) (e : Entry) (ts : List Thread) : Type 0 where
  pub position : (o : ObjectId) → risen 255 (thread_at (effect c t o e ts).threads t).position ≡ (thread_at (effect c t o e ts).threads t).position + 1
  pub own : risen 255 (get_or (thread_at ts t).clock.counts t.0 0) ≡ get_or (thread_at ts t).clock.counts t.0 0 + 1
  pub arc : risen 65535 e.arc.ref_cnt ≡ e.arc.ref_cnt + 1
  pub readers : risen 65535 e.cell.is_reading ≡ e.cell.is_reading + 1

-- what rises with the decision d in the world w: the turn number, a dependence count, a position (that of a wait that ends spuriously too), and,
-- where a decision is wanted, what its effects raise
pub record NoEnd (table : Table) (list : List ℕ) (w : World) (d : ℕ) : Type 0 where
  pub turn : risen 65535 w.turn ≡ w.turn + 1
  pub position : (t : ThreadId) → risen 255 (thread_in w t).position ≡ (thread_in w t).position + 1
  pub dependence : (t : ThreadId) (c : Call) (o : ObjectId)
      → risen 255 (get_or (join_of (thread_in w t).dependence (last_dependent_access c (entry_in w o)).version).counts t.0 0)
      ≡ get_or (join_of (thread_in w t).dependence (last_dependent_access c (entry_in w o)).version).counts t.0 0 + 1
  pub effects : Reached table list w → Each Plain table w d
