-- No run of an accepted table reads or writes out of range: threads, objects, operations, places of clocks and of queues are there wherever a decision
-- takes one. The decision itself may name a thread that is not there: it reads an ended one, and is refused. The laws are in proofs/Ranges.antt.
use Rattle.std.specs.Prelude.{List, ℕ, ◌≤◌, length, get_or, drop}
use Rattle.clocks.specs.declared.thread.ThreadId.{ThreadId}
use Rattle.rules.specs.declared.object.ObjectId.{ObjectId}
use Rattle.rules.specs.declared.object.Entry.{Entry}
use Rattle.rules.specs.declared.thread.Thread.{Thread}
use Rattle.rules.specs.declared.table.Call.{Call}
use Rattle.rules.specs.declared.table.Table.{Table}
use Rattle.rules.specs.declared.world.World.{World}
use Rattle.rules.specs.Table.{no_op, ops_of}
use Rattle.rules.specs.Turn.{thread_in, entry_in, ops_left}
use Rattle.theorems.specs.Reached.{Reached}
use Rattle.theorems.specs.Each.{Each}
use Rattle.theorems.specs.Named.{Named}
use Rattle.theorems.specs.Range.{Lengths, There}
use Rattle.theorems.specs.Phases.{NamedIn, AskedIs, Stand}
use Rattle.theorems.specs.Queues.{Queues}
use Rattle.theorems.specs.Holders.{Holders}
use Rattle.theorems.specs.Kinds.{KindOf, KindIn, AskedWait, OfKind}

-- each object: its queues and what is past their counts, its holder, writer and readers, and the kind that the table gave it
abbrev pub Fit : Table → ℕ → Entry → Type 0
Fit table k e = Queues table.thread_count e × Holders table.thread_count e × KindOf table.objects k e

-- before an effect: the object, of the operation's kind, the thread that acts, the places of the clocks
abbrev pub Placed : Table → ThreadId → Call → Entry → List Thread → Type 0
Placed table t c e ts = ((k : ℕ) × Fit table k e) × OfKind t c e ts × There t c e ts

pub record InRange (table : Table) (list : List ℕ) (w : World) (d : ℕ) : Type 0 where
  -- all threads, objects and places of every clock are there
  pub lists : Lengths w
  -- the threads and objects that the sheet shows are among them
  pub sheet : (table.thread_count ≤ length w.threads) × (table.object_count ≤ length w.objects) × (table.object_count ≤ length table.objects)
  -- each object
  pub objects : (o : ObjectId) → Fit table o.0 (entry_in w o)
  -- the objects of every operation
  pub ops : (t p k : ℕ) → Named (get_or (drop p (ops_of table t)) k no_op)
  -- what is announced, waited for or retaken is what the operation at the position says; a thread that the table does not have has ended
  pub threads : (t : ThreadId) → Stand table t.0 (thread_in w t)
  -- its objects have places, and are of their kinds
  pub phases : (t : ThreadId) → NamedIn (thread_in w t).phase (ops_left table w t)
  pub kinds : (t : ThreadId) → KindIn (thread_in w t).phase (ops_left table w t) w
  -- who is asked
  pub asked : AskedIs table w.asked w × AskedWait table w.asked w
  -- where a decision is wanted, what its effects take
  pub effects : Reached table list w → Each (Placed table) table w d
