-- What a thread's place of every clock may have counted, by its position and phase. The words are in specs/Weight.antt.
use Rattle.std.specs.Prelude.{◌+◌, ◌≤◌, length}
use Rattle.std.proofs.Common.{arith, length-drop}
use Rattle.clocks.specs.declared.thread.ThreadId.{ThreadId}
use Rattle.rules.specs.declared.table.Table.{Table}
use Rattle.rules.specs.declared.world.World.{World}
use Rattle.rules.specs.Limits.{max_operations}
use Rattle.rules.specs.Table.{ops_of}
use Rattle.rules.specs.TableLaws.{Within}
use Rattle.rules.proofs.TableLaws.{ops_counted}
use Rattle.rules.specs.Turn.{thread_in, ops_left}

-- the operations done and those left
pub room : (table : Table) → Within table → (w : World) (t : ThreadId) → (thread_in w t).position ≤ max_operations → (thread_in w t).position + length (ops_left table w t) ≤ max_operations
room table n w t l = omega (arith, l, length-drop (thread_in w t).position (ops_of table t.0), ops_counted table t.0, n.most t.0)
