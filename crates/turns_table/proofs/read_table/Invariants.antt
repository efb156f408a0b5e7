-- The whole table comes to what the rest from `at` on comes to.
use Rattle.std.proofs.Common.{◌-◌, ◌≤◌, length}
use Rattle.clocks.specs.Clock.{max_threads}
use Rattle.rules.proofs.TableLaws.{Reading}
use Rattle.turns_table.proofs.read_table.Given as goal

abbrev pub invariant-loop-at : goal.invariant-loop-at
invariant-loop-at l = Reading l.bytes l.at l.table × (l.table.thread_count ≤ max_threads)

abbrev pub decreases-loop-at : goal.decreases-loop-at
decreases-loop-at l = length l.bytes - l.at
