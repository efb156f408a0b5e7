-- What is left of the list's judgement stays the same from step to step.
use Rattle.std.proofs.Common.{◌+◌, ◌-◌, ◌*◌, length}
use Rattle.turns_run.specs.Run.{Running, weight}
use Rattle.turns_run.proofs.run.Given as goal

abbrev pub invariant-loop-acting : goal.invariant-loop-acting
invariant-loop-acting l = Running l.table l.list l.fn.world l.world l.acting l.at

abbrev pub decreases-loop-acting : goal.decreases-loop-acting
decreases-loop-acting l = 4000 * (length l.list - l.at) + weight l.acting
