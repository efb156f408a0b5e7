-- The completion from where the loop stands is the whole one.
use Rattle.std.proofs.Common.{◌≡◌, ◌-◌}
use Rattle.rules.specs.Limits.{max_list}
use Rattle.walker.specs.Walking.{completed}
use Rattle.walker.proofs.complete.Given as goal

abbrev pub invariant-loop-at : goal.invariant-loop-at
invariant-loop-at l = (completed l.table (max_list - l.initial.path.at) l.initial.world l.initial.path l.low ≡ completed l.table (max_list - l.at) l.world l.path l.from) × (l.path.at ≡ l.at)
