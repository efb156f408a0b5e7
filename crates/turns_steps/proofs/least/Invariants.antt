-- What is sought from `from` is what is sought from `d`.
use Rattle.std.proofs.Common.{◌≡◌, ◌-◌}
use Rattle.lists.specs.Greedy.{seek}
use Rattle.rules.specs.Turn.{is_allowed}
use Rattle.rules.specs.Walk.{decisions}
use Rattle.turns_steps.proofs.least.Given as goal

abbrev pub invariant-loop-d : goal.invariant-loop-d
invariant-loop-d l = seek (is_allowed l.asked l.threads) (decisions - l.fn.from) l.fn.from ≡ seek (is_allowed l.asked l.threads) (decisions - l.d) l.d
