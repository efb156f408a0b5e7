-- What is found is what is found from the k-th thread on.
use Rattle.std.proofs.Common.{◌≡◌, drop}
use Rattle.rules.specs.Turn.{stuck}
use Rattle.turns_after.proofs.stuck.Given as goal

abbrev pub invariant-loop-k : goal.invariant-loop-k
invariant-loop-k l = stuck 0 l.t-items ≡ stuck l.k (drop l.k l.t-items)
