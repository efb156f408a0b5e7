-- What is found is what is found from the k-th object on.
use Rattle.std.proofs.Common.{◌≡◌, drop}
use Rattle.rules.specs.Turn.{leak_check}
use Rattle.turns_after.proofs.leak_check.Given as goal

abbrev pub invariant-loop-k : goal.invariant-loop-k
invariant-loop-k l = leak_check 0 l.e-items ≡ leak_check l.k (drop l.k l.e-items)
