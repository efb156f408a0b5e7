-- The digits that are left, read on from the number so far, give what the whole text gives.
use Rattle.std.proofs.Common.{◌≡◌, drop}
use Rattle.vectors.specs.Text.{number_from, number_of}
use Rattle.vectors.proofs.text.decimal.Given as goal

abbrev pub invariant-loop-b : goal.invariant-loop-b
invariant-loop-b l = number_from l.n (drop l.b-index l.text) ≡ number_of l.text
