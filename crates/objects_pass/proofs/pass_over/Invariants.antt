-- The first k records are changed.
use Rattle.std.proofs.Common.{◌≡◌}
use Rattle.clocks.specs.Pass.{passed}
use Rattle.objects_pass.specs.Passes.{pass_at}
use Rattle.objects_pass.proofs.pass_over.Given as goal

abbrev pub invariant-loop-k : goal.invariant-loop-k
invariant-loop-k l = l.threads ≡ passed (pass_at l.p) l.k 0 l.initial.threads
