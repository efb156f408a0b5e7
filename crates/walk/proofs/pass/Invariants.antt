-- The pass over the whole list is the pass from i on.
use Rattle.walk.specs.Says.{Passing}
use Rattle.walk.proofs.pass.Given as goal

abbrev pub invariant-loop-i : goal.invariant-loop-i
invariant-loop-i l = Passing l.table l.list l.world l.mark l.i
