-- What falls is the falling number of a run.
use Rattle.rules.specs.Walk.{left}
use Rattle.walk.proofs.+complete.Given as goal

abbrev pub decreases-complete : goal.decreases-complete
decreases-complete l = left l.c.now.table l.c.now.world
