use Rattle.walk.specs.Decided.{advances, some_least}
use Rattle.walk.proofs.advance.Goals as goal

pub returns-in-Some : goal.returns-in-Some
returns-in-Some c = advances c.args.c.now c.in-Some.d c.least.result c.least.ensures c.in-Some.is c.extend.new.c c.extend.result c.extend.ensures

pub returns-in-None : goal.returns-in-None
returns-in-None c = absurd (some_least c.args.c.now c.requires c.least.result c.least.ensures c.in-None.is)
