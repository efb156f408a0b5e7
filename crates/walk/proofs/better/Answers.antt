use Rattle.walk.specs.Passes.{better_found, better-kept}
use Rattle.walk.proofs.better.Goals as goal

pub returns-in-Some : goal.returns-in-Some
returns-in-Some c = better_found c.args.m c.args.i c.args.world c.args.d c.least.result c.least.ensures c.in-Some.e c.in-Some.is

pub returns-in-None : goal.returns-in-None
returns-in-None c = better-kept c.args.m c.args.i c.args.world c.args.d c.least.result c.least.ensures c.in-None.is
