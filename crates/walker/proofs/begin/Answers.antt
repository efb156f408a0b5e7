use Rattle.walker.specs.Steps.{begun_is}
use Rattle.walker.proofs.begin.Goals as goal

pub returns : goal.returns
returns c = begun_is c.args.table c.at_start-kept.result c.complete.result c.at_start-kept.ensures c.complete.ensures
