-- `walker::at_start` meets its contract.
use Rattle.walker.specs.Steps.{at_start_is}
use Rattle.walker.proofs.at_start.Goals as goal

pub returns : goal.returns
returns c = at_start_is c.args.table c.start.result c.start.ensures
