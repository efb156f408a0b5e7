-- `walk::decide` meets its contract: a run of one decision.
use mathlib.Core.Path.{◌∙◌, ap}
use Rattle.walk.specs.Says.{stage_of}
use Rattle.walk.specs.Decided.{decided_one}
use Rattle.walk.proofs.decide.Goals as goal

pub returns : goal.returns
returns c = ap stage_of c.run.ensures ∙ decided_one c.args.table c.args.world c.args.d
