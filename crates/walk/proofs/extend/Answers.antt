use Rattle.walk.specs.Decided.{full_stays, stored_made, stored_refused}
use Rattle.walk.proofs.extend.Goals as goal

pub returns-then-at-ge-LIST : goal.returns-then-at-ge-LIST
returns-then-at-ge-LIST c = full_stays c.args.c.now c.args.d c.if-at-ge-LIST.true

pub returns-in-Ok : goal.returns-in-Ok
returns-in-Ok c = stored_made c.args.c.now c.args.d c.decide.result c.in-Ok.ran c.is_none.result c.decide.ensures c.in-Ok.is c.is_none.ensures

pub returns-in-Err : goal.returns-in-Err
returns-in-Err c = stored_refused c.args.c.now c.args.d c.decide.result _ c.decide.ensures c.in-Err.is
