-- A list that is not complete, its last mark, or none.
use Rattle.std.proofs.Common.{subst, ◌∙◌, ap, Ok}
use Rattle.walk.specs.Says.{PassSays}
use Rattle.walk.specs.Handed.{next_faulty, next-none, next-raised}
use Rattle.walk.proofs.next_of.Goals as goal

pub raise-requires : goal.raise-requires
raise-requires c =
    let whole = subst (PassSays c.args.table c.args.list.now) (c.in-Ok-Some.is ∙ ap Ok c.in-Ok-Some.field-0-is) c.pass.ensures in
    record { started = c.requires; placed = whole.placed }

pub returns-in-Ok-Some : goal.returns-in-Ok-Some
returns-in-Ok-Some c =
    let whole = subst (PassSays c.args.table c.args.list.now) (c.in-Ok-Some.is ∙ ap Ok c.in-Ok-Some.field-0-is) c.pass.ensures in
    next-raised c.args.table c.args.out.now c.args.list.now _ whole _ c.raise.ensures

pub returns-in-Ok-None : goal.returns-in-Ok-None
returns-in-Ok-None c =
    next-none c.args.table c.args.out.now c.args.list.now (subst (PassSays c.args.table c.args.list.now) (c.in-Ok-None.is ∙ ap Ok c.in-Ok-None.field-0-is) c.pass.ensures)

pub returns-in-Err : goal.returns-in-Err
returns-in-Err c = next_faulty c.args.table c.args.out.now c.args.list.now _ (subst (PassSays c.args.table c.args.list.now) c.in-Err.is c.pass.ensures)
