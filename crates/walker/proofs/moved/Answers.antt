use Rattle.std.proofs.Common.{sym, ◌∙◌, rules}
use Rattle.walker.specs.Steps.{moved_not, moved_on}
use Rattle.walker.proofs.moved.Goals as goal

pub returns-then-to-kept : goal.returns-then-to-kept
returns-then-to-kept c = let a = c.args in moved_not a.table a.list.now a.kept a.to c.if-to-kept.true

pub returns-in-Ok : goal.returns-in-Ok
returns-in-Ok c = let a = c.args in moved_on a.table a.list.now a.kept a.to c.if-to-kept.false _ (sym c.run.ensures ∙ c.in-Ok.is)

pub returns-in-Err : goal.returns-in-Err
returns-in-Err c =
    let a = c.args in
    let e = moved_on a.table a.list.now a.kept a.to c.if-to-kept.false _ (sym c.run.ensures ∙ c.in-Err.is) in
    search rules
