use Rattle.std.proofs.Common.{subst}
use Rattle.walk.specs.Says.{Extends}
use Rattle.walk.specs.Completing.{extended_last, extended_ready, extended_on}
use Rattle.walk.proofs.continued.Goals as goal

pub complete-requires : goal.complete-requires
complete-requires c =
    let a = c.args in
    extended_ready a.c a.d c.extend.new.c c.requires (subst (Extends a.c a.d c.extend.new.c) c.if-extend.true c.extend.ensures)

pub returns-then-extend : goal.returns-then-extend
returns-then-extend c =
    let a = c.args in
    extended_on a.c a.d c.extend.new.c c.requires (subst (Extends a.c a.d c.extend.new.c) c.if-extend.true c.extend.ensures) c.complete.new.c c.complete.ensures

pub returns-else-extend : goal.returns-else-extend
returns-else-extend c =
    let a = c.args in
    extended_last a.c a.d c.extend.new.c c.requires (subst (Extends a.c a.d c.extend.new.c) c.if-extend.false c.extend.ensures)
