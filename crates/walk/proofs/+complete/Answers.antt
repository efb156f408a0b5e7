-- `complete` meets its contract: a decision more is Completable still, its number is smaller, and what it comes to is what the rest comes to.
use Rattle.std.proofs.Common.{arith}
use Rattle.walk.specs.Says.{least}
use Rattle.walk.specs.Completing.{extended_ready, extended_less, advanced_last, advanced_on}
use Rattle.walk.proofs.+complete.Goals as goal

pub complete-requires : goal.complete-requires
complete-requires t c =
    let before = c.args.c.now in
    let ready = extended_ready before (least before) c.advance.new.c c.requires c.if-advance.ensures in
    let less = extended_less before (least before) c.advance.new.c c.requires c.if-advance.ensures in
    (omega arith, ready)

pub returns-then-advance : goal.returns-then-advance
returns-then-advance t c = advanced_on c.args.c.now c.advance.new.c c.requires c.if-advance.ensures c.complete.new.c c.complete.ensures

pub returns-else-advance : goal.returns-else-advance
returns-else-advance t c = advanced_last c.args.c.now c.advance.new.c c.requires c.if-advance.ensures
