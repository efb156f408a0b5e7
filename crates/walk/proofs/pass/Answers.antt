use Rattle.std.proofs.Common.{sym, subst, ◌∙◌, arith, None}
use Rattle.rules.specs.declared.world.World.{World}
use Rattle.walk.specs.Says.{Passing}
use Rattle.walk.specs.Passes.{passing_start, passing_end, passing_refused, passing_ends, passing_surplus, passing_wants}
use Rattle.walk.proofs.pass.Goals as goal

pub loop-i-init : goal.loop-i-init
loop-i-init c = subst (λ (w : World). Passing c.args.table c.args.list.now w None 0) (sym c.start-world.ensures) (passing_start c.args.table c.requires c.args.list.now)

pub returns-in_default : goal.returns-in_default
returns-in_default c =
    let l = c.loop-i in
    passing_refused c.args.table c.requires c.args.list.now l.world l.mark l.i l.invariant c.loop-i-test.true c.decide.result _ c.decide.ensures c.in_default.is

pub returns-then-i-list : goal.returns-then-i-list
returns-then-i-list c =
    let l = c.loop-i in
    passing_surplus c.args.table c.requires c.args.list.now l.world l.mark l.i l.invariant c.better-mark.result c.better-mark.ensures c.loop-i-test.true c.decide.result c.in-Ok.ran c.decide.ensures c.in-Ok.is (sym c.is_some.ensures ∙ c.if-is_some.true) c.if-i-list.true

pub returns-then-is_some : goal.returns-then-is_some
returns-then-is_some c =
    let l = c.loop-i in
    passing_ends c.args.table c.requires c.args.list.now l.world l.mark l.i l.invariant c.better-mark.result c.better-mark.ensures c.loop-i-test.true c.decide.result c.in-Ok.ran c.decide.ensures c.in-Ok.is (sym c.is_some.ensures ∙ c.if-is_some.true) c.if-i-list.false

pub loop-i-preserved : goal.loop-i-preserved
loop-i-preserved c =
    let l = c.loop-i in
    passing_wants c.args.table c.requires c.args.list.now l.world l.mark l.i l.invariant c.better-mark.result c.better-mark.ensures c.loop-i-test.true c.decide.result c.in-Ok.ran c.decide.ensures c.in-Ok.is (sym c.is_some.ensures ∙ c.if-is_some.false)

pub returns : goal.returns
returns c = let l = c.loop-i in passing_end c.args.table c.requires c.args.list.now l.world l.mark l.i l.invariant (omega (arith, c.loop-i-test.false))
