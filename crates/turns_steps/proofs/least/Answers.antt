use Rattle.std.proofs.Common.{sym, ◌∙◌, refl, arith}
use Rattle.lists.proofs.CodeLaws.{seek_end, seek_hit, seek_miss}
use Rattle.rules.specs.Walk.{decisions}
use Rattle.turns_steps.specs.Step.{below_there, below_none}
use Rattle.turns_steps.proofs.least.Goals as goal

pub loop-d-init : goal.loop-d-init
loop-d-init c = refl

pub loop-d-preserved : goal.loop-d-preserved
loop-d-preserved c = c.loop-d.invariant ∙ seek_miss _ decisions c.loop-d.d c.loop-d-test.true (sym c.is_allowed.ensures ∙ c.if-is_allowed.false)

pub returns-then-is_allowed : goal.returns-then-is_allowed
returns-then-is_allowed c =
    let found = c.loop-d.invariant ∙ seek_hit _ decisions c.loop-d.d c.loop-d-test.true (sym c.is_allowed.ensures ∙ c.if-is_allowed.true) in
    below_there decisions c.loop-d.d _ (sym found) c.loop-d-test.true

pub returns : goal.returns
returns c =
    let past = c.loop-d.invariant ∙ seek_end _ decisions c.loop-d.d (omega (arith, c.loop-d-test.false)) in
    below_none decisions _ (omega (arith, past, c.loop-d-test.false))
