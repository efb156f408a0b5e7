-- `object::branch_disable` meets its contract.
use mathlib.Core.Path.{◌∙◌, ap}
use Rattle.rules.specs.Ground.{set_blocked}
use Rattle.rules.specs.Object.{announced}
use Rattle.objects_calls.proofs.branch_disable.Goals as goal

pub returns-then-disable : goal.returns-then-disable
unfolding announced
returns-then-disable c =
    let a = c.args in
    c.set_blocked.ensures ∙ ap set_blocked c.with_phase.ensures ∙ rw (announced, c.if-disable.true)

pub returns : goal.returns
unfolding announced
returns c = c.with_phase-2.ensures ∙ rw (announced, c.if-disable.false)
