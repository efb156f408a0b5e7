-- The operation is the one that the table has there; what the step is then goes by the laws of `Steps`.
use Rattle.std.proofs.Common.{◌≡◌, sym, ◌∙◌, ap, is_some, unwrap_or}
use Rattle.rules.specs.Ground.{thread_at}
use Rattle.rules.specs.Table.{no_op}
use Rattle.rules.specs.declared.table.Op.{Op}
use Rattle.rules.specs.declared.thread.Thread.{Thread}
use Rattle.turns_steps.specs.Loud.{op_in, outcome_of}
use Rattle.turns_steps.specs.Quiet.{who, is_quiet}
use Rattle.turns_run.specs.Run.{left_of, op_of}
use Rattle.turns_run.specs.Steps.{next_op, quiet_of, effect_of, affected, rest_quiet, rest_act, op_found, follows_as}
use Rattle.turns_run.proofs.step.Goals.{After-is_quiet}
use Rattle.turns_run.proofs.step.Goals as goal

module _ (c : After-is_quiet) where
  x_is : c.thread-x.result ≡ thread_at c.args.world.now.threads (who c.args.m)
  x_is = c.thread-x.ensures ∙ ap (thread_at c.args.world.now.threads) c.who.ensures

  found : (is_some c.op_of-next.result ≡ left_of c.args.table.now c.args.world.now.threads c.args.m) × (unwrap_or c.op_of-next.result no_op ≡ op_of c.args.table.now c.args.world.now.threads c.args.m)
  found =
      op_found c.args.table.now c.args.world.now c.args.m c.requires c.op_of-next.result
      (c.op_of-next.ensures ∙ ap (λ (y : Thread). next_op c.args.table.now y.position c.args.m) x_is)

  op_is : c.unwrap_or-op.result ≡ op_of c.args.table.now c.args.world.now.threads c.args.m
  op_is = c.unwrap_or-op.ensures ∙ ap (unwrap_or c.op_of-next.result) c.no_op.ensures ∙ found.1

  left_is : is_some c.op_of-next.result ≡ left_of c.args.table.now c.args.world.now.threads c.args.m
  left_is = found.0

  told : is_quiet (thread_at c.args.world.now.threads (who c.args.m)).phase c.args.m (left_of c.args.table.now c.args.world.now.threads c.args.m) (op_of c.args.table.now c.args.world.now.threads c.args.m).call
      ≡ c.is_quiet.result
  told = sym (c.is_quiet.ensures ∙ (λ i. is_quiet (x_is i).phase c.args.m ((c.is_some.ensures ∙ left_is) i) (op_is i).call))

pub returns-then-is_quiet : goal.returns-then-is_quiet
returns-then-is_quiet c =
    let a = c.args in
    let w = a.world.now in
    let b = (goal.at.returns-then-is_quiet c).After-is_quiet in
    let left = c.is_some-then-is_quiet.ensures ∙ left_is b in
    let same : quiet_of a.m c.is_some-then-is_quiet.result c.unwrap_or-op.result c.thread-x.result w ≡ quiet_of a.m (left_of a.table.now w.threads a.m) (op_of a.table.now w.threads a.m) (thread_at w.threads (who a.m)) w =
    λ i. quiet_of a.m (left i) (op_is b i) (x_is b i) w in
    follows_as (rest_quiet a.table.now w a.m c.requires (told b ∙ c.if-is_quiet.true) _ same) c.rest.ensures.acting c.rest.ensures.world

pub returns : goal.returns
returns c =
    let a = c.args in
    let w = a.world.now in
    let b = (goal.at.returns c).After-is_quiet in
    let law : Op = op_in (thread_at w.threads (who a.m)).phase a.m (op_of a.table.now w.threads a.m) in
    let work : c.op_in.result ≡ law = c.op_in.ensures ∙ (λ i. op_in (x_is b i).phase a.m (op_is b i)) in
    let acts : outcome_of (effect_of a.m c.op_in.result w).answer a.m c.op_in.result c.thread-x.result.position ≡ outcome_of (effect_of a.m law w).answer a.m law (thread_at w.threads (who a.m)).position =
    λ i. outcome_of (effect_of a.m (work i) w).answer a.m (work i) (x_is b i).position in
    follows_as (rest_act a.table.now w a.m c.requires (told b ∙ c.if-is_quiet.false))
    (c.act.ensures.acting ∙ acts)
    (c.act.ensures.world ∙ ap (λ (o : Op). affected o.object w (effect_of a.m o w)) work)
