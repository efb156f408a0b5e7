-- What is left of the list's judgement stays the same from step to step.
use Rattle.std.proofs.Common.{refl, sym, ◌∙◌, ap, subst, arith, get_or, ◌+◌, w8}
use borrow.Author.Rules.{elem_Fits}
use Rattle.rules.specs.Judge.{outcome_of}
use Rattle.rules.specs.Turn.{is_allowed}
use Rattle.rules.specs.declared.answer.Answer.{Answer}
use Rattle.turns_steps.specs.declared.Acting.{Acting}
use Rattle.turns_steps.specs.declared.Acting.TheVariants.{Moves, InEffect, Done}
use Rattle.turns_steps.specs.declared.Move.{Move}
use Rattle.turns_steps.specs.Step.{chosen}
use Rattle.turns_run.specs.Run.{rest, decided, Running, weight}
use Rattle.turns_run.specs.Running.{ran_out, not_allowed_lem, surplus_left, verdict_reached, decided_next, follows_next, turn_over, turn_over_less, all_ended_next, none_chosen, one_chosen}
use Rattle.turns_run.specs.Steps.{follow_follows, follows_as}
use Rattle.turns_run.proofs.run.Goals as goal

pub loop-acting-init : goal.loop-acting-init
unfolding rest decided outcome_of
loop-acting-init c = refl

pub returns-then-at-list : goal.returns-then-at-list
returns-then-at-list c = let l = c.loop-acting in ran_out c.args.table c.args.list.now c.args.world l.world l.acting l.at l.invariant c.in-Nobody.is c.if-at-list.true

pub returns-in_default : goal.returns-in_default
returns-in_default c =
    let l = c.loop-acting in
    let d = get_or c.args.list.now l.at 0 in
    let barred = none_chosen (is_allowed l.world.asked l.world.threads d) (chosen l.world.asked d) (sym c.decision.ensures ∙ c.in_default.is) in
    not_allowed_lem c.args.table c.args.list.now c.args.world l.world l.acting l.at l.invariant c.in-Nobody.is c.if-at-list.false barred

pub loop-acting-preserved-in-Nobody : goal.loop-acting-preserved-in-Nobody
loop-acting-preserved-in-Nobody c =
    let l = c.loop-acting in
    let d = get_or c.args.list.now l.at 0 in
    let one = one_chosen (is_allowed l.world.asked l.world.threads d) (chosen l.world.asked d) c.in-Some.m (sym c.decision.ensures ∙ c.in-Some.is) in
    subst (λ (m : Move). Running c.args.table c.args.list.now c.args.world l.world (Moves m) (l.at + 1)) one.1
    (decided_next c.args.table c.args.list.now c.args.world l.world l.acting l.at l.invariant c.in-Nobody.is c.if-at-list.false one.0)

pub step-acting-requires : goal.step-acting-requires
step-acting-requires c =
    record {
      all = c.well_formed.0.1.1.1.1.0.1.0.1;
      few = λ k. let h = elem_Fits w8 w8 c.args.table.counts _ k c.well_formed.0.1.1.1.1.1.0.1.1 tt in omega (arith, h.fits);
    }

pub loop-acting-preserved-in-InEffect : goal.loop-acting-preserved-in-InEffect
loop-acting-preserved-in-InEffect c =
    let l = c.loop-acting in
    let e = c.in-InEffect in
    follows_next c.args.table c.args.list.now c.args.world l.world l.acting l.at l.invariant (InEffect e.m e.work e.answer) _ _ e.is
    (follows_as (follow_follows c.args.table l.world e.m e.work e.answer) c.follow-acting.ensures.acting c.follow-acting.ensures.world)

pub loop-acting-smaller-in-Over : goal.loop-acting-smaller-in-Over
loop-acting-smaller-in-Over c =
    let l = c.loop-acting in
    let less = turn_over_less c.args.table c.args.list.now c.args.world l.world l.acting l.at l.invariant c.in-Over.is in
    let same = ap weight c.after-acting.ensures in
    omega (arith, less, same)

pub loop-acting-preserved-in-Over : goal.loop-acting-preserved-in-Over
loop-acting-preserved-in-Over c =
    let l = c.loop-acting in
    turn_over c.args.table c.args.list.now c.args.world l.world l.acting l.at l.invariant c.in-Over.is
    ∙ ap (λ (a : Acting). rest c.args.table c.args.list.now l.at a l.world) (sym c.after-acting.ensures)

pub loop-acting-preserved : goal.loop-acting-preserved
loop-acting-preserved c =
    let l = c.loop-acting in
    all_ended_next c.args.table c.args.list.now c.args.world l.world l.acting l.at l.invariant c.in-AllEnded.is
    ∙ ap (λ (a : Answer). rest c.args.table c.args.list.now l.at (Done a) l.world) (sym c.leak_check.ensures)

pub returns-then-at-list-2 : goal.returns-then-at-list-2
returns-then-at-list-2 c = let l = c.loop-acting in surplus_left c.args.table c.args.list.now c.args.world l.world l.acting l.at l.invariant c.in-Done.a c.in-Done.is c.if-at-list-2.true

pub returns-in-Done : goal.returns-in-Done
returns-in-Done c = let l = c.loop-acting in verdict_reached c.args.table c.args.list.now c.args.world l.world l.acting l.at l.invariant c.in-Done.a c.in-Done.is c.if-at-list-2.false
