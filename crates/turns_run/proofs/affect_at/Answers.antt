-- The object is there and is lent, or one that is put nowhere.
use Rattle.std.proofs.Common.{◌≡◌, sym, ◌∙◌, ap, rules, arith, ◌≤◌, List, length, set}
use Rattle.std.proofs.Math.ListN.{get_or-eq_default}
use Rattle.std.proofs.Math.Seq.{set_out}
use Rattle.clocks.specs.Lists.{get_or-within}
use Rattle.rules.specs.Limits.{max_objects}
use Rattle.rules.specs.Object.{new_entry, no_object}
use Rattle.rules.specs.declared.object.Entry.{Entry}
use Rattle.objects.specs.Settled.{Settled, settled}
use Rattle.turns_steps.specs.Loud.{takes_effect}
use Rattle.turns_steps.specs.Quiet.{who}
use Rattle.turns_run.specs.Steps.{effect_in}
use Rattle.turns_run.proofs.affect_at.Goals as goal

pub returns-then-o-lt-OBJECTS : goal.returns-then-o-lt-OBJECTS
returns-then-o-lt-OBJECTS c =
    let a = c.args in
    let es : List Entry = a.objects.now in
    let long : length es ≡ max_objects = search rules in
    let by : Entry → Settled = λ e. settled (takes_effect a.m a.work.call (who a.m) a.work.object e a.threads.now) e a.threads.now in
    let s = c.affect.ensures ∙ ap by (get_or-within es a.work.object.0 _ (new_entry no_object) (omega (arith, c.if-o-lt-OBJECTS.true, long))) in
    record { answered = ap (λ (y : Settled). y.answer) s; stored = ap (λ (y : Settled). set es a.work.object.0 y.entry) s; threaded = ap (λ (y : Settled). y.threads) s }

pub returns : goal.returns
returns c =
    let a = c.args in
    let es : List Entry = a.objects.now in
    let long : length es ≡ max_objects = search rules in
    let past : length es ≤ a.work.object.0 = omega (arith, c.if-o-lt-OBJECTS.false, long) in
    let by : Entry → Settled = λ e. settled (takes_effect a.m a.work.call (who a.m) a.work.object e a.threads.now) e a.threads.now in
    let s = c.affect-2.ensures ∙ ap by (c.absent.ensures ∙ sym (get_or-eq_default es (new_entry no_object) past)) in
    record {
      answered = ap (λ (y : Settled). y.answer) s;
      stored = sym (set_out es a.work.object.0 (effect_in a.m a.work es a.threads.now).entry past);
      threaded = ap (λ (y : Settled). y.threads) s;
    }
