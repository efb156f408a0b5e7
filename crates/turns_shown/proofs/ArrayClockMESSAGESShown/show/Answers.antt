-- A turn writes the next clock, and after the last turn all are written.
use Rattle.std.proofs.Common.{◌≡◌, ◌∙◌, ◌*◌, ap, zero-add, arith}
use Rattle.std.proofs.lemmas.List.{get_or_default}
use Rattle.std.proofs.lemmas.List.Edits.{sets}
use Rattle.clocks.specs.Clock.{max_threads, zero_clock}
use Rattle.clocks.specs.declared.clock.Clock.{Clock}
use Rattle.rules.specs.Limits.{max_messages}
use Rattle.rules.specs.Sheet.{clock_bytes}
use Rattle.rules.proofs.SheetLaws.{clock-length, each-written}
use Rattle.turns_shown.proofs.ArrayClockMESSAGESShown.show.Goals as goal

pub loop-i-preserved : goal.loop-i-preserved
loop-i-preserved c =
    let ks = c.args.self.now in
    let l = c.loop-i in
    let here = c.show_at.ensures ∙ ap (λ (k : Clock). sets l.out (max_threads * l.i) (clock_bytes k)) (get_or_default ks l.i _ zero_clock (omega arith)) in
    each-written c.args.out.now 0 clock_bytes max_threads clock-length zero_clock l.i ks l.invariant (rw zero-add here)

pub returns : goal.returns
returns c = let all : c.loop-i.i ≡ max_messages = omega arith in rw all at c.loop-i.invariant
