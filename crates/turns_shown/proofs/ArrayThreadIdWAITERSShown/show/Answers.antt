-- A turn writes the next waiter, and after the last turn all are written.
use Rattle.std.proofs.Common.{◌≡◌, ◌∙◌, ℕ, ap, zero-add, set, map, arith}
use Rattle.rules.specs.Sheet.{number}
use Rattle.rules.specs.Limits.{max_waiters}
use Rattle.rules.proofs.SheetLaws.{filled-written, waiter_at}
use Rattle.turns_shown.proofs.ArrayThreadIdWAITERSShown.show.Goals as goal

pub loop-i-preserved : goal.loop-i-preserved
loop-i-preserved c =
    let ws = c.args.self.now in
    let l = c.loop-i in
    let here = c.put.ensures ∙ ap (λ (b : ℕ). set l.out l.i b) (waiter_at ws l.i _ (omega arith)) in
    filled-written c.args.out.now 0 255 l.i (map number ws) l.invariant (rw zero-add here)

pub returns : goal.returns
returns c = let all : c.loop-i.i ≡ max_waiters = omega arith in rw all at c.loop-i.invariant
