use Rattle.std.proofs.Common.{◌++◌, ◌∙◌, ap, List, ℕ, length, arith}
use Rattle.std.proofs.Math.ListN.{drop}
use Rattle.rules.specs.declared.answer.Answer.TheVariants.{ListWritten}
use Rattle.walk.specs.Handed.{gave_fits, gave_short}
use Rattle.walk.proofs.hand_over.Goals as goal

pub returns-then-n-list : goal.returns-then-n-list
returns-then-n-list c =
    let made : List ℕ = c.args.made.now in
    let list : List ℕ = c.args.list.now in
    ap (λ (front : List ℕ). record { answer = ListWritten (length made); buffer = front ++ drop (length made) list }) c.copy_from_slice.ensures.after
    ∙ gave_fits made list c.if-n-list.true

pub returns : goal.returns
returns c = gave_short c.args.made.now c.args.list.now (omega (arith, c.if-n-list.false))
