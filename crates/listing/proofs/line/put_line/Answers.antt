-- The digit, the decisions and the line's end stand one after the other.
use Rattle.std.proofs.Common.{List, ℕ, ◌∷◌, ◌+◌, refl, ap, ◌∙◌}
use Rattle.std.proofs.lemmas.List.Edits.{sets}
use Rattle.rules.specs.Sheet.{each}
use Rattle.rules.specs.Walk.{decision_text}
use Rattle.listing.specs.Line.{decision_bytes}
use Rattle.listing.proofs.LineLaws.{line_is}
use Rattle.listing.proofs.line.put_line.Goals as goal

pub returns-clause-written : goal.returns-clause-written
returns-clause-written c =
    let a = c.args in
    let decisions = c.put_decisions.ensures ∙ ap (λ (o : List ℕ). sets o (a.at + 1) (each decision_bytes a.list.now)) c.put.ensures in
    line_is a.out.now a.at a.list.now _ _ c.number_digit.result _ decisions refl c.put-2.ensures
    ∙ ap (λ (d : ℕ). sets a.out.now a.at (d ∷ decision_text a.list.now)) c.number_digit.ensures
