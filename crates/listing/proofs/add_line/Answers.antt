-- The line stands after what waits.
use Rattle.std.proofs.Common.{◌≡◌, ℕ, ◌∷◌, ◌++◌, take, arith, ap, ◌∙◌}
use Rattle.std.specs.Prelude.{Option}
use Rattle.rules.specs.Walk.{decision_text}
use Rattle.listing.specs.Line.{number_digit}
use Rattle.listing.proofs.Pending.{decision_length, stored}
use Rattle.listing.proofs.add_line.Goals as goal

pub returns-clause-line : goal.returns-clause-line
returns-clause-line c h =
    let used = c.args.used in
    let out = c.args.out.now in
    let list = c.args.list.now in
    let at : c.min.result ≡ used = omega (arith, h) in
    let long = decision_length list in
    let line = number_digit c.verdict_number.result ∷ decision_text list in
    stored out _ line c.min.result c.put_line.result (omega (arith, h, at, long)) c.put_line.ensures.written (omega (arith, c.put_line.ensures.end, long))
    ∙ ap (λ (k : ℕ). take k out ++ line) at
    ∙ ap (λ (n : Option ℕ). take used out ++ (number_digit n ∷ decision_text list)) c.verdict_number.ensures
