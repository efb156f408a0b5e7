-- A turn writes the next decision, and after the last turn all are written.
use Rattle.std.proofs.Common.{◌≡◌, List, ℕ, length, refl, ap, ◌∙◌, arith}
use Rattle.std.proofs.lemmas.List.Edits.{sets}
use Rattle.rules.specs.Sheet.{filled, each}
use Rattle.rules.proofs.SheetLaws.{each-written}
use Rattle.listing.specs.Line.{decision_bytes}
use Rattle.listing.proofs.LineLaws.{all_filled}
use Rattle.listing.proofs.line.put_decisions.Goals as goal

pub loop-i-preserved : goal.loop-i-preserved
loop-i-preserved c = each-written c.args.out.now c.args.at decision_bytes 3 (λ d. refl) 0 c.loop-i.i c.args.list.now c.loop-i.invariant c.put_decision.ensures

pub returns : goal.returns
returns c =
    let list = c.args.list.now in
    let all : c.loop-i.i ≡ length list = omega arith in
    c.loop-i.invariant ∙ ap (λ (k : ℕ). sets c.args.out.now c.args.at (each decision_bytes (filled 0 k list))) all ∙ ap (λ (xs : List ℕ). sets c.args.out.now c.args.at (each decision_bytes xs)) (all_filled list)
