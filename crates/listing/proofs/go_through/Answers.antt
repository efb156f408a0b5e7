-- A turn moves the line of one run from those to come to those that wait.
use Rattle.std.proofs.Common.{◌≡◌, ◌+◌, ◌-◌, ◌^◌, ◌≤◌, List, [], ◌++◌, length, take, min, ℕ, rules, arith, sym, ap, ◌∙◌, length-take, Some}
use Rattle.clocks.specs.Lists.{take_min}
use Rattle.walker.specs.declared.Walker.{Walker}
use Rattle.listing.specs.Told.{end_line, lines}
use Rattle.listing.proofs.Pending.{moves_line, end_of}
use Rattle.listing.proofs.Told.{none_left, none_wanted, next_line}
use Rattle.listing.proofs.go_through.Goals as goal
use Rattle.listing.proofs.go_through.Goals.{else-loop-test, then-loop-test+in_default}

pub loop-preserved : goal.loop-preserved
loop-preserved g c =
    let path = c.in-Some.w.path in
    let list = take c.min.result path.list in
    let waits = take c.in_ok-at.at c.loop.out in
    let long : length path.list ≡ 582 = search rules in
    let short : length list ≤ 582 = omega (arith, length-take c.min.result path.list, c.min.ensures) in
    let whole : list ≡ take path.at path.list = ap (λ (k : ℕ). take k path.list) (c.min.ensures ∙ ap (min path.at) (sym long)) ∙ take_min path.at path.list in
    let line = c.add_line-used.ensures.line (omega (arith, short, c.in_ok-at.ensures.room, c.loop.invariant.room)) ∙ ap (λ (l : List ℕ). waits ++ end_line path.verdict l) whole in
    let one = ap (lines (2 ^ 64 - 1 - c.loop.counter)) c.in-Some.is ∙ next_line _ (2 ^ 64 - 1 - (c.loop.counter + 1)) c.in-Some.w (omega arith) in
    record {
      room = search rules;
      used = omega (arith, short, c.in_ok-at.ensures.room, c.add_line-used.ensures.end);
      moves = rw c.advance-next.ensures (moves_line _ _ _ _ _ _ _ _ _ _ c.loop.invariant.moves c.in_ok-at.ensures.moves one line);
    }

pub returns : goal.returns
returns g c =
    let over : lines (2 ^ 64 - 1 - c.loop.counter) c.loop.next ≡ [] =
    elim c.loop-test.branch [
      | else-loop-test w ↦ none_wanted _ _ (omega (arith, w.loop-test.false))
      | then-loop-test+in_default w ↦ ap (lines (2 ^ 64 - 1 - c.loop.counter)) w.in_default.is ∙ none_left _
    ] in
    end_of c.flush.result _ _ _ _ _ _ _ c.loop.invariant.moves over (ap (λ (w : Walker). lines (2 ^ 64 - 1) (Some w)) c.begin.ensures) c.flush.ensures
