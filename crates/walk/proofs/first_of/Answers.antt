-- The completion of the empty list is handed over.
use Rattle.std.proofs.Common.{◌∙◌, ap, refl, List, ℕ}
use Rattle.rules.specs.Walk.{hand_over}
use Rattle.walk.specs.Handed.{first_ready, first_made, first-given}
use Rattle.walk.proofs.first_of.Goals as goal

pub complete-requires : goal.complete-requires
complete-requires c = first_ready c.args.table c.requires c.start.result c.start.ensures _ refl

pub shared_ref_as_front-hand_over : goal.shared_ref_as_front-hand_over
shared_ref_as_front-hand_over c = c.complete.ensures.inside

pub returns : goal.returns
returns c =
    let a = c.args in
    let made = first_made a.table c.requires c.start.result c.start.ensures _ c.complete.new.c c.complete.ensures in
    c.hand_over.ensures
    ∙ ap (λ (l : List ℕ). hand_over l a.list.now) made
    ∙ first-given a.table a.list.now
