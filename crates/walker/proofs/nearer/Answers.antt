-- `walker::nearer` meets its contract.
use Rattle.std.proofs.Common.{◌≡◌, ◌≤◌, ◌∙◌, sym, subst, rules}
use Rattle.walker.specs.declared.Kept.{Kept}
use Rattle.walker.specs.Walking.{not_behind}
use Rattle.walker.specs.Steps.{behind, behind_not, behind_in, nearer-near, nearer_far}
use Rattle.walker.proofs.nearer.Goals as goal
use Rattle.walker.proofs.nearer.Goals.{Joined-p-kept, then-p-kept, else-p-kept}

is_base : (c : Joined-p-kept) → c.if-p-kept.base ≡ not_behind c.args.table c.args.kept c.args.p
is_base c =
    let a = c.args in
    elim c.if-p-kept.branch [
      | then-p-kept w ↦ w.base-is ∙ w.at_start-base.ensures ∙ behind a.table a.list.now a.kept a.p w.if-p-kept.true
      | else-p-kept w ↦ w.base-is ∙ behind_not a.table a.list.now a.kept a.p w.if-p-kept.false
    ]

pub overflow_sub-p : goal.overflow_sub-p
overflow_sub-p c =
    let a = c.args in
    let h = subst (λ (b : Kept). b.from ≤ a.p) (sym (is_base (goal.at.overflow_sub-p c).Joined-p-kept)) (behind_in a.table a.list.now a.kept a.p) in
    search rules

pub returns-then-p-base : goal.returns-then-p-base
returns-then-p-base c = let a = c.args in nearer-near a.table a.list.now a.kept a.p c.if-p-kept.base (is_base (goal.at.returns-then-p-base c).Joined-p-kept) c.if-p-base.true

pub returns : goal.returns
returns c =
    let a = c.args in
    c.moved.ensures ∙ nearer_far a.table a.list.now a.kept a.p c.if-p-kept.base (is_base (goal.at.returns c).Joined-p-kept) c.if-p-base.false
