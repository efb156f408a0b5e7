use Rattle.std.proofs.Common.{◌≡◌, ◌<◌, Some, min, sym, ◌∙◌, ap, subst, arith, rules}
use Rattle.rules.specs.Limits.{max_list}
use Rattle.walker.specs.Walking.{last_below}
use Rattle.walker.specs.Steps.{Last, last_is, advanced_not, advanced-none, advanced_on}
use Rattle.walker.proofs.advance.Goals as goal
use Rattle.walker.proofs.advance.Goals.{In_ok-p}

-- the place of the change, within the run
module _ (c : In_ok-p) where
  place : last_below c.args.w.path.later (min c.args.w.path.at max_list) ≡ Some c.in_ok-p.p
  place = sym (c.last_below.ensures ∙ ap (last_below c.args.w.path.later) c.min.ensures) ∙ c.in_ok-p.was

  inside : c.in_ok-p.p < max_list
  inside =
      let last = subst (Last c.args.w.path.later (min c.args.w.path.at max_list)) place (last_is c.args.w.path.later (min c.args.w.path.at max_list)) in
      let h = last.0 in
      omega (arith, h)

pub returns-in_err-p : goal.returns-in_err-p
returns-in_err-p c = c.from_residual.ensures ∙ advanced_not c.args.w (sym (c.last_below.ensures ∙ ap (last_below c.args.w.path.later) c.min.ensures) ∙ c.in_err-p.was)

pub offset_bounds-path-p : goal.offset_bounds-path-p
offset_bounds-path-p c = let h = inside c in search rules

pub bounds-path-p : goal.bounds-path-p
bounds-path-p c = inside c

pub returns-in_err-d : goal.returns-in_err-d
returns-in_err-d c =
    c.from_residual-in_err-d.ensures ∙ advanced-none c.args.w c.in_ok-p.p (place (goal.at.returns-in_err-d c).In_ok-p) c.in_err-d.was

pub returns : goal.returns
returns c =
    advanced_on c.args.w c.in_ok-p.p (place (goal.at.returns c).In_ok-p) c.in_ok-d.d c.in_ok-d.was c.nearer-kept.result c.moved-here.result c.complete.result c.nearer-kept.ensures c.moved-here.ensures c.complete.ensures
