use Rattle.std.proofs.Common.{◌≡◌, ◌+◌, ◌-◌, true, false, Option, Some, unwrap_or, is_some, sym, ap, ◌∙◌, arith}
use Rattle.std.proofs.lemmas.Bool.{false≢true}
use Rattle.rules.specs.declared.answer.Answer.{Answer}
use Rattle.rules.specs.Limits.{max_list}
use Rattle.walker.specs.declared.Path.{Path}
use Rattle.walker.specs.Walking.{least_from, taken_from, end_by, world_by, with, completed}
use Rattle.walker.specs.Steps.{complete_full, complete_over, complete_on}
use Rattle.walker.proofs.complete.Goals as goal
use Rattle.walker.proofs.complete.Goals.{Joined-run, in-Ok, in-Err}

-- a turn of the loop: the decision that is taken, the larger one, and how the run of it ended
module _ (c : Joined-run) where
  sought : c.least-sought.result ≡ least_from c.loop-at.world c.loop-at.from
  sought = c.least-sought.ensures ∙ ap (least_from c.loop-at.world) c.from.ensures

  taken : c.unwrap_or-d.result ≡ taken_from c.loop-at.world c.loop-at.from
  taken = c.unwrap_or-d.ensures ∙ (λ i. unwrap_or (sought i) (c.max.ensures i))

  larger : c.least.result ≡ least_from c.loop-at.world (c.unwrap_or-d.result + 1)
  larger = c.least.ensures ∙ ap (λ k. least_from c.loop-at.world (k + 1)) c.from-in-loop-at.ensures

  path_is : c.match-run.path ≡ with c.loop-at.path c.loop-at.at c.unwrap_or-d.result c.least.result (end_by c.run.result)
  path_is =
      let longer = λ (x : Option Answer). with c.loop-at.path c.loop-at.at c.unwrap_or-d.result c.least.result x in
      elim c.match-run.branch [
        | in-Ok w ↦ w.path-is ∙ ap longer (ap end_by (sym w.in-Ok.is))
        | in-Err w ↦ w.path-is ∙ ap longer (ap Some w.into.ensures ∙ ap end_by (sym w.in-Err.is))
      ]

  -- a run that goes on has a world
  world_is : is_some (end_by c.run.result) ≡ false → c.match-run.world ≡ world_by c.run.result
  world_is h =
      elim c.match-run.branch [
        | in-Ok w ↦ w.world-is ∙ ap world_by (sym w.in-Ok.is)
        | in-Err w ↦ absurd (false≢true (sym h ∙ ap (λ o. is_some (end_by o)) w.in-Err.is))
      ]

pub returns-then-is_some : goal.returns-then-is_some
returns-then-is_some c =
    let l = c.loop-at in
    let j = (goal.at.returns-then-is_some c).Joined-run in
    let ends : is_some (end_by c.run.result) ≡ true = sym (ap (λ (p : Path). is_some p.verdict) (path_is j)) ∙ sym c.is_some.ensures ∙ c.if-is_some.true in
    path_is j ∙ sym (l.invariant.0 ∙ complete_over c.args.table l.world l.path l.from _ c.run.result (taken j) (sym c.run.ensures) l.at c.least.result l.invariant.1 c.loop-at-test.true (larger j) ends)

pub loop-at-preserved : goal.loop-at-preserved
loop-at-preserved c =
    let l = c.loop-at in
    let j = (goal.at.loop-at-preserved c).Joined-run in
    let goes : is_some (end_by c.run.result) ≡ false = sym (ap (λ (p : Path). is_some p.verdict) (path_is j)) ∙ sym c.is_some.ensures ∙ c.if-is_some.false in
    let on = complete_on c.args.table l.world l.path l.from _ c.run.result (taken j) (sym c.run.ensures) l.at c.least.result l.invariant.1 c.loop-at-test.true (larger j) goes in
    let same : completed c.args.table (max_list - (l.at + 1)) (world_by c.run.result) (with l.path l.at c.unwrap_or-d.result c.least.result (end_by c.run.result)) 0 ≡ completed c.args.table (max_list - (l.at + 1)) c.match-run.world c.match-run.path 0 =
    λ i. completed c.args.table (max_list - (l.at + 1)) (sym (world_is j goes) i) (sym (path_is j) i) 0 in
    (l.invariant.0 ∙ on ∙ same, ap (λ (p : Path). p.at) (path_is j))

pub returns : goal.returns
returns c = let l = c.loop-at in sym (l.invariant.0 ∙ complete_full c.args.table l.world l.path l.from l.at (omega (arith, c.loop-at-test.false)))
