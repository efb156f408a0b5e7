-- One decision, as the code takes it: the least that is allowed, and what a run of one comes to.
use Rattle.std.specs.Prelude.{◌≡◌, refl, Bool, true, false, not, Option, Some, None, Result, Ok, Err, [], ◌∷◌, ℕ, ◌+◌, ◌≤◌, ◌<◌, ltb, set}
use Rattle.std.specs.Option.{is_some}
use Rattle.std.proofs.Common.{sym, ◌∙◌, ap, arith, ltb-true, ltb-false}
use Rattle.std.proofs.lemmas.Bool.{false≢true}
use Rattle.std.proofs.lemmas.Option.{same_Some, none-some}
use Rattle.std.proofs.Math.Path.{subst}
use Rattle.lists.specs.Rules.{Outcome, refused, done, wants, allowed}
use Rattle.lists.specs.Judge.{judge_at, judge}
use Rattle.lists.specs.Greedy.{seek, smallest}
use Rattle.lists.proofs.Greedy.{smallest-allowed, allowed_below}
use Rattle.rules.specs.declared.table.Table.{Table}
use Rattle.rules.specs.declared.world.World.{World}
use Rattle.rules.specs.Limits.{max_list}
use Rattle.rules.specs.Turn.{is_allowed}
use Rattle.rules.specs.Judge.{Verdict, step}
use Rattle.rules.specs.Walk.{decisions, left}
use Rattle.rules.specs.declared.answer.Answer.{Answer}
use Rattle.rules.proofs.TableLaws.{split}
use Rattle.turns_steps.specs.Step.{below, below_there, below_none}
use Rattle.turns_run.specs.declared.Ran.{Ran}
use Rattle.turns_run.specs.declared.Refusal.{Refusal}
use Rattle.turns_run.specs.Run.{ran_of}
use Rattle.walk.specs.declared.Completion.{Completion}
use Rattle.theorems.proofs.Allowed.{allowed_is}
use Rattle.theorems.proofs.Machine.{bounded, some_allowed, keeps, falls}
use Rattle.theorems.specs.Falling.{Good}
use Rattle.walk.specs.Says.{stage_at, stage_of, Leads, Extends, Advances, Completable}

pub decided_one : (table : Table) (w : World) (d : ℕ) → stage_of (ran_of (judge (step table) 0 w (d ∷ []))) ≡ step table w d
unfolding judge
decided_one table w d = go (step table w d)
  where
    go : (o : Outcome World Verdict) → stage_of (ran_of (judge_at o 0 [] (λ v. judge (step table) 1 v []))) ≡ o
    go refused = refl
    go (done v) = refl
    go (wants v) = refl

-- the least allowed decision, by what is allowed
pub least_is : (table : Table) (w : World) (n k : ℕ) → seek (is_allowed w.asked w.threads) n k ≡ seek (allowed (step table) w) n k
least_is table w n k i = seek (λ (d : ℕ). sym (allowed_is table w d) i) n k

-- a number that is below a bound, and none
pub below_some : (top k d : ℕ) → below top k ≡ Some d → (k ≡ d) × (k < top)
below_some top k d e =
    split (ltb k top)
    (λ t. let z : Some k ≡ Some d = below_there top k k refl (ltb-true k top t) ∙ e in (same_Some k d z, ltb-true k top t))
    (λ t. let z : None ≡ Some d = below_none top k (ltb-false k top t) ∙ e in absurd (none-some d z))

pub below_past : (top k : ℕ) → below top k ≡ None → top ≤ k
below_past top k e =
    split (ltb k top)
    (λ t. let z : Some k ≡ None = below_there top k k refl (ltb-true k top t) ∙ e in absurd (none-some k (sym z)))
    (λ t. ltb-false k top t)

-- another decision is wanted where there is no verdict
leads : (x : Option Answer) (w : World) (wanted : Bool) → is_some x ≡ not wanted → Leads (stage_at x w) w wanted
leads None w true e = refl
leads None w false e = absurd (false≢true e)
leads (Some a) w true e = absurd (false≢true (sym e))
leads (Some a) w false e = λ v e. absurd (let q : ◌≡◌ {A = ℕ} 0 1 = cc in omega (arith, q))

module _ (c : Completion) (d : ℕ) where
  pub full_stays : max_list ≤ c.at → Extends c d c false
  full_stays h k = absurd (omega (arith, h, k))

  abbrev longer : World → Completion
  longer w = record { table = c.table; world = w; list = set c.list c.at d; at = c.at + 1 }

  -- the decision is stored, and made
  pub stored_made : (o : Result Ran Refusal) (r : Ran) (wanted : Bool) → stage_of o ≡ step c.table c.world d → o ≡ Ok r → is_some r.verdict ≡ not wanted → Extends c d (longer r.world) wanted
  stored_made o r wanted e f k room = record {
    table = refl;
    list = refl;
    at = refl;
    leads = subst (λ (s : Outcome World Verdict). Leads s r.world wanted) (ap stage_of (sym f) ∙ e) (leads r.verdict r.world wanted k);
  }

  -- or it is refused
  pub stored_refused : (o : Result Ran Refusal) (r : Refusal) → stage_of o ≡ step c.table c.world d → o ≡ Err r → Extends c d (longer c.world) false
  stored_refused o r e f room = record {
    table = refl;
    list = refl;
    at = refl;
    leads = subst (λ (s : Outcome World Verdict). Leads s c.world false) (ap stage_of (sym f) ∙ e) (λ v e. absurd (let q : ◌≡◌ {A = ℕ} 0 1 = cc in omega (arith, q)));
  }

  -- the smallest
  pub advances : (o : Option ℕ) → o ≡ below decisions (seek (is_allowed c.world.asked c.world.threads) decisions 0) → o ≡ Some d → (r : Completion) (wanted : Bool) → Extends c d r wanted → Advances c r wanted
  unfolding smallest
  advances o e f r wanted x =
      let least_d = (below_some decisions _ d (sym e ∙ f)).0 in
      subst (λ (k : ℕ). Extends c k r wanted) (sym least_d ∙ least_is c.table c.world decisions 0) x

-- a world on the way has one that is allowed
pub some_least : (c : Completion) → Completable c → (o : Option ℕ) → o ≡ below decisions (seek (is_allowed c.world.asked c.world.threads) decisions 0) → o ≡ None → ⊥
unfolding smallest
some_least c n o e f =
    let table = c.table in
    let first : ℕ = smallest (step table) decisions c.world in
    let some = smallest-allowed (step table) decisions (left table) (Good table) (bounded table n.within) (some_allowed table n.within) (keeps table n.within) (falls table n.within) c.world n.good in
    let few = allowed_below (step table) decisions (left table) (Good table) (bounded table n.within) (some_allowed table n.within) (keeps table n.within) (falls table n.within) c.world first n.good some in
    let past = below_past decisions _ (sym e ∙ f) in
    omega (arith, past, few, least_is table c.world decisions 0)
