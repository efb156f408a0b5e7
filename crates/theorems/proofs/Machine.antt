-- The four things that the laws of the walk ask of a machine, of document 01's decisions: they are bounded, one is allowed wherever one is wanted,
-- good worlds are kept, and the falling number falls.
use Rattle.std.proofs.Math.Path.{◌≡◌, subst}
use Rattle.clocks.specs.declared.thread.ThreadId.{ThreadId}
use Rattle.std.specs.Prelude.{refl, true, false, List, [], ◌∷◌, ℕ, suc, ◌≤◌, ◌<◌, get_or, None, Option, Some}
use Rattle.std.proofs.Common.{sym, ◌∙◌, ap, arith}
use Rattle.std.proofs.lemmas.Bool.{false≢true, lt-leb}
use Rattle.std.proofs.Math.ListN.{get_or-eq_default}
use Rattle.clocks.specs.Clock.{max_threads}
use Rattle.lists.specs.Rules.{Outcome, allowedb}
use Rattle.lists.specs.Rules as outcome
use Rattle.rules.specs.declared.thread.Thread.{Thread}
use Rattle.rules.specs.declared.table.Table.{Table}
use Rattle.rules.specs.declared.world.Step.{Step}
use Rattle.rules.specs.declared.world.Step.TheVariants.{Refused, Done, Wants}
use Rattle.rules.specs.declared.world.World.{World}
use Rattle.rules.specs.Ground.{absent, is_runnable}
use Rattle.rules.specs.TableLaws.{Within}
use Rattle.rules.proofs.TableLaws.{split}
use Rattle.rules.specs.Turn.{any_runnable, is_allowed, decide}
use Rattle.rules.specs.Walk.{left}
use Rattle.rules.specs.Judge.{Verdict, outcome_of, step}
use Rattle.theorems.proofs.Allowed.{allowed_is}
use Rattle.theorems.specs.Falling.{Good, Then, Ready}
use Rattle.theorems.proofs.Falling.{decide_then}

-- a decision that is not allowed is refused
refused_is : (o : Outcome World Verdict) → allowedb o ≡ false → o ≡ outcome.refused
refused_is outcome.refused e = refl
refused_is (outcome.done v) e = absurd (false≢true (sym e))
refused_is (outcome.wants v) e = absurd (false≢true (sym e))

-- somebody is runnable
pub some_runnable : (ts : List Thread) → any_runnable ts ≡ true → (i : ℕ) × (is_runnable (get_or ts i absent).state ≡ true)
unfolding any_runnable
some_runnable [] e = absurd (false≢true e)
some_runnable (t ∷ ts) e = split (is_runnable t.state) (λ r. (0, r)) (λ r. let h = some_runnable ts (sym (rw (any_runnable, r)) ∙ e) in (suc h.0, h.1))

module _ (table : Table) (n : Within table) where
  pub bounded : (w : World) (d : ℕ) → Good table w → max_threads ≤ d → step table w d ≡ outcome.refused
  bounded w d g h = refused_is (step table w d) (allowed_is table w d ∙ go w.asked)
    where
      go : (a : Option ThreadId) → is_allowed a w.threads d ≡ false
      go None = ap (λ (x : Thread). is_runnable x.state) (get_or-eq_default w.threads absent (omega (arith, h, g.long)))
      go (Some t) = lt-leb d 1 (omega (arith, h))

  pub some_allowed : (w : World) → Good table w → (d : ℕ) × (step table w d ≡ outcome.refused → ⊥)
  some_allowed w g =
      let it = go w.asked g.ready in
      (it.0, λ e. false≢true (sym (ap allowedb e) ∙ allowed_is table w it.0 ∙ it.1))
    where
      go : (a : Option ThreadId) → Ready table a w.threads → (d : ℕ) × (is_allowed a w.threads d ≡ true)
      go None r = some_runnable w.threads r
      go (Some t) r = (0, refl)

  kept : (w : World) (s : Step) (v w' : World) → Then table (left table w) s v → outcome_of s v ≡ outcome.wants w' → Good table w' × (left table w' < left table w)
  unfolding outcome_of
  kept w Refused v w' h e = let q : ◌≡◌ {A = ℕ} 0 1 = cc in absurd (omega (arith, q))
  kept w (Done a) v w' h e = let q : ◌≡◌ {A = ℕ} 0 1 = cc in absurd (omega (arith, q))
  kept w Wants v w' h e = let q : v ≡ w' = cc in subst (λ (x : World). Good table x × (left table x < left table w)) q h

  pub keeps : (w : World) (d : ℕ) (w' : World) → Good table w → step table w d ≡ outcome.wants w' → Good table w'
  unfolding step
  keeps w d w' g e = (kept w (decide table w d).step (decide table w d).world w' (decide_then table w g n d) e).0

  pub falls : (w : World) (d : ℕ) (w' : World) → Good table w → step table w d ≡ outcome.wants w' → left table w' < left table w
  unfolding step
  falls w d w' g e = (kept w (decide table w d).step (decide table w d).world w' (decide_then table w g n d) e).1
