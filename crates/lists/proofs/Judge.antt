-- The laws of judging, of specs/Judge.antt.
--     judge-complete     a list is complete exactly when its judgement is a verdict
--     judge_bound        a place that is named lies in the list
use Rattle.std.specs.Prelude.{◌≡◌}
use Rattle.std.proofs.Math.Path.{refl}
use mathlib.Core.List.{List, [], ◌∷◌}
use Prim.Native.Nat.{ℕ, suc, ◌+◌, ◌≤◌}
use native.Mathlib.Omega.{arith}
use Rattle.std.proofs.Math.ListN.{length}
use Rattle.lists.specs.Rules.{Outcome, refused, done, wants, is_nil, complete}
use Rattle.lists.specs.Judge.{judge_at, is_verdict, place_of, judge}

module _ {W Verdict : Type 0} (decide : W → ℕ → Outcome W Verdict) where
  -- a list is complete exactly when its judgement is a verdict
  pub judge-complete : (i : ℕ) (w : W) (l : List ℕ) → is_verdict (judge decide i w l) ≡ complete decide w l
  unfolding judge complete
  judge-complete i w [] = refl
  judge-complete i w (d ∷ l) = go (decide w d) l (λ v. judge-complete (suc i) v l)
    where
      go : (o : Outcome W Verdict) (m : List ℕ) → ((v : W) → is_verdict (judge decide (suc i) v m) ≡ complete decide v m)
          → is_verdict (judge_at o i m (λ v. judge decide (suc i) v m)) ≡ Rattle.lists.specs.Rules.afterb o (is_nil m) (λ v. complete decide v m)
      go refused m ih = refl
      go (done v) [] ih = refl
      go (done v) (x ∷ m) ih = refl
      go (wants v) m ih = ih v

  -- a place that is named lies in the list
  pub judge_bound : (i : ℕ) (w : W) (l : List ℕ) → place_of (judge decide i w l) ≤ i + length l
  unfolding judge
  judge_bound i w [] = omega arith
  judge_bound i w (d ∷ l) = go (decide w d) l (λ v. judge_bound (suc i) v l)
    where
      go : (o : Outcome W Verdict) (m : List ℕ) → ((v : W) → place_of (judge decide (suc i) v m) ≤ suc i + length m) → place_of (judge_at o i m (λ v. judge decide (suc i) v m)) ≤ i + suc (length m)
      go refused m ih = omega arith
      go (done v) [] ih = omega arith
      go (done v) (x ∷ m) ih = omega arith
      go (wants v) m ih = omega (arith, ih v)
