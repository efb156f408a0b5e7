-- The laws of what the rules alone say, in specs/Rules.antt.
--     prefix_free              no complete list goes on after another
--     first_unique, answers_unique   any two results that the statements allow agree
use Rattle.std.specs.Prelude.{◌≡◌, ◌⊎◌, true, ℕ, None, Option, Some}
use Rattle.std.proofs.Math.Path.{refl}
use Rattle.std.proofs.Common.{sym, ◌∙◌, ap, inl, inr, arith}
use mathlib.Core.List.{List, [], ◌∷◌, ◌++◌}
use Rattle.std.proofs.Math.Dec.{T}
use Rattle.lists.proofs.Order.{le_antisym}
use Rattle.lists.specs.Rules.{Outcome, refused, done, wants, is_nil, allowed, complete, Complete, Done, Wants, IsFirst, IsNext, IsLast, Answers}

module _ {W Verdict : Type 0} (decide : W → ℕ → Outcome W Verdict) where
  pub complete-nil : (w : W) → Complete decide w [] → ⊥
  unfolding complete
  complete-nil w c = c

  pub complete-done : (w : W) (d : ℕ) (v : Verdict) → decide w d ≡ done v → Complete decide w (d ∷ [])
  unfolding complete
  complete-done w d v e = rw e tt

  pub complete-wants : (w : W) (d : ℕ) (w' : W) (l : List ℕ) → decide w d ≡ wants w' → Complete decide w' l → Complete decide w (d ∷ l)
  unfolding complete
  complete-wants w d w' l e c = rw e c

  pub complete_cases : (w : W) (d : ℕ) (l : List ℕ) → Complete decide w (d ∷ l) → Done decide w d l ⊎ Wants decide w d l
  unfolding complete
  complete_cases w d l c = go (decide w d) refl
    where
      nil : (m : List ℕ) → T (is_nil m) → m ≡ []
      nil [] t = refl
      nil (x ∷ m) t = absurd t

      go : (o : Outcome W Verdict) → decide w d ≡ o → Done decide w d l ⊎ Wants decide w d l
      go refused e = absurd (rw e at c)
      go (done v) e = inl (v, e, nil l (rw e at c))
      go (wants w') e = inr (w', e, (rw e at c))

  -- the rest of a complete list, where the first decision's outcome is known
  pub complete_tail : (w : W) (d : ℕ) (w' : W) (l : List ℕ) → decide w d ≡ wants w' → Complete decide w (d ∷ l) → Complete decide w' l
  unfolding complete
  complete_tail w d w' l e c = rw e at c

  -- its first decision is allowed
  pub complete-allowed : (w : W) (d : ℕ) (l : List ℕ) → Complete decide w (d ∷ l) → allowed decide w d ≡ true
  complete-allowed w d l c = go (complete_cases w d l c)
    where
      go : Done decide w d l ⊎ Wants decide w d l → allowed decide w d ≡ true
      go (inl x) = rw x.1
      go (inr x) = rw x.1

  -- no complete list goes on after another
  pub prefix_free : (w : W) (l m : List ℕ) → Complete decide w l → Complete decide w (l ++ m) → m ≡ []
  prefix_free w [] m c k = absurd (complete-nil w c)
  prefix_free w (d ∷ l) m c k = go (λ w'. prefix_free w' l m) (complete_cases w d l c) (complete_cases w d (l ++ m) k)
    where
      go : ((w' : W) → Complete decide w' l → Complete decide w' (l ++ m) → m ≡ []) → Done decide w d l ⊎ Wants decide w d l → Done decide w d (l ++ m) ⊎ Wants decide w d (l ++ m) → m ≡ []
      go ih (inl a) (inl b) = rw a.2 at b.2
      go ih (inl a) (inr b) = let z : done a.0 ≡ wants b.0 = sym a.1 ∙ b.1 in absurd (let q : ◌≡◌ {A = ℕ} 0 1 = cc in omega arith)
      go ih (inr a) (inl b) = let z : wants a.0 ≡ done b.0 = sym a.1 ∙ b.1 in absurd (let q : ◌≡◌ {A = ℕ} 0 1 = cc in omega arith)
      go ih (inr a) (inr b) = ih a.0 a.2 (complete_tail w d a.0 (l ++ m) a.1 k)

  pub first_unique : (w : W) (m n : List ℕ) → IsFirst decide w m → IsFirst decide w n → m ≡ n
  first_unique w m n p q = le_antisym m n (p.least n q.whole) (q.least m p.whole)

  pub next_unique : (w : W) (l m n : List ℕ) → IsNext decide w l m → IsNext decide w l n → m ≡ n
  next_unique w l m n p q = le_antisym m n (p.least n q.whole q.above) (q.least m p.whole p.above)

  pub answers_unique : (w : W) (l : List ℕ) (r s : Option (List ℕ)) → Answers decide w l r → Answers decide w l s → r ≡ s
  answers_unique w l None None p q = refl
  answers_unique w l None (Some m) p q = absurd (p m q.whole q.above)
  answers_unique w l (Some m) None p q = absurd (q m p.whole p.above)
  answers_unique w l (Some m) (Some n) p q = ap Some (next_unique w l m n p q)

  -- "none" is said exactly when no complete list is above
  pub none_iff_last : (w : W) (l : List ℕ) (r : Option (List ℕ)) → Answers decide w l r → (r ≡ None → IsLast decide w l) × (IsLast decide w l → r ≡ None)
  none_iff_last w l None p = (λ e. p, λ q. refl)
  none_iff_last w l (Some m) p = (λ e. absurd (let q : ◌≡◌ {A = ℕ} 0 1 = cc in omega arith), λ q. absurd (q m p.whole p.above))
