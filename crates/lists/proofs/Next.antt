-- The laws of the next complete list, of specs/Next.antt.
--     next_of-later        `later` and `next_of` are equal, on every list
--     first-first, next-answers   what demand 3 says of "first" and of "next"
use Rattle.std.specs.Prelude.{◌≡◌, ◌⊎◌, Bool, true, false, cond, ltb, length, None, Option, Some}
use Rattle.std.proofs.Math.Path.{refl}
use Rattle.std.proofs.Common.{sym, ◌∙◌, ap, inl, inr, arith, add-one, length-append, take_at, ltb-true, ltb-false}
use mathlib.Core.List.{List, [], ◌∷◌, ◌++◌}
use Prim.Native.Nat.{ℕ, suc, ◌≤◌, ◌<◌}
use Rattle.std.proofs.Math.Decide.{dec_lt}
use Rattle.std.proofs.Math.Seq.{append_snoc}
use Rattle.lists.specs.Order.{◌<ₗ◌, ◌≤ₗ◌}
use Rattle.lists.proofs.Order.{cons-le, cons_less}
use Rattle.lists.specs.Rules.{Outcome, refused, done, wants, Complete, Done, Wants, IsFirst, IsNext, Answers}
use Rattle.lists.proofs.Rules.{complete-nil, complete-wants, complete_cases, complete_tail, complete-allowed}
use Rattle.lists.specs.Greedy.{larger}
use Rattle.lists.proofs.Greedy.{larger_above, larger-allowed, larger-least, larger-none, step-least, greedy-least, step-complete, greedy-complete, greedy-first}
use Rattle.lists.specs.Next.{or_else, behind, Pivot, nowhere, at, later_at, pass_at, first_of, raised, raised_if, raise, later, better, pass, finish, next_of}

module _ {W Verdict : Type 0} (decide : W → ℕ → Outcome W Verdict) (top : ℕ) (left : W → ℕ) where
  -- the pass at one decision
  better-raise : (kept l : List ℕ) (d i : ℕ) (w : W) (best : Pivot W) → length kept ≡ i
      → finish decide top left (kept ++ d ∷ l) (better decide top left best i w d) ≡ or_else (behind kept (raise decide top left w d)) (finish decide top left (kept ++ d ∷ l) best)
  better-raise kept l d i w best s = go (ltb (larger decide top w d) top)
    where
      e : ℕ
      e = larger decide top w d

      go : (b : Bool) → finish decide top left (kept ++ d ∷ l) (cond b (at i w e) best) ≡ or_else (behind kept (raised_if decide top left b w e)) (finish decide top left (kept ++ d ∷ l) best)
      go true = ap (λ (p : List ℕ). Some (p ++ raised decide top left w e)) (take_at kept (d ∷ l) i s)
      go false = refl

  -- the pass from an index on is `later`, behind what was passed
  pub pass-later : (l : List ℕ) (w : W) (kept : List ℕ) (i : ℕ) (best : Pivot W) → length kept ≡ i
      → finish decide top left (kept ++ l) (pass decide top left best i w l) ≡ or_else (behind kept (later decide top left w l)) (finish decide top left (kept ++ l) best)
  unfolding pass later
  pass-later [] w kept i best s = refl
  pass-later (d ∷ l) w kept i best s = go (decide w d) (λ w'. pass-later l w' (kept ++ d ∷ []) (suc i) (better decide top left best i w d) (simp (length-append, add-one) (ap suc s)))
    where
      b : Pivot W
      b = better decide top left best i w d

      join : (r : Option (List ℕ)) → or_else (behind (kept ++ d ∷ []) r) (finish decide top left (kept ++ d ∷ l) b) ≡ or_else (behind kept (or_else (behind (d ∷ []) r) (raise decide top left w d))) (finish decide top left (kept ++ d ∷ l) best)
      join None = better-raise kept l d i w best s
      join (Some m) = ap Some (append_snoc kept d m)

      go : (o : Outcome W Verdict)
          → ((w' : W) → finish decide top left ((kept ++ d ∷ []) ++ l) (pass decide top left b (suc i) w' l) ≡ or_else (behind (kept ++ d ∷ []) (later decide top left w' l)) (finish decide top left ((kept ++ d ∷ []) ++ l) b))
          → finish decide top left (kept ++ d ∷ l) (pass_at o best b (λ p w'. pass decide top left p (suc i) w' l)) ≡ or_else (behind kept (later_at o d (raise decide top left w d) (λ w'. later decide top left w' l))) (finish decide top left (kept ++ d ∷ l) best)
      go refused ih = refl
      go (done v) ih = better-raise kept l d i w best s
      go (wants w') ih = (rw append_snoc at (ih w')) ∙ join (later decide top left w' l)

  pub next_of-later : (w : W) (l : List ℕ) → next_of decide top left w l ≡ later decide top left w l
  unfolding next_of
  next_of-later w l = pass-later l w [] 0 nowhere refl ∙ all (later decide top left w l)
    where
      all : (r : Option (List ℕ)) → or_else (behind [] r) None ≡ r
      all None = refl
      all (Some m) = refl

module _ {W Verdict : Type 0} (decide : W → ℕ → Outcome W Verdict) (top : ℕ) (left : W → ℕ) (Good : W → Type 0)
    (bounded : (w : W) (d : ℕ) → Good w → top ≤ d → decide w d ≡ refused)
    (some_allowed : (w : W) → Good w → (d : ℕ) × (decide w d ≡ refused → ⊥))
    (keeps : (w : W) (d : ℕ) (w' : W) → Good w → decide w d ≡ wants w' → Good w')
    (falls : (w : W) (d : ℕ) (w' : W) → Good w → decide w d ≡ wants w' → left w' < left w) where
  pub first-first : (w : W) → Good w → IsFirst decide w (first_of decide top left w)
  unfolding first_of
  first-first w g = greedy-first decide top left Good bounded some_allowed keeps falls (suc (left w)) w g (omega arith)

  -- where nothing larger begins with d, raising d gives the next list
  raise-next : (w : W) (d : ℕ) (l : List ℕ) → Good w → ((m : List ℕ) → Complete decide w (d ∷ m) → l <ₗ m → ⊥)
      → Answers decide w (d ∷ l) (raise decide top left w d)
  unfolding raised
  raise-next w d l g stuck = go (ltb e top) refl
    where
      e : ℕ
      e = larger decide top w d

      fall : (x : ℕ) (m : List ℕ) → d ≡ x → Complete decide w (x ∷ m) → l <ₗ m → ⊥
      fall x m same c p = stuck m (rw same c) p

      last : top ≤ e → (n : List ℕ) → Complete decide w n → (d ∷ l) <ₗ n → ⊥
      last h [] c p = p
      last h (x ∷ m) c (inl a) =
          let no_more = larger-none decide top left Good bounded some_allowed keeps falls w d x g h a in
          let yes-more = complete-allowed decide w x m c in
          let q : ◌≡◌ {A = ℕ} 0 1 = cc in
          omega arith
      last h (x ∷ m) c (inr a) = fall x m a.0 c a.1

      least_at : (x : ℕ) (m : List ℕ) → Complete decide w (x ∷ m) → d < x → Dec (e < x) → Dec (x < e) → raised decide top left w e ≤ₗ (x ∷ m)
      least_at x m c a (yes h) k = inr (inl h)
      least_at x m c a (no h) (yes k) =
          let no_more = larger-least decide top w d x a k in
          let yes-more = complete-allowed decide w x m c in
          let q : ◌≡◌ {A = ℕ} 0 1 = cc in
          absurd (omega arith)
      least_at x m c a (no h) (no k) = step-least decide top (left w) (greedy-least decide top (left w)) w e x m (omega arith) c

      least_of : (n : List ℕ) → Complete decide w n → (d ∷ l) <ₗ n → raised decide top left w e ≤ₗ n
      least_of [] c p = absurd p
      least_of (x ∷ m) c (inl a) = least_at x m c a (dec_lt e x) (dec_lt x e)
      least_of (x ∷ m) c (inr a) = absurd (fall x m a.0 c a.1)

      go : (b : Bool) → ltb e top ≡ b → Answers decide w (d ∷ l) (raised_if decide top left b w e)
      go true t = record {
        whole = step-complete decide top left Good bounded some_allowed keeps falls (left w) (greedy-complete decide top left Good bounded some_allowed keeps falls (left w)) w e g (omega arith) (larger-allowed decide top w d (ltb-true e top t));
        above = inl (larger_above decide top w d);
        least = least_of;
      }
      go false t = last (ltb-false e top t)

  pub later-answers : (l : List ℕ) (w : W) → Good w → Complete decide w l → Answers decide w l (later decide top left w l)
  unfolding later
  later-answers [] w g c = absurd (complete-nil decide w c)
  later-answers (d ∷ l) w g c = go (complete_cases decide w d l c) (later-answers l)
    where
      Below : Type 0
      Below = (w' : W) → Good w' → Complete decide w' l → Answers decide w' l (later decide top left w' l)

      ended : (v : Verdict) → decide w d ≡ done v → (m : List ℕ) → Complete decide w (d ∷ m) → l <ₗ m → l ≡ [] → ⊥
      ended v e m k p n = two (complete_cases decide w d m k)
        where
          two : Done decide w d m ⊎ Wants decide w d m → ⊥
          two (inl a) = rw (n, a.2) at p
          two (inr a) = let z = sym e ∙ a.1 in let q : ◌≡◌ {A = ℕ} 0 1 = cc in omega arith

      -- the rest has a next list m: d stays
      stays : (w' : W) → decide w d ≡ wants w' → (m : List ℕ) → IsNext decide w' l m → IsNext decide w (d ∷ l) (d ∷ m)
      stays w' e m i = record {
        whole = complete-wants decide w d w' m e i.whole;
        above = cons_less d l m i.above;
        least = least_of;
      }
        where
          least_of : (n : List ℕ) → Complete decide w n → (d ∷ l) <ₗ n → (d ∷ m) ≤ₗ n
          least_of [] k p = absurd p
          least_of (x ∷ n) k (inl a) = inr (inl a)
          least_of (x ∷ n) k (inr a) =
              let from : decide w x ≡ wants w' = rw (← a.0) e in
              cons-le d x m n a.0 (i.least n (complete_tail decide w x w' n from k) a.1)

      rest : (w' : W) → decide w d ≡ wants w' → (r : Option (List ℕ)) → Answers decide w' l r
          → Answers decide w (d ∷ l) (or_else (behind (d ∷ []) r) (raise decide top left w d))
      rest w' e None a = raise-next w d l g (λ m k p. a m (complete_tail decide w d w' m e k) p)
      rest w' e (Some m) a = stays w' e m a

      go : Done decide w d l ⊎ Wants decide w d l → Below
          → Answers decide w (d ∷ l) (later_at (decide w d) d (raise decide top left w d) (λ w'. later decide top left w' l))
      go (inl a) ih = rw a.1 (raise-next w d l g (λ m k p. ended a.0 a.1 m k p a.2))
      go (inr a) ih = rw a.1 (rest a.0 a.1 (later decide top left a.0 l) (ih a.0 (keeps w d a.0 g a.1) a.2))

  -- "next" after a complete list gives the smallest larger one, or says that there is none exactly when there is none
  pub next-answers : (w : W) (l : List ℕ) → Good w → Complete decide w l → Answers decide w l (next_of decide top left w l)
  next-answers w l g c = rw next_of-later (later-answers l w g c)
