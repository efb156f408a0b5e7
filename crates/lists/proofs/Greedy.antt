-- The laws of the smallest decision, the larger one and the greedy completion, of specs/Greedy.antt.
--     greedy-least, greedy-complete, greedy-first, greedy_enough; complete-length
use Rattle.std.specs.Prelude.{◌≡◌, ◌⊎◌, Bool, false, cond, length}
use Rattle.std.proofs.Math.Path.{refl}
use Rattle.std.proofs.Common.{inl, arith}
use Rattle.std.proofs.Math.Logic.{inr}
use Rattle.std.proofs.Math.Bool.{true}
use mathlib.Core.List.{List, [], ◌∷◌}
use Prim.Native.Nat.{ℕ, zero, suc, ◌-◌, ◌≤◌, ◌<◌}
use Rattle.std.proofs.Math.Decide.{dec_lt}
use Rattle.lists.specs.Order.{◌≤ₗ◌}
use Rattle.lists.proofs.Order.{cons-le}
use Rattle.lists.specs.Rules.{Outcome, refused, done, wants, allowedb, allowed, Complete, Done, Wants, IsFirst}
use Rattle.lists.proofs.Rules.{first_unique, complete-nil, complete-done, complete-wants, complete_cases, complete-allowed}
use Rattle.lists.specs.Greedy.{seek, Sought, go_on, smallest, larger, greedy}

pub seek_sought : (p : ℕ → Bool) (n k : ℕ) → Sought p n k (seek p n k)
unfolding seek
seek_sought p zero k = record { low = omega arith; high = omega arith; passes = λ h. absurd (omega arith); below = λ e a b. absurd (omega arith) }
seek_sought p (suc n) k = go (p k) refl (seek_sought p n (suc k))
  where
    at : (e : ℕ) → Dec (k < e) → k ≤ e → p k ≡ false → (k < e → p e ≡ false) → p e ≡ false
    at e (yes h) a q later = later h
    at e (no h) a q later = let same : e ≡ k = omega arith in rw same q

    go : (b : Bool) → p k ≡ b → Sought p n (suc k) (seek p n (suc k)) → Sought p (suc n) k (cond b k (seek p n (suc k)))
    go true q s = record { low = omega arith; high = omega arith; passes = λ h. q; below = λ e a b. absurd (omega arith) }
    go false q s = record { low = omega arith; high = omega arith; passes = λ h. s.passes (omega arith); below = λ e a b. at e (dec_lt k e) a q (λ h. s.below e h b) }

module _ {W Verdict : Type 0} (decide : W → ℕ → Outcome W Verdict) (top : ℕ) where
  -- nothing below the smallest is allowed
  pub smallest_below : (w : W) (e : ℕ) → e < smallest decide top w → allowed decide w e ≡ false
  unfolding smallest
  smallest_below w e h = (seek_sought (allowed decide w) top 0).below e (omega arith) h

  -- a larger decision that is below `top` is allowed, and is the least one above d
  pub larger_above : (w : W) (d : ℕ) → d < larger decide top w d
  unfolding larger
  larger_above w d = (seek_sought (allowed decide w) (top - suc d) (suc d)).low

  pub larger-allowed : (w : W) (d : ℕ) → larger decide top w d < top → allowed decide w (larger decide top w d) ≡ true
  unfolding larger
  larger-allowed w d h =
      let s = seek_sought (allowed decide w) (top - suc d) (suc d) in
      let l = s.low in
      s.passes (omega arith)

  pub larger-least : (w : W) (d e : ℕ) → d < e → e < larger decide top w d → allowed decide w e ≡ false
  unfolding larger
  larger-least w d e a b = (seek_sought (allowed decide w) (top - suc d) (suc d)).below e a b

  -- an allowed decision is at least the smallest
  pub smallest-le : (w : W) (d : ℕ) → allowed decide w d ≡ true → smallest decide top w ≤ d
  smallest-le w d a = go (dec_lt d (smallest decide top w))
    where
      go : Dec (d < smallest decide top w) → smallest decide top w ≤ d
      go (yes h) = absurd (let e = smallest_below w d h in let q : ◌≡◌ {A = ℕ} 0 1 = cc in omega arith)
      go (no h) = omega arith

  -- one decision e, then greedy: at most every complete list that begins with e
  pub step-least : (f : ℕ) → ((w : W) (m : List ℕ) → Complete decide w m → greedy decide top f w ≤ₗ m)
      → (w : W) (e x : ℕ) (m : List ℕ) → e ≡ x → Complete decide w (x ∷ m) → (e ∷ go_on (decide w e) (greedy decide top f)) ≤ₗ (x ∷ m)
  step-least f ih w e x m same c = go (complete_cases decide w x m c)
    where
      go : Done decide w x m ⊎ Wants decide w x m → (e ∷ go_on (decide w e) (greedy decide top f)) ≤ₗ (x ∷ m)
      go (inl a) = rw (same, a.1, a.2) (inl refl)
      go (inr a) = rw (same, a.1) (cons-le x x (greedy decide top f a.0) m refl (ih a.0 m a.2))

  -- greedy is at most every complete list: no hypothesis on the machine is needed
  pub greedy-least : (f : ℕ) (w : W) (m : List ℕ) → Complete decide w m → greedy decide top f w ≤ₗ m
  unfolding greedy
  greedy-least zero w [] c = absurd (complete-nil decide w c)
  greedy-least zero w (x ∷ m) c = inr tt
  greedy-least (suc f) w [] c = absurd (complete-nil decide w c)
  greedy-least (suc f) w (x ∷ m) c = go (dec_lt (smallest decide top w) x) (greedy-least f)
    where
      go : Dec (smallest decide top w < x) → ((w' : W) (n : List ℕ) → Complete decide w' n → greedy decide top f w' ≤ₗ n) → (smallest decide top w ∷ go_on (decide w (smallest decide top w)) (greedy decide top f)) ≤ₗ (x ∷ m)
      go (yes h) ih = inr (inl h)
      go (no h) ih = step-least f ih w (smallest decide top w) x m (omega (arith, smallest-le w x (complete-allowed decide w x m c))) c

-- The hypotheses on a machine, over the worlds that are `Good`:
--     bounded   a decision that is `top` or more is refused
--     some      some decision is not refused
--     keeps     the next world is good
--     falls     `left` falls with each decision after which another is wanted
module _ {W Verdict : Type 0} (decide : W → ℕ → Outcome W Verdict) (top : ℕ) (left : W → ℕ) (Good : W → Type 0)
    (bounded : (w : W) (d : ℕ) → Good w → top ≤ d → decide w d ≡ refused)
    (some_allowed : (w : W) → Good w → (d : ℕ) × (decide w d ≡ refused → ⊥))
    (keeps : (w : W) (d : ℕ) (w' : W) → Good w → decide w d ≡ wants w' → Good w')
    (falls : (w : W) (d : ℕ) (w' : W) → Good w → decide w d ≡ wants w' → left w' < left w) where
  -- uses `bounded`
  pub allowed_below : (w : W) (d : ℕ) → Good w → allowed decide w d ≡ true → d < top
  allowed_below w d g a = go (dec_lt d top)
    where
      go : Dec (d < top) → d < top
      go (yes h) = h
      go (no h) = absurd (let e = bounded w d g (omega arith) in let q : ◌≡◌ {A = ℕ} 0 1 = cc in omega arith)

  -- uses `bounded`: where the larger decision is `top` or more, none above d is allowed
  pub larger-none : (w : W) (d e : ℕ) → Good w → top ≤ larger decide top w d → d < e → allowed decide w e ≡ false
  larger-none w d e g h a = go (dec_lt e top)
    where
      go : Dec (e < top) → allowed decide w e ≡ false
      go (yes b) = larger-least decide top w d e a (omega arith)
      go (no b) = rw (bounded w e g (omega arith))

  -- uses `bounded` and `some_allowed`
  pub smallest-allowed : (w : W) → Good w → allowed decide w (smallest decide top w) ≡ true
  unfolding smallest
  smallest-allowed w g =
      let s = some_allowed w g in
      let a : allowed decide w s.0 ≡ true = is (decide w s.0) s.1 in
      let b = allowed_below w s.0 g a in
      let c = smallest-le decide top w s.0 a in
      (seek_sought (allowed decide w) top 0).passes (omega arith)
    where
      is : (o : Outcome W Verdict) → (o ≡ refused → ⊥) → allowedb o ≡ true
      is refused n = absurd (n refl)
      is (done v) n = refl
      is (wants w') n = refl

  -- one allowed decision and then greedy is complete
  pub step-complete : (f : ℕ) → ((w' : W) → Good w' → left w' < f → Complete decide w' (greedy decide top f w'))
      → (w : W) (d : ℕ) → Good w → left w ≤ f → allowed decide w d ≡ true → Complete decide w (d ∷ go_on (decide w d) (greedy decide top f))
  step-complete f ih w d g h a = go (decide w d) refl
    where
      go : (o : Outcome W Verdict) → decide w d ≡ o → Complete decide w (d ∷ go_on o (greedy decide top f))
      go refused e = absurd (let q : ◌≡◌ {A = ℕ} 0 1 = cc in omega arith)
      go (done v) e = complete-done decide w d v e
      go (wants w') e = complete-wants decide w d w' (greedy decide top f w') e (ih w' (keeps w d w' g e) (omega (arith, falls w d w' g e)))

  -- greedy with enough fuel is complete
  pub greedy-complete : (f : ℕ) (w : W) → Good w → left w < f → Complete decide w (greedy decide top f w)
  unfolding greedy
  greedy-complete zero w g h = absurd (omega arith)
  greedy-complete (suc f) w g h = step-complete f (greedy-complete f) w (smallest decide top w) g (omega arith) (smallest-allowed w g)

  -- and is the smallest complete list
  pub greedy-first : (f : ℕ) (w : W) → Good w → left w < f → IsFirst decide w (greedy decide top f w)
  greedy-first f w g h = record { whole = greedy-complete f w g h; least = greedy-least decide top f w }

  -- more fuel changes nothing
  pub greedy_enough : (f h : ℕ) (w : W) → Good w → left w < f → left w < h → greedy decide top f w ≡ greedy decide top h w
  greedy_enough f h w g a b = first_unique decide w (greedy decide top f w) (greedy decide top h w) (greedy-first f w g a) (greedy-first h w g b)

  -- uses `keeps` and `falls`: no complete list is longer than this
  pub complete-length : (l : List ℕ) (w : W) → Good w → Complete decide w l → length l ≤ suc (left w)
  complete-length [] w g c = omega arith
  complete-length (d ∷ l) w g c = go (complete_cases decide w d l c) (complete-length l)
    where
      go : Done decide w d l ⊎ Wants decide w d l → ((w' : W) → Good w' → Complete decide w' l → length l ≤ suc (left w')) → suc (length l) ≤ suc (left w)
      go (inl a) ih = rw a.2 (omega arith)
      go (inr a) ih = omega (arith, ih a.0 (keeps w d a.0 g a.1) a.2, falls w d a.0 g a.1)
