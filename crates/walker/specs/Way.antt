-- A complete list, place by place, for any machine: the worlds on its way, and the larger decisions there.
--     Reaches w l v     the decisions of l lead from w to v, where another is wanted
--     laters w l        at each place of l the smallest larger decision that is allowed
--     later-none, later_at_lem   the next list, by the last place whose larger decision is below `top`
use Rattle.std.specs.Prelude.{◌≡◌, ◌⊎◌, take, get_or, None, Some}
use Rattle.std.proofs.Math.Path.{refl, ap}
use Rattle.std.proofs.Common.{sym, ◌∙◌, subst, inl, inr}
use mathlib.Core.List.{List, [], ◌∷◌, ◌++◌}
use Prim.Native.Nat.{ℕ, zero, suc, ◌+◌, ◌≤◌, ◌<◌}
use native.Mathlib.Omega.{arith}
use Rattle.std.proofs.Math.ListN.{length}
use borrow.Author.Tests.{lt-ltb, le-ltb}
use Rattle.lists.specs.Rules.{Outcome, refused, done, wants, Complete, Done, Wants}
use Rattle.lists.proofs.Rules.{complete-nil, complete_cases, complete_tail}
use Rattle.lists.specs.Judge.{unfinished, judge}
use Rattle.lists.specs.Greedy.{go_on, larger}
use Rattle.lists.specs.Next.{raised, later}

-- the world that is wanted
abbrev wanted : {W Verdict : Type 0} → W → Outcome W Verdict → W
wanted d refused = d
wanted d (done v) = d
wanted d (wants w) = w

module _ {W Verdict : Type 0} (decide : W → ℕ → Outcome W Verdict) where
  abbrev pub Reaches : W → List ℕ → W → Type 0
  Reaches w [] v = w ≡ v
  Reaches w (d ∷ l) v = (u : W) × (decide w d ≡ wants u) × Reaches u l v

  same_wanted : (w : W) (d : ℕ) (u v : W) → decide w d ≡ wants u → decide w d ≡ wants v → u ≡ v
  same_wanted w d u v a b = ap (wanted w) (sym a ∙ b)

  pub judge_reaches : (l : List ℕ) (i : ℕ) (w v : W) → Reaches w l v → judge decide i w l ≡ unfinished v
  unfolding judge
  judge_reaches [] i w v e = ap unfinished e
  judge_reaches (d ∷ l) i w v r = rw r.1 (judge_reaches l (suc i) r.0 v r.2)

  -- the way on from a world on the way
  pub reaches_rest : (a b : List ℕ) (w u v : W) → Reaches w a u → Reaches w (a ++ b) v → Reaches u b v
  reaches_rest [] b w u v e r = subst (λ (x : W). Reaches x b v) e r
  reaches_rest (d ∷ a) b w u v r s =
      reaches_rest a b r.0 u v r.2 (subst (λ (x : W). Reaches x (a ++ b) v) (same_wanted w d s.0 r.0 s.1 r.1) s.2)

  -- the judgement of a list is that of its rest, where its first part leads on
  pub judge_on : (a b : List ℕ) (i : ℕ) (w u : W) → Reaches w a u → judge decide i w (a ++ b) ≡ judge decide (i + length a) u b
  unfolding judge
  judge_on [] b i w u e = let z : i + 0 ≡ i = omega arith in (λ j. judge decide (sym z j) (e j) b)
  judge_on (d ∷ a) b i w u r = let z : suc i + length a ≡ i + suc (length a) = omega arith in rw r.1 (judge_on a b (suc i) r.0 u r.2 ∙ ap (λ (k : ℕ). judge decide k u b) z)

  -- a complete list leads to each of its places
  pub complete_reaches : (l : List ℕ) (p : ℕ) (w : W) → Complete decide w l → p < length l → (v : W) × Reaches w (take p l) v
  complete_reaches [] p w c h = absurd (complete-nil decide w c)
  complete_reaches (d ∷ l) zero w c h = (w, refl)
  complete_reaches (d ∷ l) (suc p) w c h = go (complete_cases decide w d l c) (λ u k. complete_reaches l p u k (omega (arith, h)))
    where
      go : Done decide w d l ⊎ Wants decide w d l → ((u : W) → Complete decide u l → (v : W) × Reaches u (take p l) v) → (v : W) × Reaches w (d ∷ take p l) v
      go (inl a) ih = absurd (omega (arith, h, ap length a.2))
      go (inr a) ih = let r = ih a.0 a.2 in (r.0, (a.0, a.1, r.1))

  pub reaches_same : (l : List ℕ) (w u v : W) → Reaches w l u → Reaches w l v → u ≡ v
  reaches_same [] w u v a b = sym a ∙ b
  reaches_same (d ∷ l) w u v a b = reaches_same l a.0 u v a.2 (subst (λ (x : W). Reaches x l v) (same_wanted w d b.0 a.0 b.1 a.1) b.2)

  -- what each decision keeps is kept on the way, and what falls with each falls by its length
  module _ (left : W → ℕ) (Good : W → Type 0) (keeps : (w : W) (d : ℕ) (v : W) → Good w → decide w d ≡ wants v → Good v)
      (falls : (w : W) (d : ℕ) (v : W) → Good w → decide w d ≡ wants v → left v < left w) where
    pub reaches_keeps : (l : List ℕ) (w v : W) → Good w → Reaches w l v → Good v × (length l + left v ≤ left w)
    reaches_keeps [] w v g e = (subst Good e g, let z : left w ≡ left v = ap left e in omega (arith, z))
    reaches_keeps (d ∷ l) w v g r =
        let s = reaches_keeps l r.0 v (keeps w d r.0 g r.1) r.2 in
        (s.0, omega (arith, s.1, falls w d r.0 g r.1))

  module _ (top : ℕ) (left : W → ℕ) where
    unfoldable pub laters : W → List ℕ → List ℕ
    laters w [] = []
    laters w (d ∷ l) = larger decide top w d ∷ go_on (decide w d) (λ v. laters v l)

    pub laters_get : (l : List ℕ) (p : ℕ) (w v : W) → Reaches w (take p l) v → p < length l → get_or (laters w l) p 0 ≡ larger decide top v (get_or l p 0)
    unfolding laters
    laters_get [] p w v r h = absurd (omega (arith, h))
    laters_get (d ∷ l) zero w v r h = ap (λ (x : W). larger decide top x d) r
    laters_get (d ∷ l) (suc p) w v r h = rw r.1 (laters_get l p r.0 v r.2 (omega (arith, h)))

    -- behind a way
    pub laters_on : (a b : List ℕ) (w u : W) → Reaches w a u → laters w (a ++ b) ≡ take (length a) (laters w (a ++ b)) ++ laters u b
    unfolding laters
    laters_on [] b w u e = ap (λ (x : W). laters x b) e
    laters_on (d ∷ a) b w u r = rw r.1 (ap (λ (k : List ℕ). larger decide top w d ∷ k) (laters_on a b r.0 u r.2))

    -- and the front part of it is that of any list with the same way
    pub laters_front : (a b c : List ℕ) (w u : W) → Reaches w a u → take (length a) (laters w (a ++ b)) ≡ take (length a) (laters w (a ++ c))
    unfolding laters
    laters_front [] b c w u e = refl
    laters_front (d ∷ a) b c w u r = rw r.1 (ap (λ (k : List ℕ). larger decide top w d ∷ k) (laters_front a b c r.0 u r.2))

    pub later-none : (l : List ℕ) (w : W) → Complete decide w l → ((i : ℕ) → i < length l → top ≤ get_or (laters w l) i 0) → later decide top left w l ≡ None
    unfolding later laters
    later-none [] w c h = refl
    later-none (d ∷ l) w c h = go (complete_cases decide w d l c) (λ u. later-none l u)
      where
        none_here : top ≤ larger decide top w d
        none_here = h 0 (omega arith)

        go : Done decide w d l ⊎ Wants decide w d l → ((u : W) → Complete decide u l → ((i : ℕ) → i < length l → top ≤ get_or (laters u l) i 0) → later decide top left u l ≡ None)
            → later decide top left w (d ∷ l) ≡ None
        go (inl a) ih = rw (a.1, le-ltb (larger decide top w d) top none_here)
        go (inr a) ih = rw (a.1, ih a.0 a.2 (λ i k. let z = h (suc i) (omega (arith, k)) in rw a.1 at z), le-ltb (larger decide top w d) top none_here)

    pub later_at_lem : (l : List ℕ) (p : ℕ) (w v : W) → Complete decide w l → Reaches w (take p l) v → p < length l → get_or (laters w l) p 0 < top
        → ((i : ℕ) → p < i → i < length l → top ≤ get_or (laters w l) i 0) → later decide top left w l ≡ Some (take p l ++ raised decide top left v (get_or (laters w l) p 0))
    unfolding later laters
    later_at_lem [] p w v c r h b n = absurd (complete-nil decide w c)
    later_at_lem (d ∷ l) zero w v c r h b n =
        go (complete_cases decide w d l c) ∙ ap (λ (x : W). Some (raised decide top left x (larger decide top w d))) r
      where
        go : Done decide w d l ⊎ Wants decide w d l → later decide top left w (d ∷ l) ≡ Some (raised decide top left w (larger decide top w d))
        go (inl a) = rw (a.1, lt-ltb (larger decide top w d) top b)
        go (inr a) = rw (a.1, later-none l a.0 a.2 (λ i k. let z = n (suc i) (omega arith) (omega (arith, k)) in rw a.1 at z), lt-ltb (larger decide top w d) top b)
    later_at_lem (d ∷ l) (suc p) w v c r h b n =
        let u : W = r.0 in
        let s : decide w d ≡ wants u = r.1 in
        let ih = later_at_lem l p u v (complete_tail decide w d u l s c) r.2 (omega (arith, h)) (rw s at b) (λ i a k. let z = n (suc i) (omega (arith, a)) (omega (arith, k)) in rw s at z) in
        rw (s, ih)
