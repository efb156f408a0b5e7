-- The laws of the walk, of specs/Walk.antt. It meets every complete list once, from the smallest to the largest.
--     times m L          how many times m is one of the lists
--     tree_enumerates    there is an L that enumerates
--     chain_by           any first and next that meet their statements give L, list by list, and then none
--     walk-by            so they walk through it
--     walk_enumerates, walk_once, walk_no_other, all_reached, enumerates_unique   of the walk by first_of and next_of
use Rattle.std.specs.Prelude.{◌≡◌, ◌⊎◌, None, Option, Some}
use Rattle.std.proofs.Math.Path.{refl}
use Rattle.std.proofs.Common.{sym, ◌∙◌, ap, inl, inr, arith}
use mathlib.Core.List.{List, [], ◌∷◌, ◌++◌}
use Prim.Native.Nat.{ℕ, zero, suc, ◌+◌, ◌≤◌, ◌<◌}
use Rattle.std.proofs.Math.Decide.{dec_lt}
use Rattle.std.proofs.Math.ListN.{length}
use Rattle.lists.specs.Order.{◌<ₗ◌, ◌≤ₗ◌}
use Rattle.lists.proofs.Order.{less_trans, less_irrefl, cons_less, trichotomy}
use Rattle.lists.specs.Rules.{Outcome, refused, done, wants, Complete, Done, Wants, IsFirst, IsNext, Answers}
use Rattle.lists.proofs.Rules.{first_unique, answers_unique, complete-nil, complete-done, complete-wants, complete_cases, complete-allowed}
use Rattle.lists.proofs.Greedy.{allowed_below}
use Rattle.lists.specs.Next.{first_of, next_of}
use Rattle.lists.proofs.Next.{first-first, next-answers}
use Rattle.lists.specs.Walk.{In, Rising, heads, branches, under, walk_on, Enumerates, tree, walk_from, Chain, Reached, at_first, by_next, walk}

-- how many times m is one of the lists
abbrev pub times_of : {m x : List ℕ} → (m <ₗ x) ⊎ ((m ≡ x) ⊎ (x <ₗ m)) → ℕ → ℕ
times_of (inl p) n = n
times_of (inr (inl e)) n = suc n
times_of (inr (inr q)) n = n

abbrev pub times : List ℕ → List (List ℕ) → ℕ
times m [] = 0
times m (x ∷ ls) = times_of (trichotomy m x) (times m ls)

in_append : (m : List ℕ) (a b : List (List ℕ)) → In m (a ++ b) → In m a ⊎ In m b
in_append m [] b i = inr i
in_append m (x ∷ a) b (inl e) = inl (inl e)
in_append m (x ∷ a) b (inr i) = go (in_append m a b i)
  where
    go : In m a ⊎ In m b → In m (x ∷ a) ⊎ In m b
    go (inl j) = inl (inr j)
    go (inr j) = inr j

in_left : (m : List ℕ) (a b : List (List ℕ)) → In m a → In m (a ++ b)
in_left m [] b i = absurd i
in_left m (x ∷ a) b (inl e) = inl e
in_left m (x ∷ a) b (inr i) = inr (in_left m a b i)

in_right : (m : List ℕ) (a b : List (List ℕ)) → In m b → In m (a ++ b)
in_right m [] b i = i
in_right m (x ∷ a) b i = inr (in_right m a b i)

rising_append : (a b : List (List ℕ)) → Rising a → Rising b → ((x y : List ℕ) → In x a → In y b → x <ₗ y) → Rising (a ++ b)
rising_append [] b p q c = q
rising_append (x ∷ a) b p q c = (λ m i. go m (in_append m a b i), rising_append a b p.1 q (λ y z i j. c y z (inr i) j))
  where
    go : (m : List ℕ) → In m a ⊎ In m b → x <ₗ m
    go m (inl i) = p.0 m i
    go m (inr i) = c x m (inl refl) i

in_heads : (d : ℕ) (m : List ℕ) (ls : List (List ℕ)) → In m (heads d ls) → (t : List ℕ) × (m ≡ d ∷ t) × In t ls
in_heads d m [] i = absurd i
in_heads d m (l ∷ ls) (inl e) = (l, e, inl refl)
in_heads d m (l ∷ ls) (inr i) = let r = in_heads d m ls i in (r.0, r.1, inr r.2)

heads_in : (d : ℕ) (t : List ℕ) (ls : List (List ℕ)) → In t ls → In (d ∷ t) (heads d ls)
heads_in d t [] i = absurd i
heads_in d t (l ∷ ls) (inl e) = inl (ap (λ (s : List ℕ). d ∷ s) e)
heads_in d t (l ∷ ls) (inr i) = inr (heads_in d t ls i)

rising_heads : (d : ℕ) (ls : List (List ℕ)) → Rising ls → Rising (heads d ls)
rising_heads d [] p = tt
rising_heads d (l ∷ ls) p = (below, rising_heads d ls p.1)
  where
    below : (m : List ℕ) → In m (heads d ls) → (d ∷ l) <ₗ m
    below m i = let r = in_heads d m ls i in rw r.1 (cons_less d l r.0 (p.0 r.0 r.2))

in_branches : (g : ℕ → List (List ℕ)) (n k : ℕ) (m : List ℕ) → In m (branches g n k) → (d : ℕ) × (k ≤ d) × (d < k + n) × In m (g d)
in_branches g zero k m i = absurd i
in_branches g (suc n) k m i = go (in_append m (g k) (branches g n (suc k)) i) (in_branches g n (suc k) m)
  where
    go : In m (g k) ⊎ In m (branches g n (suc k)) → (In m (branches g n (suc k)) → (d : ℕ) × (suc k ≤ d) × (d < suc k + n) × In m (g d))
        → (d : ℕ) × (k ≤ d) × (d < k + suc n) × In m (g d)
    go (inl j) ih = (k, omega arith, omega arith, j)
    go (inr j) ih = let r = ih j in let a = r.1 in let b = r.2 in (r.0, omega arith, omega arith, r.3)

branches_in : (g : ℕ → List (List ℕ)) (n k : ℕ) (m : List ℕ) (d : ℕ) → k ≤ d → d < k + n → In m (g d) → In m (branches g n k)
branches_in g zero k m d a b i = absurd (omega arith)
branches_in g (suc n) k m d a b i = go (dec_lt k d) (branches_in g n (suc k) m d)
  where
    go : Dec (k < d) → (suc k ≤ d → d < suc k + n → In m (g d) → In m (branches g n (suc k))) → In m (g k ++ branches g n (suc k))
    go (yes h) ih = in_right m (g k) (branches g n (suc k)) (ih h (omega arith) i)
    go (no h) ih = let same : k ≡ d = omega arith in in_left m (g k) (branches g n (suc k)) (rw same i)

rising_branches : (g : ℕ → List (List ℕ)) → ((d : ℕ) (m : List ℕ) → In m (g d) → (t : List ℕ) × (m ≡ d ∷ t)) → ((d : ℕ) → Rising (g d)) → (n k : ℕ) → Rising (branches g n k)
rising_branches g starts each zero k = tt
rising_branches g starts each (suc n) k = rising_append (g k) (branches g n (suc k)) (each k) (rising_branches g starts each n (suc k)) across
  where
    across : (x y : List ℕ) → In x (g k) → In y (branches g n (suc k)) → x <ₗ y
    across x y i j =
        let r = in_branches g n (suc k) y j in
        let a = starts k x i in
        let b = starts r.0 y r.3 in
        let h = r.1 in
        rw (a.1, b.1) (inl h)

-- a list is met once
pub times_none : (m : List ℕ) (ls : List (List ℕ)) → (In m ls → ⊥) → times m ls ≡ 0
times_none m [] n = refl
times_none m (x ∷ ls) n = go (trichotomy m x) (times_none m ls (λ i. n (inr i)))
  where
    go : (t : (m <ₗ x) ⊎ ((m ≡ x) ⊎ (x <ₗ m))) → times m ls ≡ 0 → times_of t (times m ls) ≡ 0
    go (inl p) ih = ih
    go (inr (inl e)) ih = absurd (n (inl e))
    go (inr (inr q)) ih = ih

pub times_once : (m : List ℕ) (ls : List (List ℕ)) → Rising ls → In m ls → times m ls ≡ 1
times_once m [] r i = absurd i
times_once m (x ∷ ls) r i = go (trichotomy m x) i (times_once m ls r.1)
  where
    go : (t : (m <ₗ x) ⊎ ((m ≡ x) ⊎ (x <ₗ m))) → (m ≡ x) ⊎ In m ls → (In m ls → times m ls ≡ 1) → times_of t (times m ls) ≡ 1
    go (inl p) (inl e) ih = absurd (less_irrefl x (rw e at p))
    go (inl p) (inr j) ih = ih j
    go (inr (inl e)) j ih = ap suc (times_none m ls (λ k. less_irrefl x (rw e at (r.0 m k))))
    go (inr (inr q)) (inl e) ih = absurd (less_irrefl x (rw e at q))
    go (inr (inr q)) (inr j) ih = ih j

module _ {W Verdict : Type 0} (decide : W → ℕ → Outcome W Verdict) (top : ℕ) where
  under_starts : (o : Outcome W Verdict) (t : W → List (List ℕ)) (d : ℕ) (m : List ℕ) → In m (under o d t) → (s : List ℕ) × (m ≡ d ∷ s)
  under_starts refused t d m i = absurd i
  under_starts (done v) t d m (inl e) = ([], e)
  under_starts (done v) t d m (inr i) = absurd i
  under_starts (wants w) t d m i = let r = in_heads d m (t w) i in (r.0, r.1)

  rising_under : (o : Outcome W Verdict) (t : W → List (List ℕ)) (d : ℕ) → ((w : W) → Rising (t w)) → Rising (under o d t)
  rising_under refused t d p = tt
  rising_under (done v) t d p = (λ m i. absurd i, tt)
  rising_under (wants w) t d p = rising_heads d (t w) (p w)

  pub tree_rising : (f : ℕ) (w : W) → Rising (tree decide top f w)
  unfolding tree
  tree_rising zero w = tt
  tree_rising (suc f) w =
      rising_branches (λ d. under (decide w d) d (tree decide top f)) (λ d m i. under_starts (decide w d) (tree decide top f) d m i) (λ d. rising_under (decide w d) (tree decide top f) d (tree_rising f)) top 0

  pub tree_whole : (f : ℕ) (w : W) (m : List ℕ) → In m (tree decide top f w) → Complete decide w m
  unfolding tree
  tree_whole zero w m i = absurd i
  tree_whole (suc f) w m i =
      let r = in_branches (λ d. under (decide w d) d (tree decide top f)) top 0 m i in
      go r.0 (decide w r.0) refl r.3 (tree_whole f)
    where
      go : (d : ℕ) (o : Outcome W Verdict) → decide w d ≡ o → In m (under o d (tree decide top f)) → ((w' : W) (n : List ℕ) → In n (tree decide top f w') → Complete decide w' n) → Complete decide w m
      go d refused e j ih = absurd j
      go d (done v) e (inl s) ih = rw s (complete-done decide w d v e)
      go d (done v) e (inr s) ih = absurd s
      go d (wants w') e j ih = let r = in_heads d m (tree decide top f w') j in rw r.1 (complete-wants decide w d w' r.0 e (ih w' r.0 r.2))

chain_walk : (next : List ℕ → Option (List ℕ)) (ls : List (List ℕ)) (x : List ℕ) (n : ℕ) → Chain next x ls → length ls < n → walk_from next n x ≡ x ∷ ls
unfolding walk_from
chain_walk next [] x zero c h = absurd (omega arith)
chain_walk next [] x (suc n) c h = rw c refl
chain_walk next (y ∷ ls) x zero c h = absurd (omega arith)
chain_walk next (y ∷ ls) x (suc n) c h = rw c.0 (ap (λ (k : List (List ℕ)). x ∷ k) (chain_walk next ls y n c.1 (omega arith)))

-- Any `first` and `next` of which what the rules say is true walk through every list that enumerates. Nothing is assumed of the machine
module _ {W Verdict : Type 0} (decide : W → ℕ → Outcome W Verdict) (w : W) (next : List ℕ → Option (List ℕ))
    (answers : (l : List ℕ) → Complete decide w l → Answers decide w l (next l)) where
  -- from the list x on, where x ∷ ls are the complete lists from x up
  chain_from : (ls : List (List ℕ)) (x : List ℕ) → Rising (x ∷ ls) → ((m : List ℕ) → In m (x ∷ ls) → Complete decide w m)
      → ((m : List ℕ) → Complete decide w m → x <ₗ m → In m ls) → Chain next x ls
  chain_from [] x r c a = answers_unique decide w x (next x) None (answers x (c x (inl refl))) a
  chain_from (y ∷ ls) x r c a = (answers_unique decide w x (next x) (Some y) (answers x (c x (inl refl))) after, chain_from ls y r.1 (λ m i. c m (inr i)) onward)
    where
      least_of : (m : List ℕ) → In m (y ∷ ls) → y ≤ₗ m
      least_of m (inl e) = inl (sym e)
      least_of m (inr i) = inr (r.1.0 m i)

      after : IsNext decide w x y
      after = record { whole = c y (inr (inl refl)); above = r.0 y (inl refl); least = λ m k p. least_of m (a m k p) }

      past : (m : List ℕ) → y <ₗ m → In m (y ∷ ls) → In m ls
      past m p (inl e) = absurd (less_irrefl y (rw e at p))
      past m p (inr i) = i

      onward : (m : List ℕ) → Complete decide w m → y <ₗ m → In m ls
      onward m k p = past m p (a m k (less_trans x y m (r.0 y (inl refl)) p))

  module _ (first : List ℕ) (is-first : IsFirst decide w first) where
    pub chain_by : (ls : List (List ℕ)) → Enumerates decide w ls → (rest : List (List ℕ)) × (ls ≡ first ∷ rest) × Chain next first rest
    chain_by [] s = absurd (s.all first is-first.whole)
    chain_by (x ∷ ls) s =
        let e = first_unique decide w first x is-first least in
        (ls, ap (λ (y : List ℕ). y ∷ ls) (sym e), (rw e (chain_from ls x s.rising s.whole (λ m k p. past m p (s.all m k)))))
      where
        least_of : (m : List ℕ) → In m (x ∷ ls) → x ≤ₗ m
        least_of m (inl e) = inl (sym e)
        least_of m (inr i) = inr (s.rising.0 m i)

        least : IsFirst decide w x
        least = record { whole = s.whole x (inl refl); least = λ m k. least_of m (s.all m k) }

        past : (m : List ℕ) → x <ₗ m → In m (x ∷ ls) → In m ls
        past m p (inl e) = absurd (less_irrefl x (rw e at p))
        past m p (inr i) = i

    pub walk-by : (ls : List (List ℕ)) (n : ℕ) → Enumerates decide w ls → length ls ≤ n → walk_from next n first ≡ ls
    walk-by ls n s h =
        let r = chain_by ls s in
        chain_walk next r.0 first n r.2 (omega (arith, h, ap length r.1)) ∙ sym r.1

pub reached_in : (first : List ℕ) (next : List ℕ → Option (List ℕ)) (n : ℕ) (l m : List ℕ) → Reached first next l → In m (walk_from next n l) → Reached first next m
unfolding walk_from
reached_in first next zero l m r i = absurd i
reached_in first next (suc n) l m r (inl e) = rw e r
reached_in first next (suc n) l m r (inr i) = go (next l) refl i (λ x. reached_in first next n x m)
  where
    go : (o : Option (List ℕ)) → next l ≡ o → In m (walk_on o (walk_from next n)) → ((x : List ℕ) → Reached first next x → In m (walk_from next n x) → Reached first next m) → Reached first next m
    go None e j ih = absurd j
    go (Some x) e j ih = ih x (by_next r e) j

module _ {W Verdict : Type 0} (decide : W → ℕ → Outcome W Verdict) (top : ℕ) (left : W → ℕ) (Good : W → Type 0)
    (bounded : (w : W) (d : ℕ) → Good w → top ≤ d → decide w d ≡ refused)
    (some_allowed : (w : W) → Good w → (d : ℕ) × (decide w d ≡ refused → ⊥))
    (keeps : (w : W) (d : ℕ) (w' : W) → Good w → decide w d ≡ wants w' → Good w')
    (falls : (w : W) (d : ℕ) (w' : W) → Good w → decide w d ≡ wants w' → left w' < left w) where
  pub tree_all : (f : ℕ) (w : W) (m : List ℕ) → Good w → left w < f → Complete decide w m → In m (tree decide top f w)
  unfolding tree
  tree_all zero w m g h c = absurd (omega arith)
  tree_all (suc f) w [] g h c = absurd (complete-nil decide w c)
  tree_all (suc f) w (d ∷ m) g h c = branches_in (λ e. under (decide w e) e (tree decide top f)) top 0 (d ∷ m) d (omega arith) (omega (arith, small)) (go (complete_cases decide w d m c) (λ w'. tree_all f w' m))
    where
      small : d < top
      small = allowed_below decide top left Good bounded some_allowed keeps falls w d g (complete-allowed decide w d m c)

      go : Done decide w d m ⊎ Wants decide w d m → ((w' : W) → Good w' → left w' < f → Complete decide w' m → In m (tree decide top f w'))
          → In (d ∷ m) (under (decide w d) d (tree decide top f))
      go (inl a) ih = rw (a.1, a.2) (inl refl)
      go (inr a) ih = rw a.1 (heads_in d m (tree decide top f a.0) (ih a.0 (keeps w d a.0 g a.1) (omega (arith, falls w d a.0 g a.1)) a.2))

  pub tree_enumerates : (f : ℕ) (w : W) → Good w → left w < f → Enumerates decide w (tree decide top f w)
  tree_enumerates f w g h = record {
    rising = tree_rising decide top f w;
    whole = tree_whole decide top f w;
    all = λ m c. tree_all f w m g h c;
  }

  -- the walk is every list of lists that enumerates, given as many turns as it has lists
  pub walk_is : (w : W) (ls : List (List ℕ)) (n : ℕ) → Good w → Enumerates decide w ls → length ls ≤ n → walk decide top left n w ≡ ls
  unfolding walk
  walk_is w ls n g s h =
      walk-by decide w (next_of decide top left w) (λ l c. next-answers decide top left Good bounded some_allowed keeps falls w l g c)
      (first_of decide top left w) (first-first decide top left Good bounded some_allowed keeps falls w g) ls n s h

  -- THE WALK THEOREM: with as many turns as there are complete lists, the walk lists the complete lists, each once, rising
  pub walk_enumerates : (n : ℕ) (w : W) → Good w → length (tree decide top (suc (left w)) w) ≤ n → Enumerates decide w (walk decide top left n w)
  walk_enumerates n w g h =
      let s = tree_enumerates (suc (left w)) w g (omega arith) in
      rw (walk_is w (tree decide top (suc (left w)) w) n g s h) s

  -- any two lists that enumerate are equal
  pub enumerates_unique : (w : W) (a b : List (List ℕ)) → Good w → Enumerates decide w a → Enumerates decide w b → a ≡ b
  enumerates_unique w a b g p q =
      sym (walk_is w a (length a + length b) g p (omega arith)) ∙ walk_is w b (length a + length b) g q (omega arith)

  -- every complete list is met once, and no other list is met
  pub walk_once : (n : ℕ) (w : W) (m : List ℕ) → Good w → length (tree decide top (suc (left w)) w) ≤ n → Complete decide w m → times m (walk decide top left n w) ≡ 1
  walk_once n w m g h c = let s = walk_enumerates n w g h in times_once m (walk decide top left n w) s.rising (s.all m c)

  pub walk_no_other : (n : ℕ) (w : W) (m : List ℕ) → Good w → length (tree decide top (suc (left w)) w) ≤ n → (Complete decide w m → ⊥) → times m (walk decide top left n w) ≡ 0
  walk_no_other n w m g h c = let s = walk_enumerates n w g h in times_none m (walk decide top left n w) (λ i. c (s.whole m i))

  -- every complete list is reached from the first by nexts
  pub all_reached : (w : W) (m : List ℕ) → Good w → Complete decide w m → Reached (first_of decide top left w) (next_of decide top left w) m
  unfolding walk
  all_reached w m g c =
      let n = length (tree decide top (suc (left w)) w) in
      reached_in (first_of decide top left w) (next_of decide top left w) n (first_of decide top left w) m (at_first refl) ((walk_enumerates n w g (omega arith)).all m c)
