-- The walk: first, next, next, .. until none. The laws are in proofs/Walk.antt: it meets every complete list once, from the smallest to the largest.
--     Enumerates w L     L rises strictly, each of its lists is complete, and each complete list is in it
--     tree f w           every complete list, by the tree of decisions, with no word of first and next
--     walk_from next n l  l, the list after it, and so on, at most n lists
--     walk n w           the walk by first_of and next_of
--     Chain              what a `next` gives, list by list, and then none
use Rattle.std.specs.Prelude.{◌≡◌, ◌⊎◌, None, Option, Some}
use mathlib.Core.List.{List, [], ◌∷◌, ◌++◌}
use Prim.Native.Nat.{ℕ, zero, suc}
use Rattle.lists.specs.Order.{◌<ₗ◌}
use Rattle.lists.specs.Rules.{Outcome, refused, done, wants, Complete}
use Rattle.lists.specs.Next.{first_of, next_of}

-- m is one of the lists
abbrev pub In : List ℕ → List (List ℕ) → Type 0
In m [] = ⊥
In m (x ∷ ls) = (m ≡ x) ⊎ In m ls

-- each list is below all that come after it
abbrev pub Rising : List (List ℕ) → Type 0
Rising [] = Unit {0}
Rising (x ∷ ls) = ((m : List ℕ) → In m ls → x <ₗ m) × Rising ls

-- each list behind the decision d
abbrev pub heads : ℕ → List (List ℕ) → List (List ℕ)
heads d [] = []
heads d (l ∷ ls) = (d ∷ l) ∷ heads d ls

-- the lists of g k, .., g (k + n - 1)
abbrev pub branches : (ℕ → List (List ℕ)) → ℕ → ℕ → List (List ℕ)
branches g zero k = []
branches g (suc n) k = g k ++ branches g n (suc k)

abbrev pub under : {W Verdict : Type 0} → Outcome W Verdict → ℕ → (W → List (List ℕ)) → List (List ℕ)
under refused d t = []
under (done v) d t = (d ∷ []) ∷ []
under (wants w) d t = heads d (t w)

abbrev pub walk_on : Option (List ℕ) → (List ℕ → List (List ℕ)) → List (List ℕ)
walk_on None k = []
walk_on (Some m) k = k m

-- L lists the complete lists: each of them once, rising. It speaks of the rules only
module _ {W Verdict : Type 0} (decide : W → ℕ → Outcome W Verdict) where
  pub record Enumerates (w : W) (ls : List (List ℕ)) : Type 0 where
    pub rising : Rising ls
    pub whole : (m : List ℕ) → In m ls → Complete decide w m
    pub all : (m : List ℕ) → Complete decide w m → In m ls

module _ {W Verdict : Type 0} (decide : W → ℕ → Outcome W Verdict) (top : ℕ) where
  unfoldable pub tree : ℕ → W → List (List ℕ)
  tree zero w = []
  tree (suc f) w = branches (λ d. under (decide w d) d (tree f)) top 0

-- the walk by any `next`: l, the list after it, and so on, n lists at most
unfoldable pub walk_from : (List ℕ → Option (List ℕ)) → ℕ → List ℕ → List (List ℕ)
walk_from next zero l = []
walk_from next (suc n) l = l ∷ walk_on (next l) (walk_from next n)

-- what `next` gives from the list x on: the first of ls, of that one the second, and so on, and of the last none
abbrev pub Chain : (List ℕ → Option (List ℕ)) → List ℕ → List (List ℕ) → Type 0
Chain next x [] = next x ≡ None
Chain next x (y ∷ ls) = (next x ≡ Some y) × Chain next y ls

-- the lists that are met from the first on
pub data Reached (first : List ℕ) (next : List ℕ → Option (List ℕ)) : List ℕ → Type 0 where
  at_first : {m : List ℕ} → m ≡ first → Reached first next m
  by_next : {l m : List ℕ} → Reached first next l → next l ≡ Some m → Reached first next m

module _ {W Verdict : Type 0} (decide : W → ℕ → Outcome W Verdict) (top : ℕ) (left : W → ℕ) where
  unfoldable pub walk : ℕ → W → List (List ℕ)
  walk n w = walk_from (next_of decide top left w) n (first_of decide top left w)
