-- What the rules alone say: a decision's outcome, a complete list, the smallest and the next list, each with no word on how it is found. The laws are in
-- proofs/Rules.antt.
--     Outcome                  refused, done with a verdict, or the next decision is wanted
--     complete, Complete       the decisions run to a verdict exactly at the last: as a test, and as a fact
--     IsFirst, IsNext, IsLast  the smallest complete list; the smallest larger one; there is none larger
--     Answers                  what the answer of "next" has to say: a list, or none
use Rattle.std.specs.Prelude.{◌≡◌, Bool, true, false, ℕ, None, Option, Some}
use mathlib.Core.List.{List, [], ◌∷◌}
use Rattle.std.proofs.Math.Dec.{T}
use Rattle.lists.specs.Order.{◌<ₗ◌, ◌≤ₗ◌}

pub data Outcome (W Verdict : Type 0) : Type 0 where
  refused : Outcome W Verdict
  done : Verdict → Outcome W Verdict
  wants : W → Outcome W Verdict

-- a decision is allowed when it is not refused
abbrev pub allowedb : {W Verdict : Type 0} → Outcome W Verdict → Bool
allowedb refused = false
allowedb (done v) = true
allowedb (wants w) = true

abbrev pub is_nil : List ℕ → Bool
is_nil [] = true
is_nil (d ∷ l) = false

-- after an outcome the rest of a list is right: none is left after a verdict, and `k` tests it from the next world
abbrev pub afterb : {W Verdict : Type 0} → Outcome W Verdict → Bool → (W → Bool) → Bool
afterb refused n k = false
afterb (done v) n k = n
afterb (wants w) n k = k w

module _ {W Verdict : Type 0} (decide : W → ℕ → Outcome W Verdict) where
  abbrev pub allowed : W → ℕ → Bool
  allowed w d = allowedb (decide w d)

  -- the decisions run, each allowed, to a verdict exactly at the last one
  unfoldable pub complete : W → List ℕ → Bool
  complete w [] = false
  complete w (d ∷ l) = afterb (decide w d) (is_nil l) (λ v. complete v l)

  abbrev pub Complete : W → List ℕ → Type 0
  Complete w l = T (complete w l)

  -- the two ways to be complete
  abbrev pub Done : W → ℕ → List ℕ → Type 0
  Done w d l = (v : Verdict) × (decide w d ≡ done v) × (l ≡ [])

  abbrev pub Wants : W → ℕ → List ℕ → Type 0
  Wants w d l = (w' : W) × (decide w d ≡ wants w') × Complete w' l

  -- the smallest complete list
  pub record IsFirst (w : W) (m : List ℕ) : Type 0 where
    pub whole : Complete w m
    pub least : (n : List ℕ) → Complete w n → m ≤ₗ n

  -- the smallest complete list above l
  pub record IsNext (w : W) (l m : List ℕ) : Type 0 where
    pub whole : Complete w m
    pub above : l <ₗ m
    pub least : (n : List ℕ) → Complete w n → l <ₗ n → m ≤ₗ n

  -- no complete list is above l
  abbrev pub IsLast : W → List ℕ → Type 0
  IsLast w l = (n : List ℕ) → Complete w n → l <ₗ n → ⊥

  -- what the answer of "next" has to say
  abbrev pub Answers : W → List ℕ → Option (List ℕ) → Type 0
  Answers w l None = IsLast w l
  Answers w l (Some m) = IsNext w l m
