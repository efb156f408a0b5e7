-- The next complete list: the last place where a larger decision is allowed is raised to the least one, and greedy completes it. The laws are in
-- proofs/Next.antt.
--     first_of             the greedy completion from the start
--     later               the next list, by recursion from the back: the form that is proved right
--     pass, next_of        one forward pass that keeps the last pivot so far: the form of the code
use Rattle.std.specs.Prelude.{Bool, true, false, cond, ltb, take, None, Option, Some}
use mathlib.Core.List.{List, [], ◌∷◌, ◌++◌}
use Prim.Native.Nat.{ℕ, suc}
use Rattle.lists.specs.Rules.{Outcome, refused, done, wants}
use Rattle.lists.specs.Greedy.{go_on, larger, greedy}

-- the first of two answers that is a list
abbrev pub or_else : Option (List ℕ) → Option (List ℕ) → Option (List ℕ)
or_else None r = r
or_else (Some m) r = Some m

-- an answer behind a prefix
abbrev pub behind : List ℕ → Option (List ℕ) → Option (List ℕ)
behind kept None = None
behind kept (Some m) = Some (kept ++ m)

-- the last place so far where a larger decision is allowed: its index, its world, the larger decision
pub data Pivot (W : Type 0) : Type 0 where
  nowhere : Pivot W
  at : ℕ → W → ℕ → Pivot W

abbrev pub later_at : {W Verdict : Type 0} → Outcome W Verdict → ℕ → Option (List ℕ) → (W → Option (List ℕ)) → Option (List ℕ)
later_at refused d raised k = None
later_at (done v) d raised k = raised
later_at (wants w) d raised k = or_else (behind (d ∷ []) (k w)) raised

abbrev pub pass_at : {W Verdict : Type 0} → Outcome W Verdict → Pivot W → Pivot W → (Pivot W → W → Pivot W) → Pivot W
pass_at refused best b k = best
pass_at (done v) best b k = b
pass_at (wants w) best b k = k b w

module _ {W Verdict : Type 0} (decide : W → ℕ → Outcome W Verdict) (top : ℕ) (left : W → ℕ) where
  unfoldable pub first_of : W → List ℕ
  first_of w = greedy decide top (suc (left w)) w

  -- decision e in the world w, and then greedy
  unfoldable pub raised : W → ℕ → List ℕ
  raised w e = e ∷ go_on (decide w e) (greedy decide top (left w))

  abbrev pub raised_if : Bool → W → ℕ → Option (List ℕ)
  raised_if true w e = Some (raised w e)
  raised_if false w e = None

  -- decision d raised, if it can be
  abbrev pub raise : W → ℕ → Option (List ℕ)
  raise w d = raised_if (ltb (larger decide top w d) top) w (larger decide top w d)

  unfoldable pub later : W → List ℕ → Option (List ℕ)
  later w [] = None
  later w (d ∷ l) = later_at (decide w d) d (raise w d) (λ w'. later w' l)

  -- the pivot after the decision d at index i
  abbrev pub better : Pivot W → ℕ → W → ℕ → Pivot W
  better best i w d = cond (ltb (larger decide top w d) top) (at i w (larger decide top w d)) best

  unfoldable pub pass : Pivot W → ℕ → W → List ℕ → Pivot W
  pass best i w [] = best
  pass best i w (d ∷ l) = pass_at (decide w d) best (better best i w d) (λ b w'. pass b (suc i) w' l)

  abbrev pub finish : List ℕ → Pivot W → Option (List ℕ)
  finish l nowhere = None
  finish l (at i w e) = Some (take i l ++ raised w e)

  unfoldable pub next_of : W → List ℕ → Option (List ℕ)
  next_of w l = finish l (pass nowhere 0 w l)
