-- A list judged as it runs, with the places that the refusals name: the first decision that is not allowed, the first surplus one. The laws are in
-- proofs/Judge.antt.
--     judge i w l        the judgement of l from the world w, whose first decision has the index i
use Rattle.std.specs.Prelude.{Bool, true, false}
use mathlib.Core.List.{List, [], ◌∷◌}
use Prim.Native.Nat.{ℕ, suc}
use Rattle.lists.specs.Rules.{Outcome, refused, done, wants}

pub data Judged (W Verdict : Type 0) : Type 0 where
  not_allowed : ℕ → Judged W Verdict
  surplus : ℕ → Judged W Verdict
  unfinished : W → Judged W Verdict
  verdict : Verdict → Judged W Verdict

-- after a verdict: the list ends there, or has a surplus decision at i
abbrev pub judge_end : {W Verdict : Type 0} → Verdict → ℕ → List ℕ → Judged W Verdict
judge_end v i [] = verdict v
judge_end v i (d ∷ l) = surplus i

abbrev pub judge_at : {W Verdict : Type 0} → Outcome W Verdict → ℕ → List ℕ → (W → Judged W Verdict) → Judged W Verdict
judge_at refused i l k = not_allowed i
judge_at (done v) i l k = judge_end v (suc i) l
judge_at (wants w) i l k = k w

abbrev pub is_verdict : {W Verdict : Type 0} → Judged W Verdict → Bool
is_verdict (not_allowed i) = false
is_verdict (surplus i) = false
is_verdict (unfinished w) = false
is_verdict (verdict v) = true

-- the place that a refusal names, and 0 where none does
abbrev pub place_of : {W Verdict : Type 0} → Judged W Verdict → ℕ
place_of (not_allowed i) = i
place_of (surplus i) = i
place_of (unfinished w) = 0
place_of (verdict v) = 0

module _ {W Verdict : Type 0} (decide : W → ℕ → Outcome W Verdict) where
  unfoldable pub judge : ℕ → W → List ℕ → Judged W Verdict
  judge i w [] = unfinished w
  judge i w (d ∷ l) = judge_at (decide w d) i l (λ v. judge (suc i) v l)
