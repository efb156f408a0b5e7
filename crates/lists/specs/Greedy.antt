-- The smallest allowed decision, the smallest one above another, and the greedy completion. The laws are in proofs/Greedy.antt.
--     seek p n k        the least number of k, .., k + n - 1 that passes p, and k + n if none does
--     smallest, larger  the least allowed decision, and the least one above d: `top` or more if there is none
--     greedy f w        the smallest allowed decision again and again, at most f times, until a verdict
use Rattle.std.specs.Prelude.{◌≡◌, Bool, false, cond}
use Rattle.std.proofs.Math.Bool.{true}
use mathlib.Core.List.{List, [], ◌∷◌}
use Prim.Native.Nat.{ℕ, zero, suc, ◌+◌, ◌-◌, ◌≤◌, ◌<◌}
use Rattle.lists.specs.Rules.{Outcome, refused, done, wants, allowed}

unfoldable pub seek : (ℕ → Bool) → ℕ → ℕ → ℕ
seek p zero k = k
seek p (suc n) k = let r = seek p n (suc k) in cond (p k) k r

pub record Sought (p : ℕ → Bool) (n k r : ℕ) : Type 0 where
  pub low : k ≤ r
  pub high : r ≤ k + n
  pub passes : r < k + n → p r ≡ true
  pub below : (e : ℕ) → k ≤ e → e < r → p e ≡ false

-- where the first outcome leads: `k` goes on from the next world
abbrev pub go_on : {W Verdict : Type 0} → Outcome W Verdict → (W → List ℕ) → List ℕ
go_on refused k = []
go_on (done v) k = []
go_on (wants w) k = k w

module _ {W Verdict : Type 0} (decide : W → ℕ → Outcome W Verdict) (top : ℕ) where
  unfoldable pub smallest : W → ℕ
  smallest w = seek (allowed decide w) top 0

  unfoldable pub larger : W → ℕ → ℕ
  larger w d = seek (allowed decide w) (top - suc d) (suc d)

  unfoldable pub greedy : ℕ → W → List ℕ
  greedy zero w = []
  greedy (suc f) w = let d = smallest w in d ∷ go_on (decide w d) (greedy f)
