-- A sum over a list, by each element and its number; and what the operations before a position come to. The laws are in proofs/Sums.antt.
use Rattle.std.specs.Prelude.{List, [], ◌∷◌, ℕ, suc, ◌+◌}
use Rattle.rules.specs.declared.table.Op.{Op}

abbrev pub sum_of : {A : Type 0} → (ℕ → A → ℕ) → List A → ℕ
sum_of g [] = 0
sum_of g (x ∷ xs) = g 0 x + sum_of (λ k. g (suc k)) xs

-- what operations come to
abbrev pub tally : (Op → ℕ) → List Op → ℕ
tally f [] = 0
tally f (op ∷ ops) = f op + tally f ops
