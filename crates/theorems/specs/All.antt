-- What holds of each element of a list, by its number, and of the default past its end. The laws are in proofs/All.antt.
use Rattle.std.specs.Prelude.{List, ℕ, get_or}

-- `P` of each element's number and the element
abbrev pub All : {A : Type 0} → (ℕ → A → Type 0) → A → List A → Type 0
All P d xs = (k : ℕ) → P k (get_or xs k d)
