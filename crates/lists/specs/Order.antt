-- Lists of numbers compared byte by byte: the first difference decides, and a list is below its own extensions. The laws are in proofs/Order.antt.
--     l <ₗ m, l ≤ₗ m      the orders
use Rattle.std.specs.Prelude.{◌≡◌, ◌⊎◌, List, [], ◌∷◌, ℕ, ◌<◌}

infix 50 ◌<ₗ◌
infix 50 ◌≤ₗ◌
abbrev pub ◌<ₗ◌ : List ℕ → List ℕ → Type 0
◌<ₗ◌ [] [] = ⊥
◌<ₗ◌ [] (y ∷ m) = Unit {0}
◌<ₗ◌ (x ∷ l) [] = ⊥
◌<ₗ◌ (x ∷ l) (y ∷ m) = (x < y) ⊎ ((x ≡ y) × (l <ₗ m))

abbrev pub ◌≤ₗ◌ : List ℕ → List ℕ → Type 0
◌≤ₗ◌ l m = (l ≡ m) ⊎ (l <ₗ m)
