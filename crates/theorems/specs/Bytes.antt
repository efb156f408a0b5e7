-- Every number of a sheet is a byte. The laws are in proofs/Bytes.antt.
use Rattle.std.specs.Prelude.{ℕ, ◌<◌}
use mathlib.Core.List.{List, [], ◌∷◌}

-- numbers that are bytes
abbrev pub Bytes : List ℕ → Type 0
Bytes [] = Unit {0}
Bytes (n ∷ ns) = (n < 256) × Bytes ns
