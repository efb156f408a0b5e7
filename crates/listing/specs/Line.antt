-- A line as the program writes it, byte by byte.
use Rattle.std.specs.Prelude.{Option, Some, None, true, false, List, [], ◌∷◌, ℕ, ◌+◌, ◌/◌, ◌%◌, ltb}
use Rattle.rules.specs.Walk.{hex_digit}

abbrev pub decision_bytes : ℕ → List ℕ
decision_bytes d = 32 ∷ hex_digit (d / 16 % 16) ∷ hex_digit (d % 16) ∷ []

abbrev pub number_digit : Option ℕ → ℕ
number_digit (Some n) = elim (ltb n 10) [ true ↦ 48 + n | false ↦ 63 ]
number_digit None = 63
