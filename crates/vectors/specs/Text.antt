-- What the contracts of `text` cite: a digit's value, a decimal number, bytes as pairs of digits. Assumes nothing.
use Rattle.std.specs.Prelude.{ℕ, ◌+◌, ◌*◌, ◌-◌, ◌≤◌, ◌<◌, ◌≡◌, cond, Option, None, Some, List, [], ◌∷◌, ltb, leb, length, get_or}

-- 0 to 9 and A to F by their ASCII codes; 16 for any other byte
unfoldable pub hex_value : ℕ → ℕ
hex_value b =
    cond (ltb b 48) 16 (cond (leb b 57) (b - 48) (cond (ltb b 65) 16 (cond (leb b 70) (b - 65 + 10) 16)))

-- the value of a byte that is a digit
abbrev pub hex_digit_of : ℕ → Option ℕ
hex_digit_of b = cond (ltb (hex_value b) 16) (Some (hex_value b)) None

-- the digits that follow those that gave n; with n of nine digits or more no further one is taken
unfoldable pub number_from : ℕ → List ℕ → Option ℕ
number_from n [] = Some n
number_from n (b ∷ bs) = cond (ltb 9 (hex_value b)) None (cond (ltb 99999999 n) None (number_from (n * 10 + hex_value b) bs))

-- a decimal number of one digit or more
unfoldable pub number_of : List ℕ → Option ℕ
unfolding number_from
number_of [] = None
number_of (b ∷ bs) = number_from 0 (b ∷ bs)

-- the bytes hold at k the value of the k-th pair of digits
abbrev pub Paired : List ℕ → List ℕ → ℕ → Type 0
Paired text bytes k =
    (hex_value (get_or text (k + k) 0) < 16)
    × (hex_value (get_or text (k + k + 1) 0) < 16)
    × (get_or bytes k 0 ≡ hex_value (get_or text (k + k) 0) * 16 + hex_value (get_or text (k + k + 1) 0))

-- text is n pairs of digits, their bytes stand at the start of the list, and all past them is as it was
pub record Hexed (text before after : List ℕ) (n : ℕ) : Type 0 where
  pub pairs : n + n ≡ length text
  pub room : n ≤ length after
  pub bytes : (k : ℕ) → k < n → Paired text after k
  pub past : (k : ℕ) → n ≤ k → get_or after k 0 ≡ get_or before k 0
