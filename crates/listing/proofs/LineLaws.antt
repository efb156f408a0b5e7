-- Laws of a line's bytes.
use Rattle.std.specs.Prelude.{◌≡◌, refl, Some, List, [], ◌∷◌, ◌++◌, ℕ, suc, ◌+◌, ◌*◌, ◌/◌, ◌%◌, ◌<◌, length, set}
use Rattle.std.proofs.Common.{◌∙◌, ap, arith, lt-ltb}
use Rattle.std.proofs.lemmas.List.Edits.{sets}
use Rattle.clocks.specs.Lists.{sets_then}
use Rattle.rules.specs.Sheet.{filled, each}
use Rattle.rules.proofs.SheetLaws.{each-length}
use Rattle.rules.specs.Walk.{hex_digit, decision_text}
use Rattle.listing.specs.Line.{decision_bytes, number_digit}

pub number_is : (n : ℕ) → n < 10 → 48 + n ≡ number_digit (Some n)
number_is n h = rw (number_digit, lt-ltb n 10 h)

pub decision_is : (o m n r : List ℕ) (at d high low : ℕ) → d < 256 → high ≡ hex_digit (d / 16) → low ≡ hex_digit (d % 16)
    → m ≡ set o at 32 → n ≡ set m (at + 1) high → r ≡ set n (at + 2) low → r ≡ sets o at (decision_bytes d)
decision_is o m n r at d high low small a b e f g =
    let whole : d / 16 ≡ d / 16 % 16 = omega (arith, small) in
    let one : at + 1 ≡ suc at = omega arith in
    let two : at + 2 ≡ suc (suc at) = omega arith in
    let first : n ≡ set (set o at 32) (suc at) (hex_digit (d / 16 % 16)) = f ∙ (λ i. set (e i) (one i) ((a ∙ ap hex_digit whole) i)) in
    g ∙ (λ i. set (first i) (two i) (b i))

-- the text of a list is that of its decisions, and the line's end
pub text_is : (l : List ℕ) → each decision_bytes l ++ 10 ∷ [] ≡ decision_text l
unfolding decision_text
text_is [] = refl
text_is (d ∷ l) = ap (λ (t : List ℕ). 32 ∷ hex_digit (d / 16 % 16) ∷ hex_digit (d % 16) ∷ t) (text_is l)

pub all_filled : (l : List ℕ) → filled 0 (length l) l ≡ l
all_filled [] = refl
all_filled (x ∷ l) = ap (λ (t : List ℕ). x ∷ t) (all_filled l)

decisions-length : (l : List ℕ) → length (each decision_bytes l) ≡ 3 * length l
decisions-length l = each-length decision_bytes 3 (λ d. refl) l

pub line_is : (o : List ℕ) (at : ℕ) (l m n : List ℕ) (digit end : ℕ) → m ≡ sets (set o at digit) (at + 1) (each decision_bytes l) → end ≡ at + 3 * length l + 1 → n ≡ set m end 10
    → n ≡ sets o at (digit ∷ decision_text l)
line_is o at l m n digit end e f g =
    let here : at + 3 * length l + 1 ≡ at + 1 + 3 * length l = omega arith in
    let next : at + 1 ≡ suc at = omega arith in
    sets_then (set o at digit) (at + 1) (each decision_bytes l) (10 ∷ []) (3 * length l) (decisions-length l) e (g ∙ ap (λ (k : ℕ). set m k 10) (f ∙ here))
    ∙ (λ i. sets (set o at digit) (next i) (text_is l i))
