-- A bit is in a mask where the two have it in common.
use Rattle.std.proofs.Common.{◌≡◌, ℕ, zero, suc, ◌*◌, ◌/◌, ◌%◌, ◌^◌, ◌<◌, Bool, true, false, not, eqb, ltb, eq-eqb, ne_eqb, ap, ◌∙◌, arith}
use Rattle.std.specs.Int.Bits.{bit_and, and_zero_r}
use Rattle.std.proofs.lemmas.Nat.{pow_pos}
use Rattle.std.proofs.lemmas.Nat.Bits.{and_pow, bit_at-lt}
use Rattle.clocks.specs.Clock.{max_threads}
use Rattle.rules.specs.RwLock.{is_reader}
use Rattle.objects_readers.proofs.is_reader.Goals as goal

digit_test : (d p : ℕ) → d < 2 → 0 < p → not (eqb (d * p) 0) ≡ eqb d 1
digit_test zero p l h = rw (eq-eqb (0 * p) 0 (omega arith))
digit_test (suc zero) p l h = rw (ne_eqb (1 * p) 0 (omega arith))
digit_test (suc (suc d)) p l h = absurd (omega arith)

same_test : (mask i : ℕ) (b : Bool) → not (eqb (bit_and mask (elim b [ true ↦ 2 ^ i | false ↦ 0 ])) 0) ≡ elim b [ true ↦ eqb (mask / 2 ^ i % 2) 1 | false ↦ false ]
same_test mask i true = rw and_pow (digit_test (mask / 2 ^ i % 2) (2 ^ i) (bit_at-lt mask i) (pow_pos i))
same_test mask i false = rw and_zero_r

pub returns : goal.returns
unfolding is_reader
returns c = ap (λ b. not (eqb (bit_and c.args.readers b) 0)) c.reader_bit.ensures ∙ same_test c.args.readers c.args.id.0 (ltb c.args.id.0 max_threads)
