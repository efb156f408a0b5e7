-- At each turn the pairs so far stand as bytes, and all past them is as it was.
use Rattle.std.proofs.Common.{◌≡◌, ◌≢◌, ℕ, suc, zero, ◌+◌, ◌<◌, length, List, [], Some, ◌∙◌, ap, arith, below_more, drop, get_or, get_or-set_same, get_or-set_other}
use Rattle.std.specs.Simd.{first_chunks}
use Rattle.std.proofs.lemmas.List.{get_or-take, get_or-drop}
use Rattle.std.proofs.lemmas.Bool.Decides.{nat_tests}
use Rattle.vectors.specs.Text.{hex_value, hex_digit_of}
use Rattle.vectors.proofs.text.hex_bytes.Goals as goal

-- the j-th byte of the k-th pair
pair_at : (text : List ℕ) (n k j : ℕ) → k < n → j < 2 → get_or (get_or (first_chunks 2 n text) k []) j 0 ≡ get_or text (k + k + j) 0
pair_at text zero k j h w = absurd (omega arith)
pair_at text (suc n) zero j h w = get_or-take 2 text j 0 w ∙ ap (λ i. get_or text i 0) (omega arith)
pair_at text (suc n) (suc k) j h w = pair_at (drop 2 text) n k j (omega arith) w ∙ get_or-drop 2 text (k + k + j) 0 ∙ ap (λ i. get_or text i 0) (omega arith)

-- a digit of the k-th pair is that of the text
digit_at : (text : List ℕ) (pairs : List (List ℕ)) (n k j i d : ℕ) → pairs ≡ first_chunks 2 n text → k < n → j < 2 → k + k + j ≡ i
    → Some d ≡ hex_digit_of (get_or (get_or pairs k []) j 0) → (hex_value (get_or text i 0) < 16) × (d ≡ hex_value (get_or text i 0))
digit_at text pairs n k j i d p h w e is =
    let b : get_or (get_or pairs k []) j 0 ≡ get_or text i 0 = ap (λ ps. get_or (get_or ps k []) j 0) p ∙ pair_at text n k j h w ∙ ap (λ m. get_or text m 0) e in
    let f : Some d ≡ hex_digit_of (get_or text i 0) = is ∙ ap hex_digit_of b in
    grind (arith, nat_tests)

pub loop-k-preserved : goal.loop-k-preserved
loop-k-preserved c =
    let high = digit_at c.args.text.now c.as_chunks.result.0.now _ c.loop-k.k 0 (c.loop-k.k + c.loop-k.k) _ c.as_chunks.ensures.front (omega arith) (omega arith) (omega arith) c.in_ok-hex_digit.ensures in
    let low = digit_at c.args.text.now c.as_chunks.result.0.now _ c.loop-k.k 1 (c.loop-k.k + c.loop-k.k + 1) _ c.as_chunks.ensures.front (omega arith) (omega arith) (omega arith) c.in_ok-out.ensures in
    record {
      bytes = below_more _ _ (λ j h. let ne : j ≢ c.loop-k.k = omega arith in rw get_or-set_other (c.loop-k.invariant.bytes j h))
          (high.0, low.0, (let lt : c.loop-k.k < length c.loop-k.out = omega arith in rw get_or-set_same (omega arith)));
      past = λ j h. let ne : j ≢ c.loop-k.k = omega arith in rw get_or-set_other (c.loop-k.invariant.past j (omega arith));
    }

pub returns : goal.returns
returns c = record { pairs = omega arith; room = omega arith; bytes = λ j h. c.loop-k.invariant.bytes j (omega arith); past = λ j h. c.loop-k.invariant.past j (omega arith) }
