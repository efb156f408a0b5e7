-- At each turn the pairs so far stand as bytes, and all past them is as it was.
use Rattle.std.proofs.Common.{◌≡◌, ℕ, ◌<◌, ◌≤◌, get_or}
use Rattle.vectors.specs.Text.{Paired}
use Rattle.vectors.proofs.text.hex_bytes.Given as goal

abbrev pub invariant-loop-k : goal.invariant-loop-k
invariant-loop-k l =
    record {
      bytes : (j : ℕ) → j < l.k → Paired l.text l.out j;
      past : (j : ℕ) → l.k ≤ j → get_or l.out j 0 ≡ get_or l.initial.out j 0;
    }
