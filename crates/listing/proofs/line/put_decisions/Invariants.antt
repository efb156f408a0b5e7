-- The first i decisions are written.
use Rattle.std.proofs.Common.{◌≡◌}
use Rattle.std.proofs.lemmas.List.Edits.{sets}
use Rattle.rules.specs.Sheet.{filled, each}
use Rattle.listing.specs.Line.{decision_bytes}
use Rattle.listing.proofs.line.put_decisions.Given as goal

abbrev pub invariant-loop-i : goal.invariant-loop-i
invariant-loop-i l = l.out ≡ sets l.initial.out l.at (each decision_bytes (filled 0 l.i l.list))
