-- The first i clocks are written.
use Rattle.std.proofs.Common.{◌≡◌}
use Rattle.std.proofs.lemmas.List.Edits.{sets}
use Rattle.clocks.specs.Clock.{zero_clock}
use Rattle.rules.specs.Sheet.{filled, each, clock_bytes}
use Rattle.turns_shown.proofs.ArrayClockMESSAGESShown.show.Given as goal

abbrev pub invariant-loop-i : goal.invariant-loop-i
invariant-loop-i l = l.out ≡ sets l.initial.out 0 (each clock_bytes (filled zero_clock l.i l.self))
