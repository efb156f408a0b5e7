-- The first i waiters are written.
use Rattle.std.proofs.Common.{◌≡◌, map}
use Rattle.std.proofs.lemmas.List.Edits.{sets}
use Rattle.rules.specs.Sheet.{filled, number}
use Rattle.turns_shown.proofs.ArrayThreadIdWAITERSShown.show.Given as goal

abbrev pub invariant-loop-i : goal.invariant-loop-i
invariant-loop-i l = l.out ≡ sets l.initial.out 0 (filled 255 l.i (map number l.self))
