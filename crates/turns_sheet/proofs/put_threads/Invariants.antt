-- The first i threads are written.
use Rattle.std.proofs.Common.{◌≡◌}
use Rattle.std.proofs.lemmas.List.Edits.{sets}
use Rattle.rules.specs.Ground.{absent}
use Rattle.rules.specs.Sheet.{thread_bytes, each, filled}
use Rattle.turns_sheet.proofs.put_threads.Given as goal

abbrev pub invariant-loop-i : goal.invariant-loop-i
invariant-loop-i l = l.sheet ≡ sets l.initial.sheet 0 (each thread_bytes (filled absent l.i l.threads))
