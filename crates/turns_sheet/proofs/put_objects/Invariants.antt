-- The objects so far are written, and `at` is where they end.
use Rattle.std.proofs.Common.{◌≡◌, ◌+◌, ◌*◌, take, length}
use Rattle.std.proofs.lemmas.List.Edits.{sets}
use Rattle.rules.specs.Limits.{thread_record}
use Rattle.rules.specs.Sheet.{objects_bytes, objects_length}
use Rattle.turns_sheet.proofs.put_objects.Given as goal

abbrev pub invariant-loop-made : goal.invariant-loop-made
invariant-loop-made l =
    record {
      place : l.at ≡ thread_record * l.threads + objects_length (take (length l.yielded) l.fn.objects);
      bytes : l.sheet ≡ sets l.initial.sheet (thread_record * l.threads) (objects_bytes (take (length l.yielded) l.fn.objects) l.entries);
    }
