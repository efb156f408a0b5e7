-- The first k objects are made.
use Rattle.std.proofs.Common.{◌≡◌, replicate}
use Rattle.clocks.specs.Pass.{passed}
use Rattle.rules.specs.Limits.{max_objects}
use Rattle.rules.specs.Object.{no_object, new_entry}
use Rattle.turns.specs.Start.{made_at}
use Rattle.turns.proofs.start_objects.Given as goal

abbrev pub invariant-loop-k : goal.invariant-loop-k
invariant-loop-k l = l.store ≡ passed (made_at l.made-items) l.k 0 (replicate max_objects (new_entry no_object))
