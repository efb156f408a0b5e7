-- The objects that an accepted table's operations name are among its places. The laws are in proofs/Named.antt.
use Rattle.std.specs.Prelude.{◌<◌, None, Option, Some}
use Rattle.rules.specs.declared.object.ObjectId.{ObjectId}
use Rattle.rules.specs.declared.table.Op.{Op}
use Rattle.rules.specs.Limits.{max_objects}
use Rattle.rules.specs.Effect.{wait_of}

-- the mutex of a wait
abbrev pub MutexNamed : Option ObjectId → Type 0
MutexNamed None = Unit {0}
MutexNamed (Some m) = m.0 < max_objects

-- an operation's objects have places
abbrev pub Named : Op → Type 0
Named op = (op.object.0 < max_objects) × MutexNamed (wait_of op.call)
