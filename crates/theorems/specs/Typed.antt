-- Every operation of an accepted table is on an object of its kind, and a wait's mutex is one. The laws are in proofs/Typed.antt.
use Rattle.std.specs.Prelude.{◌≡◌, true, List, ℕ, ◌+◌, ◌*◌, ◌≤◌, ◌<◌, get_or, None, Option, Some}
use Rattle.rules.specs.declared.object.ObjectId.{ObjectId}
use Rattle.rules.specs.declared.object.Kind.TheVariants as kind
use Rattle.rules.specs.declared.table.Made.{Made}
use Rattle.rules.specs.declared.table.Op.{Op}
use Rattle.rules.specs.declared.table.Table.{Table}
use Rattle.rules.specs.Limits.{max_operations}
use Rattle.rules.specs.Object.{no_object}
use Rattle.rules.specs.Effect.{wait_of}
use Rattle.rules.specs.Table.{kind_of, objects_fine, no_op}
use Rattle.rules.specs.TableLaws.{Within}

-- a table whose operations are on objects of their kinds; a thread that it does not have has none
pub record Fits (t : Table) : Type 0 where
  pub within : Within t
  pub none : (j : ℕ) → t.thread_count ≤ j → get_or t.counts j 0 ≡ 0
  pub fine : (j i : ℕ) → i < get_or t.counts j 0 → objects_fine t.objects (get_or t.ops (max_operations * j + i) no_op) ≡ true

-- the mutex of a wait is a mutex
abbrev pub WaitsOnMutex : List Made → Option ObjectId → Type 0
WaitsOnMutex ms None = Unit {0}
WaitsOnMutex ms (Some m) = (get_or ms m.0 no_object).kind ≡ kind.Mutex

-- an operation is on an object of its kind
abbrev pub OnKind : List Made → Op → Type 0
OnKind ms op = ((get_or ms op.object.0 no_object).kind ≡ kind_of op.call) × WaitsOnMutex ms (wait_of op.call)
