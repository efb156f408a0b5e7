-- Every place that an answer names is small: it fits 16 bits. The laws are in proofs/Places.antt.
use Rattle.std.specs.Prelude.{◌≡◌, length}
use Prim.Native.Nat.{ℕ, ◌+◌, ◌*◌, ◌≤◌, ◌<◌}
use Rattle.rules.specs.declared.table.Table.{Table}
use Rattle.clocks.specs.Clock.{max_threads}
use Rattle.rules.specs.Limits.{max_objects, max_operations}
use Rattle.rules.specs.Table.{last_count}

-- a record has at most three bytes: those of a thread with its operations, and of a table
abbrev per_thread : ℕ
per_thread = 3 * (max_operations + 1)

abbrev pub max_table : ℕ
max_table = 3 * max_objects + per_thread * max_threads

-- a refused table's place
pub record Room (at : ℕ) (t : Table) : Type 0 where
  pub before : at ≤ 3 * t.object_count + per_thread * t.thread_count
  pub inside : 0 < t.thread_count → at + 3 * max_operations ≤ 3 * t.object_count + per_thread * t.thread_count + 3 * last_count t
  pub objects : t.object_count ≤ max_objects
  pub threads : t.thread_count ≤ max_threads
  pub counts : length t.counts ≡ max_threads
