-- What holds of an accepted table: it is within document 01's limits. The law is in proofs/TableLaws.antt.
use Rattle.std.specs.Prelude.{◌≡◌, length}
use Prim.Native.Nat.{ℕ, ◌≤◌}
use Rattle.std.proofs.Math.ListN.{get_or}
use Rattle.clocks.specs.Clock.{max_threads}
use Rattle.rules.specs.Limits.{max_objects, max_operations, op_places}
use Rattle.rules.specs.declared.table.Table.{Table}

-- "At most 16 objects, 1 to 6 threads, 0 to 32 operations a thread"; the places for operations and counts are all there
pub record Within (t : Table) : Type 0 where
  pub objects : t.object_count ≤ max_objects
  pub threads : t.thread_count ≤ max_threads
  pub ops : length t.ops ≡ op_places
  pub counts : length t.counts ≡ max_threads
  pub most : (k : ℕ) → get_or t.counts k 0 ≤ max_operations
