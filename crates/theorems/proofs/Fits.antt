-- A buffer of 582 bytes has room for every complete list.
use Rattle.std.specs.Prelude.{◌≡◌, List, ℕ, ◌≤◌, length, Ok}
use Rattle.std.proofs.Common.{arith}
use Rattle.rules.specs.declared.table.Table.{Table}
use Rattle.rules.specs.Limits.{max_list}
use Rattle.rules.specs.Table.{read_table}
use Rattle.rules.proofs.TableLaws.{read-within}
use Rattle.rules.specs.Demand.{Complete}
use Rattle.theorems.proofs.Length.{list_length}

pub list_fits : (bs : List ℕ) (table : Table) → read_table bs ≡ Ok table → (list : List ℕ) → Complete table list → length list ≤ max_list
list_fits bs table e list c = omega (arith, list_length bs table e list c, (read-within bs table e).0.threads)
