-- What the operations before each thread's position come to, for an object: at most one for each, and one operation further when one is done. The laws are in proofs/Done.antt.
use Rattle.std.specs.Prelude.{true, false, List, ℕ, eqb, take}
use Rattle.rules.specs.declared.thread.Thread.{Thread}
use Rattle.rules.specs.declared.table.Call.{Call}
use Rattle.rules.specs.declared.table.Op.{Op}
use Rattle.rules.specs.declared.table.Table.{Table}
use Rattle.rules.specs.Table.{ops_of}
use Rattle.theorems.specs.Sums.{sum_of, tally}

-- what an operation comes to for the object o
abbrev pub on_object : (Call → ℕ) → ℕ → Op → ℕ
on_object f o op = elim (eqb o op.object.0) [ true ↦ f op.call | false ↦ 0 ]

-- what the operations before each thread's position come to for the object o
abbrev pub done_of : Table → (Call → ℕ) → ℕ → List Thread → ℕ
done_of table f o ts = sum_of (λ k x. tally (on_object f o) (take x.position (ops_of table k))) ts
