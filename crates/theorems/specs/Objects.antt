-- What lasts of each object: what the table makes has it, and every effect of one of the table's threads keeps it. The laws are in proofs/Objects.antt.
use Rattle.std.specs.Prelude.{List, ℕ, ◌<◌, get_or}
use Rattle.clocks.specs.declared.clock.Clock.{Clock}
use Rattle.clocks.specs.declared.thread.ThreadId.{ThreadId}
use Rattle.rules.specs.declared.access.Access.{Access}
use Rattle.rules.specs.declared.object.ObjectId.{ObjectId}
use Rattle.rules.specs.declared.object.Entry.{Entry}
use Rattle.rules.specs.declared.table.Call.{Call}
use Rattle.rules.specs.declared.table.Made.{Made}
use Rattle.rules.specs.Object.{new_entry, no_object, put_notify}
use Rattle.rules.specs.Notify as notify
use Rattle.rules.specs.Effect.{set_last_access, doing}

-- `P` of an object's number and the object lasts in a table of n threads
pub record Lasting (n : ℕ) (ms : List Made) (P : ℕ → Entry → Type 0) : Type 0 where
  pub made : (k : ℕ) → P k (new_entry (get_or ms k no_object))
  pub records : (k : ℕ) (c : Call) (x : Access) (e : Entry) → P k e → P k (set_last_access c x e)
  pub effects : (k : ℕ) (c : Call) (a : ThreadId) (o : ObjectId) (by : Clock) (e : Entry) → a.0 < n → P k e → P k (doing c a o by e).state
  pub spurs : (k : ℕ) (e : Entry) → P k e → P k (put_notify e (notify.spur e.notify))
