-- Counting, in one law: in every world that a sheet shows, an object's count and what took from it make what it started with and what added to it, by the
-- operations before each thread's position. The laws are in proofs/Counting.antt.
use Rattle.std.specs.Prelude.{◌≡◌, true, Some, Ok}
use Prim.Native.Nat.{ℕ, ◌+◌, ◌≤◌, ◌<◌}
use Rattle.clocks.specs.declared.clock.Clock.{Clock}
use Rattle.clocks.specs.declared.thread.ThreadId.{ThreadId}
use Rattle.rules.specs.declared.access.Access.{Access}
use Rattle.rules.specs.declared.object.ObjectId.{ObjectId}
use Rattle.rules.specs.declared.object.Entry.{Entry}
use Rattle.rules.specs.declared.mutex.Call.{Call as MutexCall}
use Rattle.rules.specs.declared.notify.State.{State as NotifyState}
use Rattle.rules.specs.declared.table.Call.{Call}
use Rattle.rules.specs.declared.table.Call.TheVariants.{Mutex}
use Rattle.rules.specs.declared.table.Made.{Made}
use Rattle.rules.specs.Object.{put_notify, new_entry}
use Rattle.rules.specs.Effect.{asks, wait_of, set_last_access, doing}

-- A count of an object: `first` at the start, then each operation that goes well adds `up` and takes `down`, and nothing else changes it. A wait, an operation
-- on a mutex and one that may ask are none of these.
pub record Counted (N : Entry → ℕ) (first : ℕ) (up down : Call → ℕ) : Type 0 where
  pub starts : first ≤ 1
  pub small : (c : Call) → up c ≤ 1
  pub made : (m : Made) → N (new_entry m) ≡ first
  pub effects : (c : Call) (a : ThreadId) (o : ObjectId) (by : Clock) (e : Entry) → N e < 65535 → (doing c a o by e).ending ≡ Ok tt → N (doing c a o by e).state + down c ≡ N e + up c
  pub records : (c : Call) (x : Access) (e : Entry) → N (set_last_access c x e) ≡ N e
  pub spurs : (e : Entry) (s : NotifyState) → N (put_notify e s) ≡ N e
  pub locks : (c : MutexCall) → (up (Mutex c) ≡ 0) × (down (Mutex c) ≡ 0)
  pub waits : (c : Call) (m : ObjectId) → wait_of c ≡ Some m → (up c ≡ 0) × (down c ≡ 0)
  pub questions : (c : Call) (e : Entry) → asks c e ≡ true → (up c ≡ 0) × (down c ≡ 0)
