-- Document 01, step 2, `mutex.rs`.
use Rattle.std.specs.Prelude.{Bool, true, false, List, [], ◌∷◌, None, Option, Some, Err, ℕ}
use Rattle.clocks.specs.Clock.{zero_clock}
use Rattle.clocks.specs.declared.clock.Clock.{Clock}
use Rattle.clocks.specs.declared.thread.ThreadId.{ThreadId}
use Rattle.rules.specs.declared.access.Access.{Access}
use Rattle.rules.specs.declared.object.ObjectId.{ObjectId}
use Rattle.rules.specs.declared.object.Failure.TheVariants.{Misuse}
use Rattle.rules.specs.declared.mutex.Call.{Call}
use Rattle.rules.specs.declared.mutex.Call.TheVariants.{AcquireLock, TryAcquireLock, ReleaseLock}
use Rattle.rules.specs.declared.mutex.State.{State}
use Rattle.rules.specs.declared.thread.Thread.{Thread}
use Rattle.rules.specs.declared.thread.Change.TheVariants.{Wake, Block}
use Rattle.rules.specs.Ground.{no_access, thread_at, stored, loads, passes, Does, does, fails, Left, left}

abbrev pub new : State
new = record { lock = None; last_access = no_access; synchronize = zero_clock }

abbrev pub is_locked : Option ThreadId → Bool
is_locked None = false
is_locked (Some t) = true

-- "operations that need no announcement (releases 32, ..)"
abbrev pub is_free : Call → Bool
is_free AcquireLock = false
is_free TryAcquireLock = false
is_free ReleaseLock = true

-- "announced acquire blocks if held"
abbrev pub is_disabled : Call → State → Bool
is_disabled AcquireLock s = is_locked s.lock
is_disabled TryAcquireLock s = false
is_disabled ReleaseLock s = false

-- "Mutex, ..: any access."
abbrev pub last_dependent_access : State → Access
last_dependent_access s = s.last_access

abbrev pub set_last_access : Access → State → State
set_last_access a s = record { lock = s.lock; last_access = a; synchronize = s.synchronize }

-- "Taking loads and blocks every other thread announced on the mutex, a try included."
abbrev pub taking : ThreadId → ObjectId → Option ℕ → State → Does State
taking active o n s =
    does n (record { lock = Some active; last_access = s.last_access; synchronize = s.synchronize }) (loads s.synchronize ∷ passes Block o ∷ [])

-- "Release clears whoever holds, stores, and makes every other thread announced on it runnable."
abbrev pub releasing : ObjectId → Clock → State → Does State
releasing o by s = does None (record { lock = None; last_access = s.last_access; synchronize = stored by s.synchronize }) (passes Wake o ∷ [])

-- taken if it is free, else as `barred` says
abbrev pub acquiring : ThreadId → ObjectId → Option ℕ → Does State → State → Does State
acquiring active o n barred s = elim (is_locked s.lock) [ true ↦ barred | false ↦ taking active o n s ]

-- what an operation does; `by` is the active thread's clock. "A try that fails changes only its answer."
unfoldable pub doing : Call → ThreadId → ObjectId → Clock → State → Does State
doing AcquireLock active o by s = acquiring active o None (fails (Err Misuse) s) s
doing TryAcquireLock active o by s = acquiring active o (Some 1) (does (Some 0) s []) s
doing ReleaseLock active o by s = releasing o by s

-- the effect: what it does, with its touches done
unfoldable pub effect : Call → ThreadId → ObjectId → State → List Thread → Left State
effect c active o s ts = left active (doing c active o (thread_at ts active).clock s) ts
