-- Document 01, step 3, `rwlock.rs`.
use Rattle.std.specs.Prelude.{Bool, true, false, ◌||◌, List, [], ◌∷◌, ℕ, ◌+◌, ◌-◌, ◌/◌, ◌%◌, ◌^◌, eqb, ltb, None, Option, Some, Err}
use Rattle.clocks.specs.Clock.{max_threads, zero_clock}
use Rattle.clocks.specs.declared.clock.Clock.{Clock}
use Rattle.clocks.specs.declared.thread.ThreadId.{ThreadId}
use Rattle.rules.specs.declared.access.Access.{Access}
use Rattle.rules.specs.declared.object.ObjectId.{ObjectId}
use Rattle.rules.specs.declared.object.Failure.TheVariants.{Misuse}
use Rattle.rules.specs.declared.rwlock.Call.{Call}
use Rattle.rules.specs.declared.rwlock.Call.TheVariants.{AcquireReadLock, AcquireWriteLock, TryAcquireReadLock, TryAcquireWriteLock, ReleaseReadLock, ReleaseWriteLock}
use Rattle.rules.specs.declared.rwlock.Action.{Action}
use Rattle.rules.specs.declared.rwlock.Action.TheVariants as action
use Rattle.rules.specs.declared.rwlock.Locked.{Locked}
use Rattle.rules.specs.declared.rwlock.Locked.TheVariants.{Read, Write}
use Rattle.rules.specs.declared.rwlock.State.{State}
use Rattle.rules.specs.declared.thread.Thread.{Thread}
use Rattle.rules.specs.declared.thread.Change.TheVariants.{Wake, Block, BlockWriters}
use Rattle.rules.specs.Ground.{no_access, thread_at, stored, loads, passes, Does, does, fails, Left, left}

abbrev pub new : State
new = record { lock = None; last_access = no_access; synchronize = zero_clock }

-- "readers are a set": a mask with a bit for each thread; a number that no thread has has no bit, is no reader and changes nothing
abbrev pub reader_bit : ThreadId → ℕ
reader_bit t = elim (ltb t.0 max_threads) [ true ↦ 2 ^ t.0 | false ↦ 0 ]

unfoldable pub is_reader : ℕ → ThreadId → Bool
is_reader mask t = elim (ltb t.0 max_threads) [ true ↦ eqb (mask / 2 ^ t.0 % 2) 1 | false ↦ false ]

unfoldable pub with_reader : ℕ → ThreadId → ℕ
with_reader mask t = elim (is_reader mask t) [ true ↦ mask | false ↦ mask + reader_bit t ]

unfoldable pub without_reader : ℕ → ThreadId → ℕ
without_reader mask t = elim (is_reader mask t) [ true ↦ mask - reader_bit t | false ↦ mask ]

abbrev pub is_write_locked : Option Locked → Bool
is_write_locked None = false
is_write_locked (Some (Read mask)) = false
is_write_locked (Some (Write t)) = true

abbrev pub is_read_locked : Option Locked → Bool
is_read_locked None = false
is_read_locked (Some (Read mask)) = true
is_read_locked (Some (Write t)) = false

-- "operations that need no announcement (releases .., 37, 38 ..)"
abbrev pub is_free : Call → Bool
is_free AcquireReadLock = false
is_free AcquireWriteLock = false
is_free TryAcquireReadLock = false
is_free TryAcquireWriteLock = false
is_free ReleaseReadLock = true
is_free ReleaseWriteLock = true

-- the action as which an operation is announced: "announced writers, tries included"
abbrev pub action_of : Call → Action
action_of AcquireReadLock = action.Read
action_of AcquireWriteLock = action.Write
action_of TryAcquireReadLock = action.Read
action_of TryAcquireWriteLock = action.Write
action_of ReleaseReadLock = action.Read
action_of ReleaseWriteLock = action.Write

-- "At its announcement 33 blocks while written, 34 while locked at all"
abbrev pub is_disabled : Call → State → Bool
is_disabled AcquireReadLock s = is_write_locked s.lock
is_disabled AcquireWriteLock s = is_write_locked s.lock || is_read_locked s.lock
is_disabled TryAcquireReadLock s = false
is_disabled TryAcquireWriteLock s = false
is_disabled ReleaseReadLock s = false
is_disabled ReleaseWriteLock s = false

-- ".., RwLock, ..: any access."
abbrev pub last_dependent_access : State → Access
last_dependent_access s = s.last_access

abbrev pub set_last_access : Access → State → State
set_last_access a s = record { lock = s.lock; last_access = a; synchronize = s.synchronize }

abbrev pub locked : Option Locked → Clock → State → State
locked l c s = record { lock = l; last_access = s.last_access; synchronize = c }

-- "Read taken: other announced writers, tries included, are blocked. .. Taking loads"
abbrev pub reading : ThreadId → ObjectId → Option ℕ → ℕ → State → Does State
reading active o n mask s = does n (locked (Some (Read (with_reader mask active))) s.synchronize s) (loads s.synchronize ∷ passes BlockWriters o ∷ [])

-- "Write taken: all others announced."
abbrev pub writing : ThreadId → ObjectId → Option ℕ → State → Does State
writing active o n s = does n (locked (Some (Write active)) s.synchronize s) (loads s.synchronize ∷ passes Block o ∷ [])

-- "frees it and wakes all announced. .. releases store"
abbrev pub freeing : ObjectId → Clock → State → Does State
freeing o by s = does None (locked None (stored by s.synchronize) s) (passes Wake o ∷ [])

-- "The last reader out .. frees it"; the readers that are left keep it
abbrev pub leaving : ObjectId → Clock → ℕ → State → Does State
leaving o by mask s = elim (eqb mask 0) [ true ↦ freeing o by s | false ↦ does None (locked (Some (Read mask)) (stored by s.synchronize) s) [] ]

-- taken unless the lock is written, and if nobody has it; else as `barred` says
abbrev pub acquiring_read : ThreadId → ObjectId → Option ℕ → Does State → State → Does State
acquiring_read active o n barred s = elim s.lock [ None ↦ reading active o n 0 s | Some (Read mask) ↦ reading active o n mask s | Some (Write t) ↦ barred ]

abbrev pub acquiring_write : ThreadId → ObjectId → Option ℕ → Does State → State → Does State
acquiring_write active o n barred s = elim s.lock [ None ↦ writing active o n s | Some (Read mask) ↦ barred | Some (Write t) ↦ barred ]

-- what an operation does; `by` is the active thread's clock. "in the same cases 35 and 36 fail at their effect"; "release_write at any state, frees it";
-- "release_read by a non-member changes the clock only; on no read lock it is misuse"
unfoldable pub doing : Call → ThreadId → ObjectId → Clock → State → Does State
doing AcquireReadLock active o by s = acquiring_read active o None (fails (Err Misuse) s) s
doing AcquireWriteLock active o by s = acquiring_write active o None (fails (Err Misuse) s) s
doing TryAcquireReadLock active o by s = acquiring_read active o (Some 1) (does (Some 0) s []) s
doing TryAcquireWriteLock active o by s = acquiring_write active o (Some 1) (does (Some 0) s []) s
doing ReleaseReadLock active o by s = elim s.lock [ None ↦ fails (Err Misuse) s | Some (Read mask) ↦ leaving o by (without_reader mask active) s | Some (Write t) ↦ fails (Err Misuse) s ]
doing ReleaseWriteLock active o by s = freeing o by s

-- the effect: what it does, with its touches done
unfoldable pub effect : Call → ThreadId → ObjectId → State → List Thread → Left State
effect c active o s ts = left active (doing c active o (thread_at ts active).clock s) ts
