-- Document 01, step 7, `condvar.rs`.
use Rattle.std.specs.Prelude.{true, false, List, [], ◌∷◌, ◌++◌, map, ℕ, ◌+◌, ◌-◌, eqb, ltb, get_or, set, drop, take, replicate, None, Option, Some, Err}
use Rattle.rules.specs.declared.object.ObjectId.{ObjectId}
use Rattle.clocks.specs.declared.thread.ThreadId.{ThreadId}
use Rattle.rules.specs.Limits.{max_waiters}
use Rattle.rules.specs.declared.access.Access.{Access}
use Rattle.rules.specs.declared.object.Failure.TheVariants.{NoRoom}
use Rattle.rules.specs.declared.condvar.Call.{Call}
use Rattle.rules.specs.declared.condvar.Call.TheVariants as call
use Rattle.rules.specs.declared.condvar.State.{State}
use Rattle.rules.specs.declared.thread.Thread.{Thread}
use Rattle.rules.specs.Ground.{no_access, unparks, Does, does, fails, Left, left}

-- a place of the queue that nobody has: "FF filled"
abbrev pub nobody : ThreadId
nobody = record { 0 = 255 }

abbrev pub new : State
new = record { last_access = no_access; count = 0; waiters = replicate max_waiters nobody }

-- "39 Condvar wait (body: condvar, mutex)"
abbrev pub wait_of : Call → Option ObjectId
wait_of (call.Wait m) = Some m
wait_of call.NotifyOne = None
wait_of call.NotifyAll = None

-- ".., Condvar, ..: any access."
abbrev pub last_dependent_access : State → Access
last_dependent_access s = s.last_access

abbrev pub set_last_access : Access → State → State
set_last_access a s = record { last_access = a; count = s.count; waiters = s.waiters }

abbrev pub with_waiters : State → ℕ → List ThreadId → State
with_waiters s n ws = record { last_access = s.last_access; count = n; waiters = ws }

-- what an operation does. "wait queues": what it does besides, the turn has; "At most .. 8 waiters a condvar": a ninth finds no room. "notify_one
-- removes and unparks the oldest waiter, if any; notify_all does so with each."
unfoldable pub doing : Call → ThreadId → State → Does State
doing (call.Wait m) active s =
    elim (ltb s.count max_waiters) [ true ↦ does None (with_waiters s (s.count + 1) (set s.waiters s.count active)) [] | false ↦ fails (Err NoRoom) s ]
doing call.NotifyOne active s =
    elim (eqb s.count 0) [
      | true ↦ does None s []
      | false ↦ does None (with_waiters s (s.count - 1) (drop 1 s.waiters ++ nobody ∷ [])) (unparks (get_or s.waiters 0 nobody) ∷ [])
    ]
doing call.NotifyAll active s = does None (with_waiters s 0 (replicate max_waiters nobody)) (map unparks (take s.count s.waiters))

-- the effect: what it does, with its touches done
unfoldable pub effect : Call → ThreadId → State → List Thread → Left State
effect c active s ts = left active (doing c active s) ts
