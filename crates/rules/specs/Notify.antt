-- Document 01, step 6, `notify.rs`.
use Rattle.std.specs.Prelude.{Bool, true, false, not, ◌&&◌, List, [], ◌∷◌, None, Err}
use Rattle.clocks.specs.Clock.{zero_clock}
use Rattle.clocks.specs.declared.clock.Clock.{Clock}
use Rattle.clocks.specs.declared.thread.ThreadId.{ThreadId}
use Rattle.rules.specs.declared.access.Access.{Access}
use Rattle.rules.specs.declared.object.ObjectId.{ObjectId}
use Rattle.rules.specs.declared.object.Failure.TheVariants.{Misuse}
use Rattle.rules.specs.declared.notify.Call.{Call}
use Rattle.rules.specs.declared.notify.Call.TheVariants.{Notify, Wait}
use Rattle.rules.specs.declared.notify.State.{State}
use Rattle.rules.specs.declared.thread.Thread.{Thread}
use Rattle.rules.specs.declared.thread.Change.TheVariants.{Unpark}
use Rattle.rules.specs.Ground.{no_access, thread_at, stored, loads, passes, Does, does, fails, Left, left}

abbrev pub new : Bool → State
new spurious = record { spurious = spurious; did_spur = false; notified = false; last_access = no_access; synchronize = zero_clock }

-- "wait blocks at its announcement unless notified"
abbrev pub is_disabled : Call → State → Bool
is_disabled Notify s = false
is_disabled Wait s = not s.notified

abbrev pub might_spur : State → Bool
might_spur s = s.spurious && not s.did_spur

-- "A Notify wait with spurious set and did_spur clear first takes a decision"
abbrev pub asks : Call → State → Bool
asks Notify s = false
asks Wait s = might_spur s

-- "On 1, did_spur is set, .. notified is untouched."
abbrev pub spur : State → State
spur s = record { spurious = s.spurious; did_spur = true; notified = s.notified; last_access = s.last_access; synchronize = s.synchronize }

-- ".., Notify: any access."
abbrev pub last_dependent_access : State → Access
last_dependent_access s = s.last_access

abbrev pub set_last_access : Access → State → State
set_last_access a s = record { spurious = s.spurious; did_spur = s.did_spur; notified = s.notified; last_access = a; synchronize = s.synchronize }

abbrev pub with_notified : Bool → Clock → State → State
with_notified b c s = record { spurious = s.spurious; did_spur = s.did_spur; notified = b; last_access = s.last_access; synchronize = c }

-- what an operation does; `by` is the active thread's clock. "notify stores, sets notified, unparks all others announced on it"; a wait's "effect
-- needs notified, loads, clears"
unfoldable pub doing : Call → ObjectId → Clock → State → Does State
doing Notify o by s = does None (with_notified true (stored by s.synchronize) s) (passes Unpark o ∷ [])
doing Wait o by s = elim s.notified [ true ↦ does None (with_notified false s.synchronize s) (loads s.synchronize ∷ []) | false ↦ fails (Err Misuse) s ]

-- the effect: what it does, with its touches done
unfoldable pub effect : Call → ThreadId → ObjectId → State → List Thread → Left State
effect c active o s ts = left active (doing c o (thread_at ts active).clock s) ts
