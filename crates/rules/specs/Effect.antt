-- Document 01, "Steps": an operation on its object, a line for each kind. What each says is in the file of its lock.
use Rattle.std.specs.Prelude.{Bool, true, false, List, None, Option, ℕ}
use Rattle.clocks.specs.declared.clock.Clock.{Clock}
use Rattle.clocks.specs.declared.thread.ThreadId.{ThreadId}
use Rattle.rules.specs.declared.access.Access.{Access}
use Rattle.rules.specs.declared.object.ObjectId.{ObjectId}
use Rattle.rules.specs.declared.object.Action.{Action}
use Rattle.rules.specs.declared.object.Action.TheVariants as action
use Rattle.rules.specs.declared.object.Entry.{Entry}
use Rattle.rules.specs.Ground.{Ending}
use Rattle.rules.specs.declared.thread.Thread.{Thread}
use Rattle.rules.specs.declared.table.Call.{Call}
use Rattle.rules.specs.declared.table.Call.TheVariants.{Mutex, RwLock, Condvar, Notify, Channel, Arc, Cell}
use Rattle.rules.specs.Ground.{no_access, thread_at, touched, Does}
use Rattle.rules.specs.Object.{put_mutex, put_rw_lock, put_condvar, put_notify, put_channel, put_arc, put_cell}
use Rattle.rules.specs.Mutex as mutex
use Rattle.rules.specs.RwLock as rwlock
use Rattle.rules.specs.Mpsc as mpsc
use Rattle.rules.specs.Arc as arc
use Rattle.rules.specs.Notify as notify
use Rattle.rules.specs.Condvar as condvar
use Rattle.rules.specs.Cell as cell

-- "operations that need no announcement (releases 32, 37, 38 and all Cell operations)"
abbrev pub is_free : Call → Bool
is_free (Mutex c) = mutex.is_free c
is_free (RwLock c) = rwlock.is_free c
is_free (Condvar c) = false
is_free (Notify c) = false
is_free (Channel c) = false
is_free (Arc c) = false
is_free (Cell c) = true

-- the action as which an operation is announced
abbrev pub action_of : Call → Action
action_of (Mutex c) = action.Opaque
action_of (RwLock c) = action.RwLock (rwlock.action_of c)
action_of (Condvar c) = action.Opaque
action_of (Notify c) = action.Opaque
action_of (Channel c) = action.Channel (mpsc.action_of c)
action_of (Arc c) = action.Arc (arc.action_of c)
action_of (Cell c) = action.Opaque

-- where an operation is blocked at its announcement
unfoldable pub is_disabled : Call → Entry → Bool
is_disabled (Mutex c) e = mutex.is_disabled c e.mutex
is_disabled (RwLock c) e = rwlock.is_disabled c e.rwlock
is_disabled (Condvar c) e = false
is_disabled (Notify c) e = notify.is_disabled c e.notify
is_disabled (Channel c) e = mpsc.is_disabled c e.channel
is_disabled (Arc c) e = false
is_disabled (Cell c) e = false

-- "A Notify wait with spurious set and did_spur clear first takes a decision"
unfoldable pub asks : Call → Entry → Bool
asks (Mutex c) e = false
asks (RwLock c) e = false
asks (Condvar c) e = false
asks (Notify c) e = notify.asks c e.notify
asks (Channel c) e = false
asks (Arc c) e = false
asks (Cell c) e = false

-- the mutex of a condvar wait
abbrev pub wait_of : Call → Option ObjectId
wait_of (Mutex c) = None
wait_of (RwLock c) = None
wait_of (Condvar c) = condvar.wait_of c
wait_of (Notify c) = None
wait_of (Channel c) = None
wait_of (Arc c) = None
wait_of (Cell c) = None

-- the last access that an operation depends on, and its own recorded; a cell's are not announced
unfoldable pub last_dependent_access : Call → Entry → Access
last_dependent_access (Mutex c) e = mutex.last_dependent_access e.mutex
last_dependent_access (RwLock c) e = rwlock.last_dependent_access e.rwlock
last_dependent_access (Condvar c) e = condvar.last_dependent_access e.condvar
last_dependent_access (Notify c) e = notify.last_dependent_access e.notify
last_dependent_access (Channel c) e = mpsc.last_dependent_access (mpsc.action_of c) e.channel
last_dependent_access (Arc c) e = arc.last_dependent_access (arc.action_of c) e.arc
last_dependent_access (Cell c) e = no_access

unfoldable pub set_last_access : Call → Access → Entry → Entry
set_last_access (Mutex c) x e = put_mutex e (mutex.set_last_access x e.mutex)
set_last_access (RwLock c) x e = put_rw_lock e (rwlock.set_last_access x e.rwlock)
set_last_access (Condvar c) x e = put_condvar e (condvar.set_last_access x e.condvar)
set_last_access (Notify c) x e = put_notify e (notify.set_last_access x e.notify)
set_last_access (Channel c) x e = put_channel e (mpsc.set_last_access (mpsc.action_of c) x e.channel)
set_last_access (Arc c) x e = put_arc e (arc.set_last_access (arc.action_of c) x e.arc)
set_last_access (Cell c) x e = e

-- what an operation does, with its object around the state of its kind
abbrev pub within : {S : Type 0} → (S → Entry) → Does S → Does Entry
within put d = record { ending = d.ending; answer = d.answer; state = put d.state; touches = d.touches }

unfoldable pub doing : Call → ThreadId → ObjectId → Clock → Entry → Does Entry
doing (Mutex c) active o by e = within (put_mutex e) (mutex.doing c active o by e.mutex)
doing (RwLock c) active o by e = within (put_rw_lock e) (rwlock.doing c active o by e.rwlock)
doing (Condvar c) active o by e = within (put_condvar e) (condvar.doing c active e.condvar)
doing (Notify c) active o by e = within (put_notify e) (notify.doing c o by e.notify)
doing (Channel c) active o by e = within (put_channel e) (mpsc.doing c o by e.channel)
doing (Arc c) active o by e = within (put_arc e) (arc.doing c by e.arc)
doing (Cell c) active o by e = within (put_cell e) (cell.doing c active by e.cell)

-- the effect of an operation on its object and on the threads
pub record Effect : Type 0 where
  pub ending : Ending
  pub answer : Option ℕ
  pub entry : Entry
  pub threads : List Thread

abbrev pub left : ThreadId → Does Entry → List Thread → Effect
left active d ts = record { ending = d.ending; answer = d.answer; entry = d.state; threads = touched active d.touches ts }

unfoldable pub effect : Call → ThreadId → ObjectId → Entry → List Thread → Effect
effect c active o e ts = left active (doing c active o (thread_at ts active).clock e) ts
