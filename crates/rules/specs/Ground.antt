-- Document 01, "Ground rules": threads and clocks, and what an operation may do to them.
use Rattle.std.specs.Prelude.{Bool, true, false, List, [], ◌∷◌, ℕ, eqb, get_or, set, None, Option, Some, Result, Err, Ok}
use Rattle.clocks.specs.Pass.{pass_from}
use Rattle.clocks.specs.Clock.{zero_clock, join_of, inc_of}
use Rattle.clocks.specs.declared.clock.Clock.{Clock}
use Rattle.clocks.specs.declared.thread.ThreadId.{ThreadId}
use Rattle.rules.specs.declared.access.Access.{Access}
use Rattle.rules.specs.declared.object.ObjectId.{ObjectId}
use Rattle.rules.specs.declared.object.Action.{Action}
use Rattle.rules.specs.declared.object.Action.TheVariants as action
use Rattle.rules.specs.declared.object.Failure.{Failure}
use Rattle.rules.specs.declared.object.Effect.{Effect}
use Rattle.rules.specs.declared.rwlock.Action.TheVariants as rwlock
use Rattle.rules.specs.declared.mpsc.Action.TheVariants as mpsc
use Rattle.rules.specs.declared.thread.State.{State}
use Rattle.rules.specs.declared.thread.State.TheVariants.{Runnable, Unparked, Blocked, Ended}
use Rattle.rules.specs.declared.thread.Phase.{Phase}
use Rattle.rules.specs.declared.thread.Phase.TheVariants.{Nothing, Announced, Parked, Retaking}
use Rattle.rules.specs.declared.thread.Thread.{Thread}
use Rattle.rules.specs.declared.thread.Change.{Change}
use Rattle.rules.specs.declared.thread.Change.TheVariants.{Wake, Block, BlockWriters, BlockReceivers, Unpark}

-- yes and no as numbers
abbrev pub flag : Bool → ℕ
flag true = 1
flag false = 0

-- a thread record with one field changed
abbrev pub with_state : Thread → State → Thread
with_state t s = record { state = s; phase = t.phase; position = t.position; last_answer = t.last_answer; clock = t.clock; dependence = t.dependence }

abbrev pub with_phase : Thread → Phase → Thread
with_phase t p = record { state = t.state; phase = p; position = t.position; last_answer = t.last_answer; clock = t.clock; dependence = t.dependence }

abbrev pub with_position : Thread → ℕ → Thread
with_position t n = record { state = t.state; phase = t.phase; position = n; last_answer = t.last_answer; clock = t.clock; dependence = t.dependence }

abbrev pub with_answer : Thread → ℕ → Thread
with_answer t n = record { state = t.state; phase = t.phase; position = t.position; last_answer = n; clock = t.clock; dependence = t.dependence }

abbrev pub with_clock : Thread → Clock → Thread
with_clock t c = record { state = t.state; phase = t.phase; position = t.position; last_answer = t.last_answer; clock = c; dependence = t.dependence }

abbrev pub with_dependence : Thread → Clock → Thread
with_dependence t c = record { state = t.state; phase = t.phase; position = t.position; last_answer = t.last_answer; clock = t.clock; dependence = c }

-- a thread that the table does not have: ended, with nothing announced
abbrev pub absent : Thread
absent = record { state = Ended; phase = Nothing; position = 0; last_answer = 0; clock = zero_clock; dependence = zero_clock }

-- a thread by its number, and the threads with one of them changed; a number that no thread has reads `absent` and changes nothing
abbrev pub thread_at : List Thread → ThreadId → Thread
thread_at ts t = get_or ts t.0 absent

abbrev pub put_thread : List Thread → ThreadId → Thread → List Thread
put_thread ts t x = set ts t.0 x

-- the last access to an object, "recorded with the turn number"; none so far
abbrev pub no_access : Access
no_access = record { path_id = 0; version = zero_clock }

-- "Store (Release) joins the active thread's clock into the object's clock"
abbrev pub stored : Clock → Clock → Clock
stored by c = join_of c by

-- "load (Acquire) joins the object's into the thread's"
unfoldable pub loaded : ThreadId → Clock → List Thread → List Thread
loaded active c ts = put_thread ts active (with_clock (thread_at ts active) (join_of (thread_at ts active).clock c))

-- "Before start_read and start_write the active thread's own count rises by one."
abbrev pub own_count_up : ThreadId → Thread → Thread
own_count_up active t = with_clock t (inc_of t.clock active)

-- "set_runnable and set_blocked both drop a stored unpark."
abbrev pub set_runnable : Thread → Thread
set_runnable t = with_state t Runnable

abbrev pub set_blocked : Thread → Thread
set_blocked t = with_state t Blocked

-- "blocked becomes runnable, runnable stores the unpark, ended stays ended"
abbrev pub unpark_state : State → State
unpark_state Runnable = Unparked
unpark_state Unparked = Unparked
unpark_state Blocked = Runnable
unpark_state Ended = Ended

-- "it joins the active clock into the target, then .."
abbrev pub unpark : Clock → Thread → Thread
unpark by t = with_state (with_clock t (join_of t.clock by)) (unpark_state t.state)

-- "unpark of the active thread does nothing; otherwise .."
unfoldable pub unpark_thread : ThreadId → ThreadId → List Thread → List Thread
unpark_thread active t ts = elim (eqb t.0 active.0) [ true ↦ ts | false ↦ put_thread ts t (unpark (thread_at ts active).clock (thread_at ts t)) ]

-- "A turn begins with a decision naming a runnable thread": a stored unpark makes no difference
abbrev pub is_runnable : State → Bool
is_runnable Runnable = true
is_runnable Unparked = true
is_runnable Blocked = false
is_runnable Ended = false

abbrev pub has_unpark : State → Bool
has_unpark Runnable = false
has_unpark Unparked = true
has_unpark Blocked = false
has_unpark Ended = false

abbrev pub is_ended : State → Bool
is_ended Runnable = false
is_ended Unparked = false
is_ended Blocked = false
is_ended Ended = true

-- "announced on it": by an operation, or in retaking a mutex
abbrev pub is_on : ObjectId → Phase → Bool
is_on o Nothing = false
is_on o (Announced p) = eqb p.obj.0 o.0
is_on o Parked = false
is_on o (Retaking p) = eqb p.obj.0 o.0

abbrev pub is_write : Action → Bool
is_write (action.Arc a) = false
is_write (action.Channel a) = false
is_write (action.RwLock rwlock.Read) = false
is_write (action.RwLock rwlock.Write) = true
is_write action.Opaque = false

abbrev pub is_recv : Action → Bool
is_recv (action.Arc a) = false
is_recv (action.Channel mpsc.MsgSend) = false
is_recv (action.Channel mpsc.MsgRecv) = true
is_recv (action.RwLock a) = false
is_recv action.Opaque = false

-- the action that a phase announces; one that announces none has no action of its own kind
abbrev pub action_of : Phase → Action
action_of Nothing = action.Opaque
action_of (Announced p) = p.action
action_of Parked = action.Opaque
action_of (Retaking p) = p.action

abbrev pub blocked_if : Bool → Thread → Thread
blocked_if true t = set_blocked t
blocked_if false t = t

-- what a pass does to a thread that is announced on the object; `by` is the active thread's clock
unfoldable pub changed : Change → Clock → Thread → Thread
changed Wake by t = set_runnable t
changed Block by t = set_blocked t
changed BlockWriters by t = blocked_if (is_write (action_of t.phase)) t
changed BlockReceivers by t = blocked_if (is_recv (action_of t.phase)) t
changed Unpark by t = unpark by t

-- one record of a pass: "every other thread announced on" the object
unfoldable pub changed_at : Change → ThreadId → ObjectId → Clock → ℕ → Thread → Thread
changed_at change active o by k t = elim (eqb k active.0) [ true ↦ t | false ↦ elim (is_on o t.phase) [ true ↦ changed change by t | false ↦ t ] ]

-- the pass that wakes, blocks or unparks
unfoldable pub others : Change → ThreadId → ObjectId → List Thread → List Thread
others change active o ts = pass_from (changed_at change active o (thread_at ts active).clock) 0 ts

-- "Last answer: 31, 35, 36 leave 1 if taken, 41 if the count is now 0, 42 if it is 1, else 0; 43 the count; others keep it."
abbrev pub answering : Option ℕ → Thread → Thread
answering None t = t
answering (Some n) t = with_answer t n

-- What an operation may do to the threads: load a clock, wake, block or unpark others, raise the own count. Nothing else is done to them.
pub data Touch : Type 0 where
  loads : Clock → Touch
  passes : Change → ObjectId → Touch
  unparks : ThreadId → Touch
  raises : Touch

abbrev pub touch : ThreadId → Touch → List Thread → List Thread
touch active (loads c) ts = loaded active c ts
touch active (passes change o) ts = others change active o ts
touch active (unparks t) ts = unpark_thread active t ts
touch active raises ts = put_thread ts active (own_count_up active (thread_at ts active))

-- one touch after the other
abbrev pub touched : ThreadId → List Touch → List Thread → List Thread
touched active [] ts = ts
touched active (x ∷ xs) ts = touched active xs (touch active x ts)

-- how a step ends: well, or it fails
abbrev pub Ending : Type 0
Ending = Result (Unit {0}) Failure

abbrev pub is_fine : Ending → Bool
is_fine (Ok ok) = true
is_fine (Err f) = false

-- What an operation does: how it ends, the answer that it leaves, its object's state then, and what it does to the threads. It goes by the state and
-- its own thread's clock alone.
pub record Does (S : Type 0) : Type 0 where
  pub ending : Ending
  pub answer : Option ℕ
  pub state : S
  pub touches : List Touch

-- one that goes well, one that leaves all as it was, and of these one that fails
abbrev pub does : {S : Type 0} → Option ℕ → S → List Touch → Does S
does n s xs = record { ending = Ok tt; answer = n; state = s; touches = xs }

abbrev pub leaves : {S : Type 0} → Ending → Option ℕ → S → Does S
leaves e n s = record { ending = e; answer = n; state = s; touches = [] }

abbrev pub fails : {S : Type 0} → Ending → S → Does S
fails e s = leaves e None s

-- the effect on an object's state and on the threads
pub record Left (S : Type 0) : Type 0 where
  pub ending : Ending
  pub answer : Option ℕ
  pub state : S
  pub threads : List Thread

-- what an operation does, with its touches done
abbrev pub left : {S : Type 0} → ThreadId → Does S → List Thread → Left S
left active d ts = record { ending = d.ending; answer = d.answer; state = d.state; threads = touched active d.touches ts }

-- the same as the code hands it back: a step that fails leaves all as it was, so that nothing comes with its failure
abbrev pub outcome : {S : Type 0} → Left S → Result (Effect S) Failure
outcome l = elim l.ending [ Ok ok ↦ Ok (record { answer = l.answer; state = l.state; threads = l.threads }) | Err f ↦ Err f ]
