-- Document 01, "Ground rules": the turn. One decision, from a world to the next or to a verdict.
use Rattle.std.specs.Prelude.{Bool, true, false, ◌&&◌, ◌||◌, List, [], ◌∷◌, map, ℕ, suc, eqb, ltb, leb, get_or, drop, replicate, None, Option, Some, Err, Ok}
use Rattle.clocks.specs.Clock.{max_threads, join_of, inc_of, risen}
use Rattle.clocks.specs.Pass.{pass_from}
use Rattle.clocks.specs.declared.clock.Clock.{Clock}
use Rattle.clocks.specs.declared.thread.ThreadId.{ThreadId}
use Rattle.rules.specs.declared.object.ObjectId.{ObjectId}
use Rattle.rules.specs.declared.object.Action.TheVariants as action
use Rattle.rules.specs.declared.object.Entry.{Entry}
use Rattle.rules.specs.Ground.{Ending}
use Rattle.rules.specs.declared.object.Failure.TheVariants as failure
use Rattle.rules.specs.declared.mutex.Call.TheVariants as mutex-call
use Rattle.rules.specs.declared.thread.State.TheVariants as state
use Rattle.rules.specs.declared.thread.Phase.{Phase}
use Rattle.rules.specs.declared.thread.Phase.TheVariants.{Nothing, Announced, Parked, Retaking}
use Rattle.rules.specs.declared.thread.Thread.{Thread}
use Rattle.rules.specs.declared.table.Call.{Call}
use Rattle.rules.specs.declared.table.Call.TheVariants.{Mutex}
use Rattle.rules.specs.declared.table.Op.{Op}
use Rattle.rules.specs.declared.table.Table.{Table}
use Rattle.rules.specs.declared.answer.Answer.{Answer}
use Rattle.rules.specs.declared.answer.Answer.TheVariants as answer
use Rattle.rules.specs.declared.answer.Spot.{Spot}
use Rattle.rules.specs.declared.world.World.{World}
use Rattle.rules.specs.declared.world.Step.{Step}
use Rattle.rules.specs.declared.world.Step.TheVariants.{Refused, Done, Wants}
use Rattle.rules.specs.declared.world.Decided.{Decided}
use Rattle.rules.specs.Ground.{with_state, with_phase, with_position, with_dependence, absent, thread_at, put_thread, set_runnable, set_blocked, is_runnable, has_unpark, is_ended, answering}
use Rattle.rules.specs.Object.{put_notify, new_entry, entry_at, put_entry, announced, leaks}
use Rattle.rules.specs.Mutex as mutex
use Rattle.rules.specs.Notify as notify
use Rattle.rules.specs.Table.{no_op, ops_of}
use Rattle.rules.specs.Effect.{is_free, action_of, is_disabled, asks, wait_of, last_dependent_access, set_last_access, Effect, effect}

-- a world with one part changed
abbrev pub with_threads : World → List Thread → World
with_threads w ts = record { threads = ts; objects = w.objects; turn = w.turn; asked = w.asked }

abbrev pub with_objects : World → List Entry → World
with_objects w es = record { threads = w.threads; objects = es; turn = w.turn; asked = w.asked }

abbrev pub with_turn : World → ℕ → World
with_turn w n = record { threads = w.threads; objects = w.objects; turn = n; asked = w.asked }

abbrev pub with_asked : World → Option ThreadId → World
with_asked w a = record { threads = w.threads; objects = w.objects; turn = w.turn; asked = a }

abbrev pub thread_in : World → ThreadId → Thread
thread_in w t = thread_at w.threads t

abbrev pub entry_in : World → ObjectId → Entry
entry_in w o = entry_at w.objects o

-- what a decision comes to
abbrev pub refused : World → Decided
refused w = record { step = Refused; world = w }

abbrev pub done : Answer → World → Decided
done a w = record { step = Done a; world = w }

abbrev pub wants : World → Decided
wants w = record { step = Wants; world = w }

-- After the turn: "all ended means leak check in object order"
unfoldable pub all_ended : List Thread → Bool
all_ended [] = true
all_ended (t ∷ ts) = is_ended t.state && all_ended ts

unfoldable pub any_runnable : List Thread → Bool
any_runnable [] = false
any_runnable (t ∷ ts) = is_runnable t.state || any_runnable ts

unfoldable pub leak_check : ℕ → List Entry → Answer
leak_check k [] = answer.Clean
leak_check k (e ∷ es) = elim (leaks e.kind e) [ true ↦ answer.Leak (record { 0 = k }) | false ↦ leak_check (suc k) es ]

-- "its announced object or 255"
abbrev pub announced_object : Phase → ObjectId
announced_object Nothing = record { 0 = 255 }
announced_object (Announced p) = p.obj
announced_object Parked = record { 0 = 255 }
announced_object (Retaking p) = p.obj

-- "lowest thread not ended, its position, its announced object"
unfoldable pub stuck : ℕ → List Thread → Spot
stuck k [] = record { thread = record { 0 = 255 }; position = 255; object = record { 0 = 255 } }
stuck k (t ∷ ts) =
    elim (is_ended t.state)
    [ true ↦ stuck (suc k) ts | false ↦ record { thread = record { 0 = k }; position = t.position; object = announced_object t.phase } ]

-- "else nobody runnable means deadlock"
unfoldable pub after_step : List Thread → List Entry → Step
after_step ts es =
    elim (all_ended ts) [ true ↦ Done (leak_check 0 es) | false ↦ elim (any_runnable ts) [ true ↦ Wants | false ↦ Done (answer.Deadlock (stuck 0 ts)) ] ]

abbrev pub after_turn : World → Decided
after_turn w = record { step = after_step w.threads w.objects; world = w }

-- announcing an operation on its object, and retaking a mutex
unfoldable pub announce_op : ThreadId → Op → Entry → List Thread → List Thread
announce_op t op e ts =
    put_thread ts t (announced (Announced (record { obj = op.object; action = action_of op.call })) (is_disabled op.call e) (thread_at ts t))

unfoldable pub retake : ThreadId → ObjectId → Entry → List Thread → List Thread
retake t m e ts = put_thread ts t (announced (Retaking (record { obj = m; action = action.Opaque })) (mutex.is_locked e.mutex.lock) (thread_at ts t))

-- "its dependence clock joins that of the object's last dependent access, its own dependence count rises by one"
unfoldable pub dependence : ThreadId → Call → Entry → Thread → Clock
dependence t c e x = inc_of (join_of x.dependence (last_dependent_access c e).version) t

-- "the result is recorded with the turn number as that object's last access, then the effect happens. .. Once in effect an operation is no
-- longer announced"
unfoldable pub operate : ThreadId → Op → ℕ → Entry → List Thread → Effect
operate t op turn e ts =
    let v = dependence t op.call e (thread_at ts t) in
    effect op.call t op.object (set_last_access op.call (record { path_id = turn; version = v }) e)
    (put_thread ts t (with_phase (with_dependence (thread_at ts t) v) Nothing))

-- one more operation is done, and its answer left
unfoldable pub advance : ThreadId → Option ℕ → List Thread → List Thread
advance t n ts = put_thread ts t (with_position (answering n (thread_at ts t)) (risen 255 (thread_at ts t).position))

-- no operation is left
unfoldable pub ended : ThreadId → List Thread → List Thread
ended t ts = put_thread ts t (with_phase (with_state (thread_at ts t) state.Ended) Nothing)

-- "parks (a stored unpark is used up and the thread does not stop), then announces acquire_lock"
unfoldable pub park : ThreadId → ObjectId → Entry → List Thread → List Thread
park t m e ts =
    elim (has_unpark (thread_at ts t).state)
    [ true ↦ retake t m e (put_thread ts t (set_runnable (thread_at ts t))) | false ↦ put_thread ts t (with_phase (set_blocked (thread_at ts t)) Parked) ]

-- "wait queues, releases the mutex, parks": what it does to the mutex and the threads once it is queued
unfoldable pub wait : ThreadId → ObjectId → Entry → List Thread → Effect
wait t m e ts =
    let r = effect (Mutex mutex-call.ReleaseLock) t m e ts in
    record { ending = r.ending; answer = r.answer; entry = r.entry; threads = park t m r.entry r.threads }

-- a world after an effect on an object
abbrev pub settled : World → ObjectId → Effect → World
settled w o r = with_objects (with_threads w r.threads) (put_entry w.objects o r.entry)

-- the place of a failing step: the thread, the operations it has done, the object
abbrev pub spot : ThreadId → Op → World → Spot
spot t op w = record { thread = t; position = (thread_in w t).position; object = op.object }

-- a step's ending: a failing one is a verdict that shows the world `shown`, before the step
unfoldable pub ending_of : Ending → Spot → World → Decided → Decided
ending_of (Ok ok) s shown next = next
ending_of (Err failure.Misuse) s shown next = done (answer.Misuse s) shown
ending_of (Err failure.NoRoom) s shown next = done (answer.NoRoom s) shown
ending_of (Err (failure.Race other)) s shown next = done (answer.Race s other) shown

-- "The thread goes on through operations that need no announcement .. and stops when it announces the next, .. or ends."
unfoldable pub go_on : ThreadId → List Op → World → Decided
go_on t [] w = after_turn (with_threads w (ended t w.threads))
go_on t (op ∷ ops) w =
    let e = entry_in w op.object in
    let r = effect op.call t op.object e w.threads in
    let next = go_on t ops (with_threads (settled w op.object r) (advance t r.answer r.threads)) in
    elim (is_free op.call) [
      | true ↦ ending_of r.ending (spot t op w) w next
      | false ↦ elim (asks op.call e) [ true ↦ wants (with_asked w (Some t)) | false ↦ after_turn (with_threads w (announce_op t op e w.threads)) ]
    ]

-- what follows the effect of an announced operation, which leaves the answer n: a wait goes on to its mutex and its turn ends
unfoldable pub thereafter : Option ObjectId → ThreadId → Option ℕ → List Op → World → Decided
thereafter None t n ops w = go_on t ops (with_threads w (advance t n w.threads))
thereafter (Some m) t n ops w = after_turn (settled w m (wait t m (entry_in w m) w.threads))

-- "If that thread has announced an operation": its effect, and what follows
unfoldable pub operation : ThreadId → Op → List Op → World → Decided
operation t op ops w =
    let n = risen 65535 w.turn in
    let r = operate t op n (entry_in w op.object) w.threads in
    let next = thereafter (wait_of op.call) t r.answer ops (settled (with_turn w n) op.object r) in
    ending_of r.ending (spot t op w) w next

-- the mutex of a condvar wait; of another operation none
abbrev pub mutex_of : Option ObjectId → ObjectId
mutex_of None = record { 0 = 255 }
mutex_of (Some m) = m

-- the turn of a thread, by its phase; `ops` are its operations that are not done
unfoldable pub turn_of : Phase → ThreadId → List Op → World → Decided
turn_of Nothing t ops w = go_on t ops (with_turn w (risen 65535 w.turn))
turn_of (Announced p) t ops w = operation t (get_or ops 0 no_op) (drop 1 ops) w
turn_of Parked t ops w =
    let m = mutex_of (wait_of (get_or ops 0 no_op).call) in
    after_turn (with_threads (with_turn w (risen 65535 w.turn)) (retake t m (entry_in w m) w.threads))
turn_of (Retaking p) t ops w = operation t (record { call = Mutex mutex-call.AcquireLock; object = p.obj }) (drop 1 ops) w

-- the operations of thread t that are not done in a world
abbrev pub ops_left : Table → World → ThreadId → List Op
ops_left table w t = drop (thread_in w t).position (ops_of table t.0)

-- "A turn begins with a decision naming a runnable thread, else 23."
unfoldable pub begin : Table → World → ThreadId → Decided
begin table w t = elim (is_runnable (thread_in w t).state) [ true ↦ turn_of (thread_in w t).phase t (ops_left table w t) w | false ↦ refused w ]

-- "On 1, did_spur is set, the wait is done, the thread stands runnable with no stored unpark and the turn ends; notified is untouched."
unfoldable pub spurious : ThreadId → Op → World → World
spurious t op w =
    let e = entry_in w op.object in
    with_objects (with_threads w (advance t None (put_thread w.threads t (set_runnable (thread_in w t))))) (put_entry w.objects op.object (put_notify e (notify.spur e.notify)))

-- "first takes a decision, 0 or 1 (else 23)"
unfoldable pub question : ThreadId → Op → ℕ → World → Decided
question t op d w =
    let v = with_asked w None in
    elim (eqb d 0) [
      | true ↦ after_turn (with_threads v (announce_op t op (entry_in w op.object) w.threads))
      | false ↦ elim (eqb d 1) [ true ↦ after_turn (spurious t op v) | false ↦ refused w ]
    ]

unfoldable pub decide_at : Option ThreadId → Table → World → ℕ → Decided
decide_at None table w d = begin table w (record { 0 = d })
decide_at (Some t) table w d = question t (get_or (ops_left table w t) 0 no_op) d w

-- the decisions that are not 23: "naming a runnable thread", and "0 or 1"
abbrev pub is_allowed : Option ThreadId → List Thread → ℕ → Bool
is_allowed None ts d = is_runnable (thread_at ts (record { 0 = d })).state
is_allowed (Some t) ts d = leb d 1

-- one decision
unfoldable pub decide : Table → World → ℕ → Decided
decide table w d = decide_at w.asked table w d

-- the world before any decision
unfoldable pub start_thread : ℕ → ℕ → Thread → Thread
start_thread n k t = elim (ltb k n) [ true ↦ with_state t state.Runnable | false ↦ t ]

unfoldable pub start : Table → World
start table = record {
  threads = pass_from (start_thread table.thread_count) 0 (replicate max_threads absent);
  objects = map new_entry table.objects;
  turn = 0;
  asked = None;
}
