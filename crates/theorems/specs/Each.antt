-- A decision, an effect at a time: what holds before each effect, and what the decision leaves. The laws are in proofs/Each.antt.
use Rattle.std.proofs.Math.Path.{◌≡◌}
use Rattle.std.specs.Prelude.{true, ℕ, ◌<◌, drop, None, Option, Some, Ok}
use mathlib.Core.List.{List, [], ◌∷◌}
use Rattle.std.proofs.Math.ListN.{get_or}
use Rattle.clocks.specs.Clock.{max_threads, risen}
use Rattle.clocks.specs.declared.clock.Clock.{Clock}
use Rattle.clocks.specs.declared.thread.ThreadId.{ThreadId}
use Rattle.rules.specs.declared.access.Access.{Access}
use Rattle.rules.specs.declared.object.ObjectId.{ObjectId}
use Rattle.rules.specs.declared.object.Operation.{Operation}
use Rattle.rules.specs.declared.object.Entry.{Entry}
use Rattle.rules.specs.declared.mutex.Call.TheVariants as mutex-call
use Rattle.rules.specs.declared.thread.Phase.{Phase}
use Rattle.rules.specs.declared.thread.Phase.TheVariants.{Nothing, Announced, Parked, Retaking}
use Rattle.rules.specs.declared.thread.Thread.{Thread}
use Rattle.rules.specs.declared.table.Call.{Call}
use Rattle.rules.specs.declared.table.Call.TheVariants.{Mutex}
use Rattle.rules.specs.declared.table.Op.{Op}
use Rattle.rules.specs.declared.table.Table.{Table}
use Rattle.rules.specs.declared.world.World.{World}
use Rattle.rules.specs.Ground.{put_thread, with_phase, with_dependence, is_runnable}
use Rattle.rules.specs.Table.{no_op}
use Rattle.rules.specs.Effect.{is_free, asks, wait_of, set_last_access, Effect, effect}
use Rattle.rules.specs.Turn.{thread_in, entry_in, with_threads, with_turn, with_asked, announce_op, retake, dependence, operate, advance, ended, wait, settled, mutex_of, ops_left, spurious}

-- the world after an operation that needs no announcement
abbrev pub onward : ThreadId → Op → World → World
onward t op w = let r = effect op.call t op.object (entry_in w op.object) w.threads in with_threads (settled w op.object r) (advance t r.answer r.threads)

-- an announced operation, with the turn counted; the world after its effect
abbrev pub operated : ThreadId → Op → World → Effect
operated t op w = operate t op (risen 65535 w.turn) (entry_in w op.object) w.threads

abbrev pub in_effect : ThreadId → Op → World → World
in_effect t op w = settled (with_turn w (risen 65535 w.turn)) op.object (operated t op w)

-- and where one operation more is done
abbrev pub further : ThreadId → Op → World → World
further t op w = with_threads (in_effect t op w) (advance t (operated t op w).answer (in_effect t op w).threads)

-- the world after a wait that is queued: its mutex free, and the thread parked or retaking it
abbrev pub waiting : ThreadId → ObjectId → World → World
waiting t m w = settled w m (wait t m (entry_in w m) w.threads)

-- an announced operation before its effect: its object with the access recorded, and the threads, where it is no longer announced
abbrev pub version : ThreadId → Op → World → Clock
version t op w = dependence t op.call (entry_in w op.object) (thread_in w t)

-- the access that it records
abbrev pub accessed : ThreadId → Op → World → Access
accessed t op w = record { path_id = risen 65535 w.turn; version = version t op w }

-- its object then
abbrev pub recorded : ThreadId → Op → World → Entry
recorded t op w = set_last_access op.call (accessed t op w) (entry_in w op.object)

-- the threads then
abbrev pub dependent : ThreadId → Op → World → List Thread
dependent t op w = put_thread w.threads t (with_phase (with_dependence (thread_in w t) (version t op w)) Nothing)

-- a retaking is an acquire_lock of the wait's mutex
abbrev pub retaking : Operation → Op
retaking p = record { call = Mutex mutex-call.AcquireLock; object = p.obj }

-- the announced operation that a turn takes first
abbrev pub Takes : Phase → List Op → Op → Type 0
Takes Nothing ops op = ⊥
Takes (Announced p) ops op = op ≡ get_or ops 0 no_op
Takes Parked ops op = ⊥
Takes (Retaking p) ops op = op ≡ retaking p

-- an operation that needs no announcement goes well
abbrev pub Well : ThreadId → Op → World → Type 0
Well t op w = (effect op.call t op.object (entry_in w op.object) w.threads).ending ≡ Ok tt

-- an announced one does
abbrev pub Succeeds : ThreadId → Op → World → Type 0
Succeeds t op w = (operated t op w).ending ≡ Ok tt

-- What holds before each effect of a decision: `Q` of the thread, the operation, its object and the threads.
module _ (Q : ThreadId → Call → Entry → List Thread → Type 0) where
  -- the operations that need no announcement, each after one that went well
  abbrev pub OnGo : ThreadId → List Op → World → Type 0
  OnGo t [] w = Unit {0}
  OnGo t (op ∷ ops) w = is_free op.call ≡ true → Q t op.call (entry_in w op.object) w.threads × (Well t op w → OnGo t ops (onward t op w))

  -- an announced operation, those after it, and a wait's release of its mutex
  abbrev pub OnOperation : ThreadId → Op → List Op → World → Type 0
  OnOperation t op ops w = Q t op.call (recorded t op w) (dependent t op w) × (wait_of op.call ≡ None → Succeeds t op w → OnGo t ops (further t op w))
      × ((m : ObjectId) → wait_of op.call ≡ Some m → Succeeds t op w → Q t (Mutex mutex-call.ReleaseLock) (entry_in (in_effect t op w) m) (in_effect t op w).threads)

  -- a turn, by the thread's phase
  abbrev pub OnTurn : Phase → ThreadId → List Op → World → Type 0
  OnTurn Nothing t ops w = OnGo t ops (with_turn w (risen 65535 w.turn))
  OnTurn (Announced p) t ops w = OnOperation t (get_or ops 0 no_op) (drop 1 ops) w
  OnTurn Parked t ops w = Unit {0}
  OnTurn (Retaking p) t ops w = OnOperation t (retaking p) (drop 1 ops) w

  -- a decision that answers a question has no effect
  abbrev pub OnAsked : Option ThreadId → Table → World → ℕ → Type 0
  OnAsked None table w d =
      let t : ThreadId = record { 0 = d } in is_runnable (thread_in w t).state ≡ true → OnTurn (thread_in w t).phase t (ops_left table w t) w
  OnAsked (Some t) table w d = Unit {0}

  -- the decision d
  abbrev pub Each : Table → World → ℕ → Type 0
  Each table w d = OnAsked w.asked table w d

-- In a turn of t that has these operations left, `I` of them holds of each world between two effects; of the worlds that a decision leaves, `J`.
pub record Passes (t : ThreadId) (Q : ThreadId → Call → Entry → List Thread → Type 0) (I : List Op → World → Type 0) (J : World → Type 0) : Type 0 where
  pub sees : (ops : List Op) (w : World) (op : Op) → is_free op.call ≡ true → I (op ∷ ops) w → Q t op.call (entry_in w op.object) w.threads
  pub shows : (ops : List Op) (w : World) → I ops w → J w
  pub asks : (ops : List Op) (w : World) (op : Op) → asks op.call (entry_in w op.object) ≡ true → I (op ∷ ops) w → J (with_asked w (Some t))
  pub ends : (w : World) → I [] w → J (with_threads w (ended t w.threads))
  pub announces : (ops : List Op) (w : World) (op : Op) → I (op ∷ ops) w → J (with_threads w (announce_op t op (entry_in w op.object) w.threads))
  pub goes : (ops : List Op) (w : World) (op : Op) → is_free op.call ≡ true → Well t op w → I (op ∷ ops) w → I ops (onward t op w)

-- what a turn of t in the world w takes besides
pub record Begins (table : Table) (w : World) (t : ThreadId) (Q : ThreadId → Call → Entry → List Thread → Type 0) (I : List Op → World → Type 0) (J : World → Type 0) : Type 0 where
  pub passes : Passes t Q I J
  pub nothing : (thread_in w t).phase ≡ Nothing → I (ops_left table w t) (with_turn w (risen 65535 w.turn))
  pub effects : (op : Op) → Takes (thread_in w t).phase (ops_left table w t) op → Q t op.call (recorded t op w) (dependent t op w)
  pub releases : (op : Op) (m : ObjectId) → Takes (thread_in w t).phase (ops_left table w t) op → wait_of op.call ≡ Some m → Succeeds t op w
      → Q t (Mutex mutex-call.ReleaseLock) (entry_in (in_effect t op w) m) (in_effect t op w).threads
  pub operates : (op first : Op) (ops : List Op) → Takes (thread_in w t).phase (ops_left table w t) op → ops_left table w t ≡ first ∷ ops → wait_of op.call ≡ None → Succeeds t op w → I ops (further t op w)
  pub waits : (op : Op) (a : Operation) (m : ObjectId) → op ≡ get_or (ops_left table w t) 0 no_op → (thread_in w t).phase ≡ Announced a → wait_of op.call ≡ Some m → Succeeds t op w → J (waiting t m (in_effect t op w))
  pub retakes : (m : ObjectId) → m ≡ mutex_of (wait_of (get_or (ops_left table w t) 0 no_op).call) → (thread_in w t).phase ≡ Parked → J (with_threads (with_turn w (risen 65535 w.turn)) (retake t m (entry_in w m) w.threads))

-- a thread that a decision names and that may act
pub record Acts (w : World) (t : ThreadId) : Type 0 where
  pub within : t.0 < max_threads
  pub runs : is_runnable (thread_in w t).state ≡ true
  pub nobody : w.asked ≡ None

-- what the answer to a question leaves
pub record Answers (table : Table) (w : World) (t : ThreadId) (J : World → Type 0) : Type 0 where
  pub goes : (op : Op) → op ≡ get_or (ops_left table w t) 0 no_op → J (with_threads (with_asked w None) (announce_op t op (entry_in w op.object) w.threads))
  pub wakes : (op : Op) → op ≡ get_or (ops_left table w t) 0 no_op → J (spurious t op (with_asked w None))
