-- The steps that change their object, by what each does to it and to the threads, and that they are the steps of `Step`.
use Rattle.std.specs.Prelude.{◌≡◌, refl, Bool, List, [], ◌∷◌, ℕ, zero, suc, get_or, set, None, Option, Some, Result, Err, Ok}
use Rattle.std.proofs.Math.Path.{sym, ap}
use Rattle.std.proofs.Common.{◌∙◌}
use Rattle.std.proofs.Math.Bool.{true, false, not}
use Rattle.std.proofs.lemmas.Bool.{false≢true}
use Rattle.std.proofs.lemmas.List.{set-get_or}
use Rattle.clocks.specs.Clock.{join_of, inc_of, risen}
use Rattle.clocks.specs.declared.clock.Clock.{Clock}
use Rattle.clocks.specs.declared.thread.ThreadId.{ThreadId}
use Rattle.rules.specs.declared.access.Access.{Access}
use Rattle.rules.specs.declared.object.ObjectId.{ObjectId}
use Rattle.rules.specs.declared.object.Action.TheVariants as action
use Rattle.rules.specs.declared.object.Entry.{Entry}
use Rattle.rules.specs.Ground.{Ending}
use Rattle.rules.specs.declared.object.Failure.TheVariants as failure
use Rattle.rules.specs.declared.mutex.Call.TheVariants as mutex-call
use Rattle.rules.specs.declared.thread.Phase.{Phase}
use Rattle.rules.specs.declared.thread.Phase.TheVariants.{Nothing, Announced, Parked, Retaking}
use Rattle.rules.specs.declared.thread.Thread.{Thread}
use Rattle.rules.specs.declared.table.Call.{Call}
use Rattle.rules.specs.declared.table.Call.TheVariants.{Mutex}
use Rattle.rules.specs.declared.table.Op.{Op}
use Rattle.rules.specs.declared.answer.Answer.TheVariants as answer
use Rattle.rules.specs.declared.answer.Answer.{Answer}
use Rattle.rules.specs.declared.object.Failure.{Failure}
use Rattle.rules.specs.declared.answer.Spot.{Spot}
use Rattle.rules.specs.Ground.{absent, thread_at, put_thread, with_phase, with_position, set_runnable, set_blocked, has_unpark, answering, is_fine}
use Rattle.rules.specs.Object.{put_notify, announced}
use Rattle.rules.specs.Mutex as mutex
use Rattle.rules.specs.Notify as notify
use Rattle.rules.specs.Effect.{is_free, wait_of, set_last_access, doing, Effect, effect}
use Rattle.rules.proofs.TableLaws.{split}
use Rattle.rules.specs.Turn.{dependence, advance, retake, park, wait}
use Rattle.rules.specs.TouchLaws.{resumed}
use Rattle.rules.proofs.NoteLaws.{effect_depends, recorded, operate-after}
use Rattle.turns_steps.specs.declared.Move.{Move}
use Rattle.turns_steps.specs.declared.Move.TheVariants.{Begins, Answers, Goes, Waits}
use Rattle.turns_steps.specs.declared.Acting.{Acting}
use Rattle.turns_steps.specs.declared.Acting.TheVariants.{Moves, InEffect, Over, Done}
use Rattle.turns_steps.specs.Step as step
use Rattle.turns_steps.specs.Step.{Scene, Moved, with, in_turn, spot_in, failing, thereafter, operation, act}
use Rattle.turns_steps.specs.Quiet.{who, rests, stops, is_quiet}

-- the operation that takes effect, the turn it is in, and who is asked then
abbrev pub again : Phase → Op → Op
again Nothing op = op
again (Announced p) op = op
again Parked op = op
again (Retaking p) op = record { call = Mutex mutex-call.AcquireLock; object = p.obj }

abbrev pub op_in : Phase → Move → Op → Op
op_in p (Begins t) op = again p op
op_in p (Answers t b) op = op
op_in p (Goes t q) op = op
op_in p (Waits t o) op = record { call = Mutex mutex-call.ReleaseLock; object = o }

abbrev pub turn_in : Move → ℕ → ℕ
turn_in (Begins t) n = risen 65535 n
turn_in (Answers t b) n = n
turn_in (Goes t p) n = n
turn_in (Waits t o) n = n

abbrev pub asked_in : Move → Option ThreadId → Option ThreadId
asked_in (Begins t) a = a
asked_in (Answers t b) a = None
asked_in (Goes t p) a = a
asked_in (Waits t o) a = a

-- what takes effect: an operation, or a spurious wake
abbrev pub wakes_spuriously : Move → Bool
wakes_spuriously (Begins t) = false
wakes_spuriously (Answers t b) = true
wakes_spuriously (Goes t p) = false
wakes_spuriously (Waits t o) = false

abbrev pub spurred : Entry → List Thread → Effect
spurred e ts = record { ending = Ok tt; answer = None; entry = put_notify e (notify.spur e.notify); threads = ts }

abbrev pub takes_effect : Move → Call → ThreadId → ObjectId → Entry → List Thread → Effect
takes_effect (Begins u) c t o e ts = effect c t o e ts
takes_effect (Answers u b) c t o e ts = spurred e ts
takes_effect (Goes u p) c t o e ts = effect c t o e ts
takes_effect (Waits u m) c t o e ts = effect c t o e ts

-- the thread then: one operation more is done, but for a wait, which parks
abbrev pub one_more : Option ObjectId → Option ℕ → Thread → Thread
one_more None n x = with_position (answering n x) (risen 255 x.position)
one_more (Some m) n x = x

unfoldable pub parked : ObjectId → Thread → Thread
parked m x =
    elim (has_unpark x.state)
    [ true ↦ with_phase (set_runnable x) (Retaking (record { obj = m; action = action.Opaque })) | false ↦ with_phase (set_blocked x) Parked ]

abbrev pub version_in : Move → Call → Entry → Thread → Clock
version_in (Begins t) c e x = dependence t c e x
version_in (Answers t b) c e x = x.dependence
version_in (Goes t p) c e x = x.dependence
version_in (Waits t o) c e x = x.dependence

abbrev pub after_effect : Move → Option ObjectId → Option ℕ → Clock → Thread → Thread
after_effect (Begins t) w n v x = one_more w n (resumed v x)
after_effect (Answers t b) w n v x = one_more None n (set_runnable x)
after_effect (Goes t p) w n v x = one_more None n x
after_effect (Waits t o) w n v x = parked o x

-- the object then: an announced operation's access is recorded
abbrev pub recorded_in : Move → Call → Access → Entry → Entry
recorded_in (Begins t) c x e = set_last_access c x e
recorded_in (Answers t b) c x e = e
recorded_in (Goes t p) c x e = e
recorded_in (Waits t o) c x e = e

-- who acts then: a failing step is a verdict, a wait goes on to its mutex, and a thread to its next operation
unfoldable pub verdict_or : Ending → Spot → Acting → Acting
verdict_or (Ok ok) spot next = next
verdict_or (Err failure.Misuse) spot next = Done (answer.Misuse spot)
verdict_or (Err failure.NoRoom) spot next = Done (answer.NoRoom spot)
verdict_or (Err (failure.Race other)) spot next = Done (answer.Race spot other)

abbrev pub next_of : Option ObjectId → ThreadId → ℕ → Acting
next_of None t p = Moves (Goes t p)
next_of (Some m) t p = Moves (Waits t m)

abbrev pub next_in : Move → Option ObjectId → ℕ → Acting
next_in (Begins t) w position = next_of w t (risen 255 position)
next_in (Answers t b) w position = Over
next_in (Goes t p) w position = Moves (Goes t (risen 255 p))
next_in (Waits t o) w position = Over

-- who acts between the effect and what follows it
unfoldable pub outcome : Ending → Move → Op → Option ℕ → ℕ → Acting
outcome e m op n position = verdict_or e (record { thread = who m; position = position; object = op.object }) (InEffect m op n)

-- the verdict on a failing step, and who acts by what took effect as the code has it, an answer or a failure
abbrev pub failed_at : Failure → Spot → Answer
failed_at failure.Misuse spot = answer.Misuse spot
failed_at failure.NoRoom spot = answer.NoRoom spot
failed_at (failure.Race other) spot = answer.Race spot other

abbrev pub outcome_of : Result (Option ℕ) Failure → Move → Op → ℕ → Acting
outcome_of (Ok n) m op position = InEffect m op n
outcome_of (Err f) m op position = Done (failed_at f (record { thread = who m; position = position; object = op.object }))

-- a step that is fine goes on, and one that fails shows the scene before it
failing-fine : (x : Ending) (t : ThreadId) (o : ObjectId) (s : Scene) (next : Moved) → is_fine x ≡ true → failing x t o s next ≡ next
unfolding failing
failing-fine (Ok ok) t o s next h = refl
failing-fine (Err failure.Misuse) t o s next h = absurd (false≢true h)
failing-fine (Err failure.NoRoom) t o s next h = absurd (false≢true h)
failing-fine (Err (failure.Race x)) t o s next h = absurd (false≢true h)

failing_not : (x : Ending) (t : ThreadId) (o : ObjectId) (s : Scene) (next : Moved) (z : Acting) → is_fine x ≡ false
    → failing x t o s next ≡ record { acting = verdict_or x (spot_in s t o) z; scene = s }
unfolding failing verdict_or
failing_not (Ok ok) t o s next z h = absurd (false≢true (sym h))
failing_not (Err failure.Misuse) t o s next z h = refl
failing_not (Err failure.NoRoom) t o s next z h = refl
failing_not (Err (failure.Race x)) t o s next z h = refl

-- the threads with one of them changed
abbrev pub changed : List Thread → ThreadId → (Thread → Thread) → List Thread
changed ts t f = put_thread ts t (f (thread_at ts t))

-- an element put back, and changed again in its place
pub set_then : {A : Type 0} (xs : List A) (i : ℕ) (a d : A) (f : A → A) → set (set xs i a) i (f (get_or (set xs i a) i d)) ≡ set xs i (f a)
set_then [] i a d f = refl
set_then (x ∷ xs) zero a d f = refl
set_then (x ∷ xs) (suc i) a d f = ap (λ ys. x ∷ ys) (set_then xs i a d f)

changed_twice : (ts : List Thread) (t : ThreadId) (f g : Thread → Thread) → changed (changed ts t f) t g ≡ changed ts t (λ x. g (f x))
changed_twice ts t f g = set_then ts t.0 (f (thread_at ts t)) absent g

thereafter_is : (w : Option ObjectId) (t : ThreadId) (n : Option ℕ) (p : ℕ) (s : Scene)
    → thereafter w t n p s ≡ record { acting = next_of w t (risen 255 p); scene = with s s.entry (changed s.threads t (one_more w n)) }
unfolding thereafter advance
thereafter_is None t n p s = refl
thereafter_is (Some m) t n p s = ap (λ (ts : List Thread). record { acting = Moves (Waits t m); scene = with s s.entry ts }) (sym (set-get_or s.threads t.0 _))

-- a thread parks, or retakes a mutex that is free
park_is : (t : ThreadId) (m : ObjectId) (e : Entry) (ts : List Thread) → mutex.is_locked e.mutex.lock ≡ false → park t m e ts ≡ changed ts t (parked m)
unfolding park parked retake announced
park_is t m e ts h =
    let x : Thread = thread_at ts t in
    let phase : Phase = Retaking (record { obj = m; action = action.Opaque }) in
    split (has_unpark x.state)
    (λ f. rw (park, parked, f) (ap (λ (b : Bool). changed (changed ts t set_runnable) t (announced phase b)) h ∙ changed_twice ts t set_runnable (announced phase false)))
    (λ f. rw (park, parked, f))

module _ (op : Op) (s : Scene) where
  abbrev pub position : Move → ℕ
  position m = (thread_at s.threads (who m)).position

  -- the operation, what it does, and the scene after it
  abbrev pub work : Move → Op
  work m = op_in (thread_at s.threads (who m)).phase m op

  abbrev pub done_by : Move → Op → Effect
  done_by m w = takes_effect m w.call (who m) w.object s.entry s.threads

  abbrev pub version_by : Move → Op → Effect → Clock
  version_by m w r = version_in m w.call r.entry (thread_at s.threads (who m))

  abbrev pub scene_by : Move → Op → Effect → Scene
  scene_by m w r =
      record {
        entry = recorded_in m w.call (record { path_id = turn_in m s.turn; version = version_by m w r }) r.entry;
        threads = changed r.threads (who m) (after_effect m (wait_of w.call) r.answer (version_by m w r));
        turn = turn_in m s.turn;
        asked = asked_in m s.asked;
      }

  abbrev moved_by : Move → Op → Moved
  moved_by m w = record { acting = next_in m (wait_of w.call) (position m); scene = scene_by m w (done_by m w) }

  abbrev failed_by : Move → Op → Moved
  failed_by m w = record { acting = outcome (done_by m w).ending m w (done_by m w).answer (position m); scene = s }

  -- an announced operation, its effect first
  abbrev goes_on_from : ThreadId → Op → Effect → Moved
  goes_on_from t w r =
      failing r.ending t w.object s (thereafter (wait_of w.call) t r.answer (thread_at s.threads t).position (with (in_turn s (risen 65535 s.turn)) r.entry r.threads))

  operation_is : (t : ThreadId) (w : Op) → operation t w s ≡ goes_on_from t w (recorded t w.call (risen 65535 s.turn) (version_by (Begins t) w (done_by (Begins t) w)) (done_by (Begins t) w))
  unfolding operation
  operation_is t w = ap (goes_on_from t w) (operate-after t w (risen 65535 s.turn) s.entry s.threads)

  operation-fine : (t : ThreadId) (w : Op) → is_fine (done_by (Begins t) w).ending ≡ true → operation t w s ≡ moved_by (Begins t) w
  operation-fine t w h =
      let r : Effect = done_by (Begins t) w in
      let v : Clock = version_by (Begins t) w r in
      operation_is t w
      ∙ failing-fine _ t w.object s _ h
      ∙ thereafter_is (wait_of w.call) t r.answer _ _
      ∙ ap (λ (ts : List Thread). record { acting = next_in (Begins t) (wait_of w.call) (position (Begins t)); scene = record { entry = (scene_by (Begins t) w r).entry; threads = ts; turn = risen 65535 s.turn; asked = s.asked } })
      (changed_twice r.threads t (resumed v) (one_more (wait_of w.call) r.answer))

  operation-fails : (t : ThreadId) (w : Op) → is_fine (done_by (Begins t) w).ending ≡ false → operation t w s ≡ failed_by (Begins t) w
  unfolding outcome
  operation-fails t w h = operation_is t w ∙ failing_not _ t w.object s _ _ h

  begins-fine : (t : ThreadId) (p : Phase) → rests p ≡ false → is_fine (done_by (Begins t) (again p op)).ending ≡ true → step.begins p t op s ≡ moved_by (Begins t) (again p op)
  unfolding step.begins
  begins-fine t Nothing q h = absurd (false≢true (sym q))
  begins-fine t (Announced p) q h = operation-fine t op h
  begins-fine t Parked q h = absurd (false≢true (sym q))
  begins-fine t (Retaking p) q h = operation-fine t (again (Retaking p) op) h

  begins-fails : (t : ThreadId) (p : Phase) → rests p ≡ false → is_fine (done_by (Begins t) (again p op)).ending ≡ false → step.begins p t op s ≡ failed_by (Begins t) (again p op)
  unfolding step.begins
  begins-fails t Nothing q h = absurd (false≢true (sym q))
  begins-fails t (Announced p) q h = operation-fails t op h
  begins-fails t Parked q h = absurd (false≢true (sym q))
  begins-fails t (Retaking p) q h = operation-fails t (again (Retaking p) op) h

  goes-free : (t : ThreadId) (p : ℕ) (left : Bool) → stops left op.call ≡ false → step.goes_on t p left op s ≡ step.free t p op s
  unfolding step.goes_on stops
  goes-free t p false q = absurd (false≢true (sym q))
  goes-free t p true q = split (is_free op.call) (λ f. rw (step.goes_on, f)) (λ f. absurd (false≢true (sym q ∙ ap not f)))

  free-fine : (t : ThreadId) (p : ℕ) → is_fine (done_by (Goes t p) op).ending ≡ true → step.free t p op s ≡ moved_by (Goes t p) op
  unfolding step.free advance
  free-fine t p h = failing-fine _ t op.object s _ h

  free-fails : (t : ThreadId) (p : ℕ) → is_fine (done_by (Goes t p) op).ending ≡ false → step.free t p op s ≡ failed_by (Goes t p) op
  unfolding step.free outcome
  free-fails t p h = failing_not _ t op.object s _ _ h

  -- a step whose end is told by its threads
  abbrev over_as : Move → List Thread → Moved
  over_as m ts = record { acting = Over; scene = record { entry = (done_by m (work m)).entry; threads = ts; turn = turn_in m s.turn; asked = asked_in m s.asked } }

  pub loud_fine : (m : Move) (left : Bool) → is_quiet (thread_at s.threads (who m)).phase m left op.call ≡ false → is_fine (done_by m (work m)).ending ≡ true
      → act m left op s ≡ record { acting = next_in m (wait_of (work m).call) (position m); scene = scene_by m (work m) (done_by m (work m)) }
  unfolding act effect doing mutex.doing step.answers step.spurious step.waits wait advance
  loud_fine (Begins t) left q h = begins-fine t (thread_at s.threads t).phase q h
  loud_fine (Answers t true) left q h = ap (over_as (Answers t true)) (changed_twice s.threads t set_runnable (one_more None None))
  loud_fine (Answers t false) left q h = absurd (false≢true (sym q))
  loud_fine (Goes t p) left q h = goes-free t p left q ∙ free-fine t p h
  loud_fine (Waits t o) left q h = ap (over_as (Waits t o)) (park_is t o (done_by (Waits t o) (work (Waits t o))).entry (done_by (Waits t o) (work (Waits t o))).threads refl)

  pub loud_fails : (m : Move) (left : Bool) → is_quiet (thread_at s.threads (who m)).phase m left op.call ≡ false → is_fine (done_by m (work m)).ending ≡ false
      → act m left op s ≡ record { acting = outcome (done_by m (work m)).ending m (work m) (done_by m (work m)).answer (position m); scene = s }
  unfolding act effect doing mutex.doing
  loud_fails (Begins t) left q h = begins-fails t (thread_at s.threads t).phase q h
  loud_fails (Answers t b) left q h = absurd (false≢true (sym h))
  loud_fails (Goes t p) left q h = goes-free t p left q ∙ free-fails t p h
  loud_fails (Waits t o) left q h = absurd (false≢true (sym h))

-- a dependence clock is the same by the object before the effect
pub version_before : (m : Move) (c : Call) (t : ThreadId) (o : ObjectId) (e : Entry) (ts : List Thread) (x : Thread) → version_in m c e x ≡ version_in m c (takes_effect m c t o e ts).entry x
unfolding dependence
version_before (Begins u) c t o e ts x = ap (λ (l : Access). inc_of (join_of x.dependence l.version) u) (sym (effect_depends c t o e ts))
version_before (Answers u b) c t o e ts x = refl
version_before (Goes u p) c t o e ts x = refl
version_before (Waits u p) c t o e ts x = refl
