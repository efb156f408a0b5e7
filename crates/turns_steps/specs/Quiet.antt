-- The steps that leave their object as it is, by what each does to its thread, and that they are the steps of `Step`.
use Rattle.std.specs.Prelude.{◌≡◌, Bool, ℕ, leb, None, Option, Some}
use Rattle.std.proofs.Math.Path.{refl, ap}
use Rattle.std.proofs.Common.{sym, ◌∙◌}
use Rattle.std.proofs.Math.Bool.{true, false, not}
use Rattle.std.proofs.lemmas.Bool.{false≢true}
use mathlib.Core.List.{List}
use Rattle.std.proofs.lemmas.List.{set-get_or}
use Rattle.clocks.specs.Clock.{risen}
use Rattle.clocks.specs.declared.thread.ThreadId.{ThreadId}
use Rattle.rules.specs.declared.object.Action.TheVariants as action
use Rattle.rules.specs.declared.object.ObjectId.{ObjectId}
use Rattle.rules.specs.declared.object.Entry.{Entry}
use Rattle.rules.specs.declared.thread.Phase.{Phase}
use Rattle.rules.specs.declared.thread.Phase.TheVariants.{Nothing, Announced, Parked, Retaking}
use Rattle.rules.specs.declared.thread.State.{State}
use Rattle.rules.specs.declared.thread.State.TheVariants as state
use Rattle.rules.specs.declared.thread.Thread.{Thread}
use Rattle.rules.specs.declared.table.Call.{Call}
use Rattle.rules.specs.declared.table.Op.{Op}
use Rattle.rules.specs.Limits.{op_places}
use Rattle.rules.specs.Ground.{thread_at, put_thread, with_state, with_phase, is_runnable}
use Rattle.rules.specs.Object.{announced}
use Rattle.rules.specs.Mutex as mutex
use Rattle.rules.specs.Effect.{is_free, action_of, is_disabled, asks, wait_of}
use Rattle.rules.proofs.TableLaws.{split}
use Rattle.rules.specs.Turn.{mutex_of, announce_op, retake, ended}
use Rattle.turns_steps.specs.declared.Move.{Move}
use Rattle.turns_steps.specs.declared.Move.TheVariants.{Begins, Answers, Goes, Waits}
use Rattle.turns_steps.specs.declared.Acting.TheVariants.{Nobody, Moves, Over}
use Rattle.turns_steps.specs.declared.Quiet.{Quiet}
use Rattle.turns_steps.specs.Step as step
use Rattle.turns_steps.specs.Step.{Scene, Moved, first_subject, subject, act, place_at, place_of, chosen}

-- the thread that moves, and what a move is about, by its record alone
abbrev pub who : Move → ThreadId
who (Begins t) = t
who (Answers t b) = t
who (Goes t p) = t
who (Waits t o) = t

abbrev pub is_begun : Move → Bool
is_begun (Begins t) = true
is_begun (Answers t b) = false
is_begun (Goes t p) = false
is_begun (Waits t o) = false

abbrev pub subject_in : Phase → Move → Op → ObjectId
subject_in p (Begins t) op = first_subject p op
subject_in p (Answers t b) op = op.object
subject_in p (Goes t q) op = op.object
subject_in p (Waits t o) op = o

pub subject_in_lem : (ts : List Thread) (m : Move) (op : Op) → subject ts m op ≡ subject_in (thread_at ts (who m)).phase m op
subject_in_lem ts (Begins t) op = refl
subject_in_lem ts (Answers t b) op = refl
subject_in_lem ts (Goes t p) op = refl
subject_in_lem ts (Waits t o) op = refl

abbrev pub place_in : List ℕ → ℕ → Move → ℕ
place_in counts p (Begins t) = place_at counts t p
place_in counts p (Answers t b) = place_at counts t p
place_in counts p (Goes t q) = place_at counts t q
place_in counts p (Waits t o) = op_places

pub place_in_lem : (counts : List ℕ) (ts : List Thread) (m : Move) → place_of counts ts m ≡ place_in counts (thread_at ts (who m)).position m
place_in_lem counts ts (Begins t) = refl
place_in_lem counts ts (Answers t b) = refl
place_in_lem counts ts (Goes t p) = refl
place_in_lem counts ts (Waits t o) = refl

abbrev pub allowed_in : Option ThreadId → State → ℕ → Bool
allowed_in None s d = is_runnable s
allowed_in (Some t) s d = leb d 1

-- which steps leave their object as it is
abbrev pub rests : Phase → Bool
rests Nothing = true
rests (Announced p) = false
rests Parked = true
rests (Retaking p) = false

unfoldable pub stops : Bool → Call → Bool
stops left c = elim left [ true ↦ not (is_free c) | false ↦ true ]

abbrev pub is_quiet : Phase → Move → Bool → Call → Bool
is_quiet p (Begins t) left c = rests p
is_quiet p (Answers t spur) left c = not spur
is_quiet p (Goes t q) left c = stops left c
is_quiet p (Waits t o) left c = false

unfoldable pub is_barred : Bool → Call → Entry → Bool
is_barred begun c e = elim begun [ true ↦ mutex.is_locked e.mutex.lock | false ↦ is_disabled c e ]

-- what each does to its thread
abbrev pub announced_on : Op → Bool → Thread → Thread
announced_on op barred x = announced (Announced (record { obj = op.object; action = action_of op.call })) barred x

abbrev pub retaken_on : ObjectId → Bool → Thread → Thread
retaken_on m barred x = announced (Retaking (record { obj = m; action = action.Opaque })) barred x

abbrev pub over : Thread → ℕ → Option ThreadId → Quiet
over x n a = record { acting = Over; thread = x; turn = n; asked = a }

unfoldable pub begins : Phase → ThreadId → Option ObjectId → Bool → Thread → ℕ → Option ThreadId → Quiet
begins Nothing t c barred x n a = record { acting = Moves (Goes t x.position); thread = x; turn = risen 65535 n; asked = a }
begins (Announced p) t c barred x n a = over x n a
begins Parked t c barred x n a = over (retaken_on (mutex_of c) barred x) (risen 65535 n) a
begins (Retaking p) t c barred x n a = over x n a

unfoldable pub goes_on : ThreadId → Bool → Op → Bool → Bool → Thread → ℕ → Option ThreadId → Quiet
goes_on t left op barred ask x n a =
    elim left [
      | true ↦ elim ask [ true ↦ record { acting = Nobody; thread = x; turn = n; asked = Some t } | false ↦ over (announced_on op barred x) n a ]
      | false ↦ over (with_phase (with_state x state.Ended) Nothing) n a
    ]

unfoldable pub quietly : Move → Bool → Op → Bool → Bool → Thread → ℕ → Option ThreadId → Quiet
quietly (Begins t) left op barred ask x n a = begins x.phase t (wait_of op.call) barred x n a
quietly (Answers t spur) left op barred ask x n a = over (announced_on op barred x) n None
quietly (Goes t p) left op barred ask x n a = goes_on t left op barred ask x n a
quietly (Waits t o) left op barred ask x n a = over x n a

-- a scene after such a step
abbrev pub stayed : Scene → ThreadId → Quiet → Moved
stayed s t q = record { acting = q.acting; scene = record { entry = s.entry; threads = put_thread s.threads t q.thread; turn = q.turn; asked = q.asked } }

module _ (op : Op) (s : Scene) where
  same : (t : ThreadId) → s.threads ≡ put_thread s.threads t (thread_at s.threads t)
  same t = sym (set-get_or s.threads t.0 _)

  begins-quietly : (p : Phase) (t : ThreadId) → rests p ≡ true
      → step.begins p t op s ≡ stayed s t (begins p t (wait_of op.call) (mutex.is_locked s.entry.mutex.lock) (thread_at s.threads t) s.turn s.asked)
  unfolding step.begins begins retake
  begins-quietly Nothing t h = ap (λ (ts : List Thread). record { acting = Moves (Goes t (thread_at s.threads t).position); scene = record { entry = s.entry; threads = ts; turn = risen 65535 s.turn; asked = s.asked } }) (same t)
  begins-quietly (Announced p) t h = absurd (false≢true h)
  begins-quietly Parked t h = refl
  begins-quietly (Retaking p) t h = absurd (false≢true h)

  goes-quietly : (t : ThreadId) (p : ℕ) (left : Bool) → stops left op.call ≡ true
      → step.goes_on t p left op s ≡ stayed s t (goes_on t left op (is_disabled op.call s.entry) (asks op.call s.entry) (thread_at s.threads t) s.turn s.asked)
  unfolding step.goes_on goes_on stops announce_op ended
  goes-quietly t p false h = refl
  goes-quietly t p true h =
      split (is_free op.call) (λ f. absurd (false≢true (sym (ap not f) ∙ h)))
      (λ f. split (asks op.call s.entry) (λ k. rw (step.goes_on, goes_on, f, k) (ap (λ (ts : List Thread). record { acting = Nobody; scene = record { entry = s.entry; threads = ts; turn = s.turn; asked = Some t } }) (same t))) (λ k. rw (step.goes_on, goes_on, f, k)))

  pub quiet_law : (m : Move) (left : Bool) → is_quiet (thread_at s.threads (who m)).phase m left op.call ≡ true
      → act m left op s
      ≡ stayed s (who m) (quietly m left op (is_barred (is_begun m) op.call s.entry) (asks op.call s.entry) (thread_at s.threads (who m)) s.turn s.asked)
  unfolding act quietly is_barred step.answers announce_op
  quiet_law (Begins t) left h = begins-quietly (thread_at s.threads t).phase t h
  quiet_law (Answers t true) left h = absurd (false≢true h)
  quiet_law (Answers t false) left h = refl
  quiet_law (Goes t p) left h = goes-quietly t p left h
  quiet_law (Waits t o) left h = absurd (false≢true h)
