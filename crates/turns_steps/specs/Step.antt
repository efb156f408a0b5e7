-- A turn in steps: what each does to the threads and to the one object that it is about. `RunLaws` shows that together they are the turn of
-- document 01.
use Rattle.std.specs.Prelude.{◌≡◌, Bool, true, false, List, ℕ, ◌+◌, ◌*◌, ◌≤◌, ◌<◌, eqb, ltb, get_or, None, Option, Some, Err, Ok}
use Rattle.std.proofs.Common.{◌∙◌, ap, lt-ltb, le-ltb}
use Rattle.clocks.specs.Clock.{risen}
use Rattle.clocks.specs.declared.thread.ThreadId.{ThreadId}
use Rattle.rules.specs.declared.object.ObjectId.{ObjectId}
use Rattle.rules.specs.declared.object.Entry.{Entry}
use Rattle.rules.specs.Ground.{Ending}
use Rattle.rules.specs.declared.object.Failure.TheVariants as failure
use Rattle.rules.specs.declared.mutex.Call.TheVariants as mutex-call
use Rattle.rules.specs.declared.thread.Phase.{Phase}
use Rattle.rules.specs.declared.thread.Phase.TheVariants.{Nothing, Announced, Parked, Retaking}
use Rattle.rules.specs.declared.thread.Thread.{Thread}
use Rattle.rules.specs.declared.table.Call.TheVariants.{Mutex}
use Rattle.rules.specs.declared.table.Op.{Op}
use Rattle.rules.specs.declared.answer.Answer.{Answer}
use Rattle.rules.specs.declared.answer.Answer.TheVariants as answer
use Rattle.rules.specs.declared.answer.Spot.{Spot}
use Rattle.rules.specs.Limits.{max_operations, op_places}
use Rattle.rules.specs.Ground.{thread_at, put_thread, set_runnable}
use Rattle.rules.specs.Object.{put_notify}
use Rattle.rules.specs.Notify as notify
use Rattle.rules.specs.Effect.{is_free, asks, wait_of, effect}
use Rattle.rules.specs.Turn.{all_ended, any_runnable, stuck, mutex_of, announce_op, retake, operate, advance, ended, wait}
use Rattle.turns_steps.specs.declared.Move.{Move}
use Rattle.turns_steps.specs.declared.Move.TheVariants.{Begins, Answers, Goes, Waits}
use Rattle.turns_steps.specs.declared.Acting.{Acting}
use Rattle.turns_steps.specs.declared.Acting.TheVariants.{Nobody, Moves, Over, AllEnded, Done}

-- the world as a step sees it: of the objects, the one that it is about
pub record Scene : Type 0 where
  pub entry : Entry
  pub threads : List Thread
  pub turn : ℕ
  pub asked : Option ThreadId

-- who acts after a step, and the scene then
pub record Moved : Type 0 where
  pub acting : Acting
  pub scene : Scene

-- the object that a move is about
abbrev pub first_subject : Phase → Op → ObjectId
first_subject Nothing op = op.object
first_subject (Announced p) op = op.object
first_subject Parked op = mutex_of (wait_of op.call)
first_subject (Retaking p) op = p.obj

abbrev pub subject : List Thread → Move → Op → ObjectId
subject ts (Begins t) op = first_subject (thread_at ts t).phase op
subject ts (Answers t b) op = op.object
subject ts (Goes t p) op = op.object
subject ts (Waits t o) op = o

-- a scene with parts changed
abbrev pub with : Scene → Entry → List Thread → Scene
with s e ts = record { entry = e; threads = ts; turn = s.turn; asked = s.asked }

abbrev pub in_turn : Scene → ℕ → Scene
in_turn s n = record { entry = s.entry; threads = s.threads; turn = n; asked = s.asked }

abbrev pub asked_as : Scene → Option ThreadId → Scene
asked_as s a = record { entry = s.entry; threads = s.threads; turn = s.turn; asked = a }

-- what a step may come to
abbrev pub fails : Scene → Answer → Moved
fails s a = record { acting = Done a; scene = s }

abbrev pub over : Scene → List Thread → Moved
over s ts = record { acting = Over; scene = with s s.entry ts }

abbrev pub goes : Scene → ThreadId → ℕ → Moved
goes s t p = record { acting = Moves (Goes t p); scene = s }

abbrev pub queues : Scene → ThreadId → ObjectId → Moved
queues s t m = record { acting = Moves (Waits t m); scene = s }

abbrev pub asking : ThreadId → Scene → Moved
asking t s = record { acting = Nobody; scene = asked_as s (Some t) }

abbrev pub spot_in : Scene → ThreadId → ObjectId → Spot
spot_in s t o = record { thread = t; position = (thread_at s.threads t).position; object = o }

unfoldable pub failing : Ending → ThreadId → ObjectId → Scene → Moved → Moved
failing (Ok ok) t o before next = next
failing (Err failure.Misuse) t o before next = fails before (answer.Misuse (spot_in before t o))
failing (Err failure.NoRoom) t o before next = fails before (answer.NoRoom (spot_in before t o))
failing (Err (failure.Race other)) t o before next = fails before (answer.Race (spot_in before t o) other)

abbrev pub advanced : Scene → ThreadId → Option ℕ → ℕ → Moved
advanced s t n p = goes (with s s.entry (advance t n s.threads)) t (risen 255 p)

unfoldable pub thereafter : Option ObjectId → ThreadId → Option ℕ → ℕ → Scene → Moved
thereafter None t n p s = advanced s t n p
thereafter (Some m) t n p s = queues s t m

unfoldable pub operation : ThreadId → Op → Scene → Moved
operation t op s =
    let n = risen 65535 s.turn in
    let r = operate t op n s.entry s.threads in
    failing r.ending t op.object s (thereafter (wait_of op.call) t r.answer (thread_at s.threads t).position (with (in_turn s n) r.entry r.threads))

-- the turn of a thread, by its phase
unfoldable pub begins : Phase → ThreadId → Op → Scene → Moved
begins Nothing t op s = goes (in_turn s (risen 65535 s.turn)) t (thread_at s.threads t).position
begins (Announced p) t op s = operation t op s
begins Parked t op s = over (in_turn s (risen 65535 s.turn)) (retake t (mutex_of (wait_of op.call)) s.entry s.threads)
begins (Retaking p) t op s = operation t (record { call = Mutex mutex-call.AcquireLock; object = p.obj }) s

-- an operation that needs no announcement
unfoldable pub free : ThreadId → ℕ → Op → Scene → Moved
free t p op s =
    let r = effect op.call t op.object s.entry s.threads in
    failing r.ending t op.object s (advanced (with s r.entry r.threads) t r.answer p)

unfoldable pub goes_on : ThreadId → ℕ → Bool → Op → Scene → Moved
goes_on t p left op s =
    elim left [
      | true ↦
          elim (is_free op.call) [
            | true ↦ free t p op s
            | false ↦ elim (asks op.call s.entry) [ true ↦ asking t s | false ↦ over s (announce_op t op s.entry s.threads) ]
          ]
      | false ↦ over s (ended t s.threads)
    ]

unfoldable pub spurious : ThreadId → Scene → Moved
spurious t s =
    over (with s (put_notify s.entry (notify.spur s.entry.notify)) s.threads) (advance t None (put_thread s.threads t (set_runnable (thread_at s.threads t))))

unfoldable pub answers : ThreadId → Bool → Op → Scene → Moved
answers t spur op s =
    elim spur [ true ↦ spurious t (asked_as s None) | false ↦ over (asked_as s None) (announce_op t op s.entry s.threads) ]

unfoldable pub waits : ThreadId → ObjectId → Scene → Moved
waits t m s = let r = wait t m s.entry s.threads in over (with s r.entry s.threads) r.threads

unfoldable pub act : Move → Bool → Op → Scene → Moved
act (Begins t) left op s = begins (thread_at s.threads t).phase t op s
act (Answers t spur) left op s = answers t spur op s
act (Goes t p) left op s = goes_on t p left op s
act (Waits t o) left op s = waits t o s

-- where the operation at position p of a thread stands among the table's; one past the last place if there is none
abbrev pub place_at : List ℕ → ThreadId → ℕ → ℕ
place_at counts t p = elim (ltb p (get_or counts t.0 0)) [ true ↦ max_operations * t.0 + p | false ↦ op_places ]

abbrev pub place_of : List ℕ → List Thread → Move → ℕ
place_of counts ts (Begins t) = place_at counts t (thread_at ts t).position
place_of counts ts (Answers t b) = place_at counts t (thread_at ts t).position
place_of counts ts (Goes t p) = place_at counts t p
place_of counts ts (Waits t o) = op_places

-- a number, where it is below a bound; one past it stands for none
abbrev pub below : ℕ → ℕ → Option ℕ
below top n = elim (ltb n top) [ true ↦ Some n | false ↦ None ]

pub below_there : (top n k : ℕ) → n ≡ k → n < top → Some n ≡ below top k
below_there top n k e h = let s : Some n ≡ below top n = rw (below, lt-ltb n top h) in s ∙ ap (below top) e

pub below_none : (top k : ℕ) → top ≤ k → None ≡ below top k
below_none top k h = rw (below, le-ltb k top h)

-- the move that a decision chooses
abbrev pub chosen : Option ThreadId → ℕ → Move
chosen None d = Begins (record { 0 = d })
chosen (Some t) d = Answers t (eqb d 1)

-- who acts after a turn
unfoldable pub after : List Thread → Acting
after ts = elim (all_ended ts) [ true ↦ AllEnded | false ↦ elim (any_runnable ts) [ true ↦ Nobody | false ↦ Done (answer.Deadlock (stuck 0 ts)) ] ]
