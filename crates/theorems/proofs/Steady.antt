-- What a turn of t keeps of all clocks, where they may have whatever it joins and counts, and nothing is asked of its own position and phase. The words are in specs/Steady.antt.
use Rattle.std.specs.Prelude.{◌≡◌, Bool, ℕ, None, Option}
use Rattle.std.proofs.Math.Path.{refl}
use mathlib.Core.List.{List}
use Rattle.clocks.specs.Clock.{max_threads, zero_clock, risen, join_of, inc_of}
use Rattle.clocks.specs.declared.clock.Clock.{Clock}
use Rattle.clocks.specs.declared.thread.ThreadId.{ThreadId}
use Rattle.rules.specs.declared.object.ObjectId.{ObjectId}
use Rattle.rules.specs.declared.object.Entry.{Entry}
use Rattle.rules.specs.declared.mutex.Call.TheVariants as mutex-call
use Rattle.rules.specs.declared.thread.Phase.{Phase}
use Rattle.rules.specs.declared.thread.Thread.{Thread}
use Rattle.rules.specs.declared.table.Call.{Call}
use Rattle.rules.specs.declared.table.Call.TheVariants.{Mutex}
use Rattle.rules.specs.declared.table.Op.{Op}
use Rattle.rules.specs.declared.table.Table.{Table}
use Rattle.rules.specs.declared.world.World.{World}
use Rattle.rules.specs.Ground.{with_position, thread_at, put_thread, set_runnable, has_unpark}
use Rattle.rules.specs.Object.{new_entry, no_object, put_entry, announced}
use Rattle.rules.proofs.TableLaws.{by_test}
use Rattle.rules.specs.Effect.{last_dependent_access, effect}
use Rattle.rules.specs.Turn.{thread_in, entry_in, announce_op, retake, dependence, operate, advance, ended, park, wait, spurious}
use Rattle.theorems.proofs.All.{all_set}
use Rattle.theorems.proofs.Touches.{put_holds, answering_by}
use Rattle.theorems.specs.Each.{Passes, Begins, Answers, version, accessed, recorded, dependent, in_effect, waiting}
use Rattle.theorems.specs.Kept.{Object, One, Threads}
use Rattle.theorems.proofs.Kept.{announced_one, notify_put, last_version, access_recorded, effect-kept}
use Rattle.theorems.specs.Steady.{Steady}

module _ (C D : Clock → Type 0) (M : ℕ → ℕ → Phase → Type 0) (E : List Entry → Type 0) (join : (c d : Clock) → C c → C d → C (join_of c d)) (none : C zero_clock)
    (joinD : (c d : Clock) → D c → D d → D (join_of c d)) (never : D zero_clock)
    (stored : (es : List Entry) (o : ObjectId) (e : Entry) → E es → E (put_entry es o e)) (t : ThreadId) (own : (c : Clock) → C c → C (inc_of c t)) (dep : (c : Clock) → D c → D (inc_of c t))
    (free : (q : ℕ) (f : Phase) → M t.0 q f) (Q : ThreadId → Call → Entry → List Thread → Type 0)
    (sees : (c : Call) (e : Entry) (ts : List Thread) → Threads C D M ts → Object C D e → Q t c e ts) (J : World → Type 0)
    (shows : (v : World) → Steady C D M E v.threads v.objects → J v) where
  abbrev Holds : List Thread → List Entry → Type 0
  Holds ts es = Steady C D M E ts es

  -- the thread that acts is put, an object is
  put : (ts : List Thread) (es : List Entry) (x : Thread) → Holds ts es → C x.clock → D x.dependence → Holds (put_thread ts t x) es
  put ts es x h p q = record { threads = put_holds max_threads (One C D M) t ts x h.threads (p, q, free x.position x.phase); objects = h.objects; store = h.store }

  place : (ts : List Thread) (es : List Entry) (o : ObjectId) (e : Entry) → Holds ts es → Object C D e → Holds ts (put_entry es o e)
  place ts es o e h x =
      record { threads = h.threads; objects = all_set (λ i. Object C D) (new_entry no_object) es o.0 e h.objects x; store = stored es o e h.store }

  -- its clocks as they are
  same_put : (ts : List Thread) (es : List Entry) (x : Thread) → x.clock ≡ (thread_at ts t).clock → x.dependence ≡ (thread_at ts t).dependence → Holds ts es → Holds (put_thread ts t x) es
  same_put ts es x p q h = put ts es x h (rw p (h.threads.1 t.0).0) (rw q (h.threads.1 t.0).1)

  -- it announces
  announces : (ts : List Thread) (es : List Entry) (f : Phase) (d : Bool) → Holds ts es → Holds (put_thread ts t (announced f d (thread_at ts t))) es
  announces ts es f d h =
      let x = announced_one C D M t.0 f d (thread_at ts t) ((h.threads.1 t.0).0, (h.threads.1 t.0).1, free (thread_at ts t).position f) in put ts es _ h x.0 x.1

  -- one operation more is done
  advances : (n : Option ℕ) (ts : List Thread) (es : List Entry) → Holds ts es → Holds (advance t n ts) es
  unfolding advance
  advances n ts es h = answering_by (λ (x : Thread). Holds (put_thread ts t (with_position x (risen 255 (thread_at ts t).position))) es) n (thread_at ts t) (λ m. same_put ts es _ refl refl h)

  -- an effect
  effects : (c : Call) (o : ObjectId) (e : Entry) (ts : List Thread) (es : List Entry) → Holds ts es → Object C D e → Holds (effect c t o e ts).threads (put_entry es o (effect c t o e ts).entry)
  effects c o e ts es h x =
      let r = effect-kept C D join none C t M c (λ r. own) o e ts (h.threads.1 t.0).0 h.threads x in
      place _ es o _ (record { threads = r.0; objects = h.objects; store = h.store }) r.1

  -- it parks, or retakes at once
  parks : (m : ObjectId) (e : Entry) (ts : List Thread) (es : List Entry) → Holds ts es → Holds (park t m e ts) es
  unfolding park retake
  parks m e ts es h =
      by_test (λ (us : List Thread). Holds us es) (has_unpark (thread_at ts t).state) (λ z. announces _ es _ _ (same_put ts es (set_runnable (thread_at ts t)) refl refl h))
      (λ z. same_put ts es _ refl refl h)

  -- a wait, once it is queued
  waits : (m : ObjectId) (v : World) → Holds v.threads v.objects → Holds (waiting t m v).threads (waiting t m v).objects
  unfolding wait
  waits m v h = parks m _ _ _ (effects (Mutex mutex-call.ReleaseLock) m (entry_in v m) v.threads v.objects h (h.objects m.0))

  -- through operations that need no announcement
  passes : Passes t Q (λ n v. Holds v.threads v.objects) J
  unfolding ended announce_op
  passes =
      record {
        sees = λ n v op f h. sees op.call (entry_in v op.object) v.threads h.threads (h.objects op.object.0);
        shows = λ n v h. shows v h;
        asks = λ n v op a h. shows _ h;
        ends = λ v h. shows _ (same_put v.threads v.objects _ refl refl h);
        announces = λ n v op h. shows _ (announces v.threads v.objects _ _ h);
        goes = λ n v op f z h. advances _ _ _ (effects op.call op.object (entry_in v op.object) v.threads v.objects h (h.objects op.object.0));
      }

  module _ (table : Table) (w : World) (h : Holds w.threads w.objects) where
    -- an announced operation, before its effect and after it
    module _ (op : Op) where
      counted : D (version t op w)
      unfolding dependence
      counted =
          dep _
          (joinD (thread_in w t).dependence (last_dependent_access op.call (entry_in w op.object)).version (h.threads.1 t.0).1
          (last_version C D none never op.call (entry_in w op.object) (h.objects op.object.0)))

      before : Holds (dependent t op w) w.objects
      before = put w.threads w.objects _ h (h.threads.1 t.0).0 counted

      noted : Object C D (recorded t op w)
      noted = access_recorded C D op.call (accessed t op w) (entry_in w op.object) counted (h.objects op.object.0)

      after : Holds (in_effect t op w).threads (in_effect t op w).objects
      unfolding operate
      after = effects op.call op.object (recorded t op w) (dependent t op w) w.objects before noted

    -- a turn
    begins : Begins table w t Q (λ n v. Holds v.threads v.objects) J
    unfolding retake
    begins =
        record {
          passes = passes;
          nothing = λ e. h;
          effects = λ op k. sees op.call (recorded t op w) (dependent t op w) (before op).threads (noted op);
          releases = λ op m k f s. sees (Mutex mutex-call.ReleaseLock) (entry_in (in_effect t op w) m) (in_effect t op w).threads (after op).threads ((after op).objects m.0);
          operates = λ op first ops k e z s. advances _ _ _ (after op);
          waits = λ op a m o e f s. shows _ (waits m (in_effect t op w) (after op));
          retakes = λ m o e. shows _ (announces w.threads w.objects _ _ h);
        }

    -- an answer to a question
    answers : Answers table w t J
    unfolding announce_op spurious
    answers =
        record {
          goes = λ op f. shows _ (announces w.threads w.objects _ _ h);
          wakes =
              λ op o.
              shows _
              (place _ w.objects op.object _ (advances None _ w.objects (same_put w.threads w.objects (set_runnable (thread_in w t)) refl refl h))
              (notify_put C D (entry_in w op.object) _ (h.objects op.object.0) (h.objects op.object.0).notify));
        }

    -- both
    pub steady : Begins table w t Q (λ n v. Holds v.threads v.objects) J × Answers table w t J
    steady = (begins, answers)
