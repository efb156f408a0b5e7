-- Place k of every clock, in a turn of thread k itself: at most one more for each operation that is done, and two more in dependence clocks.
use Rattle.std.specs.Prelude.{◌≡◌, ◌≢◌, Bool, None, Option, Some}
use Rattle.std.proofs.Math.Path.{refl, sym, ap}
use Rattle.std.proofs.Common.{◌∙◌, arith}
use Rattle.std.proofs.Math.Bool.{true}
use mathlib.Core.List.{List}
use Prim.Native.Nat.{ℕ, suc, ◌+◌, ◌*◌, ◌≤◌, ◌<◌}
use Rattle.std.proofs.Math.ListN.{length}
use Rattle.clocks.specs.Clock.{max_threads, risen, inc_of}
use Rattle.clocks.specs.declared.clock.Clock.{Clock}
use Rattle.clocks.specs.declared.thread.ThreadId.{ThreadId}
use Rattle.rules.specs.declared.object.ObjectId.{ObjectId}
use Rattle.rules.specs.declared.object.Action.TheVariants as action
use Rattle.rules.specs.declared.object.Entry.{Entry}
use Rattle.rules.specs.declared.mutex.Call.TheVariants as mutex-call
use Rattle.rules.specs.declared.thread.Phase.{Phase}
use Rattle.rules.specs.declared.thread.Phase.TheVariants.{Nothing, Announced, Parked, Retaking}
use Rattle.rules.specs.declared.thread.Thread.{Thread}
use Rattle.rules.specs.declared.table.Call.{Call}
use Rattle.rules.specs.declared.table.Call.TheVariants.{Mutex, RwLock, Condvar, Notify, Channel, Arc, Cell}
use Rattle.rules.specs.declared.table.Op.{Op}
use Rattle.rules.specs.declared.table.Table.{Table}
use Rattle.rules.specs.declared.world.World.{World}
use Rattle.rules.specs.Limits.{max_operations}
use Rattle.rules.specs.Ground.{with_position, thread_at, put_thread, set_runnable, has_unpark}
use Rattle.rules.specs.Object.{announced}
use Rattle.rules.specs.Mutex as mutex
use Rattle.rules.specs.TableLaws.{Within}
use Rattle.rules.proofs.TableLaws.{by_test}
use Rattle.rules.specs.Effect.{wait_of}
use Rattle.rules.specs.Turn.{thread_in, entry_in, announce_op, retake, advance, ended, park, wait, ops_left, spurious}
use Rattle.theorems.specs.Shape.{Shape}
use Rattle.theorems.specs.Stage.{SoundIn}
use Rattle.theorems.specs.Falling.{Ready}
use Rattle.theorems.proofs.Touches.{answering_by}
use Rattle.theorems.specs.Each.{Takes, Passes, Begins, Answers, dependent, in_effect, waiting}
use Rattle.theorems.specs.Kept.{Raises}
use Rattle.theorems.proofs.Kept.{announced_one, notify_put}
use Rattle.theorems.specs.Place.{At}
use Rattle.theorems.proofs.Place.{inc_at}
use Rattle.theorems.specs.Moves.{Clocks}
use Rattle.theorems.proofs.Moves.{more, marks, put, place, effect_at, dependent_at, in_effect_at}
use Rattle.theorems.specs.Weight.{dependence_of, Stay, Going, Bounded, Spare, Mid}
use Rattle.theorems.proofs.Weight.{room}

-- a wait raises no own count
wait_raises : (c : Call) (m : ObjectId) → wait_of c ≡ Some m → Raises c → ⊥
wait_raises (Mutex c) m e r = r
wait_raises (RwLock c) m e r = r
wait_raises (Condvar c) m e r = r
wait_raises (Notify c) m e r = r
wait_raises (Channel c) m e r = r
wait_raises (Arc c) m e r = r
wait_raises (Cell c) m e r = let q : ◌≡◌ {A = ℕ} 0 1 = cc in absurd (omega (arith, q))

module _ (k : ℕ) (t : ThreadId) (within : t.0 < max_threads) (it : t.0 ≡ k) where
  -- nothing is said of the other threads
  said_none : (M : ℕ → ℕ → Phase → Type 0) (N : ℕ → Phase → Type 0) (j q : ℕ) (f : Phase) → j ≢ t.0 → M j q f → (j ≡ k → N q f)
  said_none M N j q f n h e = absurd (n (e ∙ sym it))

  -- between two turns
  stays : (p : ℕ) (ts : List Thread) (es : List Entry) → p ≤ max_operations → Clocks k p (2 * p) (Going k p) ts es → Clocks k p (2 * p) (Stay k p (2 * p)) ts es
  stays p ts es l h =
      marks k p (2 * p) (Going k p) (Stay k p (2 * p)) ts es
      (λ j g e.
      let x : Thread = thread_at ts (record { 0 = j }) in
      (omega (arith, l, (g e).0), (g e).0, ap (dependence_of x.position) (g e).1 ∙ ap (λ (q : ℕ). 2 * q) (g e).0)) h

  -- the active thread is put, p operations done and nothing announced
  own_put : (b c p : ℕ) (ts : List Thread) (es : List Entry) (x : Thread) → x.clock ≡ (thread_at ts t).clock → x.dependence ≡ (thread_at ts t).dependence
      → x.position ≡ (thread_at ts t).position → x.phase ≡ Nothing → Clocks k b c (Going k p) ts es → Clocks k b c (Going k p) (put_thread ts t x) es
  own_put b c p ts es x y z q f h =
      put k b c (Going k p) (Going k p) t within (λ j r g n i. i) ts es x h (rw y (h.threads.1 t.0).0, rw z (h.threads.1 t.0).1, λ e. (q ∙ ((h.threads.1 t.0).2 it).0, f))

  -- a phase is set: announced, parked, retaking
  own_announced : (c p : ℕ) (M : ℕ → ℕ → Phase → Type 0) (ts : List Thread) (es : List Entry) (f : Phase) (d : Bool) → p ≤ max_operations → c ≤ dependence_of p f
      → (thread_at ts t).position ≡ p → Clocks k p c M ts es → Clocks k p (dependence_of p f) (Stay k p (dependence_of p f)) (put_thread ts t (announced f d (thread_at ts t))) es
  own_announced c p M ts es f d l m q h =
      let e : ℕ = dependence_of p f in
      let g = more k p c p e M ts es (omega arith) m h in
      put k p e M (Stay k p e) t within (said_none M (λ q f. (q ≤ max_operations) × (q ≡ p) × (dependence_of q f ≡ e))) ts es _ g
      (announced_one (At k p) (At k e) (Stay k p e) t.0 f d (thread_at ts t)
      ((g.threads.1 t.0).0, (g.threads.1 t.0).1, λ z. (omega (arith, q, l), q, ap (λ (r : ℕ). dependence_of r f) q)))

  -- one operation more is done
  own_advance : (b c p : ℕ) (n : Option ℕ) (ts : List Thread) (es : List Entry) → p < max_operations → b ≤ p + 1 → c ≤ 2 * (p + 1) → Clocks k b c (Going k p) ts es
      → Clocks k (p + 1) (2 * (p + 1)) (Going k (p + 1)) (advance t n ts) es
  unfolding advance
  own_advance b c p n ts es l m m' h =
      let d : ℕ = 2 * (p + 1) in
      let g = more k b c (p + 1) d (Going k p) ts es m m' h in
      let q : (thread_at ts t).position ≡ p = ((h.threads.1 t.0).2 it).0 in
      answering_by (λ (x : Thread). Clocks k (p + 1) d (Going k (p + 1)) (put_thread ts t (with_position x (risen 255 (thread_at ts t).position))) es) n (thread_at ts t)
      (λ i.
      put k (p + 1) d (Going k p) (Going k (p + 1)) t within (said_none (Going k p) (λ q f. (q ≡ p + 1) × (f ≡ Nothing))) ts es _ g
      ((g.threads.1 t.0).0, (g.threads.1 t.0).1, λ e. (omega (arith, q, l), ((h.threads.1 t.0).2 it).1)))

  -- through operations that need no announcement
  own_passes : Passes t (Spare k) (Mid k) (Bounded k)
  unfolding ended announce_op
  own_passes =
      record {
        sees = λ ops v op f i e. (omega (arith, i.fits, ((i.clocks.threads.1 t.0).2 it).0), omega (arith, i.fits, (i.clocks.threads.1 t.0).0));
        shows = λ ops v i. record { bound = i.position; depth = 2 * i.position; clocks = stays i.position v.threads v.objects (omega (arith, i.fits)) i.clocks };
        asks = λ ops v op a i. record { bound = i.position; depth = 2 * i.position; clocks = stays i.position v.threads v.objects (omega (arith, i.fits)) i.clocks };
        ends =
            λ v i.
            record {
              bound = i.position;
              depth = 2 * i.position;
              clocks = stays i.position _ v.objects (omega (arith, i.fits)) (own_put i.position (2 * i.position) i.position v.threads v.objects _ refl refl refl refl i.clocks);
            };
        announces =
            λ ops v op i.
            record {
              bound = i.position;
              depth = 2 * i.position;
              clocks = own_announced (2 * i.position) i.position (Going k i.position) v.threads v.objects _ _ (omega (arith, i.fits)) (omega arith) ((i.clocks.threads.1 t.0).2 it).0 i.clocks;
            };
        goes =
            λ ops v op f z i.
            let p : ℕ = i.position in
            record {
              position = p + 1;
              fits = omega (arith, i.fits);
              clocks =
                  own_advance (suc p) (2 * p) p _ _ _ (omega (arith, i.fits)) (omega arith) (omega arith)
                  (effect_at k p (suc p) (2 * p) (omega arith) t (Going k p) op.call (λ r x. inc_at k p x t) op.object (entry_in v op.object) v.threads v.objects i.clocks (i.clocks.objects op.object.0));
            };
      }

  -- a wait that is queued: parked, or retaking its mutex at once
  own_park : (p : ℕ) (m : ObjectId) (e : Entry) (ts : List Thread) (es : List Entry) → p ≤ max_operations → Clocks k p (2 * p + 1) (Going k p) ts es
      → Clocks k p (2 * p + 1) (Stay k p (2 * p + 1)) (park t m e ts) es
  unfolding park retake announced
  own_park p m e ts es l h =
      let q = (h.threads.1 t.0).2 it in
      let ready = own_put p (2 * p + 1) p ts es (set_runnable (thread_at ts t)) refl refl refl q.1 h in
      by_test (λ (us : List Thread). Clocks k p (2 * p + 1) (Stay k p (2 * p + 1)) us es) (has_unpark (thread_at ts t).state)
      (λ z. own_announced (2 * p + 1) p (Going k p) _ es (Retaking (record { obj = m; action = action.Opaque })) (mutex.is_locked e.mutex.lock) l (omega arith) ((ready.threads.1 t.0).2 it).0 ready)
      (λ z. own_announced (2 * p + 1) p (Going k p) ts es Parked true l (omega arith) q.0 h)

  -- a wait, once it is queued: its mutex is released, and it parks
  own_wait : (p : ℕ) (m : ObjectId) (v : World) → p ≤ max_operations → Clocks k p (2 * p + 1) (Going k p) v.threads v.objects
      → Clocks k p (2 * p + 1) (Stay k p (2 * p + 1)) (waiting t m v).threads (waiting t m v).objects
  unfolding wait
  own_wait p m v l h =
      own_park p m _ _ _ l
      (effect_at k p p (2 * p + 1) (omega arith) t (Going k p) (Mutex mutex-call.ReleaseLock) (λ r. absurd r) m (entry_in v m) v.threads v.objects h (h.objects m.0))

  module _ (table : Table) (n : Within table) (w : World) (b c : ℕ) (h : Clocks k b c (Stay k b c) w.threads w.objects) where
    -- the operations done
    abbrev done : ℕ
    done = (thread_in w t).position

    -- at most as many as a thread may have
    few : done ≤ max_operations
    few = ((h.threads.1 t.0).2 it).0

    -- what it may have counted
    deep : dependence_of done (thread_in w t).phase ≡ c
    deep = ((h.threads.1 t.0).2 it).2

    -- the same in terms of the operations done
    standing : Clocks k done c (Stay k b c) w.threads w.objects
    standing = more k b c done c (Stay k b c) w.threads w.objects (omega (arith, ((h.threads.1 t.0).2 it).1)) (omega arith) h

    -- nothing is announced: the turn goes on
    begun : (thread_in w t).phase ≡ Nothing → Clocks k done (2 * done) (Going k done) w.threads w.objects
    begun f =
        let e : c ≡ 2 * done = sym deep ∙ ap (dependence_of done) f in
        more k done c done (2 * done) (Going k done) w.threads w.objects (omega arith) (omega (arith, e))
        (marks k done c (Stay k b c) (Going k done) w.threads w.objects
        (λ j s i. (ap (λ (x : ℕ). (thread_at w.threads (record { 0 = x })).position) (i ∙ sym it), ap (λ (x : ℕ). (thread_at w.threads (record { 0 = x })).phase) (i ∙ sym it) ∙ f)) standing)

    -- an announced operation
    seen : (op : Op) → Clocks k done (suc c) (Going k done) (dependent t op w) w.objects
    seen op =
        dependent_at k done c (suc c) (omega arith) t (λ x. inc_at k c x t) (Stay k b c) (Going k done) within (said_none (Stay k b c) (λ q f. (q ≡ done) × (f ≡ Nothing))) w standing (λ e. (refl, refl)) op

    -- and after its effect
    after : (op : Op) (d : ℕ) → done ≤ d → (Raises op.call → (x : Clock) → At k done x → At k d (inc_of x t)) → Clocks k d (suc c) (Going k done) (in_effect t op w).threads (in_effect t op w).objects
    after op d l raise =
        in_effect_at k done c (suc c) (omega arith) t (λ x. inc_at k c x t) (Stay k b c) (Going k done) within (said_none (Stay k b c) (λ q f. (q ≡ done) × (f ≡ Nothing))) w standing (λ e. (refl, refl)) op d l raise

    -- two for each operation done, and one
    high : (f : Phase) → dependence_of done f ≤ 2 * done + 1
    high Nothing = omega arith
    high (Announced a) = omega arith
    high Parked = omega arith
    high (Retaking a) = omega arith

    -- something is left where an operation is taken
    some : (op : Op) → Takes (thread_in w t).phase (ops_left table w t) op → SoundIn (thread_in w t).phase (ops_left table w t) → 0 < length (ops_left table w t)
    some op u s = go (thread_in w t).phase u s
      where
        go : (f : Phase) → Takes f (ops_left table w t) op → SoundIn f (ops_left table w t) → 0 < length (ops_left table w t)
        go Nothing u s = absurd u
        go (Announced a) u s = s
        go Parked u s = absurd u
        go (Retaking a) u s = s

    -- a turn
    pub own_begins : SoundIn (thread_in w t).phase (ops_left table w t) → Begins table w t (Spare k) (Mid k) (Bounded k)
    unfolding retake
    own_begins sound =
        let r = room table n w t few in
        record {
          passes = own_passes;
          nothing = λ e. record { position = done; fits = r; clocks = begun e };
          effects = λ op u e. let l = some op u sound in (omega (arith, r, l, (((seen op).threads.1 t.0).2 it).0), omega (arith, r, l, ((seen op).threads.1 t.0).0));
          releases =
              λ op m u f s e.
              let l = some op u sound in
              let x = after op done (omega arith) (λ y. absurd (wait_raises op.call m f y)) in
              (omega (arith, r, l, ((x.threads.1 t.0).2 it).0), omega (arith, r, l, (x.threads.1 t.0).0));
          operates =
              λ op first ops u e z s.
              let len : length (ops_left table w t) ≡ suc (length ops) = ap (λ (os : List Op). length os) e in
              record {
                position = done + 1;
                fits = omega (arith, r, len);
                clocks =
                    own_advance (suc done) (suc c) done _ _ _ (omega (arith, r, len)) (omega arith) (omega (arith, deep, high (thread_in w t).phase)) (after op (suc done) (omega arith) (λ q x. inc_at k done x t));
              };
          waits =
              λ op a m o e f s.
              let q : c ≡ 2 * done = sym deep ∙ ap (dependence_of done) e in
              record {
                bound = done;
                depth = 2 * done + 1;
                clocks =
                    own_wait done m (in_effect t op w) few
                    (more k done (suc c) done (2 * done + 1) (Going k done) _ _ (omega arith) (omega (arith, q)) (after op done (omega arith) (λ x. absurd (wait_raises op.call m f x))));
              };
          retakes =
              λ m o e.
              let q : c ≡ 2 * done + 1 = sym deep ∙ ap (dependence_of done) e in
              record { bound = done; depth = 2 * done + 1; clocks = own_announced c done (Stay k b c) w.threads w.objects (Retaking (record { obj = m; action = action.Opaque })) _ few (omega (arith, q)) refl standing };
        }

    -- an answer to a question
    pub own_answers : Ready table (Some t) w.threads → Answers table w t (Bounded k)
    unfolding announce_op spurious
    own_answers r =
        let f : (thread_in w t).phase ≡ Nothing = ap (λ (s : Shape). s.phase) r.1 in
        let g = begun f in
        let x : Clocks k done (2 * done) (Going k done) (put_thread w.threads t (set_runnable (thread_in w t))) w.objects =
        own_put done (2 * done) done w.threads w.objects (set_runnable (thread_in w t)) refl refl refl f g in
        let one : 0 < length (ops_left table w t) = r.2 in
        let y = own_advance done (2 * done) done None _ w.objects (omega (arith, room table n w t few, one)) (omega arith) (omega arith) x in
        record {
          goes = λ op o. record { bound = done; depth = 2 * done; clocks = own_announced (2 * done) done (Going k done) w.threads w.objects _ _ few (omega arith) refl g };
          wakes =
              λ op o.
              record {
                bound = done + 1;
                depth = 2 * (done + 1);
                clocks =
                    place k (done + 1) (2 * (done + 1)) (Stay k (done + 1) (2 * (done + 1))) _ w.objects op.object _
                    (stays (done + 1) _ w.objects (omega (arith, room table n w t few, one)) y)
                    (notify_put (At k (done + 1)) (At k (2 * (done + 1))) (entry_in w op.object) _ (y.objects op.object.0) (y.objects op.object.0).notify);
              };
        }
