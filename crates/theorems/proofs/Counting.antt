-- Counting, in one law: in every world that a sheet shows, an object's count and what took from it make what it started with and what added to it, by the
-- operations before each thread's position. The words are in specs/Counting.antt.
use Rattle.std.specs.Prelude.{◌≡◌, Bool, true, take, None, Option, Some, Ok}
use Rattle.std.proofs.Math.Path.{refl, sym, ap}
use Rattle.std.proofs.Common.{◌∙◌, subst, arith, get_or-set_same}
use mathlib.Core.List.{List, [], ◌∷◌}
use Prim.Native.Nat.{ℕ, ◌+◌, ◌≤◌, ◌<◌}
use Rattle.std.proofs.Math.ListN.{length, length-set, length-map, get_or, drop}
use Rattle.clocks.specs.Clock.{max_threads, risen}
use Rattle.clocks.specs.declared.thread.ThreadId.{ThreadId}
use Rattle.rules.specs.declared.object.ObjectId.{ObjectId}
use Rattle.rules.specs.declared.object.Entry.{Entry}
use Rattle.rules.specs.declared.mutex.Call.{Call as MutexCall}
use Rattle.rules.specs.declared.mutex.Call.TheVariants as mutex-call
use Rattle.rules.specs.declared.thread.Phase.{Phase}
use Rattle.rules.specs.declared.thread.Phase.TheVariants.{Nothing, Announced, Parked, Retaking}
use Rattle.rules.specs.declared.thread.Thread.{Thread}
use Rattle.rules.specs.declared.table.Call.{Call}
use Rattle.rules.specs.declared.table.Call.TheVariants.{Mutex}
use Rattle.rules.specs.declared.table.Op.{Op}
use Rattle.rules.specs.declared.table.Table.{Table}
use Rattle.rules.specs.declared.world.World.{World}
use Rattle.rules.specs.Limits.{max_objects, op_places}
use Rattle.rules.specs.Ground.{absent, thread_at, put_thread, with_position, with_answer, set_runnable, has_unpark}
use Rattle.rules.specs.Object.{new_entry, no_object, put_entry, announced}
use Rattle.rules.specs.Mutex as mutex
use Rattle.rules.specs.Notify as notify
use Rattle.rules.specs.Table.{no_op, ops_of, read_table}
use Rattle.rules.specs.TableLaws.{Within}
use Rattle.rules.proofs.TableLaws.{by_test, read-within}
use Rattle.rules.specs.Effect.{asks, wait_of, doing, effect}
use Rattle.rules.specs.Turn.{thread_in, entry_in, start, announce_op, retake, operate, advance, ended, park, wait, ops_left, spurious, decide}
use Rattle.theorems.specs.Falling.{Good}
use Rattle.theorems.specs.Reached.{Shown, Reached}
use Rattle.theorems.proofs.Reached.{shown_by, reached-shown, reached_good}
use Rattle.theorems.specs.Named.{Named, MutexNamed}
use Rattle.theorems.proofs.Named.{objects_there, ops_named}
use Rattle.theorems.specs.All.{All}
use Rattle.theorems.proofs.All.{all_set, all_put, all_map}
use Rattle.theorems.specs.Touches.{Hold, Bears, Any}
use Rattle.theorems.proofs.Touches.{effect-any, keeps_position, answering_by}
use Rattle.theorems.proofs.Kept.{start_threads}
use Rattle.theorems.specs.Sums.{tally}
use Rattle.theorems.proofs.Sums.{sum_most}
use Rattle.theorems.specs.Phases.{PhaseIs, AskedIs}
use Rattle.theorems.proofs.Phases.{Orderly, asking, advance-left, orderly, decide_orderly, start_orderly}
use Rattle.theorems.specs.Each.{Takes, Each, Passes, Begins, Answers, Succeeds, accessed, recorded, dependent, in_effect, further, waiting}
use Rattle.theorems.proofs.Each.{decide-each, decide_passes}
use Rattle.theorems.specs.Done.{on_object, done_of}
use Rattle.theorems.proofs.Done.{on_same, on_other, on_none, done_most, done_less, done_same, done_next}
use Rattle.theorems.specs.Counting.{Counted}

module _ (N : Entry → ℕ) (first : ℕ) (up down : Call → ℕ) (counted : Counted N first up down) where
  -- every object's count and `D` make what it started with and `U`
  abbrev Law : (ℕ → ℕ) → (ℕ → ℕ) → List Entry → Type 0
  Law D U es = All (λ k e. N e + D k ≡ first + U k) (new_entry no_object) es

  -- an effect that goes well, of an operation not yet done
  effect_law : (D U : ℕ → ℕ) (es : List Entry) (t : ThreadId) (op : Op) (e : Entry) (ts : List Thread) → op.object.0 < length es → N e ≡ N (get_or es op.object.0 (new_entry no_object))
      → N e < 65535 → (effect op.call t op.object e ts).ending ≡ Ok tt → Law D U es
      → Law (λ k. D k + on_object down k op) (λ k. U k + on_object up k op) (put_entry es op.object (effect op.call t op.object e ts).entry)
  unfolding effect
  effect_law D U es t op e ts l same below fine h =
      let o : ℕ = op.object.0 in
      all_put (λ k x. N x + D k ≡ first + U k) (λ k x. N x + (D k + on_object down k op) ≡ first + (U k + on_object up k op)) (new_entry no_object) es o _ l
      (λ k x n i. omega (arith, i, on_other down k op n, on_other up k op n)) h
      (omega (arith, h o, same, counted.effects op.call t op.object (thread_at ts t).clock e below fine, on_same down op, on_same up op))

  -- an entry with the same count
  put_law : (D U : ℕ → ℕ) (es : List Entry) (o : ObjectId) (e : Entry) → N e ≡ N (get_or es o.0 (new_entry no_object)) → Law D U es → Law D U (put_entry es o e)
  put_law D U es o e same h = all_set (λ k x. N x + D k ≡ first + U k) (new_entry no_object) es o.0 e h (omega (arith, same, h o.0))

  module _ (table : Table) where
    -- "Sent less received equals the count", of any count
    pub record Counts (ts : List Thread) (es : List Entry) : Type 0 where
      pub long : length ts ≡ max_threads
      pub store : length es ≡ max_objects
      pub law : Law (λ k. done_of table down k ts) (λ k. done_of table up k ts) es

    abbrev pub InWorld : World → Type 0
    InWorld w = Counts w.threads w.objects

    -- in a turn of t
    pub record Mid (t : ThreadId) (ops : List Op) (v : World) : Type 0 where
      pub counts : InWorld v
      pub left : drop (thread_in v t).position (ops_of table t.0) ≡ ops

    -- before each effect: less than `first` and all places for operations
    abbrev pub Below : ThreadId → Call → Entry → List Thread → Type 0
    Below t c e ts = N e < first + op_places

    module _ (limits : Within table) where
      -- positions stay
      same_threads : (ts us : List Thread) (es : List Entry) → length us ≡ length ts → ((k : ℕ) → (get_or us k absent).position ≡ (get_or ts k absent).position) → Counts ts es → Counts us es
      same_threads ts us es l h c =
          record {
            long = l ∙ c.long;
            store = c.store;
            law = λ k. omega (arith, c.law k, done_same table limits down k ts us l h, done_same table limits up k ts us l h);
          }

      -- a thread is put at its position
      put_thread_lem : (ts : List Thread) (es : List Entry) (t : ThreadId) (x : Thread) → x.position ≡ (thread_at ts t).position → Counts ts es → Counts (put_thread ts t x) es
      put_thread_lem ts es t x q c =
          same_threads ts (put_thread ts t x) es (length-set ts t.0 x) (all_set (λ k y. y.position ≡ (get_or ts k absent).position) absent ts t.0 x (λ k. refl) q) c

      -- announcing leaves it
      announced-position : (f : Phase) (d : Bool) (x : Thread) → (announced f d x).position ≡ x.position
      unfolding announced
      announced-position f d x = by_test (λ (y : Thread). y.position ≡ x.position) d (λ z. refl) (λ z. refl)

      put_announced : (ts : List Thread) (es : List Entry) (t : ThreadId) (f : Phase) (d : Bool) → Counts ts es → Counts (put_thread ts t (announced f d (thread_at ts t))) es
      put_announced ts es t f d c = put_thread_lem ts es t _ (announced-position f d (thread_at ts t)) c

      -- an effect leaves positions
      bears : (ts : List Thread) → Bears Any (λ k (x : Thread). x.position ≡ (get_or ts k absent).position)
      bears ts = record { join = λ c d p q. tt; clock = λ k x h. tt; clocked = λ k x c p h. h; unparked = λ k x h. h; stands = λ k x o s on live h. h }

      same_effect : (c : Call) (t : ThreadId) (o : ObjectId) (e : Entry) (ts : List Thread) → Hold (length ts) (λ k x. x.position ≡ (get_or ts k absent).position) (effect c t o e ts).threads
      same_effect c t o e ts = effect-any (length ts) (λ k x. x.position ≡ (get_or ts k absent).position) (bears ts) c t o e ts (refl, λ k. refl)

      -- a count while something is left to be done
      low : (t : ThreadId) → t.0 < max_threads → (ts : List Thread) (es : List Entry) → Counts ts es → 0 < length (drop (thread_at ts t).position (ops_of table t.0))
          → (o : ℕ) → N (get_or es o (new_entry no_object)) < first + op_places
      low t l ts es c some o = omega (arith, c.law o, done_less table limits up counted.small o ts c.long t l some)

      -- an operation in effect, whose sums `D` and `U` are those of one done, and its thread one further
      further-by : (t : ThreadId) → t.0 < max_threads → (n : Option ℕ) (ts : List Thread) (es : List Entry) (op next : Op) (ops : List Op) → length ts ≡ max_threads → length es ≡ max_objects
          → drop (thread_at ts t).position (ops_of table t.0) ≡ next ∷ ops → ((k : ℕ) → on_object down k op ≡ on_object down k next) → ((k : ℕ) → on_object up k op ≡ on_object up k next)
          → Law (λ k. done_of table down k ts + on_object down k op) (λ k. done_of table up k ts + on_object up k op) es → Counts (advance t n ts) es
      unfolding advance
      further-by t l n ts es op next ops long store e p q h =
          answering_by (λ (x : Thread). Counts (put_thread ts t (with_position x (risen 255 (thread_at ts t).position))) es) n (thread_at ts t)
          (λ m.
          let x : Thread = with_position (with_answer (thread_at ts t) m) (risen 255 (thread_at ts t).position) in
          record {
            long = length-set ts t.0 x ∙ long;
            store = store;
            law =
                λ k.
                omega
                (arith, h k, p k, q k, done_next table limits down k ts t x next ops (omega (arith, l, long)) refl e, done_next table limits up k ts t x next ops (omega (arith, l, long)) refl e);
          })

      -- an effect goes well, and leaves the operation in effect
      in_effect_lem : (t : ThreadId) (op : Op) (e : Entry) (ts : List Thread) (es : List Entry) → op.object.0 < max_objects → N e ≡ N (get_or es op.object.0 (new_entry no_object)) → N e < first + op_places
          → (effect op.call t op.object e ts).ending ≡ Ok tt → Counts ts es
          → Law (λ k. done_of table down k (effect op.call t op.object e ts).threads + on_object down k op) (λ k. done_of table up k (effect op.call t op.object e ts).threads + on_object up k op)
          (put_entry es op.object (effect op.call t op.object e ts).entry)
      in_effect_lem t op e ts es l same below fine c =
          let h = same_effect op.call t op.object e ts in
          let us : List Thread = (effect op.call t op.object e ts).threads in
          let x = effect_law (λ k. done_of table down k ts) (λ k. done_of table up k ts) es t op e ts (omega (arith, l, c.store)) same (omega (arith, below, counted.starts)) fine c.law in
          λ k. omega (arith, x k, done_same table limits down k ts us h.0 h.1, done_same table limits up k ts us h.0 h.1)

      -- one that comes to nothing is as good as none
      no_effect : (t : ThreadId) (op : Op) (e : Entry) (ts : List Thread) (es : List Entry) → op.object.0 < max_objects → N e ≡ N (get_or es op.object.0 (new_entry no_object)) → N e < first + op_places
          → up op.call ≡ 0 → down op.call ≡ 0 → (effect op.call t op.object e ts).ending ≡ Ok tt → Counts ts es
          → Counts (effect op.call t op.object e ts).threads (put_entry es op.object (effect op.call t op.object e ts).entry)
      no_effect t op e ts es l same below p q fine c =
          record {
            long = (same_effect op.call t op.object e ts).0 ∙ c.long;
            store = length-set es op.object.0 _ ∙ c.store;
            law = let x = in_effect_lem t op e ts es l same below fine c in λ k. omega (arith, x k, on_none down k op q, on_none up k op p);
          }

      module _ (t : ThreadId) (within : t.0 < max_threads) (named : (p k : ℕ) → Named (get_or (drop p (ops_of table t.0)) k no_op)) where
        -- the next operation names an object that has a place
        next_named : (ts : List Thread) (op : Op) (ops : List Op) → drop (thread_at ts t).position (ops_of table t.0) ≡ op ∷ ops → Named op
        next_named ts op ops e = subst Named (ap (λ (os : List Op). get_or os 0 no_op) e) (named (thread_at ts t).position 0)

        some : (ts : List Thread) (op : Op) (ops : List Op) → drop (thread_at ts t).position (ops_of table t.0) ≡ op ∷ ops → 0 < length (drop (thread_at ts t).position (ops_of table t.0))
        some ts op ops e = subst (λ (os : List Op). 0 < length os) (sym e) (omega arith)

        -- through operations that need no announcement
        passes : Passes t Below (Mid t) InWorld
        unfolding announce_op ended
        passes =
            record {
              sees = λ ops v op f i. low t within v.threads v.objects i.counts (some v.threads op ops i.left) op.object.0;
              shows = λ ops v i. i.counts;
              asks = λ ops v op a i. i.counts;
              ends = λ v i. put_thread_lem v.threads v.objects t _ refl i.counts;
              announces = λ ops v op i. put_announced v.threads v.objects t _ _ i.counts;
              goes =
                  λ ops v op f z i.
                  let e : Entry = entry_in v op.object in
                  let us : List Thread = (effect op.call t op.object e v.threads).threads in
                  let p : (thread_at us t).position ≡ (thread_in v t).position = keeps_position op.call t op.object e v.threads in
                  let q : drop (thread_at us t).position (ops_of table t.0) ≡ op ∷ ops = ap (λ (j : ℕ). drop j (ops_of table t.0)) p ∙ i.left in
                  let x = low t within v.threads v.objects i.counts (some v.threads op ops i.left) op.object.0 in
                  record {
                    counts =
                        further-by t within _ us _ op op ops ((same_effect op.call t op.object e v.threads).0 ∙ i.counts.long) (length-set v.objects op.object.0 _ ∙ i.counts.store) q (λ k. refl) (λ k. refl)
                        (in_effect_lem t op e v.threads v.objects (next_named v.threads op ops i.left).0 refl x z i.counts);
                    left = advance-left table limits t _ us op ops (omega (arith, within, i.counts.long, (same_effect op.call t op.object e v.threads).0)) q;
                  };
            }

        -- an operation on a mutex
        locked : (m : ObjectId) (c : MutexCall) (v : World) → m.0 < max_objects → (effect (Mutex c) t m (entry_in v m) v.threads).ending ≡ Ok tt → N (entry_in v m) < first + op_places → InWorld v
            → Counts (effect (Mutex c) t m (entry_in v m) v.threads).threads (put_entry v.objects m (effect (Mutex c) t m (entry_in v m) v.threads).entry)
        locked m c v l z below h =
            no_effect t (record { call = Mutex c; object = m }) (entry_in v m) v.threads v.objects l refl below (counted.locks c).0 (counted.locks c).1 z h

        -- it parks, or retakes at once
        parked : (m : ObjectId) (e : Entry) (ts : List Thread) (es : List Entry) → Counts ts es → Counts (park t m e ts) es
        unfolding park retake
        parked m e ts es h =
            by_test (λ (us : List Thread). Counts us es) (has_unpark (thread_at ts t).state) (λ z. put_announced _ es t _ _ (put_thread_lem ts es t (set_runnable (thread_at ts t)) refl h))
            (λ z. put_thread_lem ts es t _ refl h)

        -- releasing goes well
        released : (m : ObjectId) (e : Entry) (ts : List Thread) → (effect (Mutex mutex-call.ReleaseLock) t m e ts).ending ≡ Ok tt
        unfolding effect doing mutex.doing
        released m e ts = refl

        waited : (m : ObjectId) (v : World) → m.0 < max_objects → N (entry_in v m) < first + op_places → InWorld v → InWorld (waiting t m v)
        unfolding wait
        waited m v l below h = parked m _ _ _ (locked m mutex-call.ReleaseLock v l (released m (entry_in v m) v.threads) below h)

        module _ (w : World) (order : Orderly table w) (h : InWorld w) where
          -- the operation that a turn takes first: a place for its object, and something is left
          taken : (op : Op) → Takes (thread_in w t).phase (ops_left table w t) op → (0 < length (ops_left table w t)) × (op.object.0 < max_objects)
          taken op k = go (thread_in w t).phase k (order.threads.1 t.0).0
            where
              go : (f : Phase) → Takes f (ops_left table w t) op → PhaseIs f (ops_left table w t) → (0 < length (ops_left table w t)) × (op.object.0 < max_objects)
              go Nothing k p = absurd k
              go (Announced x) k p = (p.0, (subst Named (sym k) (named (thread_in w t).position 0)).0)
              go Parked k p = absurd k
              go (Retaking x) k p = (p.0, rw k (subst MutexNamed p.1 (named (thread_in w t).position 0).1))

          -- before its effect
          noted : (op : Op) → N (recorded t op w) ≡ N (entry_in w op.object)
          noted op = counted.records op.call (accessed t op w) (entry_in w op.object)

          before : (op : Op) → Counts (dependent t op w) w.objects
          before op = put_thread_lem w.threads w.objects t _ refl h

          below : (op : Op) → Takes (thread_in w t).phase (ops_left table w t) op → N (recorded t op w) < first + op_places
          below op k = omega (arith, noted op, low t within w.threads w.objects h (taken op k).0 op.object.0)

          -- its thread stands where it stood
          stood : (op : Op) → drop (thread_at (in_effect t op w).threads t).position (ops_of table t.0) ≡ ops_left table w t
          unfolding operate
          stood op =
              ap (λ (j : ℕ). drop j (ops_of table t.0))
              (keeps_position op.call t op.object (recorded t op w) (dependent t op w) ∙ ap (λ (x : Thread). x.position) (get_or-set_same w.threads t.0 _ absent (omega (arith, within, h.long))))

          -- what it comes to is what the operation at the position comes to
          alike : (op next : Op) → next ≡ get_or (ops_left table w t) 0 no_op → Takes (thread_in w t).phase (ops_left table w t) op
              → (k : ℕ) → (on_object down k op ≡ on_object down k next) × (on_object up k op ≡ on_object up k next)
          alike op next q takes k = go (thread_in w t).phase takes (order.threads.1 t.0).0
            where
              go : (f : Phase) → Takes f (ops_left table w t) op → PhaseIs f (ops_left table w t) → (on_object down k op ≡ on_object down k next) × (on_object up k op ≡ on_object up k next)
              go Nothing z p = absurd z
              go (Announced x) z p = (ap (on_object down k) (z ∙ sym q), ap (on_object up k) (z ∙ sym q))
              go Parked z p = absurd z
              go (Retaking x) z p =
                  let a = counted.locks mutex-call.AcquireLock in
                  let b = counted.waits next.call x.obj (ap (λ (y : Op). wait_of y.call) q ∙ p.1) in
                  let c = ap (λ (y : Op). down y.call) z in
                  let d = ap (λ (y : Op). up y.call) z in
                  (on_none down k op (c ∙ a.1) ∙ sym (on_none down k next b.1), on_none up k op (d ∙ a.0) ∙ sym (on_none up k next b.0))

          -- it is done
          done : (op next : Op) (ops : List Op) → Takes (thread_in w t).phase (ops_left table w t) op → ops_left table w t ≡ next ∷ ops → Succeeds t op w → Mid t ops (further t op w)
          unfolding operate
          done op next ops takes e s =
              let long = (same_effect op.call t op.object (recorded t op w) (dependent t op w)).0 ∙ (before op).long in
              let same = alike op next (sym (ap (λ (os : List Op). get_or os 0 no_op) e)) takes in
              record {
                counts =
                    further-by t within _ (in_effect t op w).threads (in_effect t op w).objects op next ops long (length-set w.objects op.object.0 _ ∙ h.store) (stood op ∙ e) (λ k. (same k).0)
                    (λ k. (same k).1) (in_effect_lem t op (recorded t op w) (dependent t op w) w.objects (taken op takes).1 (noted op) (below op takes) s (before op));
                left = advance-left table limits t _ (in_effect t op w).threads next ops (omega (arith, within, long)) (stood op ∙ e);
              }

          -- a wait is in effect, and then queued
          in_wait : (op : Op) (m : ObjectId) → Takes (thread_in w t).phase (ops_left table w t) op → wait_of op.call ≡ Some m → Succeeds t op w → InWorld (in_effect t op w)
          unfolding operate
          in_wait op m takes f s =
              let z = counted.waits op.call m f in
              no_effect t op (recorded t op w) (dependent t op w) w.objects (taken op takes).1 (noted op) (below op takes) z.0 z.1 s (before op)

          mutex_below : (op : Op) (m : ObjectId) → Takes (thread_in w t).phase (ops_left table w t) op → wait_of op.call ≡ Some m → Succeeds t op w → N (entry_in (in_effect t op w) m) < first + op_places
          mutex_below op m takes f s =
              low t within (in_effect t op w).threads (in_effect t op w).objects (in_wait op m takes f s) (subst (λ (os : List Op). 0 < length os) (sym (stood op)) (taken op takes).0) m.0

          queued : (op : Op) (m : ObjectId) → Takes (thread_in w t).phase (ops_left table w t) op → op ≡ get_or (ops_left table w t) 0 no_op → wait_of op.call ≡ Some m → Succeeds t op w → InWorld (waiting t m (in_effect t op w))
          queued op m takes o f s =
              let l : m.0 < max_objects = subst MutexNamed f (subst Named (sym o) (named (thread_in w t).position 0)).1 in
              waited m (in_effect t op w) l (mutex_below op m takes f s) (in_wait op m takes f s)

          -- a turn
          pub begins : Begins table w t Below (Mid t) InWorld
          unfolding retake
          begins =
              record {
                passes = passes;
                nothing = λ e. record { counts = h; left = refl };
                effects = λ op k. below op k;
                releases = λ op m k f s. mutex_below op m k f s;
                operates = λ op next ops k e z s. done op next ops k e s;
                waits = λ op a m o e f s. queued op m (subst (λ (x : Phase). Takes x (ops_left table w t) op) (sym e) o) o f s;
                retakes = λ m o e. put_announced w.threads w.objects t _ _ h;
              }

          -- an answer to a question
          pub answers : AskedIs table (Some t) w → Answers table w t InWorld
          unfolding announce_op spurious
          answers a =
              record {
                goes = λ op o. put_announced w.threads w.objects t _ _ h;
                wakes = λ op o. woken op o (ops_left table w t) refl a.2;
              }
            where
              woken : (op : Op) → op ≡ get_or (ops_left table w t) 0 no_op → (os : List Op) → ops_left table w t ≡ os → 0 < length os → InWorld (spurious t op (record { threads = w.threads; objects = w.objects; turn = w.turn; asked = None }))
              woken op o [] e l = absurd (omega (arith, l))
              woken op o (next ∷ ops) e l =
                  let z = counted.questions op.call (entry_in w op.object) (subst (λ (x : Op). asks x.call (entry_in w x.object) ≡ true) (sym o) a.3) in
                  let q : next ≡ op = sym (o ∙ ap (λ (os : List Op). get_or os 0 no_op) e) in
                  let us : List Thread = put_thread w.threads t (set_runnable (thread_in w t)) in
                  let c = put_thread_lem w.threads w.objects t (set_runnable (thread_in w t)) refl h in
                  let p : drop (thread_at us t).position (ops_of table t.0) ≡ next ∷ ops =
                  ap (λ (x : Thread). drop x.position (ops_of table t.0)) (get_or-set_same w.threads t.0 (set_runnable (thread_in w t)) absent (omega (arith, within, h.long))) ∙ e in
                  further-by t within None us _ op next ops c.long (length-set w.objects op.object.0 _ ∙ c.store) p (λ k. ap (on_object down k) (sym q)) (λ k. ap (on_object up k) (sym q))
                  (put_law _ _ w.objects op.object _ (counted.spurs (entry_in w op.object) (notify.spur (entry_in w op.object).notify))
                  (λ k. omega (arith, c.law k, on_none down k op z.1, on_none up k op z.0)))

      -- a decision keeps the law, and before each of its effects a count is below that
      module _ (named : (j p k : ℕ) → Named (get_or (drop p (ops_of table j)) k no_op)) (w : World) (g : Good table w) (order : Orderly table w) (h : InWorld w) where
        pub decide_counts : (d : ℕ) → InWorld (decide table w d).world
        decide_counts =
            decide_passes table limits w g Below Mid InWorld h (λ t x. begins t x.within (named t.0) w order h)
            (λ t q r. answers t r.0 (named t.0) w order h (asking table w order t q))

        each_below : (d : ℕ) → Each Below table w d
        each_below =
            decide-each table limits w g Below Mid InWorld h (λ t x. begins t x.within (named t.0) w order h)
            (λ t q r. answers t r.0 (named t.0) w order h (asking table w order t q))

      -- at the start nothing is done
      none_done : (f : Call → ℕ) (o : ℕ) → done_of table f o (start table).threads ≡ 0
      none_done f o =
          let h = start_threads Any Any (λ j q f. q ≡ 0) tt tt (λ j. refl) table in
          let x = sum_most (λ k (x : Thread). tally (on_object f o) (take x.position (ops_of table k))) 0 (start table).threads absent
          (λ i. let z : tally (on_object f o) (take (get_or (start table).threads i absent).position (ops_of table i)) ≡ 0 = ap (λ (p : ℕ). tally (on_object f o) (take p (ops_of table i))) (h.1 i).2 in omega (arith, z)) in
          omega (arith, x, h.0)

      pub start_counts : length table.objects ≡ max_objects → InWorld (start table)
      unfolding start
      start_counts l =
          record {
            long = (start_threads Any Any (λ j q f. q ≡ 0) tt tt (λ j. refl) table).0;
            store = length-map table.objects new_entry ∙ l;
            law = λ k. omega (arith, none_done down k, none_done up k, all_map (λ e. N e ≡ first) (new_entry no_object) new_entry (counted.made no_object) counted.made table.objects k);
          }

  -- in every world that the sheet of an accepted table shows
  pub counts : (bs list : List ℕ) (table : Table) (w : World) → read_table bs ≡ Ok table → Shown table list w → InWorld table w
  counts bs list table w a e =
      let h = read-within bs table a in
      (shown_by table h.0 (λ u v. Orderly table v × InWorld table v)
      (λ u v d g l i. (decide_orderly table h.0 v g i.0 d, decide_counts table h.0 (ops_named bs table a) v g i.0 i.1 d)) h.1
      (start_orderly table, start_counts table h.0 (objects_there bs table a)) list w e).1.1

  -- so the count is at most that and all places for operations
  pub count_most : (bs list : List ℕ) (table : Table) (w : World) → read_table bs ≡ Ok table → Shown table list w → (o : ObjectId) → N (entry_in w o) ≤ first + op_places
  count_most bs list table w a e o =
      let c = counts bs list table w a e in
      omega (arith, c.law o.0, done_most table (read-within bs table a).0 up counted.small o.0 w.threads c.long)

  -- and less before each effect of a further decision
  pub count_below : (bs list : List ℕ) (table : Table) (w : World) → read_table bs ≡ Ok table → Reached table list w → (d : ℕ) → Each (Below table) table w d
  count_below bs list table w a e =
      let s = reached-shown table list w e in
      each_below table (read-within bs table a).0 (ops_named bs table a) w (reached_good bs list table w a e) (orderly bs list table w a s) (counts bs list table w a s)
