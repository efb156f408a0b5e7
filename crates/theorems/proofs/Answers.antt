-- The last answer: at most 192. Only strong_count leaves more than 1, and it sees what its own operation, not yet done, did not add. The words are in specs/Answers.antt.
use Rattle.std.specs.Prelude.{◌≡◌, Bool, true, false, List, ℕ, ◌≤◌, eqb, ltb, get_or, drop, None, Option, Some, Ok}
use Rattle.std.proofs.Math.Path.{refl}
use Rattle.std.proofs.Common.{arith}
use Rattle.clocks.specs.Clock.{max_threads}
use Rattle.clocks.specs.declared.clock.Clock.{Clock}
use Rattle.clocks.specs.declared.thread.ThreadId.{ThreadId}
use Rattle.rules.specs.declared.object.ObjectId.{ObjectId}
use Rattle.rules.specs.declared.object.Entry.{Entry}
use Rattle.rules.specs.Ground.{Ending}
use Rattle.rules.specs.declared.mutex.Call.{Call as MutexCall}
use Rattle.rules.specs.declared.mutex.Call.TheVariants as mutex-call
use Rattle.rules.specs.declared.mutex.State.{State as MutexState}
use Rattle.rules.specs.declared.rwlock.Call.{Call as RwLockCall}
use Rattle.rules.specs.declared.rwlock.Call.TheVariants as rwlock-call
use Rattle.rules.specs.declared.rwlock.State.{State as RwLockState}
use Rattle.rules.specs.declared.condvar.Call.{Call as CondvarCall}
use Rattle.rules.specs.declared.condvar.Call.TheVariants as condvar-call
use Rattle.rules.specs.declared.condvar.State.{State as CondvarState}
use Rattle.rules.specs.declared.notify.Call.{Call as NotifyCall}
use Rattle.rules.specs.declared.notify.Call.TheVariants as notify-call
use Rattle.rules.specs.declared.notify.State.{State as NotifyState}
use Rattle.rules.specs.declared.mpsc.Call.{Call as ChannelCall}
use Rattle.rules.specs.declared.mpsc.Call.TheVariants as mpsc-call
use Rattle.rules.specs.declared.mpsc.State.{State as ChannelState}
use Rattle.rules.specs.declared.arc.Call.{Call as ArcCall}
use Rattle.rules.specs.declared.arc.Call.TheVariants as arc-call
use Rattle.rules.specs.declared.arc.State.{State as ArcState}
use Rattle.rules.specs.declared.cell.Call.{Call as CellCall}
use Rattle.rules.specs.declared.cell.Call.TheVariants as cell-call
use Rattle.rules.specs.declared.cell.State.{State as CellState}
use Rattle.rules.specs.declared.thread.Phase.{Phase}
use Rattle.rules.specs.declared.thread.Thread.{Thread}
use Rattle.rules.specs.declared.table.Call.{Call}
use Rattle.rules.specs.declared.table.Call.TheVariants.{Mutex, RwLock, Condvar, Notify, Channel, Arc, Cell}
use Rattle.rules.specs.declared.table.Op.{Op}
use Rattle.rules.specs.declared.table.Table.{Table}
use Rattle.rules.specs.declared.world.World.{World}
use Rattle.rules.specs.Limits.{max_messages, max_waiters}
use Rattle.rules.specs.Ground.{thread_at, put_thread, set_runnable, has_unpark, flag, Touch, is_fine, Does}
use Rattle.rules.specs.Object.{announced}
use Rattle.rules.specs.Mutex as mutex
use Rattle.rules.specs.RwLock as rwlock
use Rattle.rules.specs.Mpsc as mpsc
use Rattle.rules.specs.Arc as arc
use Rattle.rules.specs.Notify as notify
use Rattle.rules.specs.Condvar as condvar
use Rattle.rules.specs.Cell as cell
use Rattle.rules.specs.Table.{no_op, ops_of, read_table}
use Rattle.rules.specs.TableLaws.{Within}
use Rattle.rules.proofs.TableLaws.{by_test, read-within}
use Rattle.rules.specs.Effect.{doing, effect}
use Rattle.rules.specs.Turn.{thread_in, entry_in, start, announce_op, retake, operate, advance, ended, park, wait, spurious, decide}
use Rattle.theorems.specs.Falling.{Good}
use Rattle.theorems.specs.Reached.{Shown}
use Rattle.theorems.proofs.Reached.{shown_by}
use Rattle.theorems.specs.Named.{Named}
use Rattle.theorems.proofs.Named.{objects_there, ops_named}
use Rattle.theorems.specs.Touches.{Bears, Any}
use Rattle.theorems.proofs.Touches.{put_holds, start_holds, effect-any}
use Rattle.theorems.proofs.Kept.{by_lock}
use Rattle.theorems.proofs.Phases.{Orderly, asking, decide_orderly, start_orderly}
use Rattle.theorems.specs.Each.{Begins, Answers, recorded, dependent, in_effect}
use Rattle.theorems.proofs.Each.{decide_passes}
use Rattle.theorems.proofs.Counting as counting
use Rattle.theorems.specs.Counts.{arc_count, incs, decs}
use Rattle.theorems.proofs.Counts.{arc_counted}
use Rattle.theorems.specs.Answers.{most_answer, Said, AllSaid}

-- an answer that an operation leaves
abbrev Leaves : ℕ → Option ℕ → Type 0
Leaves b None = Unit {0}
Leaves b (Some m) = m ≤ b

abbrev Says : {S : Type 0} → ℕ → Does S → Type 0
Says b d = Leaves b d.answer

-- yes and no
flag_few : (x : Bool) (b : ℕ) → 1 ≤ b → flag x ≤ b
flag_few true b l = l
flag_few false b l = omega arith

module _ (b : ℕ) (one : 1 ≤ b) (a : ThreadId) (o : ObjectId) (by : Clock) where
  mutex_says : (c : MutexCall) (s : MutexState) → Says b (mutex.doing c a o by s)
  unfolding mutex.doing
  mutex_says mutex-call.AcquireLock s = by_test (λ (d : Does MutexState). Says b d) (mutex.is_locked s.lock) (λ z. tt) (λ z. tt)
  mutex_says mutex-call.TryAcquireLock s = by_test (λ (d : Does MutexState). Says b d) (mutex.is_locked s.lock) (λ z. omega arith) (λ z. one)
  mutex_says mutex-call.ReleaseLock s = tt

  rwlock_says : (c : RwLockCall) (s : RwLockState) → Says b (rwlock.doing c a o by s)
  unfolding rwlock.doing
  rwlock_says rwlock-call.AcquireReadLock s = by_lock (λ (d : Does RwLockState). Says b d) s.lock tt (λ m. tt) (λ t. tt)
  rwlock_says rwlock-call.AcquireWriteLock s = by_lock (λ (d : Does RwLockState). Says b d) s.lock tt (λ m. tt) (λ t. tt)
  rwlock_says rwlock-call.TryAcquireReadLock s = by_lock (λ (d : Does RwLockState). Says b d) s.lock one (λ m. one) (λ t. omega arith)
  rwlock_says rwlock-call.TryAcquireWriteLock s = by_lock (λ (d : Does RwLockState). Says b d) s.lock one (λ m. omega arith) (λ t. omega arith)
  rwlock_says rwlock-call.ReleaseReadLock s =
      by_lock (λ (d : Does RwLockState). Says b d) s.lock tt (λ m. by_test (λ (d : Does RwLockState). Says b d) (eqb (rwlock.without_reader m a) 0) (λ z. tt) (λ z. tt)) (λ t. tt)
  rwlock_says rwlock-call.ReleaseWriteLock s = tt

  condvar_says : (c : CondvarCall) (s : CondvarState) → Says b (condvar.doing c a s)
  unfolding condvar.doing
  condvar_says (condvar-call.Wait m) s = by_test (λ (d : Does CondvarState). Says b d) (ltb s.count max_waiters) (λ z. tt) (λ z. tt)
  condvar_says condvar-call.NotifyOne s = by_test (λ (d : Does CondvarState). Says b d) (eqb s.count 0) (λ z. tt) (λ z. tt)
  condvar_says condvar-call.NotifyAll s = tt

  notify_says : (c : NotifyCall) (s : NotifyState) → Says b (notify.doing c o by s)
  unfolding notify.doing
  notify_says notify-call.Notify s = tt
  notify_says notify-call.Wait s = by_test (λ (d : Does NotifyState). Says b d) s.notified (λ z. tt) (λ z. tt)

  channel_says : (c : ChannelCall) (s : ChannelState) → Says b (mpsc.doing c o by s)
  unfolding mpsc.doing
  channel_says mpsc-call.Send s = by_test (λ (d : Does ChannelState). Says b d) (ltb s.msg_cnt max_messages) (λ z. tt) (λ z. tt)
  channel_says mpsc-call.Recv s = by_test (λ (d : Does ChannelState). Says b d) (mpsc.is_empty s) (λ z. tt) (λ z. tt)

  arc_says : (c : ArcCall) (s : ArcState) → s.ref_cnt ≤ b → Says b (arc.doing c by s)
  unfolding arc.doing
  arc_says arc-call.RefInc s l = tt
  arc_says arc-call.RefDec s l = by_test (λ (d : Does ArcState). Says b d) (eqb s.ref_cnt 0) (λ z. tt) (λ z. flag_few (eqb s.ref_cnt 1) b one)
  arc_says arc-call.GetMut s l = by_test (λ (d : Does ArcState). Says b d) (eqb s.ref_cnt 0) (λ z. tt) (λ z. flag_few (eqb s.ref_cnt 1) b one)
  arc_says arc-call.StrongCount s l = by_test (λ (d : Does ArcState). Says b d) (eqb s.ref_cnt 0) (λ z. tt) (λ z. l)

  accessing_says : (misuse : Bool) (track : Ending) (s next : CellState) (xs : List Touch) → Says b (cell.accessing misuse track s next xs)
  unfolding cell.accessing
  accessing_says misuse track s next xs =
      by_test (λ (d : Does CellState). Says b d) misuse (λ z. tt) (λ z. by_test (λ (d : Does CellState). Says b d) (is_fine track) (λ y. tt) (λ y. tt))

  cell_says : (c : CellCall) (s : CellState) → Says b (cell.doing c a by s)
  unfolding cell.doing
  cell_says cell-call.StartRead s = accessing_says _ _ s _ _
  cell_says cell-call.EndRead s = accessing_says _ _ s _ _
  cell_says cell-call.StartWrite s = accessing_says _ _ s _ _
  cell_says cell-call.EndWrite s = accessing_says _ _ s _ _

  doing_says : (c : Call) (e : Entry) → arc_count e ≤ b → Leaves b (doing c a o by e).answer
  unfolding doing
  doing_says (Mutex c) e l = mutex_says c e.mutex
  doing_says (RwLock c) e l = rwlock_says c e.rwlock
  doing_says (Condvar c) e l = condvar_says c e.condvar
  doing_says (Notify c) e l = notify_says c e.notify
  doing_says (Channel c) e l = channel_says c e.channel
  doing_says (Arc c) e l = arc_says c e.arc l
  doing_says (Cell c) e l = cell_says c e.cell

effect_says : (c : Call) (a : ThreadId) (o : ObjectId) (e : Entry) (ts : List Thread) → arc_count e ≤ most_answer → Leaves most_answer (effect c a o e ts).answer
unfolding effect
effect_says c a o e ts l = doing_says most_answer (omega arith) a o (thread_at ts a).clock c e l

said_bears : Bears Any Said
said_bears = record { join = λ c d p q. tt; clock = λ k x h. tt; clocked = λ k x c p h. h; unparked = λ k x h. h; stands = λ k x o s on live h. h }

effected : (c : Call) (t : ThreadId) (o : ObjectId) (e : Entry) (ts : List Thread) → AllSaid ts → AllSaid (effect c t o e ts).threads
effected c t o e ts h = record { hold = effect-any max_threads Said said_bears c t o e ts h.hold }

-- a thread is put with its answer as it is
same_put : (t : ThreadId) (ts : List Thread) (x : Thread) → x.last_answer ≡ (thread_at ts t).last_answer → AllSaid ts → AllSaid (put_thread ts t x)
same_put t ts x e h = record { hold = put_holds max_threads Said t ts x h.hold (rw e (h.hold.1 t.0)) }

announced_put : (t : ThreadId) (ts : List Thread) (f : Phase) (d : Bool) → AllSaid ts → AllSaid (put_thread ts t (announced f d (thread_at ts t)))
unfolding announced
announced_put t ts f d h = record { hold = put_holds max_threads Said t ts _ h.hold (by_test (Said t.0) d (λ z. h.hold.1 t.0) (λ z. h.hold.1 t.0)) }

-- one operation more is done
advanced : (t : ThreadId) (n : Option ℕ) (ts : List Thread) → Leaves most_answer n → AllSaid ts → AllSaid (advance t n ts)
unfolding advance
advanced t None ts l h = record { hold = put_holds max_threads Said t ts _ h.hold (h.hold.1 t.0) }
advanced t (Some m) ts l h = record { hold = put_holds max_threads Said t ts _ h.hold l }

parked : (t : ThreadId) (m : ObjectId) (e : Entry) (ts : List Thread) → AllSaid ts → AllSaid (park t m e ts)
unfolding park retake
parked t m e ts h =
    by_test AllSaid (has_unpark (thread_at ts t).state) (λ z. announced_put t _ _ _ (same_put t ts (set_runnable (thread_at ts t)) refl h)) (λ z. same_put t ts _ refl h)

module _ (table : Table) where
  -- with the Arcs' counts
  abbrev ArcsIn : World → Type 0
  ArcsIn w = counting.InWorld arc_count 1 incs decs arc_counted table w

  abbrev In : World → Type 0
  In w = ArcsIn w × AllSaid w.threads

  abbrev Mid : ThreadId → List Op → World → Type 0
  Mid t ops v = counting.Mid arc_count 1 incs decs arc_counted table t ops v × AllSaid v.threads

  module _ (t : ThreadId) (w : World) (h : AllSaid w.threads) (b : Begins table w t (counting.Below arc_count 1 incs decs arc_counted table) (counting.Mid arc_count 1 incs decs arc_counted table t) ArcsIn) where
    -- an announced operation
    after : (op : Op) → AllSaid (in_effect t op w).threads
    unfolding operate
    after op = effected op.call t op.object (recorded t op w) (dependent t op w) (same_put t w.threads _ refl h)

    -- a turn
    begins : Begins table w t (λ u c e ts. Unit {0}) (Mid t) In
    unfolding announce_op ended retake operate wait
    begins =
        record {
          passes = record {
            sees = λ ops v op f i. tt;
            shows = λ ops v i. (b.passes.shows ops v i.0, i.1);
            asks = λ ops v op a i. (b.passes.asks ops v op a i.0, i.1);
            ends = λ v i. (b.passes.ends v i.0, same_put t v.threads _ refl i.1);
            announces = λ ops v op i. (b.passes.announces ops v op i.0, announced_put t v.threads _ _ i.1);
            goes =
                λ ops v op f z i.
                let low = b.passes.sees ops v op f i.0 in (
                  b.passes.goes ops v op f z i.0,
                  advanced t _ _ (effect_says op.call t op.object (entry_in v op.object) v.threads (omega (arith, low)))
                      (effected op.call t op.object (entry_in v op.object) v.threads i.1),
                );
          };
          nothing = λ e. (b.nothing e, h);
          effects = λ op k. tt;
          releases = λ op m k f s. tt;
          operates =
              λ op next ops k e z s.
              let low = b.effects op k in
              (b.operates op next ops k e z s, advanced t _ _ (effect_says op.call t op.object (recorded t op w) (dependent t op w) (omega (arith, low))) (after op));
          waits = λ op a m o e f s. (b.waits op a m o e f s, parked t m _ _ (effected (Mutex mutex-call.ReleaseLock) t m (entry_in (in_effect t op w) m) (in_effect t op w).threads (after op)));
          retakes = λ m o e. (b.retakes m o e, announced_put t w.threads _ _ h);
        }

    -- an answer to a question
    answers : Answers table w t ArcsIn → Answers table w t In
    unfolding announce_op spurious
    answers a =
        record {
          goes = λ op o. (a.goes op o, announced_put t w.threads _ _ h);
          wakes = λ op o. (a.wakes op o, advanced t None _ tt (same_put t w.threads (set_runnable (thread_in w t)) refl h));
        }

  -- each decision keeps it
  decided : Within table → ((j p k : ℕ) → Named (get_or (drop p (ops_of table j)) k no_op)) → (w : World) → Good table w → Orderly table w → In w → (d : ℕ) → In (decide table w d).world
  decided n named w g order h =
      decide_passes table n w g (λ u c e ts. Unit {0}) Mid In h
      (λ t x. begins t w h.1 (counting.begins arc_count 1 incs decs arc_counted table n t x.within (named t.0) w order h.0))
      (λ t q r.
      answers t w h.1 (counting.begins arc_count 1 incs decs arc_counted table n t r.0 (named t.0) w order h.0)
      (counting.answers arc_count 1 incs decs arc_counted table n t r.0 (named t.0) w order h.0 (asking table w order t q)))

  -- at the start no answer is left
  start_said : AllSaid (start table).threads
  start_said = record { hold = start_holds Said table (λ k. omega arith) (λ k x l h. h) }

-- in every world that the sheet of an accepted table shows
pub answer_most : (bs list : List ℕ) (table : Table) (w : World) → read_table bs ≡ Ok table → Shown table list w → (t : ThreadId) → (thread_in w t).last_answer ≤ most_answer
answer_most bs list table w a e t =
    let h = read-within bs table a in
    let r = shown_by table h.0 (λ u v. Orderly table v × In table v)
    (λ u v d g l i. (decide_orderly table h.0 v g i.0 d, decided table h.0 (ops_named bs table a) v g i.0 i.1 d)) h.1
    (start_orderly table, (counting.start_counts arc_count 1 incs decs arc_counted table h.0 (objects_there bs table a), start_said table)) list w e in
    r.1.1.1.hold.1 t.0
