-- The queues of waiters and of messages: their lengths, counts at most these, who waits is one of the table's threads, and what is past the count. The words are in specs/Queues.antt.
use Rattle.std.specs.Prelude.{◌≡◌, refl, List, [], ◌∷◌, ◌++◌, ℕ, suc, ◌+◌, ◌≤◌, ◌<◌, eqb, ltb, length, get_or, drop}
use Rattle.std.proofs.Common.{sym, ◌∙◌, ap, subst, arith, length-set, ltb-true, ltb-false}
use Rattle.clocks.specs.Clock.{zero_clock}
use Rattle.clocks.specs.declared.clock.Clock.{Clock}
use Rattle.clocks.specs.declared.thread.ThreadId.{ThreadId}
use Rattle.rules.specs.declared.access.Access.{Access}
use Rattle.rules.specs.declared.object.ObjectId.{ObjectId}
use Rattle.rules.specs.declared.object.Entry.{Entry}
use Rattle.rules.specs.declared.condvar.Call.{Call as CondvarCall}
use Rattle.rules.specs.declared.condvar.Call.TheVariants as condvar-call
use Rattle.rules.specs.declared.condvar.State.{State as CondvarState}
use Rattle.rules.specs.declared.mpsc.Call.{Call as ChannelCall}
use Rattle.rules.specs.declared.mpsc.Call.TheVariants as mpsc-call
use Rattle.rules.specs.declared.mpsc.State.{State as ChannelState}
use Rattle.rules.specs.declared.table.Call.{Call}
use Rattle.rules.specs.declared.table.Call.TheVariants.{Mutex, RwLock, Condvar, Notify, Channel, Arc, Cell}
use Rattle.rules.specs.declared.table.Made.{Made}
use Rattle.rules.specs.Limits.{max_messages, max_waiters}
use Rattle.rules.specs.Ground.{Does}
use Rattle.rules.specs.Object.{new_entry}
use Rattle.rules.specs.Condvar as condvar
use Rattle.rules.specs.Mpsc as mpsc
use Rattle.rules.proofs.TableLaws.{by_test, split}
use Rattle.rules.specs.Effect.{set_last_access, doing}
use Rattle.theorems.proofs.All.{all_put, all_same, get_last, get_rest, shift_length}
use Rattle.theorems.specs.Objects.{Lasting}
use Rattle.theorems.specs.Queues.{Waiting, Passing, Queues}

-- nobody waits
none-waiting : (n : ℕ) (s : CondvarState) → s.count ≡ 0 → s.waiters ≡ (condvar.new).waiters → Waiting n s
none-waiting n s z e =
    record {
      long = ap (λ (ws : List ThreadId). length ws) e;
      most = omega (arith, z);
      who = λ k l. absurd (omega (arith, l, z));
      filled = λ k l. ap (λ (ws : List ThreadId). (get_or ws k condvar.nobody).0) e ∙ all_same (λ (x : ThreadId). x.0 ≡ 255) condvar.nobody refl max_waiters k;
    }

-- an object as the table makes it
new-queues : (n : ℕ) (m : Made) → Queues n (new_entry m)
unfolding new_entry
new-queues n m = (
  none-waiting n condvar.new refl refl,
  record { long = refl; most = omega arith; filled = λ k l. all_same (λ (x : Clock). x ≡ zero_clock) zero_clock refl max_messages k },
)

-- a recorded access
records_queues : (n : ℕ) (c : Call) (x : Access) (e : Entry) → Queues n e → Queues n (set_last_access c x e)
unfolding set_last_access
records_queues n (Mutex c) x e h = h
records_queues n (RwLock c) x e h = h
records_queues n (Condvar c) x e h = (record { long = h.0.long; most = h.0.most; who = h.0.who; filled = h.0.filled }, h.1)
records_queues n (Notify c) x e h = h
records_queues n (Channel mpsc-call.Send) x e h = (h.0, record { long = h.1.long; most = h.1.most; filled = h.1.filled })
records_queues n (Channel mpsc-call.Recv) x e h = (h.0, record { long = h.1.long; most = h.1.most; filled = h.1.filled })
records_queues n (Arc c) x e h = h
records_queues n (Cell c) x e h = h

-- a waiter more, the oldest one less, none
waiting_queue : (n : ℕ) (c : CondvarCall) (a : ThreadId) (s : CondvarState) → a.0 < n → Waiting n s → Waiting n (condvar.doing c a s).state
unfolding condvar.doing
waiting_queue n (condvar-call.Wait m) a s l h =
    by_test (λ (d : Does CondvarState). Waiting n d.state) (ltb s.count max_waiters)
    (λ e.
    let room : s.count < max_waiters = ltb-true s.count max_waiters e in
    record {
      long = length-set s.waiters s.count a ∙ h.long;
      most = omega (arith, room);
      who =
          all_put (λ (k : ℕ) (x : ThreadId). k < s.count → x.0 < n) (λ (k : ℕ) (x : ThreadId). k < s.count + 1 → x.0 < n) condvar.nobody s.waiters s.count a
          (omega (arith, room, h.long))
          (λ k x u i m. split (ltb k s.count) (λ f. i (ltb-true k s.count f)) (λ f. absurd (u (omega (arith, m, ltb-false k s.count f))))) h.who (λ m. l);
      filled =
          all_put (λ (k : ℕ) (x : ThreadId). s.count ≤ k → x.0 ≡ 255) (λ (k : ℕ) (x : ThreadId). s.count + 1 ≤ k → x.0 ≡ 255) condvar.nobody s.waiters s.count a
          (omega (arith, room, h.long)) (λ k x u i m. i (omega (arith, m))) h.filled (λ m. absurd (omega (arith, m)));
    })
    (λ e. h)
waiting_queue n condvar-call.NotifyOne a s l h =
    by_test (λ (d : Does CondvarState). Waiting n d.state) (eqb s.count 0) (λ e. h)
    (λ e.
    let moved : (k : ℕ) → get_or s.waiters (suc k) condvar.nobody ≡ get_or (drop 1 s.waiters ++ condvar.nobody ∷ []) k condvar.nobody =
    λ k. sym (get_last condvar.nobody (drop 1 s.waiters) k ∙ get_rest condvar.nobody s.waiters k) in
    record {
      long = shift_length condvar.nobody s.waiters (omega (arith, h.long)) ∙ h.long;
      most = omega (arith, h.most);
      who = λ k m. subst (λ (x : ThreadId). x.0 < n) (moved k) (h.who (suc k) (omega (arith, m)));
      filled = λ k m. subst (λ (x : ThreadId). x.0 ≡ 255) (moved k) (h.filled (suc k) (omega (arith, m)));
    })
waiting_queue n condvar-call.NotifyAll a s l h = none-waiting n _ refl refl

-- a message more, the oldest one less
passing_queue : (c : ChannelCall) (o : ObjectId) (by : Clock) (s : ChannelState) → Passing s → Passing (mpsc.doing c o by s).state
unfolding mpsc.doing
passing_queue mpsc-call.Send o by s h =
    by_test (λ (d : Does ChannelState). Passing d.state) (ltb s.msg_cnt max_messages)
    (λ e.
    let room : s.msg_cnt < max_messages = ltb-true s.msg_cnt max_messages e in
    record {
      long = length-set s.receiver_synchronize _ _ ∙ h.long;
      most = omega (arith, room);
      filled =
          all_put (λ (k : ℕ) (x : Clock). s.msg_cnt ≤ k → x ≡ zero_clock) (λ (k : ℕ) (x : Clock). s.msg_cnt + 1 ≤ k → x ≡ zero_clock) zero_clock s.receiver_synchronize s.msg_cnt _
          (omega (arith, room, h.long)) (λ k x u i m. i (omega (arith, m))) h.filled (λ m. absurd (omega (arith, m)));
    }) (λ e. h)
passing_queue mpsc-call.Recv o by s h =
    by_test (λ (d : Does ChannelState). Passing d.state) (mpsc.is_empty s) (λ e. h)
    (λ e.
    record {
      long = shift_length zero_clock s.receiver_synchronize (omega (arith, h.long)) ∙ h.long;
      most = omega (arith, h.most);
      filled =
          λ k m.
          get_last zero_clock (drop 1 s.receiver_synchronize) k ∙ get_rest zero_clock s.receiver_synchronize k ∙ h.filled (suc k) (omega (arith, m));
    })

-- only an operation on a condvar or a channel changes a queue
doing-queues : (n : ℕ) (c : Call) (a : ThreadId) (o : ObjectId) (by : Clock) (e : Entry) → a.0 < n → Queues n e → Queues n (doing c a o by e).state
unfolding doing
doing-queues n (Mutex c) a o by e l h = h
doing-queues n (RwLock c) a o by e l h = h
doing-queues n (Condvar c) a o by e l h = (waiting_queue n c a e.condvar l h.0, h.1)
doing-queues n (Notify c) a o by e l h = h
doing-queues n (Channel c) a o by e l h = (h.0, passing_queue c o by e.channel h.1)
doing-queues n (Arc c) a o by e l h = h
doing-queues n (Cell c) a o by e l h = h

-- so they last
pub queues_last : (n : ℕ) (ms : List Made) → Lasting n ms (λ k. Queues n)
queues_last n ms =
    record {
      made = λ k. new-queues n _;
      records = λ k c x e h. records_queues n c x e h;
      effects = λ k c a o by e l h. doing-queues n c a o by e l h;
      spurs = λ k e h. h;
    }
