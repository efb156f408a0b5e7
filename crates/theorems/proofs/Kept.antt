-- What an effect does to clocks: every clock of the object and of the threads afterwards is a join of clocks before, or a thread's own count has
-- risen at the start of an access to a cell. And an effect keeps every thread's position and phase. The words are in specs/Kept.antt.
use Rattle.std.specs.Prelude.{◌≡◌, refl, Bool, true, false, List, [], ◌∷◌, map, ℕ, eqb, ltb, drop, take, None, Option, Some}
use Rattle.clocks.specs.Clock.{max_threads, zero_clock, join_of, inc_of}
use Rattle.clocks.specs.declared.clock.Clock.{Clock}
use Rattle.clocks.specs.declared.thread.ThreadId.{ThreadId}
use Rattle.rules.specs.declared.access.Access.{Access}
use Rattle.rules.specs.declared.object.ObjectId.{ObjectId}
use Rattle.rules.specs.declared.object.Entry.{Entry}
use Rattle.rules.specs.Ground.{Ending}
use Rattle.rules.specs.declared.mutex.State.{State as MutexState}
use Rattle.rules.specs.declared.mutex.Call.{Call as MutexCall}
use Rattle.rules.specs.declared.mutex.Call.TheVariants as mutex-call
use Rattle.rules.specs.declared.rwlock.State.{State as RwLockState}
use Rattle.rules.specs.declared.rwlock.Call.{Call as RwLockCall}
use Rattle.rules.specs.declared.rwlock.Call.TheVariants as rwlock-call
use Rattle.rules.specs.declared.rwlock.Locked.{Locked}
use Rattle.rules.specs.declared.rwlock.Locked.TheVariants as locked
use Rattle.rules.specs.declared.condvar.State.{State as CondvarState}
use Rattle.rules.specs.declared.condvar.Call.{Call as CondvarCall}
use Rattle.rules.specs.declared.condvar.Call.TheVariants as condvar-call
use Rattle.rules.specs.declared.notify.State.{State as NotifyState}
use Rattle.rules.specs.declared.notify.Call.{Call as NotifyCall}
use Rattle.rules.specs.declared.notify.Call.TheVariants as notify-call
use Rattle.rules.specs.declared.mpsc.State.{State as ChannelState}
use Rattle.rules.specs.declared.mpsc.Call.{Call as ChannelCall}
use Rattle.rules.specs.declared.mpsc.Call.TheVariants as mpsc-call
use Rattle.rules.specs.declared.arc.State.{State as ArcState}
use Rattle.rules.specs.declared.arc.Call.{Call as ArcCall}
use Rattle.rules.specs.declared.arc.Call.TheVariants as arc-call
use Rattle.rules.specs.declared.arc.RefModify.{RefModify}
use Rattle.rules.specs.declared.arc.RefModify.TheVariants as modify
use Rattle.rules.specs.declared.cell.State.{State as CellState}
use Rattle.rules.specs.declared.cell.Call.{Call as CellCall}
use Rattle.rules.specs.declared.cell.Call.TheVariants as cell-call
use Rattle.rules.specs.declared.thread.Phase.{Phase}
use Rattle.rules.specs.declared.thread.Phase.TheVariants.{Nothing}
use Rattle.rules.specs.declared.thread.Thread.{Thread}
use Rattle.rules.specs.declared.table.Call.{Call}
use Rattle.rules.specs.declared.table.Call.TheVariants.{Mutex, RwLock, Condvar, Notify, Channel, Arc, Cell}
use Rattle.rules.specs.declared.table.Made.{Made}
use Rattle.rules.specs.declared.table.Table.{Table}
use Rattle.rules.specs.Limits.{max_messages, max_waiters}
use Rattle.rules.specs.Ground.{with_phase, thread_at, Touch, unparks, is_fine, Does, does}
use Rattle.rules.specs.Object.{announced, put_mutex, put_rw_lock, put_condvar, put_notify, put_channel, put_arc, put_cell, new_entry, no_object}
use Rattle.rules.specs.Mutex as mutex
use Rattle.rules.specs.RwLock as rwlock
use Rattle.rules.specs.Mpsc as mpsc
use Rattle.rules.specs.Arc as arc
use Rattle.rules.specs.Notify as notify
use Rattle.rules.specs.Condvar as condvar
use Rattle.rules.specs.Cell as cell
use Rattle.rules.proofs.TableLaws.{by_test}
use Rattle.rules.specs.Turn.{start}
use Rattle.rules.specs.Effect.{last_dependent_access, set_last_access, doing, effect}
use Rattle.theorems.specs.All.{All}
use Rattle.theorems.proofs.All.{all_set, all_map, all_last, all_rest, all_same}
use Rattle.theorems.specs.Touches.{Bears, Brings}
use Rattle.theorems.proofs.Touches.{start_holds, effect_holds}
use Rattle.theorems.specs.Kept.{OfMutex, OfRwLock, OfCondvar, OfNotify, OfChannel, OfArc, OfCell, Object, One, Threads, Raises}

module _ (C D : Clock → Type 0) where
  -- an object with the state of one kind changed
  mutex_put : (e : Entry) (s : MutexState) → Object C D e → OfMutex C D s → Object C D (put_mutex e s)
  mutex_put e s h c = record { mutex = c; rwlock = h.rwlock; condvar = h.condvar; notify = h.notify; channel = h.channel; arc = h.arc; cell = h.cell }

  rwlock_put : (e : Entry) (s : RwLockState) → Object C D e → OfRwLock C D s → Object C D (put_rw_lock e s)
  rwlock_put e s h c = record { mutex = h.mutex; rwlock = c; condvar = h.condvar; notify = h.notify; channel = h.channel; arc = h.arc; cell = h.cell }

  condvar_put : (e : Entry) (s : CondvarState) → Object C D e → OfCondvar C D s → Object C D (put_condvar e s)
  condvar_put e s h c = record { mutex = h.mutex; rwlock = h.rwlock; condvar = c; notify = h.notify; channel = h.channel; arc = h.arc; cell = h.cell }

  pub notify_put : (e : Entry) (s : NotifyState) → Object C D e → OfNotify C D s → Object C D (put_notify e s)
  notify_put e s h c = record { mutex = h.mutex; rwlock = h.rwlock; condvar = h.condvar; notify = c; channel = h.channel; arc = h.arc; cell = h.cell }

  channel_put : (e : Entry) (s : ChannelState) → Object C D e → OfChannel C D s → Object C D (put_channel e s)
  channel_put e s h c = record { mutex = h.mutex; rwlock = h.rwlock; condvar = h.condvar; notify = h.notify; channel = c; arc = h.arc; cell = h.cell }

  arc_put : (e : Entry) (s : ArcState) → Object C D e → OfArc C D s → Object C D (put_arc e s)
  arc_put e s h c = record { mutex = h.mutex; rwlock = h.rwlock; condvar = h.condvar; notify = h.notify; channel = h.channel; arc = c; cell = h.cell }

  cell_put : (e : Entry) (s : CellState) → Object C D e → OfCell C D s → Object C D (put_cell e s)
  cell_put e s h c = record { mutex = h.mutex; rwlock = h.rwlock; condvar = h.condvar; notify = h.notify; channel = h.channel; arc = h.arc; cell = c }

  -- an access recorded
  pub access_recorded : (c : Call) (x : Access) (e : Entry) → D x.version → Object C D e → Object C D (set_last_access c x e)
  unfolding set_last_access
  access_recorded (Mutex c) x e p h = mutex_put e _ h (p, h.mutex.1)
  access_recorded (RwLock c) x e p h = rwlock_put e _ h (p, h.rwlock.1)
  access_recorded (Condvar c) x e p h = condvar_put e _ h p
  access_recorded (Notify c) x e p h = notify_put e _ h (p, h.notify.1)
  access_recorded (Channel mpsc-call.Send) x e p h = channel_put e _ h (p, h.channel.1, h.channel.2, h.channel.3)
  access_recorded (Channel mpsc-call.Recv) x e p h = channel_put e _ h (h.channel.0, p, h.channel.2, h.channel.3)
  access_recorded (Arc arc-call.RefInc) x e p h = arc_put e _ h (h.arc.0, p, h.arc.2, h.arc.3)
  access_recorded (Arc arc-call.RefDec) x e p h = arc_put e _ h (h.arc.0, h.arc.1, p, h.arc.3)
  access_recorded (Arc arc-call.GetMut) x e p h = arc_put e _ h (h.arc.0, h.arc.1, p, h.arc.3)
  access_recorded (Arc arc-call.StrongCount) x e p h = arc_put e _ h (h.arc.0, h.arc.1, h.arc.2, p)
  access_recorded (Cell c) x e p h = h

-- what is weaker holds too
pub object_more : (C D C' D' : Clock → Type 0) → ((c : Clock) → C c → C' c) → ((c : Clock) → D c → D' c) → (e : Entry) → Object C D e → Object C' D' e
object_more C D C' D' f g e h =
    record {
      mutex = (g _ h.mutex.0, f _ h.mutex.1);
      rwlock = (g _ h.rwlock.0, f _ h.rwlock.1);
      condvar = g _ h.condvar;
      notify = (g _ h.notify.0, f _ h.notify.1);
      channel = (g _ h.channel.0, g _ h.channel.1, f _ h.channel.2, λ k. f _ (h.channel.3 k));
      arc = (f _ h.arc.0, g _ h.arc.1, g _ h.arc.2, g _ h.arc.3);
      cell = (f _ h.cell.0, f _ h.cell.1);
    }

-- of the threads too
pub threads_more : (C D C' D' : Clock → Type 0) (M : ℕ → ℕ → Phase → Type 0) → ((c : Clock) → C c → C' c) → ((c : Clock) → D c → D' c) → (ts : List Thread) → Threads C D M ts → Threads C' D' M ts
threads_more C D C' D' M f g ts h = (h.0, λ k. (f _ (h.1 k).0, g _ (h.1 k).1, (h.1 k).2))

module _ (C D : Clock → Type 0) (none : C zero_clock) (never : D zero_clock) where
  -- an object as the table makes it
  pub new_object : (m : Made) → Object C D (new_entry m)
  unfolding new_entry
  new_object m =
      record {
        mutex = (never, none);
        rwlock = (never, none);
        condvar = never;
        notify = (never, none);
        channel = (never, never, none, all_same C zero_clock none max_messages);
        arc = (none, never, never, never);
        cell = (none, none);
      }

  -- the last modification of an Arc
  modified : (m : Option RefModify) (e : Entry) → Object C D e → D (arc.last_modification m e.arc).version
  modified None e h = never
  modified (Some modify.RefInc) e h = h.arc.1
  modified (Some modify.RefDec) e h = h.arc.2

  -- the last access that an operation depends on
  pub last_version : (c : Call) (e : Entry) → Object C D e → D (last_dependent_access c e).version
  unfolding last_dependent_access
  last_version (Mutex c) e h = h.mutex.0
  last_version (RwLock c) e h = h.rwlock.0
  last_version (Condvar c) e h = h.condvar
  last_version (Notify c) e h = h.notify.0
  last_version (Channel mpsc-call.Send) e h = h.channel.0
  last_version (Channel mpsc-call.Recv) e h = h.channel.1
  last_version (Arc arc-call.RefInc) e h = h.arc.3
  last_version (Arc arc-call.RefDec) e h = h.arc.2
  last_version (Arc arc-call.GetMut) e h = h.arc.2
  last_version (Arc arc-call.StrongCount) e h = modified e.arc.last_ref_modification e h
  last_version (Cell c) e h = never

-- announcing sets the phase, and the state perhaps
pub announced_one : (C D : Clock → Type 0) (M : ℕ → ℕ → Phase → Type 0) (j : ℕ) (f : Phase) (b : Bool) (x : Thread) → One C D M j (with_phase x f) → One C D M j (announced f b x)
unfolding announced
announced_one C D M j f true x h = h
announced_one C D M j f false x h = h

-- the start: no count, and `M` of a thread that has done and announced nothing
pub start_threads : (C D : Clock → Type 0) (M : ℕ → ℕ → Phase → Type 0) → C zero_clock → D zero_clock → ((j : ℕ) → M j 0 Nothing) → (table : Table) → Threads C D M (start table).threads
start_threads C D M none never first table = start_holds (One C D M) table (λ j. (none, never, first j)) (λ j x l h. h)

pub start_objects : (C D : Clock → Type 0) → C zero_clock → D zero_clock → (table : Table) → All (λ i. Object C D) (new_entry no_object) (start table).objects
unfolding start
start_objects C D none never table = all_map (Object C D) (new_entry no_object) new_entry (new_object C D none never no_object) (new_object C D none never) table.objects

-- what holds of a thread's clocks, position and phase bears touches
pub one_bears : (C D : Clock → Type 0) → ((c d : Clock) → C c → C d → C (join_of c d)) → (M : ℕ → ℕ → Phase → Type 0) → Bears C (One C D M)
one_bears C D join M =
    record { join = join; clock = λ k x h. h.0; clocked = λ k x c p h. (p, h.1, h.2); unparked = λ k x h. h; stands = λ k x o s on live h. h }

-- a statement about a choice by a lock, with what the lock is, and without
pub by-locked : {A : Type 0} (P : A → Type 0) (l : Option Locked) {x : A} {y : ℕ → A} {z : ThreadId → A} → (l ≡ None → P x) → ((m : ℕ) → l ≡ Some (locked.Read m) → P (y m))
    → ((t : ThreadId) → l ≡ Some (locked.Write t) → P (z t)) → P (elim l [ None ↦ x | Some (locked.Read m) ↦ y m | Some (locked.Write t) ↦ z t ])
by-locked P None p q r = p refl
by-locked P (Some (locked.Read m)) p q r = q m refl
by-locked P (Some (locked.Write t)) p q r = r t refl

pub by_lock : {A : Type 0} (P : A → Type 0) (l : Option Locked) {x : A} {y : ℕ → A} {z : ThreadId → A} → P x → ((m : ℕ) → P (y m)) → ((t : ThreadId) → P (z t))
    → P (elim l [ None ↦ x | Some (locked.Read m) ↦ y m | Some (locked.Write t) ↦ z t ])
by_lock P l p q r = by-locked P l (λ e. p) (λ m e. q m) (λ t e. r t)

-- a join of clocks with `C` has it; of a's own clock, from one with `B`, the count may rise once
module _ (C D : Clock → Type 0) (join : (c d : Clock) → C c → C d → C (join_of c d)) (none : C zero_clock) (B : Clock → Type 0) (a : ThreadId) where
  -- what an operation does: the state that it leaves, and what it brings the threads
  abbrev Fine : {S : Type 0} → (S → Type 0) → Does S → Type 0
  Fine P d = P d.state × Brings B C a d.touches

  unparks_bring : (E : Clock → Type 0) (ws : List ThreadId) → Brings E C a (map unparks ws)
  unparks_bring E [] = tt
  unparks_bring E (t ∷ ws) = unparks_bring C ws

  -- each kind, where its thread's clock is `by`
  module _ (o : ObjectId) (by : Clock) (p : C by) (q : B by) where
    mutex_kept : (c : MutexCall) (s : MutexState) → OfMutex C D s → Fine (OfMutex C D) (mutex.doing c a o by s)
    unfolding mutex.doing
    mutex_kept mutex-call.AcquireLock s h = by_test (Fine (OfMutex C D)) (mutex.is_locked s.lock) (λ z. (h, tt)) (λ z. (h, (h.1, tt)))
    mutex_kept mutex-call.TryAcquireLock s h = by_test (Fine (OfMutex C D)) (mutex.is_locked s.lock) (λ z. (h, tt)) (λ z. (h, (h.1, tt)))
    mutex_kept mutex-call.ReleaseLock s h = ((h.0, join _ _ h.1 p), tt)

    rwlock_kept : (c : RwLockCall) (s : RwLockState) → OfRwLock C D s → Fine (OfRwLock C D) (rwlock.doing c a o by s)
    unfolding rwlock.doing
    rwlock_kept rwlock-call.AcquireReadLock s h = by_lock (Fine (OfRwLock C D)) s.lock (h, (h.1, tt)) (λ m. (h, (h.1, tt))) (λ t. (h, tt))
    rwlock_kept rwlock-call.AcquireWriteLock s h = by_lock (Fine (OfRwLock C D)) s.lock (h, (h.1, tt)) (λ m. (h, tt)) (λ t. (h, tt))
    rwlock_kept rwlock-call.TryAcquireReadLock s h = by_lock (Fine (OfRwLock C D)) s.lock (h, (h.1, tt)) (λ m. (h, (h.1, tt))) (λ t. (h, tt))
    rwlock_kept rwlock-call.TryAcquireWriteLock s h = by_lock (Fine (OfRwLock C D)) s.lock (h, (h.1, tt)) (λ m. (h, tt)) (λ t. (h, tt))
    rwlock_kept rwlock-call.ReleaseReadLock s h =
        let left : OfRwLock C D (rwlock.locked None (join_of s.synchronize by) s) = (h.0, join _ _ h.1 p) in
        by_lock (Fine (OfRwLock C D)) s.lock (h, tt) (λ m. by_test (Fine (OfRwLock C D)) (eqb (rwlock.without_reader m a) 0) (λ z. (left, tt)) (λ z. (left, tt))) (λ t. (h, tt))
    rwlock_kept rwlock-call.ReleaseWriteLock s h = ((h.0, join _ _ h.1 p), tt)

    condvar_kept : (c : CondvarCall) (s : CondvarState) → OfCondvar C D s → Fine (OfCondvar C D) (condvar.doing c a s)
    unfolding condvar.doing
    condvar_kept (condvar-call.Wait m) s h = by_test (Fine (OfCondvar C D)) (ltb s.count max_waiters) (λ z. (h, tt)) (λ z. (h, tt))
    condvar_kept condvar-call.NotifyOne s h = by_test (Fine (OfCondvar C D)) (eqb s.count 0) (λ z. (h, tt)) (λ z. (h, tt))
    condvar_kept condvar-call.NotifyAll s h = (h, unparks_bring B (take s.count s.waiters))

    notify_kept : (c : NotifyCall) (s : NotifyState) → OfNotify C D s → Fine (OfNotify C D) (notify.doing c o by s)
    unfolding notify.doing
    notify_kept notify-call.Notify s h = ((h.0, join _ _ h.1 p), tt)
    notify_kept notify-call.Wait s h = by_test (Fine (OfNotify C D)) s.notified (λ z. (h, (h.1, tt))) (λ z. (h, tt))

    channel_kept : (c : ChannelCall) (s : ChannelState) → OfChannel C D s → Fine (OfChannel C D) (mpsc.doing c o by s)
    unfolding mpsc.doing
    channel_kept mpsc-call.Send s h =
        let sender : C (join_of s.sender_synchronize by) = join _ _ h.2 p in
        by_test (Fine (OfChannel C D)) (ltb s.msg_cnt max_messages)
        (λ z. (
          (h.0, h.1, sender, all_set (λ k. C) zero_clock s.receiver_synchronize s.msg_cnt _ h.3 sender),
          by_test (Brings B C a) (eqb s.msg_cnt 0) (λ y. tt) (λ y. tt),
        )) (λ z. (h, tt))
    channel_kept mpsc-call.Recv s h =
        by_test (Fine (OfChannel C D)) (mpsc.is_empty s) (λ z. (h, tt))
        (λ z. (
          (h.0, h.1, h.2, all_last C zero_clock zero_clock none none (drop 1 s.receiver_synchronize) (all_rest C zero_clock s.receiver_synchronize h.3)),
          (h.3 0, by_test (Brings C C a) (eqb s.msg_cnt 1) (λ y. tt) (λ y. tt)),
        ))

    arc_kept : (c : ArcCall) (s : ArcState) → OfArc C D s → Fine (OfArc C D) (arc.doing c by s)
    unfolding arc.doing
    arc_kept arc-call.RefInc s h = (h, tt)
    arc_kept arc-call.RefDec s h =
        let c : C (join_of s.synchronize by) = join _ _ h.0 p in
        by_test (Fine (OfArc C D)) (eqb s.ref_cnt 0) (λ z. (h, tt))
        (λ z. ((c, h.1, h.2, h.3), by_test (Brings B C a) (eqb s.ref_cnt 1) (λ y. (c, tt)) (λ y. tt)))
    arc_kept arc-call.GetMut s h = by_test (Fine (OfArc C D)) (eqb s.ref_cnt 0) (λ z. (h, tt)) (λ z. (h, (h.0, tt)))
    arc_kept arc-call.StrongCount s h = by_test (Fine (OfArc C D)) (eqb s.ref_cnt 0) (λ z. (h, tt)) (λ z. (h, (h.0, tt)))

    accessing-kept : (misuse : Bool) (track : Ending) (s next : CellState) (xs : List Touch) → OfCell C D s → Fine (OfCell C D) (does None next xs)
        → Fine (OfCell C D) (cell.accessing misuse track s next xs)
    unfolding cell.accessing
    accessing-kept misuse track s next xs h i =
        by_test (Fine (OfCell C D)) misuse (λ z. (h, tt)) (λ z. by_test (Fine (OfCell C D)) (is_fine track) (λ y. i) (λ y. (h, tt)))

    cell_kept : ((c : Clock) → B c → C (inc_of c a)) → (c : CellCall) (s : CellState) → OfCell C D s → Fine (OfCell C D) (cell.doing c a by s)
    unfolding cell.doing
    cell_kept own cell-call.StartRead s h = accessing-kept _ _ s _ _ h ((join _ _ h.0 (own by q), h.1), (own, tt))
    cell_kept own cell-call.EndRead s h = accessing-kept _ _ s _ _ h ((join _ _ h.0 p, h.1), tt)
    cell_kept own cell-call.StartWrite s h = accessing-kept _ _ s _ _ h ((h.0, join _ _ h.1 (own by q)), (own, tt))
    cell_kept own cell-call.EndWrite s h = accessing-kept _ _ s _ _ h ((h.0, join _ _ h.1 p), tt)

    doing-kept : (c : Call) → (Raises c → (x : Clock) → B x → C (inc_of x a)) → (e : Entry) → Object C D e → Fine (Object C D) (doing c a o by e)
    unfolding doing
    doing-kept (Mutex c) own e x = let r = mutex_kept c e.mutex x.mutex in (mutex_put C D e _ x r.0, r.1)
    doing-kept (RwLock c) own e x = let r = rwlock_kept c e.rwlock x.rwlock in (rwlock_put C D e _ x r.0, r.1)
    doing-kept (Condvar c) own e x = let r = condvar_kept c e.condvar x.condvar in (condvar_put C D e _ x r.0, r.1)
    doing-kept (Notify c) own e x = let r = notify_kept c e.notify x.notify in (notify_put C D e _ x r.0, r.1)
    doing-kept (Channel c) own e x = let r = channel_kept c e.channel x.channel in (channel_put C D e _ x r.0, r.1)
    doing-kept (Arc c) own e x = let r = arc_kept c e.arc x.arc in (arc_put C D e _ x r.0, r.1)
    doing-kept (Cell c) own e x = let r = cell_kept (own tt) c e.cell x.cell in (cell_put C D e _ x r.0, r.1)

  -- so the threads and the object after an effect
  pub effect-kept : (M : ℕ → ℕ → Phase → Type 0) (c : Call) → (Raises c → (x : Clock) → B x → C (inc_of x a)) → (o : ObjectId) (e : Entry) (ts : List Thread) → B (thread_at ts a).clock → Threads C D M ts → Object C D e
      → Threads C D M (effect c a o e ts).threads × Object C D (effect c a o e ts).entry
  unfolding effect
  effect-kept M c own o e ts q h x =
      let r = doing-kept o (thread_at ts a).clock (h.1 a.0).0 q c own e x in
      (effect_holds max_threads C (One C D M) (one_bears C D join M) a B c o e ts q r.1 h, r.0)
