-- No operation reads or changes the accesses that are recorded, so that its own may be recorded after its effect as well as before it.
--     effect_note       the access recorded after the effect          effect_depends    the access that it depends on is then still the same
--     operate-after     an announced operation, its effect first
use Rattle.std.specs.Prelude.{◌≡◌, List, ℕ, eqb, ltb, None, Option, Some}
use Rattle.std.proofs.Math.Path.{refl, ap}
use Rattle.std.proofs.Common.{sym, ◌∙◌}
use Rattle.clocks.specs.Clock.{join_of, inc_of}
use Rattle.clocks.specs.declared.clock.Clock.{Clock}
use Rattle.clocks.specs.declared.thread.ThreadId.{ThreadId}
use Rattle.rules.specs.declared.access.Access.{Access}
use Rattle.rules.specs.declared.object.ObjectId.{ObjectId}
use Rattle.rules.specs.declared.object.Entry.{Entry}
use Rattle.rules.specs.declared.mutex.Call.{Call as MutexCall}
use Rattle.rules.specs.declared.mutex.Call.TheVariants as mutex-call
use Rattle.rules.specs.declared.mutex.State.{State as MutexState}
use Rattle.rules.specs.declared.rwlock.Call.{Call as RwLockCall}
use Rattle.rules.specs.declared.rwlock.Call.TheVariants as rwlock-call
use Rattle.rules.specs.declared.rwlock.Locked.{Locked}
use Rattle.rules.specs.declared.rwlock.Locked.TheVariants.{Read, Write}
use Rattle.rules.specs.declared.rwlock.State.{State as RwLockState}
use Rattle.rules.specs.declared.condvar.Call.{Call as CondvarCall}
use Rattle.rules.specs.declared.condvar.Call.TheVariants as condvar-call
use Rattle.rules.specs.declared.condvar.State.{State as CondvarState}
use Rattle.rules.specs.declared.notify.Call.{Call as NotifyCall}
use Rattle.rules.specs.declared.notify.Call.TheVariants as notify-call
use Rattle.rules.specs.declared.notify.State.{State as NotifyState}
use Rattle.rules.specs.declared.mpsc.Call.{Call as ChannelCall}
use Rattle.rules.specs.declared.mpsc.Call.TheVariants as mpsc-call
use Rattle.rules.specs.declared.mpsc.Action.{Action as ChannelAction}
use Rattle.rules.specs.declared.mpsc.Action.TheVariants as mpsc-action
use Rattle.rules.specs.declared.mpsc.State.{State as ChannelState}
use Rattle.rules.specs.declared.arc.Call.{Call as ArcCall}
use Rattle.rules.specs.declared.arc.Call.TheVariants as arc-call
use Rattle.rules.specs.declared.arc.Action.{Action as ArcAction}
use Rattle.rules.specs.declared.arc.Action.TheVariants as arc-action
use Rattle.rules.specs.declared.arc.RefModify.{RefModify}
use Rattle.rules.specs.declared.arc.RefModify.TheVariants as modify
use Rattle.rules.specs.declared.arc.State.{State as ArcState}
use Rattle.rules.specs.declared.thread.Thread.{Thread}
use Rattle.rules.specs.declared.table.Call.{Call}
use Rattle.rules.specs.declared.table.Call.TheVariants.{Mutex, RwLock, Condvar, Notify, Channel, Arc, Cell}
use Rattle.rules.specs.declared.table.Op.{Op}
use Rattle.rules.specs.Limits.{max_messages, max_waiters}
use Rattle.rules.specs.Ground.{thread_at, Does}
use Rattle.rules.specs.Object.{put_mutex, put_rw_lock, put_condvar, put_notify, put_channel, put_arc}
use Rattle.rules.specs.Mutex as mutex
use Rattle.rules.specs.RwLock as rwlock
use Rattle.rules.specs.Mpsc as mpsc
use Rattle.rules.specs.Arc as arc
use Rattle.rules.specs.Notify as notify
use Rattle.rules.specs.Condvar as condvar
use Rattle.rules.specs.Effect.{last_dependent_access, set_last_access, within, doing, Effect, left, effect}
use Rattle.rules.specs.Turn.{dependence, operate}
use Rattle.rules.proofs.TableLaws.{split}
use Rattle.rules.proofs.TouchLaws.{resumed_after, effect-resume}

-- what an operation does, with its state changed
abbrev in_state : {S : Type 0} → (S → S) → Does S → Does S
in_state f d = record { ending = d.ending; answer = d.answer; state = f d.state; touches = d.touches }

-- a lock at a time: whatever accesses its state has, an operation leaves them
module _ (t : ThreadId) (o : ObjectId) (by : Clock) where
  mutex_noted : (c : MutexCall) (x : Access) (s : MutexState) → mutex.doing c t o by (mutex.set_last_access x s) ≡ in_state (mutex.set_last_access x) (mutex.doing c t o by s)
  unfolding mutex.doing
  mutex_noted mutex-call.AcquireLock x s = split (mutex.is_locked s.lock) (λ h. rw (mutex.doing, mutex.acquiring, h)) (λ h. rw (mutex.doing, mutex.acquiring, h))
  mutex_noted mutex-call.TryAcquireLock x s = split (mutex.is_locked s.lock) (λ h. rw (mutex.doing, mutex.acquiring, h)) (λ h. rw (mutex.doing, mutex.acquiring, h))
  mutex_noted mutex-call.ReleaseLock x s = refl

  rwlock_noted : (c : RwLockCall) (x : Access) (s : RwLockState) (l : Option Locked) → s.lock ≡ l → rwlock.doing c t o by (rwlock.set_last_access x s) ≡ in_state (rwlock.set_last_access x) (rwlock.doing c t o by s)
  unfolding rwlock.doing
  rwlock_noted rwlock-call.AcquireReadLock x s None h = rw (rwlock.doing, h)
  rwlock_noted rwlock-call.AcquireReadLock x s (Some (Read mask)) h = rw (rwlock.doing, h)
  rwlock_noted rwlock-call.AcquireReadLock x s (Some (Write u)) h = rw (rwlock.doing, h)
  rwlock_noted rwlock-call.AcquireWriteLock x s None h = rw (rwlock.doing, h)
  rwlock_noted rwlock-call.AcquireWriteLock x s (Some (Read mask)) h = rw (rwlock.doing, h)
  rwlock_noted rwlock-call.AcquireWriteLock x s (Some (Write u)) h = rw (rwlock.doing, h)
  rwlock_noted rwlock-call.TryAcquireReadLock x s None h = rw (rwlock.doing, h)
  rwlock_noted rwlock-call.TryAcquireReadLock x s (Some (Read mask)) h = rw (rwlock.doing, h)
  rwlock_noted rwlock-call.TryAcquireReadLock x s (Some (Write u)) h = rw (rwlock.doing, h)
  rwlock_noted rwlock-call.TryAcquireWriteLock x s None h = rw (rwlock.doing, h)
  rwlock_noted rwlock-call.TryAcquireWriteLock x s (Some (Read mask)) h = rw (rwlock.doing, h)
  rwlock_noted rwlock-call.TryAcquireWriteLock x s (Some (Write u)) h = rw (rwlock.doing, h)
  rwlock_noted rwlock-call.ReleaseReadLock x s None h = rw (rwlock.doing, h)
  rwlock_noted rwlock-call.ReleaseReadLock x s (Some (Read mask)) h = split (eqb (rwlock.without_reader mask t) 0) (λ z. rw (rwlock.doing, h, rwlock.leaving, z)) (λ z. rw (rwlock.doing, h, rwlock.leaving, z))
  rwlock_noted rwlock-call.ReleaseReadLock x s (Some (Write u)) h = rw (rwlock.doing, h)
  rwlock_noted rwlock-call.ReleaseWriteLock x s l h = refl

  condvar_noted : (c : CondvarCall) (x : Access) (s : CondvarState) → condvar.doing c t (condvar.set_last_access x s) ≡ in_state (condvar.set_last_access x) (condvar.doing c t s)
  unfolding condvar.doing
  condvar_noted (condvar-call.Wait m) x s = split (ltb s.count max_waiters) (λ h. rw (condvar.doing, h)) (λ h. rw (condvar.doing, h))
  condvar_noted condvar-call.NotifyOne x s = split (eqb s.count 0) (λ h. rw (condvar.doing, h)) (λ h. rw (condvar.doing, h))
  condvar_noted condvar-call.NotifyAll x s = refl

  notify_noted : (c : NotifyCall) (x : Access) (s : NotifyState) → notify.doing c o by (notify.set_last_access x s) ≡ in_state (notify.set_last_access x) (notify.doing c o by s)
  unfolding notify.doing
  notify_noted notify-call.Notify x s = refl
  notify_noted notify-call.Wait x s = split s.notified (λ h. rw (notify.doing, h)) (λ h. rw (notify.doing, h))

  abbrev send_noted : Access → Access → ChannelState → ChannelState
  send_noted a b s = mpsc.with_accesses s a b

  channel_noted : (c : ChannelCall) (a b : Access) (s : ChannelState) → mpsc.doing c o by (send_noted a b s) ≡ in_state (send_noted a b) (mpsc.doing c o by s)
  unfolding mpsc.doing
  channel_noted mpsc-call.Send a b s = split (ltb s.msg_cnt max_messages) (λ h. rw (mpsc.doing, h)) (λ h. rw (mpsc.doing, h))
  channel_noted mpsc-call.Recv a b s = split (mpsc.is_empty s) (λ h. rw (mpsc.doing, h)) (λ h. rw (mpsc.doing, h))

  abbrev arc_noted : Access → Access → Access → Option RefModify → ArcState → ArcState
  arc_noted i d n m s = arc.with_accesses s i d n m

  arc_noted_lem : (c : ArcCall) (i d n : Access) (m : Option RefModify) (s : ArcState) → arc.doing c by (arc_noted i d n m s) ≡ in_state (arc_noted i d n m) (arc.doing c by s)
  unfolding arc.doing
  arc_noted_lem arc-call.RefInc i d n m s = refl
  arc_noted_lem arc-call.RefDec i d n m s = split (eqb s.ref_cnt 0) (λ h. rw (arc.doing, h)) (λ h. rw (arc.doing, h))
  arc_noted_lem arc-call.GetMut i d n m s = split (eqb s.ref_cnt 0) (λ h. rw (arc.doing, h)) (λ h. rw (arc.doing, h))
  arc_noted_lem arc-call.StrongCount i d n m s = split (eqb s.ref_cnt 0) (λ h. rw (arc.doing, h)) (λ h. rw (arc.doing, h))

  -- the accesses of a state, kept by an operation; so one of them may be set before or after it
  channel_kept : (c : ChannelCall) (s : ChannelState) → (mpsc.doing c o by s).state ≡ send_noted s.last_send_access s.last_recv_access (mpsc.doing c o by s).state
  channel_kept c s = ap (λ (d : Does ChannelState). d.state) (channel_noted c s.last_send_access s.last_recv_access s)

  channel_set : (a : ChannelAction) (c : ChannelCall) (x : Access) (s : ChannelState) → mpsc.doing c o by (mpsc.set_last_access a x s) ≡ in_state (mpsc.set_last_access a x) (mpsc.doing c o by s)
  channel_set mpsc-action.MsgSend c x s = channel_noted c x s.last_recv_access s ∙ sym (ap (λ (u : ChannelState). in_state (λ v. mpsc.set_last_access mpsc-action.MsgSend x u) (mpsc.doing c o by s)) (channel_kept c s))
  channel_set mpsc-action.MsgRecv c x s = channel_noted c s.last_send_access x s ∙ sym (ap (λ (u : ChannelState). in_state (λ v. mpsc.set_last_access mpsc-action.MsgRecv x u) (mpsc.doing c o by s)) (channel_kept c s))

  channel_depends : (a : ChannelAction) (c : ChannelCall) (s : ChannelState) → mpsc.last_dependent_access a (mpsc.doing c o by s).state ≡ mpsc.last_dependent_access a s
  channel_depends mpsc-action.MsgSend c s = ap (mpsc.last_dependent_access mpsc-action.MsgSend) (channel_kept c s)
  channel_depends mpsc-action.MsgRecv c s = ap (mpsc.last_dependent_access mpsc-action.MsgRecv) (channel_kept c s)

  abbrev arc_as : ArcState → ArcState → ArcState
  arc_as s u = arc_noted s.last_ref_inc s.last_ref_dec s.last_ref_inspect s.last_ref_modification u

  arc_kept : (c : ArcCall) (s : ArcState) → (arc.doing c by s).state ≡ arc_as s (arc.doing c by s).state
  arc_kept c s = ap (λ (d : Does ArcState). d.state) (arc_noted_lem c s.last_ref_inc s.last_ref_dec s.last_ref_inspect s.last_ref_modification s)

  abbrev arc_set : ArcAction → ArcCall → Access → ArcState → ArcState → Does ArcState
  arc_set a c x s u = in_state (λ v. arc.set_last_access a x u) (arc.doing c by s)

  arc_set_lem : (a : ArcAction) (c : ArcCall) (x : Access) (s : ArcState) → arc.doing c by (arc.set_last_access a x s) ≡ in_state (arc.set_last_access a x) (arc.doing c by s)
  arc_set_lem arc-action.RefInc c x s = arc_noted_lem c x s.last_ref_dec s.last_ref_inspect (Some modify.RefInc) s ∙ sym (ap (arc_set arc-action.RefInc c x s) (arc_kept c s))
  arc_set_lem arc-action.RefDec c x s = arc_noted_lem c s.last_ref_inc x s.last_ref_inspect (Some modify.RefDec) s ∙ sym (ap (arc_set arc-action.RefDec c x s) (arc_kept c s))
  arc_set_lem arc-action.Inspect c x s = arc_noted_lem c s.last_ref_inc s.last_ref_dec x s.last_ref_modification s ∙ sym (ap (arc_set arc-action.Inspect c x s) (arc_kept c s))

  modified : (m : Option RefModify) (s u : ArcState) → arc.last_modification m (arc_as s u) ≡ arc.last_modification m s
  modified None s u = refl
  modified (Some modify.RefInc) s u = refl
  modified (Some modify.RefDec) s u = refl

  arc_depends : (a : ArcAction) (c : ArcCall) (s : ArcState) → arc.last_dependent_access a (arc.doing c by s).state ≡ arc.last_dependent_access a s
  arc_depends arc-action.RefInc c s = ap (arc.last_dependent_access arc-action.RefInc) (arc_kept c s)
  arc_depends arc-action.RefDec c s = ap (arc.last_dependent_access arc-action.RefDec) (arc_kept c s)
  arc_depends arc-action.Inspect c s = ap (arc.last_dependent_access arc-action.Inspect) (arc_kept c s) ∙ modified s.last_ref_modification s (arc.doing c by s).state

  -- an object, a line for each kind
  doing_note : (call : Call) (x : Access) (e : Entry) → doing call t o by (set_last_access call x e) ≡ in_state (set_last_access call x) (doing call t o by e)
  unfolding doing set_last_access
  doing_note (Mutex c) x e = ap (within (put_mutex e)) (mutex_noted c x e.mutex)
  doing_note (RwLock c) x e = ap (within (put_rw_lock e)) (rwlock_noted c x e.rwlock e.rwlock.lock refl)
  doing_note (Condvar c) x e = ap (within (put_condvar e)) (condvar_noted c x e.condvar)
  doing_note (Notify c) x e = ap (within (put_notify e)) (notify_noted c x e.notify)
  doing_note (Channel c) x e = ap (within (put_channel e)) (channel_set (mpsc.action_of c) c x e.channel)
  doing_note (Arc c) x e = ap (within (put_arc e)) (arc_set_lem (arc.action_of c) c x e.arc)
  doing_note (Cell c) x e = refl

  doing_depends : (call : Call) (e : Entry) → last_dependent_access call (doing call t o by e).state ≡ last_dependent_access call e
  unfolding doing last_dependent_access
  doing_depends (Mutex c) e = ap (λ (d : Does MutexState). d.state.last_access) (mutex_noted c e.mutex.last_access e.mutex)
  doing_depends (RwLock c) e = ap (λ (d : Does RwLockState). d.state.last_access) (rwlock_noted c e.rwlock.last_access e.rwlock e.rwlock.lock refl)
  doing_depends (Condvar c) e = ap (λ (d : Does CondvarState). d.state.last_access) (condvar_noted c e.condvar.last_access e.condvar)
  doing_depends (Notify c) e = ap (λ (d : Does NotifyState). d.state.last_access) (notify_noted c e.notify.last_access e.notify)
  doing_depends (Channel c) e = channel_depends (mpsc.action_of c) c e.channel
  doing_depends (Arc c) e = arc_depends (arc.action_of c) c e.arc
  doing_depends (Cell c) e = refl

-- the effect first
abbrev in_entry : (Entry → Entry) → Effect → Effect
in_entry f r = record { ending = r.ending; answer = r.answer; entry = f r.entry; threads = r.threads }

effect_note : (call : Call) (t : ThreadId) (o : ObjectId) (e : Entry) (x : Access) (ts : List Thread) → effect call t o (set_last_access call x e) ts ≡ in_entry (set_last_access call x) (effect call t o e ts)
unfolding effect
effect_note call t o e x ts = ap (λ (d : Does Entry). left t d ts) (doing_note t o (thread_at ts t).clock call x e)

pub effect_depends : (call : Call) (t : ThreadId) (o : ObjectId) (e : Entry) (ts : List Thread) → last_dependent_access call (effect call t o e ts).entry ≡ last_dependent_access call e
unfolding effect
effect_depends call t o e ts = doing_depends t o (thread_at ts t).clock call e

-- an announced operation whose access is recorded, and whose thread is no longer announced, after its effect
abbrev pub recorded : ThreadId → Call → ℕ → Clock → Effect → Effect
recorded t c n v r = resumed_after t v (in_entry (set_last_access c (record { path_id = n; version = v })) r)

pub operate-after : (t : ThreadId) (op : Op) (n : ℕ) (e : Entry) (ts : List Thread)
    → operate t op n e ts ≡ recorded t op.call n (dependence t op.call (effect op.call t op.object e ts).entry (thread_at ts t)) (effect op.call t op.object e ts)
unfolding operate dependence
operate-after t op n e ts =
    let c : Call = op.call in
    let v : Clock = dependence t c e (thread_at ts t) in
    let x : Access = record { path_id = n; version = v } in
    effect-resume c t op.object (set_last_access c x e) v ts
    ∙ ap (resumed_after t v) (effect_note c t op.object e x ts)
    ∙ ap (λ (l : Access). recorded t c n (inc_of (join_of (thread_at ts t).dependence l.version) t) (effect c t op.object e ts)) (sym (effect_depends c t op.object e ts))
