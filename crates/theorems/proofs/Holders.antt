-- Who holds a mutex and who writes is one of the table's threads; a mask of readers is never 0, and has no bit of another thread. The words are in specs/Holders.antt.
use Rattle.std.proofs.Common.{subst, arith}
use Rattle.std.specs.Prelude.{List, ℕ, ◌^◌, ◌≤◌, ◌<◌, eqb}
use borrow.Author.Tests.{eqb-false}
use Rattle.clocks.specs.Clock.{max_threads}
use Rattle.clocks.specs.declared.clock.Clock.{Clock}
use Rattle.clocks.specs.declared.thread.ThreadId.{ThreadId}
use Rattle.rules.specs.declared.access.Access.{Access}
use Rattle.rules.specs.declared.object.ObjectId.{ObjectId}
use Rattle.rules.specs.declared.object.Entry.{Entry}
use Rattle.rules.specs.declared.mutex.Call.{Call as MutexCall}
use Rattle.rules.specs.declared.mutex.Call.TheVariants as mutex-call
use Rattle.rules.specs.declared.mutex.State.{State as MutexState}
use Rattle.rules.specs.declared.rwlock.Call.{Call as RwLockCall}
use Rattle.rules.specs.declared.rwlock.Call.TheVariants as rwlock-call
use Rattle.rules.specs.declared.rwlock.State.{State as RwLockState}
use Rattle.rules.specs.declared.table.Call.{Call}
use Rattle.rules.specs.declared.table.Call.TheVariants.{Mutex, RwLock, Condvar, Notify, Channel, Arc, Cell}
use Rattle.rules.specs.declared.table.Made.{Made}
use Rattle.rules.specs.Ground.{Does}
use Rattle.rules.specs.Object.{new_entry}
use Rattle.rules.specs.Mutex as mutex
use Rattle.rules.specs.RwLock as rwlock
use Rattle.rules.proofs.RwLockLaws.{entered_self, entered_mask, left_mask, reader_some, pow_most}
use Rattle.rules.proofs.TableLaws.{by_test}
use Rattle.rules.specs.Effect.{set_last_access, doing}
use Rattle.theorems.proofs.Kept.{by-locked}
use Rattle.theorems.specs.Objects.{Lasting}
use Rattle.theorems.specs.Holders.{Holding, Reading, Holders}

module _ (n : ℕ) (few : n ≤ max_threads) (a : ThreadId) (member : a.0 < n) where
  -- a reader enters
  entered : (mask : ℕ) → mask < 2 ^ n → (0 < rwlock.with_reader mask a) × (rwlock.with_reader mask a < 2 ^ n)
  entered mask l = (reader_some (rwlock.with_reader mask a) a (entered_self mask a (omega (arith, few, member))), entered_mask n mask a member l)

  first_entered : (0 < rwlock.with_reader 0 a) × (rwlock.with_reader 0 a < 2 ^ n)
  first_entered = entered 0 (omega (arith, pow_most 0 n (omega arith)))

  mutex_held : (c : MutexCall) (o : ObjectId) (by : Clock) (s : MutexState) → Holding n s.lock → Holding n (mutex.doing c a o by s).state.lock
  unfolding mutex.doing
  mutex_held mutex-call.AcquireLock o by s h = by_test (λ (d : Does MutexState). Holding n d.state.lock) (mutex.is_locked s.lock) (λ z. h) (λ z. member)
  mutex_held mutex-call.TryAcquireLock o by s h = by_test (λ (d : Does MutexState). Holding n d.state.lock) (mutex.is_locked s.lock) (λ z. h) (λ z. member)
  mutex_held mutex-call.ReleaseLock o by s h = tt

  abbrev Keeps : Does RwLockState → Type 0
  Keeps d = Reading n d.state.lock

  rwlock_held : (c : RwLockCall) (o : ObjectId) (by : Clock) (s : RwLockState) → Reading n s.lock → Keeps (rwlock.doing c a o by s)
  unfolding rwlock.doing
  rwlock_held rwlock-call.AcquireReadLock o by s h = by-locked Keeps s.lock (λ e. first_entered) (λ m e. entered m (subst (Reading n) e h).1) (λ t e. h)
  rwlock_held rwlock-call.AcquireWriteLock o by s h = by-locked Keeps s.lock (λ e. member) (λ m e. h) (λ t e. h)
  rwlock_held rwlock-call.TryAcquireReadLock o by s h = by-locked Keeps s.lock (λ e. first_entered) (λ m e. entered m (subst (Reading n) e h).1) (λ t e. h)
  rwlock_held rwlock-call.TryAcquireWriteLock o by s h = by-locked Keeps s.lock (λ e. member) (λ m e. h) (λ t e. h)
  rwlock_held rwlock-call.ReleaseReadLock o by s h =
      by-locked Keeps s.lock (λ e. h)
      (λ m e.
      by_test Keeps (eqb (rwlock.without_reader m a) 0) (λ z. tt)
      (λ z. (omega (arith, eqb-false (rwlock.without_reader m a) 0 z), left_mask n m a (subst (Reading n) e h).1))) (λ t e. h)
  rwlock_held rwlock-call.ReleaseWriteLock o by s h = tt

  doing_held : (c : Call) (o : ObjectId) (by : Clock) (e : Entry) → Holders n e → Holders n (doing c a o by e).state
  unfolding doing
  doing_held (Mutex c) o by e h = (mutex_held c o by e.mutex h.0, h.1)
  doing_held (RwLock c) o by e h = (h.0, rwlock_held c o by e.rwlock h.1)
  doing_held (Condvar c) o by e h = h
  doing_held (Notify c) o by e h = h
  doing_held (Channel c) o by e h = h
  doing_held (Arc c) o by e h = h
  doing_held (Cell c) o by e h = h

-- a recorded access
records_held : (n : ℕ) (c : Call) (x : Access) (e : Entry) → Holders n e → Holders n (set_last_access c x e)
unfolding set_last_access
records_held n (Mutex c) x e h = h
records_held n (RwLock c) x e h = h
records_held n (Condvar c) x e h = h
records_held n (Notify c) x e h = h
records_held n (Channel c) x e h = h
records_held n (Arc c) x e h = h
records_held n (Cell c) x e h = h

-- so they last
pub holders_last : (n : ℕ) → n ≤ max_threads → (ms : List Made) → Lasting n ms (λ k. Holders n)
unfolding new_entry
holders_last n few ms =
    record {
      made = λ k. (tt, tt);
      records = λ k c x e h. records_held n c x e h;
      effects = λ k c a o by e l h. doing_held n few a l c o by e h;
      spurs = λ k e h. h;
    }
