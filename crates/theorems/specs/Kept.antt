-- What an effect does to clocks: every clock of the object and of the threads afterwards is a join of clocks before, or a thread's own count has
-- risen at the start of an access to a cell. And an effect keeps every thread's position and phase. The laws are in proofs/Kept.antt.
use Rattle.std.specs.Prelude.{List, ℕ}
use Rattle.clocks.specs.Clock.{max_threads, zero_clock}
use Rattle.clocks.specs.declared.clock.Clock.{Clock}
use Rattle.rules.specs.declared.object.Entry.{Entry}
use Rattle.rules.specs.declared.mutex.State.{State as MutexState}
use Rattle.rules.specs.declared.rwlock.State.{State as RwLockState}
use Rattle.rules.specs.declared.condvar.State.{State as CondvarState}
use Rattle.rules.specs.declared.notify.State.{State as NotifyState}
use Rattle.rules.specs.declared.mpsc.State.{State as ChannelState}
use Rattle.rules.specs.declared.arc.State.{State as ArcState}
use Rattle.rules.specs.declared.cell.State.{State as CellState}
use Rattle.rules.specs.declared.thread.Phase.{Phase}
use Rattle.rules.specs.declared.thread.Thread.{Thread}
use Rattle.rules.specs.declared.table.Call.{Call}
use Rattle.rules.specs.declared.table.Call.TheVariants.{Mutex, RwLock, Condvar, Notify, Channel, Arc, Cell}
use Rattle.theorems.specs.All.{All}
use Rattle.theorems.specs.Touches.{Hold}

module _ (C D : Clock → Type 0) where
  -- `C` of every clock of a state and `D` of every recorded access's, by its kind
  abbrev pub OfMutex : MutexState → Type 0
  OfMutex s = D s.last_access.version × C s.synchronize

  abbrev pub OfRwLock : RwLockState → Type 0
  OfRwLock s = D s.last_access.version × C s.synchronize

  abbrev pub OfCondvar : CondvarState → Type 0
  OfCondvar s = D s.last_access.version

  abbrev pub OfNotify : NotifyState → Type 0
  OfNotify s = D s.last_access.version × C s.synchronize

  abbrev pub OfChannel : ChannelState → Type 0
  OfChannel s = D s.last_send_access.version × D s.last_recv_access.version × C s.sender_synchronize × All (λ k. C) zero_clock s.receiver_synchronize

  abbrev pub OfArc : ArcState → Type 0
  OfArc s = C s.synchronize × D s.last_ref_inc.version × D s.last_ref_dec.version × D s.last_ref_inspect.version

  abbrev pub OfCell : CellState → Type 0
  OfCell s = C s.read_access × C s.write_access

  -- of an object
  pub record Object (e : Entry) : Type 0 where
    pub mutex : OfMutex e.mutex
    pub rwlock : OfRwLock e.rwlock
    pub condvar : OfCondvar e.condvar
    pub notify : OfNotify e.notify
    pub channel : OfChannel e.channel
    pub arc : OfArc e.arc
    pub cell : OfCell e.cell

  -- of a thread; `M` of its number, position and phase
  abbrev pub One : (ℕ → ℕ → Phase → Type 0) → ℕ → Thread → Type 0
  One M k x = C x.clock × D x.dependence × M k x.position x.phase

  -- of all threads
  abbrev pub Threads : (ℕ → ℕ → Phase → Type 0) → List Thread → Type 0
  Threads M ts = Hold max_threads (One M) ts

-- only an access to a cell may raise its thread's own count
abbrev pub Raises : Call → Type 0
Raises (Mutex c) = ⊥
Raises (RwLock c) = ⊥
Raises (Condvar c) = ⊥
Raises (Notify c) = ⊥
Raises (Channel c) = ⊥
Raises (Arc c) = ⊥
Raises (Cell c) = Unit {0}
