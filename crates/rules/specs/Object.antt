-- Document 01, step 1, `object.rs`: the store of objects, announcing, leaks.
use Rattle.std.specs.Prelude.{Bool, true, false, List, get_or, set}
use Rattle.rules.specs.declared.object.ObjectId.{ObjectId}
use Rattle.rules.specs.declared.object.Kind.{Kind}
use Rattle.rules.specs.declared.object.Kind.TheVariants as kind
use Rattle.rules.specs.declared.object.Entry.{Entry}
use Rattle.rules.specs.declared.mutex.State.{State as MutexState}
use Rattle.rules.specs.declared.rwlock.State.{State as RwLockState}
use Rattle.rules.specs.declared.condvar.State.{State as CondvarState}
use Rattle.rules.specs.declared.notify.State.{State as NotifyState}
use Rattle.rules.specs.declared.mpsc.State.{State as ChannelState}
use Rattle.rules.specs.declared.arc.State.{State as ArcState}
use Rattle.rules.specs.declared.cell.State.{State as CellState}
use Rattle.rules.specs.declared.thread.Phase.{Phase}
use Rattle.rules.specs.declared.thread.Thread.{Thread}
use Rattle.rules.specs.declared.table.Made.{Made}
use Rattle.rules.specs.Ground.{with_phase, set_blocked}
use Rattle.rules.specs.Mutex as mutex
use Rattle.rules.specs.RwLock as rwlock
use Rattle.rules.specs.Mpsc as mpsc
use Rattle.rules.specs.Arc as arc
use Rattle.rules.specs.Notify as notify
use Rattle.rules.specs.Condvar as condvar
use Rattle.rules.specs.Cell as cell

-- an entry with the state of one kind changed
abbrev pub put_mutex : Entry → MutexState → Entry
put_mutex e s = record { kind = e.kind; mutex = s; rwlock = e.rwlock; condvar = e.condvar; notify = e.notify; channel = e.channel; arc = e.arc; cell = e.cell }

abbrev pub put_rw_lock : Entry → RwLockState → Entry
put_rw_lock e s = record { kind = e.kind; mutex = e.mutex; rwlock = s; condvar = e.condvar; notify = e.notify; channel = e.channel; arc = e.arc; cell = e.cell }

abbrev pub put_condvar : Entry → CondvarState → Entry
put_condvar e s = record { kind = e.kind; mutex = e.mutex; rwlock = e.rwlock; condvar = s; notify = e.notify; channel = e.channel; arc = e.arc; cell = e.cell }

abbrev pub put_notify : Entry → NotifyState → Entry
put_notify e s = record { kind = e.kind; mutex = e.mutex; rwlock = e.rwlock; condvar = e.condvar; notify = s; channel = e.channel; arc = e.arc; cell = e.cell }

abbrev pub put_channel : Entry → ChannelState → Entry
put_channel e s = record { kind = e.kind; mutex = e.mutex; rwlock = e.rwlock; condvar = e.condvar; notify = e.notify; channel = s; arc = e.arc; cell = e.cell }

abbrev pub put_arc : Entry → ArcState → Entry
put_arc e s = record { kind = e.kind; mutex = e.mutex; rwlock = e.rwlock; condvar = e.condvar; notify = e.notify; channel = e.channel; arc = s; cell = e.cell }

abbrev pub put_cell : Entry → CellState → Entry
put_cell e s = record { kind = e.kind; mutex = e.mutex; rwlock = e.rwlock; condvar = e.condvar; notify = e.notify; channel = e.channel; arc = e.arc; cell = s }

-- an object as the table makes it
unfoldable pub new_entry : Made → Entry
new_entry m = record {
  kind = m.kind;
  mutex = mutex.new;
  rwlock = rwlock.new;
  condvar = condvar.new;
  notify = notify.new m.spurious;
  channel = mpsc.new;
  arc = arc.new;
  cell = cell.new;
}

-- an object by its number, and the store with one changed; a number that no object has reads an object of no kind and changes nothing
abbrev pub no_object : Made
no_object = record { kind = kind.Nothing; spurious = false }

abbrev pub entry_at : List Entry → ObjectId → Entry
entry_at es o = get_or es o.0 (new_entry no_object)

abbrev pub put_entry : List Entry → ObjectId → Entry → List Entry
put_entry es o e = set es o.0 e

-- announcing: the operation stands in the thread's phase; where it cannot go on the thread is blocked, and otherwise its state is left as it is
unfoldable pub announced : Phase → Bool → Thread → Thread
announced p disable t = elim disable [ true ↦ set_blocked (with_phase t p) | false ↦ with_phase t p ]

-- "leak check in object order (Arc count or message count not 0)"
abbrev pub leaks : Kind → Entry → Bool
leaks kind.Mutex e = false
leaks kind.RwLock e = false
leaks kind.Condvar e = false
leaks kind.Notify e = false
leaks kind.Channel e = mpsc.leaks e.channel
leaks kind.Arc e = arc.leaks e.arc
leaks kind.Cell e = false
leaks kind.Nothing e = false
