-- Document 01, "The sheet": "Threads, then objects", a definition for each record.
use Rattle.std.specs.Prelude.{List, [], ◌∷◌, ◌++◌, map, ℕ, zero, suc, ◌+◌, ◌*◌, ◌%◌, get_or, take, drop, None, Option, Some}
use Rattle.clocks.specs.Clock.{max_threads, zero_clock}
use Rattle.clocks.specs.declared.clock.Clock.{Clock}
use Rattle.clocks.specs.declared.thread.ThreadId.{ThreadId}
use Rattle.rules.specs.Limits.{max_messages, max_waiters, thread_record, channel_record}
use Rattle.rules.specs.declared.object.Kind.{Kind}
use Rattle.rules.specs.declared.object.Kind.TheVariants as kind
use Rattle.rules.specs.declared.object.Entry.{Entry}
use Rattle.rules.specs.declared.mutex.State.{State as MutexState}
use Rattle.rules.specs.declared.rwlock.Locked.{Locked}
use Rattle.rules.specs.declared.rwlock.Locked.TheVariants as locked
use Rattle.rules.specs.declared.rwlock.State.{State as RwLockState}
use Rattle.rules.specs.declared.condvar.State.{State as CondvarState}
use Rattle.rules.specs.declared.notify.State.{State as NotifyState}
use Rattle.rules.specs.declared.mpsc.State.{State as ChannelState}
use Rattle.rules.specs.declared.arc.State.{State as ArcState}
use Rattle.rules.specs.declared.cell.State.{State as CellState}
use Rattle.rules.specs.declared.thread.State.{State}
use Rattle.rules.specs.declared.thread.State.TheVariants.{Runnable, Unparked, Blocked, Ended}
use Rattle.rules.specs.declared.thread.Phase.{Phase}
use Rattle.rules.specs.declared.thread.Phase.TheVariants.{Nothing, Announced, Parked, Retaking}
use Rattle.rules.specs.declared.thread.Thread.{Thread}
use Rattle.rules.specs.declared.table.Made.{Made}
use Rattle.rules.specs.declared.table.Table.{Table}
use Rattle.rules.specs.declared.world.World.{World}
use Rattle.rules.specs.Ground.{flag, absent}
use Rattle.rules.specs.Object.{new_entry}

-- the first n of a list, filled up to n
abbrev pub filled : {A : Type 0} → A → ℕ → List A → List A
filled x zero xs = []
filled x (suc n) xs = get_or xs 0 x ∷ filled x n (drop 1 xs)

-- the bytes of each of a list
abbrev pub each : {A : Type 0} → (A → List ℕ) → List A → List ℕ
each f [] = []
each f (x ∷ xs) = f x ++ each f xs

-- a count as a byte: no run takes one past 193
abbrev pub byte : ℕ → ℕ
byte n = n % 256

-- "clock 6"
abbrev pub clock_bytes : Clock → List ℕ
clock_bytes c = filled 0 max_threads c.counts

-- "state (0 to 3 as listed above)"
unfoldable pub state_byte : State → ℕ
state_byte Runnable = 0
state_byte Unparked = 1
state_byte Blocked = 2
state_byte Ended = 3

-- "phase (0 nothing, 1 announced, 2 parked, 3 retaking)"
unfoldable pub phase_byte : Phase → ℕ
phase_byte Nothing = 0
phase_byte (Announced p) = 1
phase_byte Parked = 2
phase_byte (Retaking p) = 3

-- "80: state, position (operations done), phase, last answer, clock 6, dependence clock 6"
unfoldable pub thread_bytes : Thread → List ℕ
thread_bytes t = 0x80 ∷ state_byte t.state ∷ t.position ∷ phase_byte t.phase ∷ byte t.last_answer ∷ clock_bytes t.clock ++ clock_bytes t.dependence

-- "90 Mutex: holder or FF, clock"
unfoldable pub holder_byte : Option ThreadId → ℕ
holder_byte None = 255
holder_byte (Some t) = t.0

unfoldable pub mutex_bytes : MutexState → List ℕ
mutex_bytes s = 0x90 ∷ holder_byte s.lock ∷ clock_bytes s.synchronize

-- "91 RwLock: 0 free, 1 read, 2 write; reader mask, writer, or 0 when free; clock"
unfoldable pub form_byte : Option Locked → ℕ
form_byte None = 0
form_byte (Some (locked.Read mask)) = 1
form_byte (Some (locked.Write t)) = 2

unfoldable pub who_byte : Option Locked → ℕ
who_byte None = 0
who_byte (Some (locked.Read mask)) = byte mask
who_byte (Some (locked.Write t)) = t.0

unfoldable pub rwlock_bytes : RwLockState → List ℕ
rwlock_bytes s = 0x91 ∷ form_byte s.lock ∷ who_byte s.lock ∷ clock_bytes s.synchronize

-- "92: count, 8 waiters oldest first, FF filled"
abbrev pub number : ThreadId → ℕ
number t = t.0

unfoldable pub condvar_bytes : CondvarState → List ℕ
condvar_bytes s = 0x92 ∷ s.count ∷ filled 255 max_waiters (map number s.waiters)

-- "93: notified, did_spur, clock"
unfoldable pub notify_bytes : NotifyState → List ℕ
notify_bytes s = 0x93 ∷ flag s.notified ∷ flag s.did_spur ∷ clock_bytes s.synchronize

-- "94: count, sender clock, 16 message clocks oldest first, zero filled"
unfoldable pub channel_bytes : ChannelState → List ℕ
channel_bytes s = 0x94 ∷ s.msg_cnt ∷ clock_bytes s.sender_synchronize ++ each clock_bytes (filled zero_clock max_messages s.receiver_synchronize)

-- "95: count, clock"
unfoldable pub arc_bytes : ArcState → List ℕ
arc_bytes s = 0x95 ∷ byte s.ref_cnt ∷ clock_bytes s.synchronize

-- "96: reading, writing, read clock, write clock"
unfoldable pub cell_bytes : CellState → List ℕ
cell_bytes s = 0x96 ∷ byte s.is_reading ∷ flag s.is_writing ∷ clock_bytes s.read_access ++ clock_bytes s.write_access

-- an object's record, by the kind that the table gives it
unfoldable pub object_bytes : Kind → Entry → List ℕ
object_bytes kind.Mutex e = mutex_bytes e.mutex
object_bytes kind.RwLock e = rwlock_bytes e.rwlock
object_bytes kind.Condvar e = condvar_bytes e.condvar
object_bytes kind.Notify e = notify_bytes e.notify
object_bytes kind.Channel e = channel_bytes e.channel
object_bytes kind.Arc e = arc_bytes e.arc
object_bytes kind.Cell e = cell_bytes e.cell
object_bytes kind.Nothing e = []

-- the records of the objects, each with its entry
unfoldable pub objects_bytes : List Made → List Entry → List ℕ
objects_bytes [] es = []
objects_bytes (m ∷ ms) es = object_bytes m.kind (get_or es 0 (new_entry m)) ++ objects_bytes ms (drop 1 es)

-- "Threads, then objects."
unfoldable pub sheet_of : Table → World → List ℕ
sheet_of table w = each thread_bytes (filled absent table.thread_count w.threads) ++ objects_bytes (take table.object_count table.objects) w.objects

-- the length of a record, and of the sheet, as the table says
unfoldable pub record_length : Kind → ℕ
record_length kind.Mutex = 2 + max_threads
record_length kind.RwLock = 3 + max_threads
record_length kind.Condvar = 2 + max_waiters
record_length kind.Notify = 3 + max_threads
record_length kind.Channel = channel_record
record_length kind.Arc = 2 + max_threads
record_length kind.Cell = 3 + 2 * max_threads
record_length kind.Nothing = 0

unfoldable pub objects_length : List Made → ℕ
objects_length [] = 0
objects_length (m ∷ ms) = record_length m.kind + objects_length ms

unfoldable pub sheet_length : Table → ℕ
sheet_length table = thread_record * table.thread_count + objects_length (take table.object_count table.objects)
