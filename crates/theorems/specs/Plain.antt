-- Every byte of a sheet is the number that document 01 names, and not a remainder: the sheet with each count as it is. The laws are in proofs/Plain.antt.
use Rattle.std.specs.Prelude.{List, [], ◌∷◌, ◌++◌, ℕ, get_or, take, drop, None, Option, Some}
use Rattle.rules.specs.declared.object.Kind.{Kind}
use Rattle.rules.specs.declared.object.Kind.TheVariants as kind
use Rattle.rules.specs.declared.object.Entry.{Entry}
use Rattle.rules.specs.declared.rwlock.Locked.{Locked}
use Rattle.rules.specs.declared.rwlock.Locked.TheVariants as locked
use Rattle.rules.specs.declared.thread.Thread.{Thread}
use Rattle.rules.specs.declared.table.Made.{Made}
use Rattle.rules.specs.declared.table.Table.{Table}
use Rattle.rules.specs.declared.world.World.{World}
use Rattle.rules.specs.Ground.{flag, absent}
use Rattle.rules.specs.Object.{new_entry}
use Rattle.rules.specs.Sheet.{filled, each, clock_bytes, state_byte, phase_byte, mutex_bytes, form_byte, condvar_bytes, notify_bytes, channel_bytes}

-- "80: state, position (operations done), phase, last answer, clock 6, dependence clock 6"
unfoldable pub plain_thread : Thread → List ℕ
plain_thread t = 0x80 ∷ state_byte t.state ∷ t.position ∷ phase_byte t.phase ∷ t.last_answer ∷ clock_bytes t.clock ++ clock_bytes t.dependence

-- "reader mask, writer, or 0 when free"
unfoldable pub plain_who : Option Locked → ℕ
plain_who None = 0
plain_who (Some (locked.Read mask)) = mask
plain_who (Some (locked.Write t)) = t.0

-- an object's record
unfoldable pub plain_object : Kind → Entry → List ℕ
plain_object kind.Mutex e = mutex_bytes e.mutex
plain_object kind.RwLock e = 0x91 ∷ form_byte e.rwlock.lock ∷ plain_who e.rwlock.lock ∷ clock_bytes e.rwlock.synchronize
plain_object kind.Condvar e = condvar_bytes e.condvar
plain_object kind.Notify e = notify_bytes e.notify
plain_object kind.Channel e = channel_bytes e.channel
plain_object kind.Arc e = 0x95 ∷ e.arc.ref_cnt ∷ clock_bytes e.arc.synchronize
plain_object kind.Cell e = 0x96 ∷ e.cell.is_reading ∷ flag e.cell.is_writing ∷ clock_bytes e.cell.read_access ++ clock_bytes e.cell.write_access
plain_object kind.Nothing e = []

unfoldable pub plain_objects : List Made → List Entry → List ℕ
plain_objects [] es = []
plain_objects (m ∷ ms) es = plain_object m.kind (get_or es 0 (new_entry m)) ++ plain_objects ms (drop 1 es)

-- "Threads, then objects."
unfoldable pub plain_sheet : Table → World → List ℕ
plain_sheet table w = each plain_thread (filled absent table.thread_count w.threads) ++ plain_objects (take table.object_count table.objects) w.objects
