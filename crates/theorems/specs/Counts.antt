-- The law of counting, three times: a channel's messages, an Arc's count, a cell's readers. The laws are in proofs/Counts.antt.
use Rattle.std.specs.Prelude.{ℕ}
use Rattle.rules.specs.declared.object.Entry.{Entry}
use Rattle.rules.specs.declared.arc.Call.{Call as ArcCall}
use Rattle.rules.specs.declared.arc.Call.TheVariants as arc-call
use Rattle.rules.specs.declared.cell.Call.{Call as CellCall}
use Rattle.rules.specs.declared.cell.Call.TheVariants as cell-call
use Rattle.rules.specs.declared.mpsc.Call.{Call as ChannelCall}
use Rattle.rules.specs.declared.mpsc.Call.TheVariants as mpsc-call
use Rattle.rules.specs.declared.table.Call.{Call}
use Rattle.rules.specs.declared.table.Call.TheVariants.{Mutex, RwLock, Condvar, Notify, Channel, Arc, Cell}

-- the operations of an Arc, a channel and a cell that count, up and down
abbrev pub arc_up : ArcCall → ℕ
arc_up arc-call.RefInc = 1
arc_up arc-call.RefDec = 0
arc_up arc-call.GetMut = 0
arc_up arc-call.StrongCount = 0

abbrev pub arc_down : ArcCall → ℕ
arc_down arc-call.RefInc = 0
arc_down arc-call.RefDec = 1
arc_down arc-call.GetMut = 0
arc_down arc-call.StrongCount = 0

abbrev pub channel_up : ChannelCall → ℕ
channel_up mpsc-call.Send = 1
channel_up mpsc-call.Recv = 0

abbrev pub channel_down : ChannelCall → ℕ
channel_down mpsc-call.Send = 0
channel_down mpsc-call.Recv = 1

abbrev pub cell_up : CellCall → ℕ
cell_up cell-call.StartRead = 1
cell_up cell-call.EndRead = 0
cell_up cell-call.StartWrite = 0
cell_up cell-call.EndWrite = 0

abbrev pub cell_down : CellCall → ℕ
cell_down cell-call.StartRead = 0
cell_down cell-call.EndRead = 1
cell_down cell-call.StartWrite = 0
cell_down cell-call.EndWrite = 0

-- none does
abbrev pub none : {A : Type 0} → A → ℕ
none c = 0

-- of any call: those of an Arc, a channel and a cell may count
abbrev pub by_kind : (ArcCall → ℕ) → (ChannelCall → ℕ) → (CellCall → ℕ) → Call → ℕ
by_kind f g h (Mutex c) = 0
by_kind f g h (RwLock c) = 0
by_kind f g h (Condvar c) = 0
by_kind f g h (Notify c) = 0
by_kind f g h (Channel c) = g c
by_kind f g h (Arc c) = f c
by_kind f g h (Cell c) = h c

-- "ref_inc", "ref_dec", "send", "recv", "start_read", "end of read"
abbrev pub incs : Call → ℕ
incs = by_kind arc_up none none

abbrev pub decs : Call → ℕ
decs = by_kind arc_down none none

abbrev pub sends : Call → ℕ
sends = by_kind none channel_up none

abbrev pub receives : Call → ℕ
receives = by_kind none channel_down none

abbrev pub read_starts : Call → ℕ
read_starts = by_kind none none cell_up

abbrev pub read_ends : Call → ℕ
read_ends = by_kind none none cell_down

-- the counts
abbrev pub arc_count : Entry → ℕ
arc_count e = e.arc.ref_cnt

abbrev pub messages : Entry → ℕ
messages e = e.channel.msg_cnt

abbrev pub readers : Entry → ℕ
readers e = e.cell.is_reading
