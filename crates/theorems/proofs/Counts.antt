-- The law of counting, three times: a channel's messages, an Arc's count, a cell's readers. The words are in specs/Counts.antt.
use Rattle.std.specs.Prelude.{◌≡◌, Bool, true, false, not, ◌||◌, List, ℕ, ◌+◌, ◌≤◌, ◌<◌, eqb, ltb, Some, Err, Ok}
use Rattle.std.proofs.Math.Path.{refl}
use Rattle.std.proofs.Common.{sym, ◌∙◌, ap, arith}
use Rattle.std.proofs.lemmas.Bool.{false≢true, eqb-false}
use Rattle.clocks.specs.declared.clock.Clock.{Clock}
use Rattle.clocks.specs.declared.thread.ThreadId.{ThreadId}
use Rattle.rules.specs.declared.access.Access.{Access}
use Rattle.rules.specs.declared.object.ObjectId.{ObjectId}
use Rattle.rules.specs.declared.object.Entry.{Entry}
use Rattle.rules.specs.Ground.{Ending}
use Rattle.rules.specs.declared.object.Failure.TheVariants as failure
use Rattle.rules.specs.declared.arc.Call.{Call as ArcCall}
use Rattle.rules.specs.declared.arc.Call.TheVariants as arc-call
use Rattle.rules.specs.declared.arc.State.{State as ArcState}
use Rattle.rules.specs.declared.cell.Call.{Call as CellCall}
use Rattle.rules.specs.declared.cell.Call.TheVariants as cell-call
use Rattle.rules.specs.declared.cell.State.{State as CellState}
use Rattle.rules.specs.declared.mpsc.Call.{Call as ChannelCall}
use Rattle.rules.specs.declared.mpsc.Call.TheVariants as mpsc-call
use Rattle.rules.specs.declared.mpsc.State.{State as ChannelState}
use Rattle.rules.specs.declared.table.Call.{Call}
use Rattle.rules.specs.declared.table.Call.TheVariants.{Mutex, RwLock, Condvar, Notify, Channel, Arc, Cell}
use Rattle.rules.specs.declared.notify.State.{State as NotifyState}
use Rattle.rules.specs.declared.table.Made.{Made}
use Rattle.rules.specs.declared.table.Table.{Table}
use Rattle.rules.specs.declared.world.World.{World}
use Rattle.rules.specs.Limits.{max_messages}
use Rattle.rules.specs.Ground.{Touch, is_fine, Does}
use Rattle.rules.specs.Object.{new_entry, put_notify}
use Rattle.rules.specs.Arc as arc
use Rattle.rules.specs.Cell as cell
use Rattle.rules.specs.Mpsc as mpsc
use Rattle.rules.specs.Table.{read_table}
use Rattle.rules.proofs.TableLaws.{by_test}
use Rattle.rules.specs.Effect.{asks, wait_of, set_last_access, doing}
use Rattle.rules.specs.Turn.{entry_in}
use Rattle.theorems.specs.Reached.{Shown, Reached}
use Rattle.theorems.specs.Each.{Each}
use Rattle.theorems.specs.Done.{done_of}
use Rattle.theorems.specs.Counting.{Counted}
use Rattle.theorems.proofs.Counting.{counts, count_most, count_below}
use Rattle.theorems.specs.Counts.{arc_up, arc_down, channel_up, channel_down, cell_up, cell_down, none, by_kind, incs, decs, sends, receives, read_starts, read_ends, arc_count, messages, readers}

-- what fails does not go well
fails_not : {A : Type 0} (e : Ending) → is_fine e ≡ false → e ≡ Ok tt → A
fails_not e f g = absurd (false≢true (sym f ∙ ap is_fine g))

-- an effect of a kind that goes well: the count n and what the operation adds make the count then and what it takes
abbrev Fair : {S : Type 0} → (S → ℕ) → ℕ → ℕ → ℕ → Does S → Type 0
Fair N n up down d = d.ending ≡ Ok tt → N d.state + down ≡ n + up

-- an Arc's operations
arc_fair : (c : ArcCall) (by : Clock) (s : ArcState) → s.ref_cnt < 65535 → Fair (λ x. x.ref_cnt) s.ref_cnt (arc_up c) (arc_down c) (arc.doing c by s)
unfolding arc.doing
arc_fair arc-call.RefInc by s l = λ f. omega (arith, l)
arc_fair arc-call.RefDec by s l =
    by_test (Fair (λ x. x.ref_cnt) s.ref_cnt 0 1) (eqb s.ref_cnt 0) (λ z f. fails_not (Err failure.Misuse) refl f) (λ z f. omega (arith, eqb-false s.ref_cnt 0 z))
arc_fair arc-call.GetMut by s l = by_test (Fair (λ x. x.ref_cnt) s.ref_cnt 0 0) (eqb s.ref_cnt 0) (λ z f. refl) (λ z f. refl)
arc_fair arc-call.StrongCount by s l = by_test (Fair (λ x. x.ref_cnt) s.ref_cnt 0 0) (eqb s.ref_cnt 0) (λ z f. refl) (λ z f. refl)

-- a channel's
channel_fair : (c : ChannelCall) (o : ObjectId) (by : Clock) (s : ChannelState) → Fair (λ x. x.msg_cnt) s.msg_cnt (channel_up c) (channel_down c) (mpsc.doing c o by s)
unfolding mpsc.doing
channel_fair mpsc-call.Send o by s = by_test (Fair (λ x. x.msg_cnt) s.msg_cnt 1 0) (ltb s.msg_cnt max_messages) (λ z f. omega arith) (λ z f. fails_not (Err failure.NoRoom) refl f)
channel_fair mpsc-call.Recv o by s =
    by_test (Fair (λ x. x.msg_cnt) s.msg_cnt 0 1) (mpsc.is_empty s) (λ z f. fails_not (Err failure.Misuse) refl f) (λ z f. omega (arith, eqb-false s.msg_cnt 0 z))

-- a cell's
accessed_fair : (misuse : Bool) (track : Ending) (s next : CellState) (xs : List Touch) (up down : ℕ) → (misuse ≡ false → next.is_reading + down ≡ s.is_reading + up)
    → Fair (λ x. x.is_reading) s.is_reading up down (cell.accessing misuse track s next xs)
unfolding cell.accessing
accessed_fair misuse track s next xs up down h =
    by_test (Fair (λ x. x.is_reading) s.is_reading up down) misuse (λ m f. fails_not (Err failure.Misuse) refl f)
    (λ m. by_test (Fair (λ x. x.is_reading) s.is_reading up down) (is_fine track) (λ z f. h m) (λ z f. fails_not track z f))

-- an end of a read that is no misuse finds a reader
reading_some : (n : ℕ) (w : Bool) → (not (not (eqb n 0)) || w) ≡ false → 0 < n
reading_some n w e = go (eqb n 0) refl e
  where
    go : (b : Bool) → eqb n 0 ≡ b → (not (not b) || w) ≡ false → 0 < n
    go true q f = absurd (false≢true (sym f))
    go false q f = omega (arith, eqb-false n 0 q)

cell_fair : (c : CellCall) (a : ThreadId) (by : Clock) (s : CellState) → s.is_reading < 65535 → Fair (λ x. x.is_reading) s.is_reading (cell_up c) (cell_down c) (cell.doing c a by s)
unfolding cell.doing
cell_fair cell-call.StartRead a by s l = accessed_fair _ _ s _ _ 1 0 (λ m. omega (arith, l))
cell_fair cell-call.EndRead a by s l = accessed_fair _ _ s _ _ 0 1 (λ m. omega (arith, reading_some s.is_reading s.is_writing m))
cell_fair cell-call.StartWrite a by s l = accessed_fair _ _ s _ _ 0 0 (λ m. refl)
cell_fair cell-call.EndWrite a by s l = accessed_fair _ _ s _ _ 0 0 (λ m. refl)

-- so every operation, for each of the three
abbrev FairTo : (Entry → ℕ) → (Call → ℕ) → (Call → ℕ) → Call → Entry → Does Entry → Type 0
FairTo N up down c e d = N e < 65535 → Fair N (N e) (up c) (down c) d

all_fair : (c : Call) (a : ThreadId) (o : ObjectId) (by : Clock) (e : Entry) → FairTo arc_count incs decs c e (doing c a o by e) × FairTo messages sends receives c e (doing c a o by e)
    × FairTo readers read_starts read_ends c e (doing c a o by e)
unfolding doing
all_fair (Mutex c) a o by e = (λ l f. refl, λ l f. refl, λ l f. refl)
all_fair (RwLock c) a o by e = (λ l f. refl, λ l f. refl, λ l f. refl)
all_fair (Condvar c) a o by e = (λ l f. refl, λ l f. refl, λ l f. refl)
all_fair (Notify c) a o by e = (λ l f. refl, λ l f. refl, λ l f. refl)
all_fair (Channel c) a o by e = (λ l f. refl, λ l. channel_fair c o by e.channel, λ l f. refl)
all_fair (Arc c) a o by e = (arc_fair c by e.arc, λ l f. refl, λ l f. refl)
all_fair (Cell c) a o by e = (λ l f. refl, λ l f. refl, cell_fair c a by e.cell)

-- a recorded access leaves them
records_same : (c : Call) (x : Access) (e : Entry) → (arc_count (set_last_access c x e) ≡ arc_count e) × (messages (set_last_access c x e) ≡ messages e) × (readers (set_last_access c x e) ≡ readers e)
unfolding set_last_access
records_same (Mutex c) x e = (refl, refl, refl)
records_same (RwLock c) x e = (refl, refl, refl)
records_same (Condvar c) x e = (refl, refl, refl)
records_same (Notify c) x e = (refl, refl, refl)
records_same (Channel mpsc-call.Send) x e = (refl, refl, refl)
records_same (Channel mpsc-call.Recv) x e = (refl, refl, refl)
records_same (Arc arc-call.RefInc) x e = (refl, refl, refl)
records_same (Arc arc-call.RefDec) x e = (refl, refl, refl)
records_same (Arc arc-call.GetMut) x e = (refl, refl, refl)
records_same (Arc arc-call.StrongCount) x e = (refl, refl, refl)
records_same (Cell c) x e = (refl, refl, refl)

-- one at most
arc_small : (c : ArcCall) → arc_up c ≤ 1
arc_small arc-call.RefInc = omega arith
arc_small arc-call.RefDec = omega arith
arc_small arc-call.GetMut = omega arith
arc_small arc-call.StrongCount = omega arith

channel_small : (c : ChannelCall) → channel_up c ≤ 1
channel_small mpsc-call.Send = omega arith
channel_small mpsc-call.Recv = omega arith

cell_small : (c : CellCall) → cell_up c ≤ 1
cell_small cell-call.StartRead = omega arith
cell_small cell-call.EndRead = omega arith
cell_small cell-call.StartWrite = omega arith
cell_small cell-call.EndWrite = omega arith

none_small : {A : Type 0} (c : A) → none c ≤ 1
none_small c = omega arith

module _ (f : ArcCall → ℕ) (g : ChannelCall → ℕ) (h : CellCall → ℕ) where
  small : ((c : ArcCall) → f c ≤ 1) → ((c : ChannelCall) → g c ≤ 1) → ((c : CellCall) → h c ≤ 1) → (c : Call) → by_kind f g h c ≤ 1
  small p q r (Mutex c) = omega arith
  small p q r (RwLock c) = omega arith
  small p q r (Condvar c) = omega arith
  small p q r (Notify c) = omega arith
  small p q r (Channel c) = q c
  small p q r (Arc c) = p c
  small p q r (Cell c) = r c

  -- an operation that counts neither waits nor asks
  waits-none : (c : Call) (m : ObjectId) → wait_of c ≡ Some m → by_kind f g h c ≡ 0
  waits-none (Mutex c) m e = refl
  waits-none (RwLock c) m e = refl
  waits-none (Condvar c) m e = refl
  waits-none (Notify c) m e = refl
  waits-none (Channel c) m e = let q : ◌≡◌ {A = ℕ} 0 1 = cc in absurd (omega (arith, q))
  waits-none (Arc c) m e = let q : ◌≡◌ {A = ℕ} 0 1 = cc in absurd (omega (arith, q))
  waits-none (Cell c) m e = let q : ◌≡◌ {A = ℕ} 0 1 = cc in absurd (omega (arith, q))

  asks_none : (c : Call) (e : Entry) → asks c e ≡ true → by_kind f g h c ≡ 0
  unfolding asks
  asks_none (Mutex c) x e = refl
  asks_none (RwLock c) x e = refl
  asks_none (Condvar c) x e = refl
  asks_none (Notify c) x e = refl
  asks_none (Channel c) x e = absurd (false≢true e)
  asks_none (Arc c) x e = absurd (false≢true e)
  asks_none (Cell c) x e = absurd (false≢true e)

-- a count whose operations are these, `f`, `g` and `h` up and `i`, `j` and `k` down
module _ (N : Entry → ℕ) (first : ℕ) (f i : ArcCall → ℕ) (g j : ChannelCall → ℕ) (h k : CellCall → ℕ) where
  counted_by : first ≤ 1 → ((c : Call) → by_kind f g h c ≤ 1) → ((m : Made) → N (new_entry m) ≡ first)
      → ((c : Call) (a : ThreadId) (o : ObjectId) (by : Clock) (e : Entry) → FairTo N (by_kind f g h) (by_kind i j k) c e (doing c a o by e)) → ((c : Call) (x : Access) (e : Entry) → N (set_last_access c x e) ≡ N e)
      → ((e : Entry) (s : NotifyState) → N (put_notify e s) ≡ N e) → Counted N first (by_kind f g h) (by_kind i j k)
  counted_by starts few made effects records spurs =
      record {
        starts = starts;
        small = few;
        made = made;
        effects = effects;
        records = records;
        spurs = spurs;
        locks = λ c. (refl, refl);
        waits = λ c m e. (waits-none f g h c m e, waits-none i j k c m e);
        questions = λ c x e. (asks_none f g h c x e, asks_none i j k c x e);
      }

-- the three
pub arc_counted : Counted arc_count 1 incs decs
unfolding new_entry
arc_counted =
    counted_by arc_count 1 arc_up arc_down none none none none (omega arith) (small arc_up none none arc_small none_small none_small) (λ m. refl) (λ c a o by e. (all_fair c a o by e).0)
    (λ c x e. (records_same c x e).0) (λ e s. refl)

pub channel_counted : Counted messages 0 sends receives
unfolding new_entry
channel_counted =
    counted_by messages 0 none none channel_up channel_down none none (omega arith) (small none channel_up none none_small channel_small none_small) (λ m. refl) (λ c a o by e. (all_fair c a o by e).1)
    (λ c x e. (records_same c x e).1) (λ e s. refl)

pub cell_counted : Counted readers 0 read_starts read_ends
unfolding new_entry
cell_counted =
    counted_by readers 0 none none none none cell_up cell_down (omega arith) (small none none cell_up none_small none_small cell_small) (λ m. refl) (λ c a o by e. (all_fair c a o by e).2)
    (λ c x e. (records_same c x e).2) (λ e s. refl)

-- in every world that the sheet of an accepted table shows
module _ (bs list : List ℕ) (table : Table) (w : World) (a : read_table bs ≡ Ok table) (e : Shown table list w) where
  -- "Sent less received equals the count."
  pub sent_received : (o : ObjectId) → (entry_in w o).channel.msg_cnt + done_of table receives o.0 w.threads ≡ done_of table sends o.0 w.threads
  sent_received o = omega (arith, (counts messages 0 sends receives channel_counted bs list table w a e).law o.0)

  -- an Arc's count is 1 and the ref_incs less the ref_decs done
  pub arc_count_lem : (o : ObjectId) → (entry_in w o).arc.ref_cnt + done_of table decs o.0 w.threads ≡ 1 + done_of table incs o.0 w.threads
  arc_count_lem o = (counts arc_count 1 incs decs arc_counted bs list table w a e).law o.0

  -- a cell's reading count is the starts less the ends of reads done
  pub reading_count : (o : ObjectId) → (entry_in w o).cell.is_reading + done_of table read_ends o.0 w.threads ≡ done_of table read_starts o.0 w.threads
  reading_count o = omega (arith, (counts readers 0 read_starts read_ends cell_counted bs list table w a e).law o.0)

  -- so they are at most these
  pub arc_most : (o : ObjectId) → (entry_in w o).arc.ref_cnt ≤ 193
  arc_most o = count_most arc_count 1 incs decs arc_counted bs list table w a e o

  pub reading_most : (o : ObjectId) → (entry_in w o).cell.is_reading ≤ 192
  reading_most o = count_most readers 0 read_starts read_ends cell_counted bs list table w a e o

-- before each effect of a further decision
module _ (bs list : List ℕ) (table : Table) (w : World) (a : read_table bs ≡ Ok table) (e : Reached table list w) where
  pub arc_below : (d : ℕ) → Each (λ t c x ts. x.arc.ref_cnt < 193) table w d
  arc_below d = count_below arc_count 1 incs decs arc_counted bs list table w a e d

  pub reading_below : (d : ℕ) → Each (λ t c x ts. x.cell.is_reading < 192) table w d
  reading_below d = count_below readers 0 read_starts read_ends cell_counted bs list table w a e d
