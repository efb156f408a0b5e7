-- Every byte of a sheet is the number that document 01 names, and not a remainder: the sheet with each count as it is. The words are in specs/Plain.antt.
use Rattle.std.specs.Prelude.{◌≡◌, refl, List, [], ◌∷◌, ◌++◌, ℕ, zero, suc, ◌≤◌, ◌<◌, leb, length, get_or, take, drop, None, Option, Some, Ok}
use Rattle.std.proofs.Common.{sym, ◌∙◌, ap, subst, arith, le-leb}
use Rattle.std.proofs.lemmas.Bool.{false≢true}
use Rattle.clocks.specs.Clock.{max_threads}
use Rattle.lists.specs.Judge.{Judged, not_allowed, surplus, unfinished, verdict, judge}
use Rattle.rules.specs.declared.object.Kind.{Kind}
use Rattle.rules.specs.declared.object.Kind.TheVariants as kind
use Rattle.rules.specs.declared.object.Entry.{Entry}
use Rattle.rules.specs.declared.rwlock.Locked.{Locked}
use Rattle.rules.specs.declared.rwlock.Locked.TheVariants as locked
use Rattle.rules.specs.declared.thread.Thread.{Thread}
use Rattle.rules.specs.declared.table.Made.{Made}
use Rattle.rules.specs.declared.table.Table.{Table}
use Rattle.rules.specs.declared.world.World.{World}
use Rattle.rules.specs.Ground.{flag, absent}
use Rattle.rules.specs.Object.{new_entry, no_object}
use Rattle.rules.specs.Sheet.{filled, each, byte, clock_bytes, state_byte, phase_byte, thread_bytes, form_byte, who_byte, rwlock_bytes, arc_bytes, cell_bytes, object_bytes, objects_bytes, sheet_of, sheet_length}
use Rattle.rules.specs.Table.{Read, read_table}
use Rattle.rules.proofs.TableLaws.{by_test, read-within}
use Rattle.rules.specs.Turn.{entry_in, start}
use Rattle.rules.specs.Judge.{Verdict, Given, over, shown, judge_table, judge_of, step}
use Rattle.rules.proofs.RwLockLaws.{pow_most}
use Rattle.theorems.specs.Reached.{Shown, ShownBy}
use Rattle.theorems.specs.All.{All}
use Rattle.theorems.proofs.All.{all_rest, get_rest}
use Rattle.theorems.proofs.Objects.{lasting}
use Rattle.theorems.specs.Holders.{Reading, Holders}
use Rattle.theorems.proofs.Holders.{holders_last}
use Rattle.theorems.proofs.Counts.{arc_most, reading_most}
use Rattle.theorems.proofs.Answers.{answer_most}
use Rattle.theorems.specs.Plain.{plain_thread, plain_who, plain_object, plain_objects, plain_sheet}

-- a number below 256 is its own remainder
byte_is : (n : ℕ) → n < 256 → byte n ≡ n
byte_is n l = omega (arith, l)

-- the bytes of a thread
thread_plain : (t : Thread) → t.last_answer < 256 → thread_bytes t ≡ plain_thread t
unfolding thread_bytes plain_thread
thread_plain t l = ap (λ (n : ℕ). 0x80 ∷ state_byte t.state ∷ t.position ∷ phase_byte t.phase ∷ n ∷ clock_bytes t.clock ++ clock_bytes t.dependence) (byte_is t.last_answer l)

-- the readers
abbrev MaskLow : Option Locked → Type 0
MaskLow None = Unit {0}
MaskLow (Some (locked.Read mask)) = mask < 256
MaskLow (Some (locked.Write t)) = Unit {0}

who_plain : (l : Option Locked) → MaskLow l → who_byte l ≡ plain_who l
unfolding who_byte plain_who
who_plain None h = refl
who_plain (Some (locked.Read mask)) h = byte_is mask h
who_plain (Some (locked.Write t)) h = refl

-- an object whose counts are below 256
abbrev Low : ℕ → Entry → Type 0
Low k e = (e.arc.ref_cnt < 256) × (e.cell.is_reading < 256) × MaskLow e.rwlock.lock

object_plain : (k : Kind) (e : Entry) → Low 0 e → object_bytes k e ≡ plain_object k e
unfolding object_bytes plain_object rwlock_bytes arc_bytes cell_bytes
object_plain kind.Mutex e h = refl
object_plain kind.RwLock e h = ap (λ (n : ℕ). 0x91 ∷ form_byte e.rwlock.lock ∷ n ∷ clock_bytes e.rwlock.synchronize) (who_plain e.rwlock.lock h.2)
object_plain kind.Condvar e h = refl
object_plain kind.Notify e h = refl
object_plain kind.Channel e h = refl
object_plain kind.Arc e h = ap (λ (n : ℕ). 0x95 ∷ n ∷ clock_bytes e.arc.synchronize) (byte_is e.arc.ref_cnt h.0)
object_plain kind.Cell e h =
    ap (λ (n : ℕ). 0x96 ∷ n ∷ flag e.cell.is_writing ∷ clock_bytes e.cell.read_access ++ clock_bytes e.cell.write_access) (byte_is e.cell.is_reading h.1)
object_plain kind.Nothing e h = refl

-- an object as the table makes it
new_low : (m : Made) → Low 0 (new_entry m)
unfolding new_entry
new_low m = (omega arith, omega arith, tt)

-- the first object of a list
first_low : (es : List Entry) (m : Made) → All Low (new_entry no_object) es → Low 0 (get_or es 0 (new_entry m))
first_low [] m h = new_low m
first_low (e ∷ es) m h = h 0

objects_plain : (ms : List Made) (es : List Entry) → All Low (new_entry no_object) es → objects_bytes ms es ≡ plain_objects ms es
unfolding objects_bytes plain_objects
objects_plain [] es h = refl
objects_plain (m ∷ ms) es h =
    let p = object_plain m.kind (get_or es 0 (new_entry m)) (first_low es m h) in
    let q = objects_plain ms (drop 1 es) (all_rest (Low 0) (new_entry no_object) es h) in
    λ i. p i ++ q i

-- the first n threads
threads_plain : (n : ℕ) (ts : List Thread) → ((k : ℕ) → (get_or ts k absent).last_answer < 256) → each thread_bytes (filled absent n ts) ≡ each plain_thread (filled absent n ts)
threads_plain zero ts h = refl
threads_plain (suc n) ts h =
    let p = thread_plain (get_or ts 0 absent) (h 0) in
    let q = threads_plain n (drop 1 ts) (λ k. subst (λ (x : Thread). x.last_answer < 256) (sym (get_rest absent ts k)) (h (suc k))) in
    λ i. p i ++ q i

mask_low : (n : ℕ) → n ≤ max_threads → (l : Option Locked) → Reading n l → MaskLow l
mask_low n few None h = tt
mask_low n few (Some (locked.Read mask)) h = omega (arith, h.1, pow_most n max_threads few)
mask_low n few (Some (locked.Write t)) h = tt

-- in every world that the sheet of an accepted table shows
pub sheet_plain : (bs list : List ℕ) (table : Table) (w : World) → read_table bs ≡ Ok table → Shown table list w → sheet_of table w ≡ plain_sheet table w
unfolding sheet_of plain_sheet
sheet_plain bs list table w a e =
    let n : ℕ = table.thread_count in
    let few : n ≤ max_threads = (read-within bs table a).0.threads in
    let held = lasting table (λ k. Holders n) (holders_last n few table.objects) bs list w a e in
    let p = threads_plain n w.threads (λ k. omega (arith, answer_most bs list table w a e (record { 0 = k }))) in
    let q = objects_plain (take table.object_count table.objects) w.objects
    (λ k. (omega (arith, arc_most bs list table w a e (record { 0 = k })), omega (arith, reading_most bs list table w a e (record { 0 = k })), mask_low n few (entry_in w (record { 0 = k })).rwlock.lock (held k).1)) in
    λ i. p i ++ q i

-- so what the judge leaves in the lent buffer, where it writes a sheet
pub judge_plain : (bs list buffer : List ℕ) (table : Table) (w : World) → read_table bs ≡ Ok table → Shown table list w → sheet_length table ≤ length buffer
    → (judge_of bs list buffer).buffer ≡ over (plain_sheet table w) buffer
unfolding judge_of judge_table shown
judge_plain bs list buffer table w a e l =
    ap (λ (r : Read). (judge_table r list buffer).buffer) a
    ∙ by_test (λ (g : Given). g.buffer ≡ over (plain_sheet table w) buffer) (leb (sheet_length table) (length buffer))
    (λ z. written (judge (step table) 0 (start table) list) e ∙ ap (λ (bytes : List ℕ). over bytes buffer) (sheet_plain bs list table w a e))
    (λ z. absurd (false≢true (sym z ∙ le-leb (sheet_length table) (length buffer) l)))
  where
    written : (j : Judged World Verdict) → ShownBy j w → (shown table j buffer).buffer ≡ over (sheet_of table w) buffer
    written (not_allowed i) s = absurd s
    written (surplus i) s = absurd s
    written (unfinished v) s = ap (λ (x : World). over (sheet_of table x) buffer) s
    written (verdict v) s = ap (λ (x : World). over (sheet_of table x) buffer) s
