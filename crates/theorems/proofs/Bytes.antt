-- Every number of a sheet is a byte. The words are in specs/Bytes.antt.
use Rattle.std.specs.Prelude.{◌≡◌, Bool, true, false, ℕ, zero, suc, ◌≤◌, ◌<◌, ltb, get_or, take, drop, None, Option, Some, Ok}
use Rattle.std.proofs.Common.{sym, subst, ltb-true, ltb-false}
use mathlib.Core.List.{List, [], ◌∷◌, ◌++◌, map}
use native.Mathlib.Omega.{arith}
use Rattle.std.proofs.Math.ListN.{get_or-map}
use Rattle.clocks.specs.Clock.{max_threads, zero_clock}
use Rattle.clocks.specs.declared.clock.Clock.{Clock}
use Rattle.clocks.specs.declared.thread.ThreadId.{ThreadId}
use Rattle.rules.specs.declared.object.Kind.{Kind}
use Rattle.rules.specs.declared.object.Kind.TheVariants as kind
use Rattle.rules.specs.declared.object.Entry.{Entry}
use Rattle.rules.specs.declared.condvar.State.{State as CondvarState}
use Rattle.rules.specs.declared.rwlock.Locked.{Locked}
use Rattle.rules.specs.declared.rwlock.Locked.TheVariants as locked
use Rattle.rules.specs.declared.thread.State.{State}
use Rattle.rules.specs.declared.thread.State.TheVariants as state
use Rattle.rules.specs.declared.thread.Phase.{Phase}
use Rattle.rules.specs.declared.thread.Phase.TheVariants.{Nothing, Announced, Parked, Retaking}
use Rattle.rules.specs.declared.thread.Thread.{Thread}
use Rattle.rules.specs.declared.table.Made.{Made}
use Rattle.rules.specs.declared.table.Table.{Table}
use Rattle.rules.specs.declared.world.World.{World}
use Rattle.rules.specs.Limits.{max_messages, max_waiters}
use Rattle.rules.specs.Ground.{flag, absent}
use Rattle.rules.specs.Object.{new_entry, no_object}
use Rattle.rules.specs.Condvar as condvar
use Rattle.rules.specs.Sheet.{filled, each, byte, number, clock_bytes, state_byte, phase_byte, thread_bytes, holder_byte, mutex_bytes, form_byte, who_byte, rwlock_bytes, condvar_bytes, notify_bytes, channel_bytes, arc_bytes, cell_bytes, object_bytes, objects_bytes, sheet_of}
use Rattle.rules.specs.Table.{read_table}
use Rattle.rules.proofs.TableLaws.{split, read-within}
use Rattle.rules.specs.Turn.{thread_in}
use Rattle.theorems.specs.Reached.{Shown}
use Rattle.theorems.specs.All.{All}
use Rattle.theorems.proofs.All.{all_rest, get_rest}
use Rattle.theorems.specs.Kept.{Object}
use Rattle.theorems.proofs.Kept.{new_object}
use Rattle.theorems.specs.Place.{At}
use Rattle.theorems.proofs.Place.{zero_at}
use Rattle.theorems.proofs.Objects.{lasting}
use Rattle.theorems.specs.Queues.{Waiting, Queues}
use Rattle.theorems.proofs.Queues.{queues_last}
use Rattle.theorems.specs.Holders.{Holding, Reading, Holders}
use Rattle.theorems.proofs.Holders.{holders_last}
use Rattle.theorems.specs.Clocks.{most_own, most_dependence}
use Rattle.theorems.proofs.Clocks.{position_few, clock_few, object_few}
use Rattle.theorems.specs.Bytes.{Bytes}

both_bytes : (xs ys : List ℕ) → Bytes xs → Bytes ys → Bytes (xs ++ ys)
both_bytes [] ys p q = q
both_bytes (x ∷ xs) ys p q = (p.0, both_bytes xs ys p.1 q)

filled_bytes : (d n : ℕ) (xs : List ℕ) → ((k : ℕ) → get_or xs k d < 256) → Bytes (filled d n xs)
filled_bytes d zero xs h = tt
filled_bytes d (suc n) xs h = (h 0, filled_bytes d n (drop 1 xs) (λ k. subst (λ (x : ℕ). x < 256) (sym (get_rest d xs k)) (h (suc k))))

each_bytes : {A : Type 0} (f : A → List ℕ) (d : A) (n : ℕ) (xs : List A) → ((k : ℕ) → Bytes (f (get_or xs k d))) → Bytes (each f (filled d n xs))
each_bytes f d zero xs h = tt
each_bytes f d (suc n) xs h =
    both_bytes (f (get_or xs 0 d)) (each f (filled d n (drop 1 xs))) (h 0) (each_bytes f d n (drop 1 xs) (λ k. subst (λ x. Bytes (f x)) (sym (get_rest d xs k)) (h (suc k))))

-- a clock whose counts are
abbrev Short : Clock → Type 0
Short c = (k : ℕ) → get_or c.counts k 0 < 256

clock_bytes_lem : (c : Clock) → Short c → Bytes (clock_bytes c)
clock_bytes_lem c h = filled_bytes 0 max_threads c.counts h

two_clocks : (c d : Clock) → Short c → Short d → Bytes (clock_bytes c ++ clock_bytes d)
two_clocks c d p q = both_bytes (clock_bytes c) (clock_bytes d) (clock_bytes_lem c p) (clock_bytes_lem d q)

-- the numbers of forms
state_low : (s : State) → state_byte s < 256
unfolding state_byte
state_low state.Runnable = omega arith
state_low state.Unparked = omega arith
state_low state.Blocked = omega arith
state_low state.Ended = omega arith

phase_low : (f : Phase) → phase_byte f < 256
unfolding phase_byte
phase_low Nothing = omega arith
phase_low (Announced p) = omega arith
phase_low Parked = omega arith
phase_low (Retaking p) = omega arith

flag_low : (b : Bool) → flag b < 256
flag_low true = omega arith
flag_low false = omega arith

-- a remainder
byte_low : (n : ℕ) → byte n < 256
byte_low n = omega arith

holder_low : (n : ℕ) → n ≤ max_threads → (l : Option ThreadId) → Holding n l → holder_byte l < 256
unfolding holder_byte
holder_low n few None h = omega arith
holder_low n few (Some t) h = omega (arith, h, few)

form_low : (l : Option Locked) → form_byte l < 256
unfolding form_byte
form_low None = omega arith
form_low (Some (locked.Read m)) = omega arith
form_low (Some (locked.Write t)) = omega arith

who_low : (n : ℕ) → n ≤ max_threads → (l : Option Locked) → Reading n l → who_byte l < 256
unfolding who_byte
who_low n few None h = omega arith
who_low n few (Some (locked.Read m)) h = byte_low m
who_low n few (Some (locked.Write t)) h = omega (arith, h, few)

waiter_low : (n : ℕ) → n ≤ max_threads → (s : CondvarState) → Waiting n s → (k : ℕ) → get_or (map number s.waiters) k 255 < 256
waiter_low n few s h k =
    let e : get_or (map number s.waiters) k 255 ≡ (get_or s.waiters k condvar.nobody).0 = get_or-map number s.waiters k condvar.nobody in
    split (ltb k s.count) (λ l. omega (arith, e, few, h.who k (ltb-true k s.count l))) (λ l. omega (arith, e, h.filled k (ltb-false k s.count l)))

-- an object's clocks
abbrev Shorts : Entry → Type 0
Shorts e = (k : ℕ) → Object (At k most_own) (At k most_dependence) e

module _ (n : ℕ) (few : n ≤ max_threads) where
  -- all of an object
  abbrev Known : ℕ → Entry → Type 0
  Known i e = Shorts e × Queues n e × Holders n e

  object_bytes_lem : (k : Kind) (e : Entry) → Known 0 e → Bytes (object_bytes k e)
  unfolding object_bytes mutex_bytes rwlock_bytes condvar_bytes notify_bytes channel_bytes arc_bytes cell_bytes
  object_bytes_lem kind.Mutex e h = (omega arith, (holder_low n few e.mutex.lock h.2.0, clock_bytes_lem e.mutex.synchronize (λ k. omega (arith, (h.0 k).mutex.1))))
  object_bytes_lem kind.RwLock e h =
      (omega arith, (form_low e.rwlock.lock, (who_low n few e.rwlock.lock h.2.1, clock_bytes_lem e.rwlock.synchronize (λ k. omega (arith, (h.0 k).rwlock.1)))))
  object_bytes_lem kind.Condvar e h = (omega arith, (omega (arith, h.1.0.most), filled_bytes 255 max_waiters (map number e.condvar.waiters) (waiter_low n few e.condvar h.1.0)))
  object_bytes_lem kind.Notify e h =
      (omega arith, (flag_low e.notify.notified, (flag_low e.notify.did_spur, clock_bytes_lem e.notify.synchronize (λ k. omega (arith, (h.0 k).notify.1)))))
  object_bytes_lem kind.Channel e h =
      let sender = clock_bytes_lem e.channel.sender_synchronize (λ k. omega (arith, (h.0 k).channel.2)) in
      let queue = each_bytes clock_bytes zero_clock max_messages e.channel.receiver_synchronize (λ i. clock_bytes_lem (get_or e.channel.receiver_synchronize i zero_clock) (λ k. omega (arith, (h.0 k).channel.3 i))) in
      (omega arith, (omega (arith, h.1.1.most), both_bytes (clock_bytes e.channel.sender_synchronize) (each clock_bytes (filled zero_clock max_messages e.channel.receiver_synchronize)) sender queue))
  object_bytes_lem kind.Arc e h = (omega arith, (byte_low e.arc.ref_cnt, clock_bytes_lem e.arc.synchronize (λ k. omega (arith, (h.0 k).arc.0))))
  object_bytes_lem kind.Cell e h =
      let clocks = two_clocks e.cell.read_access e.cell.write_access (λ k. omega (arith, (h.0 k).cell.0)) (λ k. omega (arith, (h.0 k).cell.1)) in
      (omega arith, (byte_low e.cell.is_reading, (flag_low e.cell.is_writing, clocks)))
  object_bytes_lem kind.Nothing e h = tt

  -- the first object of a list, and an object as the table makes it
  first_known : (es : List Entry) (m : Made) → All Known (new_entry no_object) es → Known 0 (get_or es 0 (new_entry m))
  first_known [] m h = (
    λ k. new_object (At k most_own) (At k most_dependence) (zero_at k most_own) (zero_at k most_dependence) m,
    (queues_last n (m ∷ [])).made 0,
    (holders_last n few (m ∷ [])).made 0,
  )
  first_known (e ∷ es) m h = h 0

  objects_bytes_lem : (ms : List Made) (es : List Entry) → All Known (new_entry no_object) es → Bytes (objects_bytes ms es)
  unfolding objects_bytes
  objects_bytes_lem [] es h = tt
  objects_bytes_lem (m ∷ ms) es h =
      both_bytes (object_bytes m.kind (get_or es 0 (new_entry m))) (objects_bytes ms (drop 1 es)) (object_bytes_lem m.kind (get_or es 0 (new_entry m)) (first_known es m h))
      (objects_bytes_lem ms (drop 1 es) (all_rest (Known 0) (new_entry no_object) es h))

-- a thread
thread_bytes_lem : (t : Thread) → t.position < 256 → Short t.clock → Short t.dependence → Bytes (thread_bytes t)
unfolding thread_bytes
thread_bytes_lem t l p q = (omega arith, (state_low t.state, (l, (phase_low t.phase, (byte_low t.last_answer, two_clocks t.clock t.dependence p q)))))

-- in every world that the sheet of an accepted table shows
pub sheet_bytes : (bs list : List ℕ) (table : Table) (w : World) → read_table bs ≡ Ok table → Shown table list w → Bytes (sheet_of table w)
unfolding sheet_of
sheet_bytes bs list table w a e =
    let n : ℕ = table.thread_count in
    let few : n ≤ max_threads = (read-within bs table a).0.threads in
    let t : ℕ → ThreadId = λ k. record { 0 = k } in
    let held = lasting table (λ k. Holders n) (holders_last n few table.objects) bs list w a e in
    let queued = lasting table (λ k. Queues n) (queues_last n table.objects) bs list w a e in
    both_bytes (each thread_bytes (filled absent n w.threads)) (objects_bytes (take table.object_count table.objects) w.objects)
    (each_bytes thread_bytes absent n w.threads
    (λ k.
    thread_bytes_lem (thread_in w (t k)) (omega (arith, position_few bs list table w a e (t k))) (λ i. omega (arith, (clock_few bs list table w a e (t k) i).0)) (λ i. omega (arith, (clock_few bs list table w a e (t k) i).1))))
    (objects_bytes_lem n few (take table.object_count table.objects) w.objects (λ k. (λ i. object_few bs list table w a e (record { 0 = k }) i, queued k, held k)))
