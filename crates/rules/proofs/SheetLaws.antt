-- A sheet's length is what its table says, and at most 1,766. How a sheet is written, a record after the other.
use Rattle.std.specs.Prelude.{◌≡◌, refl, List, [], ◌∷◌, ◌++◌, map, ℕ, zero, suc, ◌+◌, ◌*◌, ◌≤◌, ◌<◌, length, get_or, set, take, drop, Ok}
use Rattle.std.proofs.Common.{sym, ◌∙◌, ap, append_assoc, append-nil, mul-zero, mul-suc, not-suc-le-zero, le_of_suc-le-suc, add-one, arith, length-append, length-take}
use Rattle.std.proofs.lemmas.List.Edits.{sets, sets-eq}
use Rattle.clocks.specs.Lists.{sets_then}
use Rattle.clocks.specs.declared.clock.Clock.{Clock}
use Rattle.clocks.specs.declared.thread.ThreadId.{ThreadId}
use Rattle.clocks.specs.Clock.{max_threads}
use Rattle.rules.specs.Limits.{thread_record, channel_record, max_sheet}
use Rattle.rules.specs.declared.object.Kind.{Kind}
use Rattle.rules.specs.declared.object.Kind.TheVariants as kind
use Rattle.rules.specs.declared.object.Entry.{Entry}
use Rattle.rules.specs.declared.thread.Thread.{Thread}
use Rattle.rules.specs.declared.table.Made.{Made}
use Rattle.rules.specs.declared.table.Table.{Table}
use Rattle.rules.specs.declared.world.World.{World}
use Rattle.rules.specs.Ground.{absent}
use Rattle.rules.specs.Object.{new_entry}
use Rattle.rules.specs.Table.{read_table}
use Rattle.rules.proofs.TableLaws.{read-within}
use Rattle.rules.specs.Judge.{over}
use Rattle.rules.specs.Sheet.{filled, each, clock_bytes, number, thread_bytes, mutex_bytes, rwlock_bytes, condvar_bytes, notify_bytes, channel_bytes, arc_bytes, cell_bytes, object_bytes, objects_bytes, sheet_of, record_length, objects_length, sheet_length}

pub filled-length : {A : Type 0} (x : A) (n : ℕ) (xs : List A) → length (filled x n xs) ≡ n
filled-length x zero xs = refl
filled-length x (suc n) xs = ap suc (filled-length x n (drop 1 xs))

-- records of one length
pub each-length : {A : Type 0} (f : A → List ℕ) (k : ℕ) → ((x : A) → length (f x) ≡ k) → (xs : List A) → length (each f xs) ≡ k * length xs
each-length f k h [] = sym (mul-zero k)
each-length f k h (x ∷ xs) = omega (arith, length-append (f x) (each f xs), h x, each-length f k h xs, mul-suc k (length xs))

pub thread-length : (t : Thread) → length (thread_bytes t) ≡ thread_record
unfolding thread_bytes
thread-length t = refl

pub object_length : (k : Kind) (e : Entry) → length (object_bytes k e) ≡ record_length k
unfolding object_bytes record_length mutex_bytes rwlock_bytes condvar_bytes notify_bytes channel_bytes arc_bytes cell_bytes
object_length kind.Mutex e = refl
object_length kind.RwLock e = refl
object_length kind.Condvar e = refl
object_length kind.Notify e = refl
object_length kind.Channel e = refl
object_length kind.Arc e = refl
object_length kind.Cell e = refl
object_length kind.Nothing e = refl

objects_length_lem : (ms : List Made) (es : List Entry) → length (objects_bytes ms es) ≡ objects_length ms
unfolding objects_bytes objects_length
objects_length_lem [] es = refl
objects_length_lem (m ∷ ms) es =
    let e : Entry = get_or es 0 (new_entry m) in
    omega (arith, length-append (object_bytes m.kind e) (objects_bytes ms (drop 1 es)), object_length m.kind e, objects_length_lem ms (drop 1 es))

-- a sheet's length is what its table says, whatever the world
pub sheet_length_lem : (table : Table) (w : World) → length (sheet_of table w) ≡ sheet_length table
unfolding sheet_of sheet_length
sheet_length_lem table w =
    let ts = filled absent table.thread_count w.threads in
    let ms = take table.object_count table.objects in
    omega
    (arith, length-append (each thread_bytes ts) (objects_bytes ms w.objects), each-length thread_bytes thread_record thread-length ts, filled-length absent table.thread_count w.threads, objects_length_lem ms w.objects)

pub record_small : (k : Kind) → record_length k ≤ channel_record
unfolding record_length
record_small kind.Mutex = omega arith
record_small kind.RwLock = omega arith
record_small kind.Condvar = omega arith
record_small kind.Notify = omega arith
record_small kind.Channel = omega arith
record_small kind.Arc = omega arith
record_small kind.Cell = omega arith
record_small kind.Nothing = omega arith

objects_small : (ms : List Made) → objects_length ms ≤ channel_record * length ms
unfolding objects_length
objects_small [] = omega arith
objects_small (m ∷ ms) = omega (arith, record_small m.kind, objects_small ms)

pub first_small : (ms : List Made) (k : ℕ) → objects_length (take k ms) ≤ channel_record * k
first_small ms k = omega (arith, objects_small (take k ms), length-take k ms)

-- "Never above 1,766 bytes."
pub sheet_small : (bs : List ℕ) (table : Table) → read_table bs ≡ Ok table → sheet_length table ≤ max_sheet
unfolding sheet_length
sheet_small bs table e =
    let w = (read-within bs table e).0 in
    let ms = take table.object_count table.objects in
    omega (arith, w.threads, w.objects, objects_small ms, length-take table.object_count table.objects)

-- one more element, of a filled list and of the bytes of each
get_d_tail : {A : Type 0} (xs : List A) (n : ℕ) (x : A) → get_or (drop 1 xs) n x ≡ get_or xs (suc n) x
get_d_tail [] n x = refl
get_d_tail (y ∷ ys) n x = refl

pub filled_more : {A : Type 0} (x : A) (n : ℕ) (xs : List A) → filled x (suc n) xs ≡ filled x n xs ++ (get_or xs n x ∷ [])
filled_more x zero xs = refl
filled_more {A} x (suc n) xs =
    ap (λ (ys : List A). get_or xs 0 x ∷ ys) (filled_more x n (drop 1 xs))
    ∙ ap (λ (y : A). get_or xs 0 x ∷ filled x n (drop 1 xs) ++ (y ∷ [])) (get_d_tail xs n x)

each_append : {A : Type 0} (f : A → List ℕ) (xs ys : List A) → each f (xs ++ ys) ≡ each f xs ++ each f ys
each_append f [] ys = refl
each_append f (x ∷ xs) ys = ap (λ (l : List ℕ). f x ++ l) (each_append f xs ys) ∙ sym (append_assoc (f x) (each f xs) (each f ys))

pub each_more : {A : Type 0} (f : A → List ℕ) (x : A) (n : ℕ) (xs : List A) → each f (filled x (suc n) xs) ≡ each f (filled x n xs) ++ f (get_or xs n x)
each_more f x n xs =
    ap (each f) (filled_more x n xs)
    ∙ each_append f (filled x n xs) (get_or xs n x ∷ [])
    ∙ ap (λ (l : List ℕ). each f (filled x n xs) ++ l) (append-nil (f (get_or xs n x)))

-- a turn of a loop that writes such a list at a place: what was written, and one element more
module _ (l : List ℕ) (at : ℕ) where
  pub filled-written : {m n : List ℕ} (x k : ℕ) (xs : List ℕ) → m ≡ sets l at (filled x k xs) → n ≡ set m (at + k) (get_or xs k x) → n ≡ sets l at (filled x (k + 1) xs)
  filled-written x k xs e f =
      sets_then l at (filled x k xs) (get_or xs k x ∷ []) k (filled-length x k xs) e f
      ∙ ap (sets l at) (sym (filled_more x k xs) ∙ ap (λ (j : ℕ). filled x j xs) (sym (add-one k)))

  pub each-written : {A : Type 0} {m n : List ℕ} (f : A → List ℕ) (r : ℕ) → ((x : A) → length (f x) ≡ r) → (x : A) (k : ℕ) (xs : List A)
      → m ≡ sets l at (each f (filled x k xs)) → n ≡ sets m (at + r * k) (f (get_or xs k x)) → n ≡ sets l at (each f (filled x (k + 1) xs))
  each-written f r h x k xs e g =
      sets_then l at (each f (filled x k xs)) (f (get_or xs k x)) (r * k) (each-length f r h (filled x k xs) ∙ ap (λ (j : ℕ). r * j) (filled-length x k xs)) e g
      ∙ ap (sets l at) (sym (each_more f x k xs) ∙ ap (λ (j : ℕ). each f (filled x j xs)) (sym (add-one k)))

-- what stands at a waiter's place, whatever a place past the end would read
pub waiter_at : (ws : List ThreadId) (k : ℕ) (d : ThreadId) → k < length ws → number (get_or ws k d) ≡ get_or (map number ws) k 255
waiter_at [] k d h = absurd (not-suc-le-zero h)
waiter_at (w ∷ ws) zero d h = refl
waiter_at (w ∷ ws) (suc k) d h = waiter_at ws k d (le_of_suc-le-suc h)

pub clock-length : (c : Clock) → length (clock_bytes c) ≡ max_threads
clock-length c = refl

-- one object more
objects_more : (ms : List Made) (es : List Entry) (k : ℕ) (d : Made) (e : Entry) → k < length ms → k < length es
    → objects_bytes (take (suc k) ms) es ≡ objects_bytes (take k ms) es ++ object_bytes (get_or ms k d).kind (get_or es k e)
unfolding objects_bytes
objects_more [] es k d e h i = absurd (not-suc-le-zero h)
objects_more (m ∷ ms) [] k d e h i = absurd (not-suc-le-zero i)
objects_more (m ∷ ms) (x ∷ es) zero d e h i = append-nil (object_bytes m.kind x)
objects_more (m ∷ ms) (x ∷ es) (suc k) d e h i =
    ap (λ (l : List ℕ). object_bytes m.kind x ++ l) (objects_more ms es k d e (le_of_suc-le-suc h) (le_of_suc-le-suc i))
    ∙ sym (append_assoc (object_bytes m.kind x) (objects_bytes (take k ms) es) (object_bytes (get_or ms k d).kind (get_or es k e)))

lengths_more : (ms : List Made) (k : ℕ) (d : Made) → k < length ms → objects_length (take (suc k) ms) ≡ objects_length (take k ms) + record_length (get_or ms k d).kind
unfolding objects_length
lengths_more [] k d h = absurd (not-suc-le-zero h)
lengths_more (m ∷ ms) zero d h = omega arith
lengths_more (m ∷ ms) (suc k) d h = omega (arith, lengths_more ms k d (le_of_suc-le-suc h))

pub objects_longer : (ms : List Made) (k : ℕ) (d : Made) → k < length ms → objects_length (take (k + 1) ms) ≡ objects_length (take k ms) + record_length (get_or ms k d).kind
objects_longer ms k d h = ap (λ (j : ℕ). objects_length (take j ms)) (add-one k) ∙ lengths_more ms k d h

pub objects_written : (l : List ℕ) (at : ℕ) {m n : List ℕ} (ms : List Made) (es : List Entry) (k p : ℕ) (d : Made) (e : Entry) → k < length ms → k < length es
    → m ≡ sets l at (objects_bytes (take k ms) es) → p ≡ at + objects_length (take k ms) → n ≡ sets m p (object_bytes (get_or ms k d).kind (get_or es k e))
    → n ≡ sets l at (objects_bytes (take (k + 1) ms) es)
objects_written l at {m} ms es k p d e h i f g r =
    let one : List ℕ = object_bytes (get_or ms k d).kind (get_or es k e) in
    sets_then l at (objects_bytes (take k ms) es) one (objects_length (take k ms)) (objects_length_lem (take k ms) es) f (r ∙ ap (λ (j : ℕ). sets m j one) g)
    ∙ ap (sets l at) (sym (objects_more ms es k d e h i) ∙ ap (λ (j : ℕ). objects_bytes (take j ms) es) (sym (add-one k)))

-- the sheet's two parts, one where the other ends
pub sheet_written : (l : List ℕ) {m n : List ℕ} (table : Table) (w : World) → m ≡ sets l 0 (each thread_bytes (filled absent table.thread_count w.threads))
    → n ≡ sets m (thread_record * table.thread_count) (objects_bytes (take table.object_count table.objects) w.objects) → n ≡ sets l 0 (sheet_of table w)
unfolding sheet_of
sheet_written l {m} table w e f =
    let ts = filled absent table.thread_count w.threads in
    let os = objects_bytes (take table.object_count table.objects) w.objects in
    let here : thread_record * table.thread_count ≡ 0 + thread_record * table.thread_count = omega arith in
    sets_then l 0 (each thread_bytes ts) os (thread_record * table.thread_count) (each-length thread_bytes thread_record thread-length ts ∙ ap (λ (j : ℕ). thread_record * j) (filled-length absent table.thread_count w.threads)) e (f ∙ ap (λ (j : ℕ). sets m j os) here)

-- a sheet that fits is written over the buffer's first bytes
pub sheet_over : (buffer : List ℕ) (table : Table) (w : World) → sheet_length table ≤ length buffer → sets buffer 0 (sheet_of table w) ≡ over (sheet_of table w) buffer
sheet_over buffer table w h =
    let s = sheet_of table w in
    let here : 0 + length s ≡ length s = omega arith in
    sets-eq s buffer 0 (omega (arith, sheet_length_lem table w)) ∙ ap (λ (j : ℕ). s ++ drop j buffer) here
