-- Document 01, "The table, as bytes": kinds, bodies, limits, the first bad record and its refusal.
use Rattle.std.specs.Prelude.{Bool, true, false, ◌&&◌, List, [], ◌∷◌, ℕ, zero, suc, ◌+◌, ◌-◌, ◌*◌, eqb, ltb, leb, length, get_or, set, drop, take, replicate, None, Option, Some, Result, Err, Ok}
use Rattle.rules.specs.declared.table.Record.{Record}
use Rattle.clocks.specs.Clock.{max_threads}
use Rattle.rules.specs.declared.object.ObjectId.{ObjectId}
use Rattle.rules.specs.declared.object.Kind.{Kind}
use Rattle.rules.specs.declared.object.Kind.TheVariants as kind
use Rattle.rules.specs.declared.mutex.Call.TheVariants as mutex
use Rattle.rules.specs.declared.rwlock.Call.TheVariants as rwlock
use Rattle.rules.specs.declared.condvar.Call.TheVariants as condvar
use Rattle.rules.specs.declared.notify.Call.TheVariants as notify
use Rattle.rules.specs.declared.mpsc.Call.TheVariants as mpsc
use Rattle.rules.specs.declared.arc.Call.TheVariants as arc
use Rattle.rules.specs.declared.cell.Call.TheVariants as cell
use Rattle.rules.specs.declared.table.Call.{Call}
use Rattle.rules.specs.declared.table.Call.TheVariants.{Mutex, RwLock, Condvar, Notify, Channel, Arc, Cell}
use Rattle.rules.specs.declared.table.Op.{Op}
use Rattle.rules.specs.declared.table.Made.{Made}
use Rattle.rules.specs.declared.table.Table.{Table}
use Rattle.rules.specs.declared.table.Record.TheVariants as rec
use Rattle.rules.specs.declared.answer.Answer.{Answer}
use Rattle.rules.specs.declared.answer.Answer.TheVariants.{BadRecord, TooMany, BadObject}
use Rattle.rules.specs.Limits.{max_objects, max_operations, op_places}
use Rattle.rules.specs.Object.{no_object}
use Rattle.rules.specs.Effect.{wait_of}

-- the operations, from 30 to 47 in order; `b` is the second byte of the body
unfoldable pub calls : ℕ → List Call
calls b =
    Mutex mutex.AcquireLock
    ∷ Mutex mutex.TryAcquireLock
    ∷ Mutex mutex.ReleaseLock
    ∷ RwLock rwlock.AcquireReadLock
    ∷ RwLock rwlock.AcquireWriteLock
    ∷ RwLock rwlock.TryAcquireReadLock
    ∷ RwLock rwlock.TryAcquireWriteLock
    ∷ RwLock rwlock.ReleaseReadLock
    ∷ RwLock rwlock.ReleaseWriteLock
    ∷ Condvar (condvar.Wait (record { 0 = b }))
    ∷ Condvar condvar.NotifyOne
    ∷ Condvar condvar.NotifyAll
    ∷ Notify notify.Notify
    ∷ Notify notify.Wait
    ∷ Channel mpsc.Send
    ∷ Channel mpsc.Recv
    ∷ Arc arc.RefInc
    ∷ Arc arc.RefDec
    ∷ Arc arc.GetMut
    ∷ Arc arc.StrongCount
    ∷ Cell cell.StartRead
    ∷ Cell cell.EndRead
    ∷ Cell cell.StartWrite
    ∷ Cell cell.EndWrite
    ∷ []

-- the objects, from 10 to 16 in order
unfoldable pub kinds : List Kind
kinds = kind.Mutex ∷ kind.RwLock ∷ kind.Condvar ∷ kind.Notify ∷ kind.Channel ∷ kind.Arc ∷ kind.Cell ∷ []

unfoldable pub is_object : ℕ → Bool
is_object k = leb 0x10 k && leb k 0x16

unfoldable pub is_operation : ℕ → Bool
is_operation k = leb 0x30 k && leb k 0x47

-- "a body whose length the kind fixes": 10 has a flag, 13 two, an operation an object number, 39 two
unfoldable pub body_length : ℕ → ℕ
body_length k =
    elim (eqb k 0x10)
    [ true ↦ 1 | false ↦ elim (eqb k 0x13) [ true ↦ 2 | false ↦ elim (eqb k 0x39) [ true ↦ 2 | false ↦ elim (is_operation k) [ true ↦ 1 | false ↦ 0 ] ] ] ]

-- "Flags are 0 or 1."; the second one of a Notify says spurious
unfoldable pub object_of : ℕ → ℕ → ℕ → Option Record
object_of n first second = elim (leb first 1 && leb second 1) [ true ↦ Some (rec.Object (record { kind = get_or kinds n kind.Nothing; spurious = eqb second 1 })) | false ↦ None ]

unfoldable pub operation_of : ℕ → ℕ → ℕ → Option Record
operation_of n first second = Some (rec.Operation (record { call = get_or (calls second) n (Mutex mutex.AcquireLock); object = record { 0 = first } }))

-- the record of kind k whose body has these two bytes, 0 where it has none
unfoldable pub whole_record : ℕ → ℕ → ℕ → Option Record
whole_record k first second =
    elim (is_object k) [
      | true ↦ object_of (k - 0x10) first second
      | false ↦ elim (eqb k 0x20) [ true ↦ Some rec.Thread | false ↦ elim (is_operation k) [ true ↦ operation_of (k - 0x30) first second | false ↦ None ] ]
    ]

-- byte i of a body of n bytes that stands before the bytes `rest`; 0 if it has none
abbrev pub body_byte : ℕ → List ℕ → ℕ → ℕ
body_byte n rest i = get_or (take n rest) i 0

-- the record that begins with the kind k, before the bytes `rest`; "unknown kind, body cut short, bad flag" are None
unfoldable pub record_of : ℕ → List ℕ → Option Record
record_of k rest =
    elim (leb (body_length k) (length rest)) [ true ↦ whole_record k (body_byte (body_length k) rest 0) (body_byte (body_length k) rest 1) | false ↦ None ]

-- the kind of object that an operation is on
abbrev pub kind_of : Call → Kind
kind_of (Mutex c) = kind.Mutex
kind_of (RwLock c) = kind.RwLock
kind_of (Condvar c) = kind.Condvar
kind_of (Notify c) = kind.Notify
kind_of (Channel c) = kind.Channel
kind_of (Arc c) = kind.Arc
kind_of (Cell c) = kind.Cell

abbrev pub kind_number : Kind → ℕ
kind_number kind.Mutex = 0
kind_number kind.RwLock = 1
kind_number kind.Condvar = 2
kind_number kind.Notify = 3
kind_number kind.Channel = 4
kind_number kind.Arc = 5
kind_number kind.Cell = 6
kind_number kind.Nothing = 7

-- the object is there and of the kind
unfoldable pub is_kind : List Made → ObjectId → Kind → Bool
is_kind ms o k = eqb (kind_number (get_or ms o.0 no_object).kind) (kind_number k)

abbrev pub mutex_fine : List Made → Option ObjectId → Bool
mutex_fine ms None = true
mutex_fine ms (Some m) = is_kind ms m kind.Mutex

-- "object absent or of the wrong kind (for 39: condvar checked before mutex)"
unfoldable pub objects_fine : List Made → Op → Bool
objects_fine ms op = is_kind ms op.object (kind_of op.call) && mutex_fine ms (wait_of op.call)

-- a table with no record
abbrev pub no_op : Op
no_op = record { call = Mutex mutex.AcquireLock; object = record { 0 = 0 } }

unfoldable pub empty_table : Table
empty_table = record { objects = replicate max_objects no_object; object_count = 0; ops = replicate op_places no_op; counts = replicate max_threads 0; thread_count = 0 }

-- one more object, thread, operation of the last thread
unfoldable pub with_object : Table → Made → Table
with_object t m = record {
  objects = set t.objects t.object_count m;
  object_count = t.object_count + 1;
  ops = t.ops;
  counts = t.counts;
  thread_count = t.thread_count;
}

unfoldable pub with_thread : Table → Table
with_thread t = record { objects = t.objects; object_count = t.object_count; ops = t.ops; counts = t.counts; thread_count = t.thread_count + 1 }

abbrev pub last_of : List ℕ → ℕ → ℕ
last_of counts n = get_or counts (n - 1) 0

abbrev pub last_count : Table → ℕ
last_count t = last_of t.counts t.thread_count

unfoldable pub with_op : Table → Op → Table
with_op t op = record {
  objects = t.objects;
  object_count = t.object_count;
  ops = set t.ops (max_operations * (t.thread_count - 1) + last_count t) op;
  counts = set t.counts (t.thread_count - 1) (last_count t + 1);
  thread_count = t.thread_count;
}

-- what reading a table comes to
abbrev pub Read : Type 0
Read = Result Table Answer

-- the first of the tests 20, 21, 22 that fails, at the place of the record's first byte; the rest is read with `go`
unfoldable pub object_record : ℕ → Table → Made → (Table → Read) → Read
object_record at t m go =
    elim (eqb t.thread_count 0)
    [ true ↦ elim (ltb t.object_count max_objects) [ true ↦ go (with_object t m) | false ↦ Err (TooMany at) ] | false ↦ Err (BadRecord at) ]

unfoldable pub thread_record : ℕ → Table → (Table → Read) → Read
thread_record at t go = elim (ltb t.thread_count max_threads) [ true ↦ go (with_thread t) | false ↦ Err (TooMany at) ]

unfoldable pub operation_record : ℕ → Table → Op → (Table → Read) → Read
operation_record at t op go =
    elim (eqb t.thread_count 0) [
      | true ↦ Err (BadRecord at)
      | false ↦
          elim (ltb (last_count t) max_operations)
          [ true ↦ elim (objects_fine t.objects op) [ true ↦ go (with_op t op) | false ↦ Err (BadObject at) ] | false ↦ Err (TooMany at) ]
    ]

unfoldable pub one_record : ℕ → Table → Option Record → (Table → Read) → Read
one_record at t (Some (rec.Object m)) go = object_record at t m go
one_record at t (Some rec.Thread) go = thread_record at t go
one_record at t (Some (rec.Operation op)) go = operation_record at t op go
one_record at t None go = Err (BadRecord at)

-- "no thread at all (place: table length)"
unfoldable pub at_end : ℕ → Table → Read
at_end at t = elim (eqb t.thread_count 0) [ true ↦ Err (TooMany at) | false ↦ Ok t ]

-- the records from the place `at` on; n is at least the number of bytes left, so that it never runs out
unfoldable pub read_from : ℕ → ℕ → List ℕ → Table → Read
read_from zero at bs t = at_end at t
read_from (suc n) at [] t = at_end at t
read_from (suc n) at (k ∷ bs) t = one_record at t (record_of k bs) (read_from n (at + 1 + body_length k) (drop (body_length k) bs))

unfoldable pub read_table : List ℕ → Read
read_table bs = read_from (length bs) 0 bs empty_table

-- the operations of a thread
unfoldable pub ops_of : Table → ℕ → List Op
ops_of t k = take (get_or t.counts k 0) (drop (max_operations * k) t.ops)
