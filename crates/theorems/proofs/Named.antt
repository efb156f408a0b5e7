-- The objects that an accepted table's operations name are among its places. The words are in specs/Named.antt.
use Rattle.std.specs.Prelude.{◌≡◌, refl, Bool, true, false, ◌&&◌, List, [], ◌∷◌, ℕ, zero, suc, ◌*◌, ◌≤◌, ◌<◌, ltb, length, get_or, drop, take, None, Option, Some, Ok}
use Rattle.std.proofs.Common.{◌∙◌, ap, arith, length-set, ltb-true, ltb-false, eqb-true}
use Rattle.std.proofs.lemmas.Bool.{false≢true}
use Rattle.std.proofs.Math.ListN.{get_or-eq_default}
use Rattle.rules.specs.declared.object.ObjectId.{ObjectId}
use Rattle.rules.specs.declared.object.Kind.{Kind}
use Rattle.rules.specs.declared.object.Kind.TheVariants as kind
use Rattle.rules.specs.declared.table.Call.{Call}
use Rattle.rules.specs.declared.table.Call.TheVariants.{Mutex, RwLock, Condvar, Notify, Channel, Arc, Cell}
use Rattle.rules.specs.declared.table.Made.{Made}
use Rattle.rules.specs.declared.table.Op.{Op}
use Rattle.rules.specs.declared.table.Table.{Table}
use Rattle.rules.specs.Limits.{max_objects, max_operations, op_places}
use Rattle.rules.specs.Object.{no_object}
use Rattle.rules.specs.Effect.{wait_of}
use Rattle.rules.specs.Table.{kind_of, kind_number, is_kind, mutex_fine, objects_fine, no_op, with_object, with_thread, with_op, empty_table, read_table, ops_of}
use Rattle.rules.proofs.TableLaws.{split, accepted_by}
use Rattle.theorems.specs.All.{All}
use Rattle.theorems.proofs.All.{all_set, all_same}
use Rattle.theorems.specs.Named.{MutexNamed, Named}

-- a table whose operations do
abbrev Fine : Table → Type 0
Fine t = (length t.objects ≡ max_objects) × All (λ k. Named) no_op t.ops

-- an object of a kind is there
kind_there : (ms : List Made) (o : ObjectId) (k : Kind) → length ms ≡ max_objects → kind_number k < kind_number kind.Nothing → is_kind ms o k ≡ true → o.0 < max_objects
unfolding is_kind
kind_there ms o k l low e =
    split (ltb o.0 max_objects) (λ h. ltb-true o.0 max_objects h)
    (λ h.
    let out : length ms ≤ o.0 = omega (arith, l, ltb-false o.0 max_objects h) in
    let none : kind_number (get_or ms o.0 no_object).kind ≡ kind_number kind.Nothing = ap (λ (m : Made). kind_number m.kind) (get_or-eq_default ms no_object out) in
    absurd (omega (arith, none, low, eqb-true (kind_number (get_or ms o.0 no_object).kind) (kind_number k) e)))

-- every call is on a kind
kind_low : (c : Call) → kind_number (kind_of c) < kind_number kind.Nothing
kind_low (Mutex c) = omega arith
kind_low (RwLock c) = omega arith
kind_low (Condvar c) = omega arith
kind_low (Notify c) = omega arith
kind_low (Channel c) = omega arith
kind_low (Arc c) = omega arith
kind_low (Cell c) = omega arith

-- a wait's mutex is there
mutex_there : (ms : List Made) (m : Option ObjectId) → length ms ≡ max_objects → mutex_fine ms m ≡ true → MutexNamed m
mutex_there ms None l e = tt
mutex_there ms (Some m) l e = kind_there ms m kind.Mutex l (omega arith) e

-- both halves of an and
pub both : (a b : Bool) → (a && b) ≡ true → (a ≡ true) × (b ≡ true)
both true b e = (refl, e)
both false b e = absurd (false≢true e)

-- what an operation names is there
named : (ms : List Made) (op : Op) → length ms ≡ max_objects → objects_fine ms op ≡ true → Named op
unfolding objects_fine
named ms op l e =
    let h = both (is_kind ms op.object (kind_of op.call)) (mutex_fine ms (wait_of op.call)) e in
    (kind_there ms op.object (kind_of op.call) l (kind_low op.call) h.0, mutex_there ms (wait_of op.call) l h.1)

-- one more operation
op-fine : (t : Table) (op : Op) → Fine t → Named op → Fine (with_op t op)
unfolding with_op
op-fine t op h n = (h.0, all_set (λ k. Named) no_op t.ops _ op h.1 n)

-- one more object
object_fine : (t : Table) (m : Made) → Fine t → Fine (with_object t m)
unfolding with_object
object_fine t m h = (length-set t.objects _ m ∙ h.0, h.1)

-- one more thread
thread-fine : (t : Table) → Fine t → Fine (with_thread t)
unfolding with_thread
thread-fine t h = h

-- no record
empty-fine : Fine empty_table
unfolding empty_table
empty-fine = (refl, all_same Named no_op (omega arith, tt) op_places)

-- so an accepted table
read-fine : (bs : List ℕ) (table : Table) → read_table bs ≡ Ok table → Fine table
read-fine bs table e =
    (accepted_by Fine (λ t m l h. object_fine t m h) (λ t l h. thread-fine t h) (λ t op l f h. op-fine t op h (named t.objects op h.0 f)) empty-fine bs table e).0

-- an accepted table has its places for objects
pub objects_there : (bs : List ℕ) (table : Table) → read_table bs ≡ Ok table → length table.objects ≡ max_objects
objects_there bs table e = (read-fine bs table e).0

-- and each operation that is left to a thread names objects that have places; a place that is not there reads an operation that does, too
named_take : (n : ℕ) (ops : List Op) → All (λ k. Named) no_op ops → All (λ k. Named) no_op (take n ops)
named_take zero ops h k = (omega arith, tt)
named_take (suc n) [] h k = h k
named_take (suc n) (op ∷ ops) h zero = h 0
named_take (suc n) (op ∷ ops) h (suc k) = named_take n ops (λ j. h (suc j)) k

-- after the first n
named_drop : (n : ℕ) (ops : List Op) → All (λ k. Named) no_op ops → All (λ k. Named) no_op (drop n ops)
named_drop zero ops h k = h k
named_drop (suc n) [] h k = h k
named_drop (suc n) (op ∷ ops) h k = named_drop n ops (λ j. h (suc j)) k

-- of a thread, from a position on
pub ops_named : (bs : List ℕ) (table : Table) → read_table bs ≡ Ok table → (t p k : ℕ) → Named (get_or (drop p (ops_of table t)) k no_op)
unfolding ops_of
ops_named bs table e t p k =
    named_drop p (ops_of table t) (named_take (get_or table.counts t 0) (drop (max_operations * t) table.ops) (named_drop (max_operations * t) table.ops (read-fine bs table e).1)) k
