-- What the operations before each thread's position come to, for an object: at most one for each, and one operation further when one is done. The words are in specs/Done.antt.
use Rattle.std.specs.Prelude.{◌≡◌, refl, ◌≢◌, List, ◌∷◌, ℕ, suc, ◌+◌, ◌≤◌, ◌<◌, eqb, length, get_or, drop, take}
use Rattle.std.proofs.Common.{◌∙◌, ap, arith, length-drop, length-take, eqb-true}
use Rattle.std.proofs.lemmas.Bool.{eqb-false}
use Rattle.clocks.specs.Clock.{max_threads, risen}
use Rattle.clocks.specs.declared.thread.ThreadId.{ThreadId}
use Rattle.rules.specs.declared.thread.Thread.{Thread}
use Rattle.rules.specs.declared.table.Call.{Call}
use Rattle.rules.specs.declared.table.Op.{Op}
use Rattle.rules.specs.declared.table.Table.{Table}
use Rattle.rules.specs.Limits.{max_operations, op_places}
use Rattle.rules.specs.Ground.{absent, thread_at, put_thread}
use Rattle.rules.specs.Table.{ops_of}
use Rattle.rules.specs.TableLaws.{Within}
use Rattle.rules.proofs.TableLaws.{by_test, ops_counted}
use Rattle.theorems.specs.Sums.{tally}
use Rattle.theorems.proofs.Sums.{sum_set, sum_same, sum_most, sum_less, tally_most, tally-next}
use Rattle.theorems.specs.Done.{on_object, done_of}

-- an operation on the object, and one on another
pub on_same : (f : Call → ℕ) (op : Op) → on_object f op.object.0 op ≡ f op.call
on_same f op = by_test (λ (m : ℕ). m ≡ f op.call) (eqb op.object.0 op.object.0) (λ e. refl) (λ e. absurd (eqb-false op.object.0 op.object.0 e refl))

pub on_other : (f : Call → ℕ) (o : ℕ) (op : Op) → o ≢ op.object.0 → on_object f o op ≡ 0
on_other f o op n = by_test (λ (m : ℕ). m ≡ 0) (eqb o op.object.0) (λ e. absurd (n (eqb-true o op.object.0 e))) (λ e. refl)

-- one that comes to nothing
pub on_none : (f : Call → ℕ) (o : ℕ) (op : Op) → f op.call ≡ 0 → on_object f o op ≡ 0
on_none f o op z = by_test (λ (m : ℕ). m ≡ 0) (eqb o op.object.0) (λ e. z) (λ e. refl)

pub on_small : (f : Call → ℕ) → ((c : Call) → f c ≤ 1) → (o : ℕ) (op : Op) → on_object f o op ≤ 1
on_small f h o op = by_test (λ (m : ℕ). m ≤ 1) (eqb o op.object.0) (λ e. h op.call) (λ e. omega arith)

module _ (table : Table) (limits : Within table) where
  -- a thread's part is at most `max_operations`, and less while it has an operation left
  part_most : (f : Call → ℕ) → ((c : Call) → f c ≤ 1) → (o k p : ℕ) → tally (on_object f o) (take p (ops_of table k)) ≤ max_operations
  part_most f h o k p = omega (arith, tally_most (on_object f o) (on_small f h o) (take p (ops_of table k)), length-take p (ops_of table k), ops_counted table k, limits.most k)

  part_less : (f : Call → ℕ) → ((c : Call) → f c ≤ 1) → (o k p : ℕ) → 0 < length (drop p (ops_of table k)) → tally (on_object f o) (take p (ops_of table k)) < max_operations
  part_less f h o k p l =
      omega (arith, tally_most (on_object f o) (on_small f h o) (take p (ops_of table k)), length-take p (ops_of table k), length-drop p (ops_of table k), l, ops_counted table k, limits.most k)

  -- so the sum
  pub done_most : (f : Call → ℕ) → ((c : Call) → f c ≤ 1) → (o : ℕ) (ts : List Thread) → length ts ≡ max_threads → done_of table f o ts ≤ op_places
  done_most f h o ts l =
      omega (arith, l, sum_most (λ k x. tally (on_object f o) (take x.position (ops_of table k))) max_operations ts absent (λ i. part_most f h o i (get_or ts i absent).position))

  pub done_less : (f : Call → ℕ) → ((c : Call) → f c ≤ 1) → (o : ℕ) (ts : List Thread) → length ts ≡ max_threads → (t : ThreadId) → t.0 < max_threads
      → 0 < length (drop (thread_at ts t).position (ops_of table t.0)) → done_of table f o ts < op_places
  done_less f h o ts l t m some =
      omega (
        arith,
        l,
        sum_less (λ k x. tally (on_object f o) (take x.position (ops_of table k))) max_operations ts absent (λ i. part_most f h o i (get_or ts i absent).position) t.0 (omega (arith, l, m))
            (part_less f h o t.0 (thread_at ts t).position some),
      )

  -- where positions stay, it stays
  pub done_same : (f : Call → ℕ) (o : ℕ) (ts us : List Thread) → length us ≡ length ts → ((k : ℕ) → (get_or us k absent).position ≡ (get_or ts k absent).position) → done_of table f o us ≡ done_of table f o ts
  done_same f o ts us l h =
      sum_same (λ k x. tally (on_object f o) (take x.position (ops_of table k))) us ts absent l (λ i. ap (λ (p : ℕ). tally (on_object f o) (take p (ops_of table i))) (h i))

  -- one operation more is done
  pub done_next : (f : Call → ℕ) (o : ℕ) (ts : List Thread) (t : ThreadId) (x : Thread) (op : Op) (ops : List Op) → t.0 < length ts → x.position ≡ risen 255 (thread_at ts t).position
      → drop (thread_at ts t).position (ops_of table t.0) ≡ op ∷ ops → done_of table f o (put_thread ts t x) ≡ done_of table f o ts + on_object f o op
  done_next f o ts t x op ops l q e =
      let p : ℕ = (thread_at ts t).position in
      let os : List Op = ops_of table t.0 in
      let long : length (drop p os) ≡ suc (length ops) = ap (λ (xs : List Op). length xs) e in
      let r : x.position ≡ suc p = omega (arith, q, long, length-drop p os, ops_counted table t.0, limits.most t.0) in
      let next : tally (on_object f o) (take x.position os) ≡ tally (on_object f o) (take p os) + on_object f o op =
      ap (λ (j : ℕ). tally (on_object f o) (take j os)) r ∙ tally-next (on_object f o) p os op ops e in
      omega (arith, next, sum_set (λ k y. tally (on_object f o) (take y.position (ops_of table k))) ts t.0 x absent l)
