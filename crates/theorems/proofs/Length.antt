-- "No complete list is longer than 97 decisions per thread."
use Rattle.std.specs.Prelude.{◌≡◌, refl, Bool, List, [], ◌∷◌, ℕ, zero, suc, ◌+◌, ◌-◌, ◌*◌, ◌≤◌, ◌<◌, T, ltb, length, get_or, drop, replicate, None, Option, Some, Ok}
use Rattle.std.proofs.Common.{◌∙◌, ap, subst, arith, length-take, ltb-true}
use Rattle.clocks.specs.Clock.{max_threads}
use Rattle.clocks.specs.Pass.{pass_from}
use Rattle.clocks.specs.declared.thread.ThreadId.{ThreadId}
use Rattle.lists.specs.Rules.{Outcome, complete, is_nil, afterb}
use Rattle.lists.specs.Rules as outcome
use Rattle.rules.specs.declared.thread.Phase.{Phase}
use Rattle.rules.specs.declared.thread.Phase.TheVariants as phase
use Rattle.rules.specs.declared.thread.Thread.{Thread}
use Rattle.rules.specs.declared.table.Op.{Op}
use Rattle.rules.specs.declared.table.Table.{Table}
use Rattle.rules.specs.declared.world.World.{World}
use Rattle.rules.specs.Limits.{max_operations}
use Rattle.rules.specs.Ground.{absent}
use Rattle.rules.specs.Effect.{wait_of}
use Rattle.rules.specs.Table.{read_table, ops_of, no_op}
use Rattle.rules.specs.TableLaws.{Within}
use Rattle.rules.proofs.TableLaws.{by_test, read-within}
use Rattle.rules.specs.Turn.{thread_in, start_thread, start}
use Rattle.rules.specs.Judge.{Verdict, step}
use Rattle.rules.specs.Walk.{left_in, asked_of, left}
use Rattle.rules.specs.Demand.{Complete}
use Rattle.theorems.specs.Shape.{Shape, shape, shapes}
use Rattle.theorems.specs.Stage.{SoundIn, ops_at, left_shape, left_at, total}
use Rattle.theorems.specs.Falling.{Good, Ready}
use Rattle.theorems.proofs.Falling.{staged, left_sum, wait_small, sound_here, runnable_within, runs, asked_one, asked_none}
use Rattle.theorems.proofs.Machine.{some_runnable, keeps, falls}
use Rattle.theorems.proofs.Accepted.{start_good}

going : (ops : List Op) → left_in phase.Nothing ops ≡ 3 * length ops + 1
unfolding left_in
going ops = refl

-- a thread that has not ended has a decision before it
part_some : (f : Phase) (ops : List Op) → SoundIn f ops → 0 < left_in f ops
unfolding left_in
part_some phase.Nothing ops s = omega arith
part_some (phase.Announced p) ops s = omega (arith, s, wait_small (wait_of (get_or ops 0 no_op).call))
part_some phase.Parked ops s = omega (arith, s)
part_some (phase.Retaking p) ops s = omega (arith, s)

module _ (table : Table) (n : Within table) (w : World) (g : Good table w) where
  -- its part of the sum
  part_at : (t : ThreadId) → t.0 < max_threads → left_at table t.0 (shape (thread_in w t)) ≤ total table 0 (shapes w.threads)
  part_at t within = omega (arith, (staged table w g n t within).rest)

  pub left_some : 0 < left table w
  left_some = go w.asked refl g.ready
    where
      go : (a : Option ThreadId) → w.asked ≡ a → Ready table w.asked w.threads → 0 < left table w
      go None e r =
          let who = some_runnable w.threads (subst (λ (x : Option ThreadId). Ready table x w.threads) e r) in
          let t : ThreadId = record { 0 = who.0 } in
          let within = runnable_within table w g n t who.1 in
          let some : 0 < left_in (thread_in w t).phase (ops_at table t.0 (shape (thread_in w t))) = part_some (thread_in w t).phase _ (sound_here table w g n t within) in
          let alive : left_at table t.0 (shape (thread_in w t)) ≡ left_in (thread_in w t).phase (ops_at table t.0 (shape (thread_in w t))) =
          ap (λ (b : Bool). left_shape (record { position = (thread_in w t).position; phase = (thread_in w t).phase; ended = b }) (ops_at table t.0 (shape (thread_in w t)))) (runs (thread_in w t).state who.1) in
          let b : left table w ≡ total table 0 (shapes w.threads) - 0 = left_sum table w ∙ ap (λ (x : Option ThreadId). total table 0 (shapes w.threads) - asked_of x) e ∙ ap (λ (k : ℕ). total table 0 (shapes w.threads) - k) asked_none in
          omega (arith, some, alive, b, part_at t within)
      go (Some t) e r =
          let q : Ready table (Some t) w.threads = subst (λ (x : Option ThreadId). Ready table x w.threads) e r in
          let here : left_at table t.0 (shape (thread_in w t)) ≡ 3 * length (ops_at table t.0 (shape (thread_in w t))) + 1 =
          ap (λ (s : Shape). left_shape s (ops_at table t.0 (shape (thread_in w t)))) q.1 ∙ going (ops_at table t.0 (shape (thread_in w t))) in
          let b : left table w ≡ total table 0 (shapes w.threads) - 1 = left_sum table w ∙ ap (λ (x : Option ThreadId). total table 0 (shapes w.threads) - asked_of x) e ∙ ap (λ (k : ℕ). total table 0 (shapes w.threads) - k) (asked_one t) in
          omega (arith, here, b, q.2, part_at t q.0)

-- each decision takes at least one off
complete-left : (table : Table) (n : Within table) (l : List ℕ) (w : World) → Good table w → T (complete (step table) w l) → length l ≤ left table w
unfolding complete
complete-left table n [] w g c = omega arith
complete-left table n (d ∷ l) w g c = go (step table w d) refl c (λ v h k. complete-left table n l v h k)
  where
    alone : (m : List ℕ) → T (is_nil m) → length m ≡ 0
    alone [] h = refl
    alone (x ∷ m) h = absurd h

    go : (o : Outcome World Verdict) → step table w d ≡ o → T (afterb o (is_nil l) (λ v. complete (step table) v l))
        → ((v : World) → Good table v → T (complete (step table) v l) → length l ≤ left table v) → suc (length l) ≤ left table w
    go outcome.refused e h ih = absurd h
    go (outcome.done v) e h ih = omega (arith, alone l h, left_some table n w g)
    go (outcome.wants v) e h ih =
        let f = falls table n w d v g e in
        let i = ih v (keeps table n w d v g e) h in
        omega (arith, f, i)

-- at the start a thread that is there has at most 97 decisions before it
start_part : (table : Table) → Within table → (n k : ℕ) → left_at table k (shape (start_thread n k absent)) ≤ 97 * (n - k) - 97 * (n - suc k)
unfolding start_thread left_in ops_of
start_part table w n k =
    by_test (λ (t : Thread). left_at table k (shape t) ≤ 97 * (n - k) - 97 * (n - suc k)) (ltb k n)
    (λ e. omega (arith, length-take (get_or table.counts k 0) (drop (max_operations * k) table.ops), w.most k, ltb-true k n e)) (λ e. omega arith)

start-total : (table : Table) → Within table → (n k m : ℕ) → total table k (shapes (pass_from (start_thread n) k (replicate m absent))) ≤ 97 * (n - k)
start-total table w n k zero = omega arith
start-total table w n k (suc m) = omega (arith, start_part table w n k, start-total table w n (suc k) m)

pub start_left : (table : Table) → Within table → left table (start table) ≤ 97 * table.thread_count
unfolding start
start_left table w = omega (arith, left_sum table (start table), start-total table w table.thread_count 0 max_threads)

pub list_length : (bs : List ℕ) (table : Table) → read_table bs ≡ Ok table → (list : List ℕ) → Complete table list → length list ≤ 97 * table.thread_count
list_length bs table e list c =
    let h = read-within bs table e in
    omega (arith, complete-left table h.0 list (start table) (start_good table h.0 h.1) c, start_left table h.0)
