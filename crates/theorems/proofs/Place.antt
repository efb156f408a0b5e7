-- One place of every clock: a join keeps a bound on it, and a count that rises takes it one further at most, its own place only. The words are in specs/Place.antt.
use Rattle.std.specs.Prelude.{◌≡◌, refl, ◌≢◌, List, eqb, ltb, length, get_or}
use Prim.Native.Nat.{ℕ, suc, ◌≤◌}
use Rattle.std.proofs.Common.{arith}
use Rattle.std.proofs.Math.ListN.{get_or-eq_default}
use borrow.Author.Tests.{ltb-true, ltb-false, eqb-true, eqb-false}
use Rattle.clocks.specs.Clock.{max_threads, zero_clock, risen, joined, join_of, inc_of}
use Rattle.clocks.proofs.Laws.{join_length, join_at, raised_other}
use Rattle.clocks.specs.declared.clock.Clock.{Clock}
use Rattle.clocks.specs.declared.thread.ThreadId.{ThreadId}
use Rattle.rules.proofs.TableLaws.{split}
use Rattle.theorems.proofs.All.{all_set, all_same}
use Rattle.theorems.specs.Place.{At}

module _ (k b : ℕ) where
  -- no count
  pub zero_at : At k b zero_clock
  zero_at = all_same (λ n. n ≤ b) 0 (omega arith) max_threads k

  -- the larger of two counts
  joined_at : (xs ys : List ℕ) → get_or xs k 0 ≤ b → get_or ys k 0 ≤ b → get_or (joined xs ys) k 0 ≤ b
  joined_at xs ys p q =
      split (ltb k (length xs)) (λ l. omega (arith, join_at xs ys k (ltb-true k (length xs) l), p, q))
      (λ l.
      let out : length (joined xs ys) ≤ k = omega (arith, ltb-false k (length xs) l, join_length xs ys) in
      omega (arith, get_or-eq_default (joined xs ys) 0 {n = k} out))

  -- of clocks
  pub join_at_most : (c d : Clock) → At k b c → At k b d → At k b (join_of c d)
  unfolding join_of
  join_at_most c d p q = joined_at c.counts d.counts p q

  -- a count one higher
  pub inc_at : (c : Clock) (t : ThreadId) → At k b c → At k (suc b) (inc_of c t)
  unfolding inc_of
  inc_at c t p =
      split (eqb k t.0)
      (λ e.
      let same : k ≡ t.0 = eqb-true k t.0 e in
      all_set (λ j n. j ≡ k → n ≤ suc b) 0 c.counts t.0 (risen 255 (get_or c.counts t.0 0)) (λ j f. rw f (omega (arith, p))) (λ f. rw f (omega (arith, p))) k refl)
      (λ e. omega (arith, p, raised_other c.counts t.0 k (eqb-false k t.0 e)))

  -- another thread's count
  pub inc_other : (c : Clock) (t : ThreadId) → k ≢ t.0 → At k b c → At k b (inc_of c t)
  unfolding inc_of
  inc_other c t n p = omega (arith, p, raised_other c.counts t.0 k n)
