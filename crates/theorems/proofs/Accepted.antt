-- The world that an accepted table starts with is good.
use Rattle.std.specs.Prelude.{◌≡◌, refl, true, ◌||◌, List, ℕ, zero, suc, ◌-◌, ◌<◌, ltb, replicate}
use Rattle.std.proofs.Common.{sym, subst, lt-ltb}
use Rattle.clocks.specs.Clock.{max_threads}
use Rattle.clocks.specs.Pass.{pass_from, pass-length}
use Rattle.rules.specs.declared.table.Table.{Table}
use Rattle.rules.specs.declared.thread.Phase.{Phase}
use Rattle.rules.specs.declared.thread.Phase.TheVariants as phase
use Rattle.rules.specs.declared.thread.Thread.{Thread}
use Rattle.rules.specs.Ground.{absent, is_runnable}
use Rattle.rules.specs.TableLaws.{Within}
use Rattle.rules.proofs.TableLaws.{by_test}
use Rattle.rules.specs.Turn.{any_runnable, start_thread, start}
use Rattle.theorems.specs.Shape.{shape, shapes, Tidy}
use Rattle.theorems.specs.Stage.{SoundIn, ops_at, Sounds}
use Rattle.theorems.specs.Falling.{Good}

-- the start
start_phase : (n k : ℕ) → (start_thread n k absent).phase ≡ phase.Nothing
unfolding start_thread
start_phase n k = by_test (λ (t : Thread). t.phase ≡ phase.Nothing) (ltb k n) (λ e. refl) (λ e. refl)

start_tidy : (n k m : ℕ) → Tidy (shapes (pass_from (start_thread n) k (replicate m absent)))
start_tidy n k zero = tt
start_tidy n k (suc m) = (λ e. start_phase n k, start_tidy n (suc k) m)

start_sounds : (table : Table) (n j k m : ℕ) → Sounds table j (shapes (pass_from (start_thread n) k (replicate m absent)))
start_sounds table n j k zero = tt
start_sounds table n j k (suc m) = (subst (λ (f : Phase). SoundIn f (ops_at table j (shape (start_thread n k absent)))) (sym (start_phase n k)) tt, start_sounds table n (suc j) (suc k) m)

pub start_good : (table : Table) → Within table → 0 < table.thread_count → Good table (start table)
unfolding start start_thread any_runnable
start_good table w some =
    let n : ℕ = table.thread_count in
    record {
      long = pass-length (start_thread n) 0 (replicate max_threads absent);
      tidy = start_tidy n 0 max_threads;
      sounds = start_sounds table n 0 0 max_threads;
      ready = first (start_thread n 0 absent) (rw (start_thread, lt-ltb 0 n some)) (pass_from (start_thread n) 1 (replicate (max_threads - 1) absent));
    }
  where
    first : (t : Thread) → is_runnable t.state ≡ true → (ts : List Thread) → (is_runnable t.state || any_runnable ts) ≡ true
    first t e ts = rw e
