-- The first k threads have passed.
use Rattle.std.proofs.Common.{◌≡◌, replicate}
use Rattle.clocks.specs.Clock.{max_threads}
use Rattle.clocks.specs.Pass.{passed}
use Rattle.rules.specs.Ground.{absent}
use Rattle.rules.specs.Turn.{start_thread}
use Rattle.turns.proofs.start_threads.Given as goal

abbrev pub invariant-loop-k : goal.invariant-loop-k
invariant-loop-k l = l.t-items ≡ passed (start_thread l.n) l.k 0 (replicate max_threads absent)
