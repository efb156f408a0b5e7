-- The mask is that of the places from i on.
use Rattle.std.proofs.Common.{◌≡◌, ◌+◌, length, drop}
use Rattle.clocks.specs.Clock.{max_threads, aheads, lowest_of}
use Rattle.clocks.proofs.Laws.{Down}
use Rattle.clocks.proofs.clock.Clock.ahead.Given as goal

abbrev pub invariant-loop-i : goal.invariant-loop-i
invariant-loop-i l = let bs = aheads l.self.counts l.other.counts in (length bs ≡ max_threads) × Down bs l.mask (l.i + lowest_of (drop l.i bs)) l.i
