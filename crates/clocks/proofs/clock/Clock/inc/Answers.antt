-- A place that is not there changes nothing, and any other holds one more.
use Rattle.std.proofs.Common.{rules}
use Rattle.clocks.specs.Clock.{inc_of}
use Rattle.clocks.proofs.Laws.{raised-past}
use Rattle.clocks.proofs.clock.Clock.inc.Goals as goal

pub returns-then-i-lt-THREADS : goal.returns-then-i-lt-THREADS
unfolding inc_of
returns-then-i-lt-THREADS c = search rules

pub returns-else-i-lt-THREADS : goal.returns-else-i-lt-THREADS
unfolding inc_of
returns-else-i-lt-THREADS c = search (rules, raised-past)
