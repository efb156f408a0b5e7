use Rattle.std.specs.Prelude.{None}
-- `start` meets its contract.
use Rattle.rules.specs.Turn.{start}
use Rattle.turns.proofs.start.Goals as goal

pub returns : goal.returns
unfolding start
returns c = λ i. record { threads = c.start_threads.ensures i; objects = c.start_objects.ensures i; turn = 0; asked = None }
