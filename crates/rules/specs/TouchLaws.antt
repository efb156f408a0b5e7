-- A thread that is resumed, for the laws of touches in proofs/TouchLaws.antt.
use Rattle.clocks.specs.declared.clock.Clock.{Clock}
use Rattle.rules.specs.declared.thread.Phase.TheVariants.{Nothing}
use Rattle.rules.specs.declared.thread.Thread.{Thread}
use Rattle.rules.specs.Ground.{with_phase, with_dependence}

-- a thread with nothing announced and the dependence clock v
abbrev pub resumed : Clock → Thread → Thread
resumed v x = with_phase (with_dependence x v) Nothing
