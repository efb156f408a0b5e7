-- Place k of every clock, in a turn of another thread than k: what it is at most stays. The laws are in proofs/Others.antt.
use Rattle.std.specs.Prelude.{ℕ}
use Rattle.rules.specs.declared.world.World.{World}
use Rattle.theorems.specs.Place.{At}
use Rattle.theorems.specs.Steady.{Steady}
use Rattle.theorems.specs.Weight.{Stay}

-- place k of every clock is at most b, of every dependence clock at most c
abbrev pub Under : ℕ → ℕ → ℕ → World → Type 0
Under k b c v = Steady (At k b) (At k c) (Stay k b c) (λ es. Unit {0}) v.threads v.objects
