-- What an effect leaves as it is: no thread's position, none's phase, and nobody ends or comes back. So a turn moves the active thread alone. The laws are in proofs/Shape.antt.
use Rattle.std.specs.Prelude.{◌≡◌, Bool, true, List, [], ◌∷◌, map, ℕ}
use Rattle.rules.specs.declared.thread.Phase.{Phase}
use Rattle.rules.specs.declared.thread.Phase.TheVariants as phase
use Rattle.rules.specs.declared.thread.Thread.{Thread}
use Rattle.rules.specs.Ground.{is_ended}

-- what of a thread a falling number looks at
pub record Shape : Type 0 where
  pub position : ℕ
  pub phase : Phase
  pub ended : Bool

abbrev pub shape : Thread → Shape
shape t = record { position = t.position; phase = t.phase; ended = is_ended t.state }

abbrev pub shapes : List Thread → List Shape
shapes ts = map shape ts

-- who has ended announces nothing
abbrev pub TidyOne : Shape → Type 0
TidyOne s = s.ended ≡ true → s.phase ≡ phase.Nothing

abbrev pub Tidy : List Shape → Type 0
Tidy [] = Unit {0}
Tidy (s ∷ ss) = TidyOne s × Tidy ss

-- the threads `us` have the shapes of `ts`
abbrev pub Keeps : List Thread → List Thread → Type 0
Keeps ts us = shapes us ≡ shapes ts
