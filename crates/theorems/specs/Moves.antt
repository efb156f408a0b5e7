-- A bound on one place of every clock of a world, through the moves of a turn. The laws are in proofs/Moves.antt.
use Rattle.std.specs.Prelude.{List, ℕ}
use Rattle.rules.specs.declared.object.Entry.{Entry}
use Rattle.rules.specs.declared.thread.Phase.{Phase}
use Rattle.rules.specs.declared.thread.Thread.{Thread}
use Rattle.rules.specs.Object.{new_entry, no_object}
use Rattle.theorems.specs.All.{All}
use Rattle.theorems.specs.Kept.{Object, Threads}
use Rattle.theorems.specs.Place.{At}

module _ (k : ℕ) where
  -- place k of every clock is at most b, of every dependence clock at most c; `M` of every thread's number, position and phase
  pub record Clocks (b c : ℕ) (M : ℕ → ℕ → Phase → Type 0) (ts : List Thread) (es : List Entry) : Type 0 where
    pub threads : Threads (At k b) (At k c) M ts
    pub objects : All (λ i. Object (At k b) (At k c)) (new_entry no_object) es
