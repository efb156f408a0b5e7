-- What a turn of t keeps of all clocks, where they may have whatever it joins and counts, and nothing is asked of its own position and phase. The laws are in proofs/Steady.antt.
use Rattle.std.specs.Prelude.{ℕ}
use mathlib.Core.List.{List}
use Rattle.clocks.specs.declared.clock.Clock.{Clock}
use Rattle.rules.specs.declared.object.Entry.{Entry}
use Rattle.rules.specs.declared.thread.Phase.{Phase}
use Rattle.rules.specs.declared.thread.Thread.{Thread}
use Rattle.rules.specs.Object.{new_entry, no_object}
use Rattle.theorems.specs.All.{All}
use Rattle.theorems.specs.Kept.{Object, Threads}

-- `C` of every clock, `D` of every dependence clock, `M` of every thread's number, position and phase, and `E` of the store of objects
pub record Steady (C D : Clock → Type 0) (M : ℕ → ℕ → Phase → Type 0) (E : List Entry → Type 0) (ts : List Thread) (es : List Entry) : Type 0 where
  pub threads : Threads C D M ts
  pub objects : All (λ i. Object C D) (new_entry no_object) es
  pub store : E es
