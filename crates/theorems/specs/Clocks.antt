-- The counts whose type ends at 255: positions and clocks. In every world that a sheet shows a position is at most 32, every count of every clock, a thread's, an
-- object's or a message's, at most 32, and every count of every dependence clock, a thread's or a recorded access's, at most 64. The laws are in proofs/Clocks.antt.
use Rattle.std.specs.Prelude.{ℕ}

-- what clocks count at most: one for each operation of a thread, and two in dependence clocks
abbrev pub most_own : ℕ
most_own = 32

abbrev pub most_dependence : ℕ
most_dependence = 64
