-- One place of every clock: a join keeps a bound on it, and a count that rises takes it one further at most, its own place only. The laws are in proofs/Place.antt.
use Rattle.std.specs.Prelude.{get_or}
use Prim.Native.Nat.{ℕ, ◌≤◌}
use Rattle.clocks.specs.declared.clock.Clock.{Clock}

-- the count at place k is at most b
abbrev pub At : ℕ → ℕ → Clock → Type 0
At k b c = get_or c.counts k 0 ≤ b
