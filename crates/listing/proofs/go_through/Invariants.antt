-- What is written, what waits and the lines that are still to come are the lines of all runs.
use Rattle.std.proofs.Common.{◌≡◌, ◌≤◌, ◌-◌, ◌^◌, ◌++◌, length, take}
use Rattle.listing.specs.Told.{lines, Moves}
use Rattle.listing.proofs.go_through.Given as goal

abbrev pub invariant-loop : goal.invariant-loop
invariant-loop g l = record {
  room : length l.out ≡ 65536;
  used : l.used ≤ 65536;
  moves : Moves (g.W.Write.contents l.initial.to) (lines (2 ^ 64 - 1) l.initial.next) (g.W.Write.contents l.to) (take l.used l.out ++ lines (2 ^ 64 - 1 - l.counter) l.next);
}
