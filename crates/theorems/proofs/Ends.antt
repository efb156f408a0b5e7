-- No run of an accepted table meets a type's end: wherever a count rises, it rises by one. The words are in specs/Ends.antt.
use Rattle.std.specs.Prelude.{◌≡◌, List, ℕ, ◌+◌, ◌<◌, get_or, Ok}
use Rattle.std.proofs.Common.{arith}
use Rattle.clocks.specs.Clock.{risen}
use Rattle.clocks.specs.declared.thread.ThreadId.{ThreadId}
use Rattle.rules.specs.declared.object.Entry.{Entry}
use Rattle.rules.specs.declared.thread.Thread.{Thread}
use Rattle.rules.specs.declared.table.Call.{Call}
use Rattle.rules.specs.declared.table.Table.{Table}
use Rattle.rules.specs.declared.world.World.{World}
use Rattle.rules.specs.Limits.{max_operations}
use Rattle.rules.specs.Ground.{thread_at}
use Rattle.rules.specs.Table.{read_table}
use Rattle.theorems.proofs.Touches.{keeps_position}
use Rattle.theorems.specs.Reached.{Shown, Reached}
use Rattle.theorems.specs.Each.{Each}
use Rattle.theorems.proofs.Each.{each_both}
use Rattle.theorems.proofs.Turns.{turn_rises}
use Rattle.theorems.proofs.Counts.{arc_below, reading_below}
use Rattle.theorems.specs.Clocks.{most_own}
use Rattle.theorems.proofs.Clocks.{position_few, dependence_below, counts_below}
use Rattle.theorems.specs.Ends.{Plain, NoEnd}

-- a count below its type's end rises by one
plain : (end n : ℕ) → n < end → risen end n ≡ n + 1
plain end n l = omega (arith, l)

-- a position and an own count that have room
abbrev Thin : ThreadId → Call → Entry → List Thread → Type 0
Thin t c e ts = ((thread_at ts t).position < max_operations) × (get_or (thread_at ts t).clock.counts t.0 0 < most_own)

-- an Arc's count and a cell's readers that have room
abbrev Few : ThreadId → Call → Entry → List Thread → Type 0
Few t c e ts = (e.arc.ref_cnt < 193) × (e.cell.is_reading < 192)

-- every effect of a decision
plain_effects : (bs list : List ℕ) (table : Table) (w : World) → read_table bs ≡ Ok table → Reached table list w → (d : ℕ) → Each Plain table w d
plain_effects bs list table w a e d =
    let few : Each Few table w d =
    each_both (λ t c x ts. x.arc.ref_cnt < 193) (λ t c x ts. x.cell.is_reading < 192) Few d (λ c x ts p q. (p, q)) table w (arc_below bs list table w a e d)
    (reading_below bs list table w a e d) in
    each_both Thin Few Plain d
    (λ c x ts p q.
    record {
      position = λ o. plain 255 _ (omega (arith, keeps_position c (record { 0 = d }) o x ts, p.0));
      own = plain 255 _ (omega (arith, p.1));
      arc = plain 65535 _ (omega (arith, q.0));
      readers = plain 65535 _ (omega (arith, q.1));
    }) table w (counts_below bs list table w a e d) few

-- every world that the sheet of an accepted table shows
pub no_end : (bs list : List ℕ) (table : Table) (w : World) → read_table bs ≡ Ok table → Shown table list w → (d : ℕ) → NoEnd table list w d
no_end bs list table w a e d =
    record {
      turn = turn_rises bs list table w a e;
      position = λ t. plain 255 _ (omega (arith, position_few bs list table w a e t));
      dependence = λ t x o. plain 255 _ (omega (arith, dependence_below bs list table w a e t x o));
      effects = λ r. plain_effects bs list table w a r d;
    }
