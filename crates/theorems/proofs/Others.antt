-- Place k of every clock, in a turn of another thread than k: what it is at most stays. The words are in specs/Others.antt.
use Rattle.std.proofs.Common.{sym}
use Rattle.std.specs.Prelude.{◌≢◌, ℕ}
use Rattle.clocks.specs.declared.thread.ThreadId.{ThreadId}
use Rattle.rules.specs.declared.table.Table.{Table}
use Rattle.rules.specs.declared.world.World.{World}
use Rattle.theorems.specs.Each.{Begins, Answers}
use Rattle.theorems.specs.Place.{At}
use Rattle.theorems.proofs.Place.{zero_at, join_at_most, inc_other}
use Rattle.theorems.specs.Moves.{Clocks}
use Rattle.theorems.proofs.Steady.{steady}
use Rattle.theorems.specs.Weight.{Stay, Bounded, Spare}
use Rattle.theorems.specs.Others.{Under}

-- a turn of t, and an answer to a question
pub other_turn : (k b c : ℕ) (t : ThreadId) → k ≢ t.0 → (table : Table) (w : World) → Clocks k b c (Stay k b c) w.threads w.objects
    → Begins table w t (Spare k) (λ n v. Under k b c v) (Bounded k) × Answers table w t (Bounded k)
other_turn k b c t other table w h =
    steady (At k b) (At k c) (Stay k b c) (λ es. Unit {0}) (join_at_most k b) (zero_at k b) (join_at_most k c) (zero_at k c) (λ es o e u. tt) t (λ x. inc_other k b x t other) (λ x. inc_other k c x t other)
    (λ q f e. absurd (other (sym e))) (Spare k) (λ x e ts i y f. absurd (other (sym f))) (Bounded k)
    (λ v i. record { bound = b; depth = c; clocks = record { threads = i.threads; objects = i.objects } }) table w (record { threads = h.threads; objects = h.objects; store = tt })
