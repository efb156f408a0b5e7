-- What a thread's place of every clock may have counted, by its position and phase. The laws are in proofs/Weight.antt.
use Rattle.std.specs.Prelude.{◌≡◌, List, ℕ, ◌+◌, ◌*◌, ◌≤◌, ◌<◌, length, get_or}
use Rattle.clocks.specs.declared.thread.ThreadId.{ThreadId}
use Rattle.rules.specs.declared.object.Entry.{Entry}
use Rattle.rules.specs.declared.thread.Phase.{Phase}
use Rattle.rules.specs.declared.thread.Phase.TheVariants.{Nothing, Announced, Parked, Retaking}
use Rattle.rules.specs.declared.thread.Thread.{Thread}
use Rattle.rules.specs.declared.table.Call.{Call}
use Rattle.rules.specs.declared.table.Op.{Op}
use Rattle.rules.specs.declared.world.World.{World}
use Rattle.rules.specs.Limits.{max_operations}
use Rattle.rules.specs.Ground.{thread_at}
use Rattle.theorems.specs.Moves.{Clocks}

-- What a thread's dependence count may be: two for each operation done, since a wait has two turns, and one for a wait that is queued.
abbrev pub dependence_of : ℕ → Phase → ℕ
dependence_of p Nothing = 2 * p
dependence_of p (Announced a) = 2 * p
dependence_of p Parked = 2 * p + 1
dependence_of p (Retaking a) = 2 * p + 1

module _ (k : ℕ) where
  -- thread k has done b operations, no more than it may have, and its dependence count may be c
  abbrev pub Stay : ℕ → ℕ → ℕ → ℕ → Phase → Type 0
  Stay b c j q f = j ≡ k → (q ≤ max_operations) × (q ≡ b) × (dependence_of q f ≡ c)

  -- thread k has done p operations and has announced nothing
  abbrev pub Going : ℕ → ℕ → ℕ → Phase → Type 0
  Going p j q f = j ≡ k → (q ≡ p) × (f ≡ Nothing)

  -- what a decision leaves: place k of every clock is at most the operations that thread k has done, and of every dependence clock what it may have counted
  pub record Bounded (w : World) : Type 0 where
    pub bound : ℕ
    pub depth : ℕ
    pub clocks : Clocks k bound depth (Stay bound depth) w.threads w.objects

  -- thread k, in its turn, before an effect: it has an operation left, and its own count is at most the operations done
  abbrev pub Spare : ThreadId → Call → Entry → List Thread → Type 0
  Spare t c e ts = t.0 ≡ k → ((thread_at ts t).position < max_operations) × (get_or (thread_at ts t).clock.counts k 0 < max_operations)

  -- in a turn of thread k: one for each operation done, and two in dependence clocks
  pub record Mid (ops : List Op) (v : World) : Type 0 where
    pub position : ℕ
    pub fits : position + length ops ≤ max_operations
    pub clocks : Clocks k position (2 * position) (Going position) v.threads v.objects
