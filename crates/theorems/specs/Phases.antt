-- What a thread has announced, waits for when parked, or retakes, is what the operation at its position says; who is asked stands before a wait that may
-- end spuriously; and a thread that the table does not have has ended, with nothing announced. The laws are in proofs/Phases.antt.
use Rattle.std.specs.Prelude.{◌≡◌, ℕ, ◌≤◌, ◌<◌, get_or, drop, None, Option, Some}
use Rattle.clocks.specs.declared.thread.ThreadId.{ThreadId}
use Rattle.std.proofs.Math.Bool.{true}
use mathlib.Core.List.{List}
use Rattle.std.proofs.Math.ListN.{length}
use Rattle.rules.specs.declared.thread.State.TheVariants as state
use Rattle.rules.specs.declared.thread.Phase.{Phase}
use Rattle.rules.specs.declared.thread.Phase.TheVariants.{Nothing, Announced, Parked, Retaking}
use Rattle.rules.specs.declared.thread.Thread.{Thread}
use Rattle.rules.specs.declared.table.Op.{Op}
use Rattle.rules.specs.declared.table.Table.{Table}
use Rattle.rules.specs.declared.world.World.{World}
use Rattle.rules.specs.Limits.{max_objects}
use Rattle.rules.specs.Table.{no_op, ops_of}
use Rattle.rules.specs.Effect.{action_of, asks, wait_of}
use Rattle.rules.specs.Turn.{thread_in, entry_in, mutex_of, ops_left}

-- what a phase says of the operations that are not done
abbrev pub PhaseIs : Phase → List Op → Type 0
PhaseIs Nothing ops = Unit {0}
PhaseIs (Announced p) ops = (0 < length ops) × (p ≡ record { obj = (get_or ops 0 no_op).object; action = action_of (get_or ops 0 no_op).call })
PhaseIs Parked ops = (0 < length ops) × (wait_of (get_or ops 0 no_op).call ≡ Some (mutex_of (wait_of (get_or ops 0 no_op).call)))
PhaseIs (Retaking p) ops = (0 < length ops) × (wait_of (get_or ops 0 no_op).call ≡ Some p.obj)

module _ (table : Table) where
  -- a thread that the table does not have
  abbrev pub Gone : ℕ → Thread → Type 0
  Gone k x = table.thread_count ≤ k → (x.state ≡ state.Ended) × (x.phase ≡ Nothing)

  -- each thread
  abbrev pub Stand : ℕ → Thread → Type 0
  Stand k x = PhaseIs x.phase (drop x.position (ops_of table k)) × Gone k x

  -- who is asked
  abbrev pub AskedIs : Option ThreadId → World → Type 0
  AskedIs None w = Unit {0}
  AskedIs (Some t) w = (t.0 < table.thread_count) × ((thread_in w t).phase ≡ Nothing) × (0 < length (ops_left table w t))
      × (asks (get_or (ops_left table w t) 0 no_op).call (entry_in w (get_or (ops_left table w t) 0 no_op).object) ≡ true)

-- so what a phase names, before operations whose objects have places
abbrev pub NamedIn : Phase → List Op → Type 0
NamedIn Nothing ops = Unit {0}
NamedIn (Announced p) ops = p.obj.0 < max_objects
NamedIn Parked ops = (mutex_of (wait_of (get_or ops 0 no_op).call)).0 < max_objects
NamedIn (Retaking p) ops = p.obj.0 < max_objects
