-- Each decision that wants another leaves a good world, with a smaller falling number. The laws are in proofs/Falling.antt.
use Rattle.std.specs.Prelude.{◌≡◌, get_or, None, Option, Some}
use Rattle.clocks.specs.declared.thread.ThreadId.{ThreadId}
use Rattle.std.proofs.Math.Bool.{true, false}
use mathlib.Core.List.{List}
use Prim.Native.Nat.{ℕ, ◌<◌}
use Rattle.std.proofs.Math.ListN.{length}
use Rattle.clocks.specs.Clock.{max_threads}
use Rattle.rules.specs.declared.thread.Phase.TheVariants as phase
use Rattle.rules.specs.declared.thread.Thread.{Thread}
use Rattle.rules.specs.declared.table.Table.{Table}
use Rattle.rules.specs.declared.world.Step.{Step}
use Rattle.rules.specs.declared.world.Step.TheVariants.{Refused, Done, Wants}
use Rattle.rules.specs.declared.world.World.{World}
use Rattle.rules.specs.declared.world.Decided.{Decided}
use Rattle.rules.specs.Ground.{thread_at}
use Rattle.rules.specs.Table.{no_op}
use Rattle.rules.specs.Effect.{wait_of}
use Rattle.rules.specs.Turn.{any_runnable}
use Rattle.rules.specs.Walk.{waits_for, left}
use Rattle.theorems.specs.Shape.{shape, shapes, Tidy}
use Rattle.theorems.specs.Stage.{ops_at, Sounds}

-- who may decide: a runnable thread, or the one that is asked, which stands before a wait that might end spuriously
abbrev pub Ready : Table → Option ThreadId → List Thread → Type 0
Ready table None ts = any_runnable ts ≡ true
Ready table (Some t) ts = (t.0 < max_threads) × (shape (thread_at ts t) ≡ record { position = (thread_at ts t).position; phase = phase.Nothing; ended = false })
    × (0 < length (ops_at table t.0 (shape (thread_at ts t)))) × (waits_for (wait_of (get_or (ops_at table t.0 (shape (thread_at ts t))) 0 no_op).call) ≡ 1)

-- a world that a run of an accepted table may reach, and in which a decision is wanted
pub record Good (table : Table) (w : World) : Type 0 where
  pub long : length w.threads ≡ max_threads
  pub tidy : Tidy (shapes w.threads)
  pub sounds : Sounds table 0 (shapes w.threads)
  pub ready : Ready table w.asked w.threads

-- what a decision comes to: where another is wanted, a good world with a falling number below B
abbrev pub Then : Table → ℕ → Step → World → Type 0
Then table B Refused w = Unit {0}
Then table B (Done a) w = Unit {0}
Then table B Wants w = Good table w × (left table w < B)

abbrev pub After : Table → ℕ → Decided → Type 0
After table B r = Then table B r.step r.world
