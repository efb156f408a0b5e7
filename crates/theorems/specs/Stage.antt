-- A turn seen from one thread: the falling numbers of all the others stay, and the active thread's own goes with its shape. The laws are in proofs/Stage.antt.
use Rattle.std.specs.Prelude.{◌≡◌, true, false, List, [], ◌∷◌, ℕ, suc, ◌+◌, ◌<◌, length, drop}
use Rattle.clocks.specs.Clock.{max_threads}
use Rattle.clocks.specs.declared.thread.ThreadId.{ThreadId}
use Rattle.rules.specs.declared.thread.Phase.{Phase}
use Rattle.rules.specs.declared.thread.Phase.TheVariants as phase
use Rattle.rules.specs.declared.thread.Thread.{Thread}
use Rattle.rules.specs.declared.table.Op.{Op}
use Rattle.rules.specs.declared.table.Table.{Table}
use Rattle.rules.specs.Ground.{thread_at}
use Rattle.rules.specs.Table.{ops_of}
use Rattle.rules.specs.Walk.{left_in}
use Rattle.theorems.specs.Shape.{Shape, shape, shapes, Tidy}

-- a shape's part of the falling number
abbrev pub left_shape : Shape → List Op → ℕ
left_shape s ops = elim s.ended [ true ↦ 0 | false ↦ left_in s.phase ops ]

abbrev pub ops_at : Table → ℕ → Shape → List Op
ops_at table k s = drop s.position (ops_of table k)

abbrev pub left_at : Table → ℕ → Shape → ℕ
left_at table k s = left_shape s (ops_at table k s)

abbrev pub total : Table → ℕ → List Shape → ℕ
total table k [] = 0
total table k (s ∷ ss) = left_at table k s + total table (suc k) ss

-- what is announced, parked or retaken is an operation that is left
abbrev pub SoundIn : Phase → List Op → Type 0
SoundIn phase.Nothing ops = Unit {0}
SoundIn (phase.Announced p) ops = 0 < length ops
SoundIn phase.Parked ops = 0 < length ops
SoundIn (phase.Retaking p) ops = 0 < length ops

abbrev pub Sound : Table → ℕ → Shape → Type 0
Sound table k s = SoundIn s.phase (ops_at table k s)

abbrev pub Sounds : Table → ℕ → List Shape → Type 0
Sounds table k [] = Unit {0}
Sounds table k (s ∷ ss) = Sound table k s × Sounds table (suc k) ss

-- the threads, with t in the shape s and the others' falling numbers R in all
pub record Stage (table : Table) (t : ThreadId) (R : ℕ) (s : Shape) (ts : List Thread) : Type 0 where
  pub long : length ts ≡ max_threads
  pub tidy : Tidy (shapes ts)
  pub sounds : Sounds table 0 (shapes ts)
  pub here : shape (thread_at ts t) ≡ s
  pub rest : total table 0 (shapes ts) ≡ R + left_at table t.0 s
