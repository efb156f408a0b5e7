-- The worlds of a run: what holds of the first and is kept by each decision, the last one too, holds of every world that a sheet shows. The laws are in proofs/Reached.antt.
use Rattle.std.specs.Prelude.{◌≡◌, ℕ}
use mathlib.Core.List.{List}
use Rattle.lists.specs.Judge.{Judged, not_allowed, surplus, unfinished, verdict, judge}
use Rattle.rules.specs.declared.table.Table.{Table}
use Rattle.rules.specs.declared.world.World.{World}
use Rattle.rules.specs.Turn.{start}
use Rattle.rules.specs.Judge.{Verdict, step}

-- the world that a judgement shows: that of answer 6, or a verdict's
abbrev pub ShownBy : Judged World Verdict → World → Type 0
ShownBy (not_allowed i) w = ⊥
ShownBy (surplus i) w = ⊥
ShownBy (unfinished v) w = v ≡ w
ShownBy (verdict v) w = v.world ≡ w

-- the sheet shows the world w after these decisions of a table
abbrev pub Shown : Table → List ℕ → World → Type 0
Shown table list w = ShownBy (judge (step table) 0 (start table) list) w

-- after these decisions of a table the world w stands, and one more decision is wanted
abbrev pub Reached : Table → List ℕ → World → Type 0
Reached table list w = judge (step table) 0 (start table) list ≡ unfinished w
