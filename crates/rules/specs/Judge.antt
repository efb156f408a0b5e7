-- Document 01, "Numbers given back": judging a list. What is answered, and each byte of the lent buffer afterwards.
use Rattle.std.specs.Prelude.{true, false, List, ◌++◌, ℕ, leb, length, drop, Err, Ok}
use Rattle.lists.specs.Rules.{Outcome}
use Rattle.lists.specs.Rules as rules
use Rattle.lists.specs.Judge.{Judged, not_allowed, surplus, unfinished, verdict, judge}
use Rattle.rules.specs.declared.answer.Answer.{Answer}
use Rattle.rules.specs.declared.answer.Answer.TheVariants.{More, NotAllowed, Surplus, TooShort}
use Rattle.rules.specs.declared.table.Table.{Table}
use Rattle.rules.specs.declared.world.World.{World}
use Rattle.rules.specs.declared.world.Step.{Step}
use Rattle.rules.specs.declared.world.Step.TheVariants.{Refused, Done, Wants}
use Rattle.rules.specs.Table.{Read, read_table}
use Rattle.rules.specs.Turn.{decide, start}
use Rattle.rules.specs.Sheet.{sheet_of, sheet_length}

-- a verdict: the answer, and the world that the sheet shows
pub record Verdict : Type 0 where
  pub answer : Answer
  pub world : World

-- one decision as the walk over complete lists sees it
unfoldable pub outcome_of : Step → World → Outcome World Verdict
outcome_of Refused w = rules.refused
outcome_of (Done a) w = rules.done (record { answer = a; world = w })
outcome_of Wants w = rules.wants w

unfoldable pub step : Table → World → ℕ → Outcome World Verdict
step table w d = let r = decide table w d in outcome_of r.step r.world

-- what a call gives back: the answer, and the lent buffer as it is then
pub record Given : Type 0 where
  pub answer : Answer
  pub buffer : List ℕ

-- "Buffer bytes past what is written stay."
abbrev pub over : List ℕ → List ℕ → List ℕ
over bytes buffer = bytes ++ drop (length bytes) buffer

abbrev pub untouched : Answer → List ℕ → Given
untouched a buffer = record { answer = a; buffer = buffer }

-- "For 1, 4 and 5 the sheet shows the state before the failing step .. For 6 it shows the moment the decision is wanted."
unfoldable pub shown : Table → Judged World Verdict → List ℕ → Given
shown table (not_allowed i) buffer = untouched (NotAllowed i) buffer
shown table (surplus i) buffer = untouched (Surplus i) buffer
shown table (unfinished w) buffer = record { answer = More; buffer = over (sheet_of table w) buffer }
shown table (verdict v) buffer = record { answer = v.answer; buffer = over (sheet_of table v.world) buffer }

-- "then sheet length, then the list as it runs"
unfoldable pub judge_table : Read → List ℕ → List ℕ → Given
judge_table (Err a) list buffer = untouched a buffer
judge_table (Ok table) list buffer =
    elim (leb (sheet_length table) (length buffer))
    [ true ↦ shown table (judge (step table) 0 (start table) list) buffer | false ↦ untouched (TooShort (sheet_length table)) buffer ]

-- "Order: table (first bad record ..), then .."
unfoldable pub judge_of : List ℕ → List ℕ → List ℕ → Given
judge_of table list buffer = judge_table (read_table table) list buffer
