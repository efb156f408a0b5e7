-- Demand 3, as statements about lists that are complete under the step rules, with no word on how a list is found. The laws are in proofs/Demand.antt.
use Rattle.std.specs.Prelude.{◌≡◌, List, ℕ, Err, Ok, Option}
use Rattle.lists.specs.Rules as lists
use Rattle.lists.specs.Judge.{Judged, not_allowed, surplus, unfinished, verdict, judge}
use Rattle.rules.specs.declared.answer.Answer.TheVariants.{NotAllowed, Surplus, NotComplete}
use Rattle.rules.specs.declared.table.Table.{Table}
use Rattle.rules.specs.declared.world.World.{World}
use Rattle.rules.specs.Table.{Read, read_table}
use Rattle.rules.specs.Turn.{start}
use Rattle.rules.specs.Judge.{Verdict, step, Given, untouched}
use Rattle.rules.specs.Walk.{hand_over, next_list}

-- "A list is complete when it gives 0 to 5": each decision is allowed, and the last one alone gives a verdict
abbrev pub Complete : Table → List ℕ → Type 0
Complete table list = lists.Complete (step table) (start table) list

-- "`first` gives the smallest complete list"
abbrev pub FirstMust : Read → List ℕ → Given → Type 0
FirstMust (Err a) buffer g = g ≡ untouched a buffer
FirstMust (Ok table) buffer g = (m : List ℕ) × lists.IsFirst (step table) (start table) m × (g ≡ hand_over m buffer)

abbrev pub First : List ℕ → List ℕ → Given → Type 0
First table buffer g = FirstMust (read_table table) buffer g

-- "`next` the smallest larger one or "no later list" exactly when there is none"
abbrev pub NextOfList : Table → Judged World Verdict → List ℕ → List ℕ → Given → Type 0
NextOfList table (not_allowed i) list buffer g = g ≡ untouched (NotAllowed i) buffer
NextOfList table (surplus i) list buffer g = g ≡ untouched (Surplus i) buffer
NextOfList table (unfinished w) list buffer g = g ≡ untouched NotComplete buffer
NextOfList table (verdict v) list buffer g = (r : Option (List ℕ)) × lists.Answers (step table) (start table) list r × (g ≡ next_list r buffer)

abbrev pub NextMust : Read → List ℕ → List ℕ → Given → Type 0
NextMust (Err a) list buffer g = g ≡ untouched a buffer
NextMust (Ok table) list buffer g = NextOfList table (judge (step table) 0 (start table) list) list buffer g

abbrev pub Next : List ℕ → List ℕ → List ℕ → Given → Type 0
Next table list buffer g = NextMust (read_table table) list buffer g
