-- What the code of the walk carries along, as the definitions of the walk have it.
use Rattle.std.specs.Prelude.{◌≡◌, ◌⊎◌, Bool, true, false, Option, Some, None, Result, Ok, Err, List, ◌++◌, ℕ, ◌+◌, ◌≤◌, ◌<◌, length, take, drop, set}
use Rattle.lists.specs.Rules.{Outcome, refused, done, wants}
use Rattle.std.specs.Option.{IfSome}
use Rattle.lists.specs.Judge.{Judged, not_allowed, surplus, unfinished, verdict, judge}
use Rattle.rules.specs.declared.answer.Answer.{Answer}
use Rattle.rules.specs.declared.answer.Answer.TheVariants.{NotAllowed, Surplus, NotComplete}
use Rattle.lists.specs.Greedy.{smallest}
use Rattle.lists.specs.Next.{Pivot, nowhere, at, first_of, raised, better, pass}
use Rattle.rules.specs.declared.table.Table.{Table}
use Rattle.rules.specs.declared.world.World.{World}
use Rattle.rules.specs.Limits.{max_list}
use Rattle.rules.specs.TableLaws.{Within}
use Rattle.rules.specs.Turn.{start}
use Rattle.rules.specs.Judge.{Verdict, step}
use Rattle.rules.specs.Walk.{decisions, left}
use Rattle.turns_run.specs.declared.Ran.{Ran}
use Rattle.turns_run.specs.declared.Refusal.{Refusal}
use Rattle.walk.specs.declared.Completion.{Completion}
use Rattle.walk.specs.declared.Mark.{Mark}
use Rattle.theorems.specs.Falling.{Good}

-- a run of one decision is its outcome
abbrev pub stage_at : Option Answer → World → Outcome World Verdict
stage_at None w = wants w
stage_at (Some a) w = done (record { answer = a; world = w })

abbrev pub stage_of : Result Ran Refusal → Outcome World Verdict
stage_of (Err r) = refused
stage_of (Ok r) = stage_at r.verdict r.world

-- where a decision leads: another is wanted in the world w, or none is
abbrev pub Leads : Outcome World Verdict → World → Bool → Type 0
Leads o w true = o ≡ wants w
Leads o w false = (v : World) → o ≡ wants v → ⊥

-- the completion r is c with the decision d
pub record With (c : Completion) (d : ℕ) (r : Completion) (wanted : Bool) : Type 0 where
  pub table : r.table ≡ c.table
  pub list : r.list ≡ set c.list c.at d
  pub at : r.at ≡ c.at + 1
  pub leads : Leads (step c.table c.world d) r.world wanted

-- it is so where the list has room
abbrev pub Extends : Completion → ℕ → Completion → Bool → Type 0
Extends c d r wanted = c.at < max_list → With c d r wanted

abbrev pub least : Completion → ℕ
least c = smallest (step c.table) decisions c.world

abbrev pub Advances : Completion → Completion → Bool → Type 0
Advances c r wanted = Extends c (least c) r wanted

-- a completion may go on: the list has room for the decisions that are left
pub record Completable (c : Completion) : Type 0 where
  pub within : Within c.table
  pub good : Good c.table c.world
  pub few : c.at + left c.table c.world ≤ max_list
  pub long : length c.list ≡ max_list

-- the list of r is that of c, and l behind it
pub record Adds (c : Completion) (l : List ℕ) (r : Completion) : Type 0 where
  pub made : take r.at r.list ≡ take c.at c.list ++ l
  pub inside : r.at ≤ max_list

-- the decision d, and then the smallest completion
abbrev pub Continues : Completion → ℕ → Completion → Type 0
Continues c d r = Adds c (raised (step c.table) decisions (left c.table) c.world d) r

-- the smallest completion
abbrev pub Completes : Completion → Completion → Type 0
Completes c r = Adds c (first_of (step c.table) decisions (left c.table) c.world) r

-- the pivot that a mark is
abbrev pub pivot_of : Option Mark → Pivot World
pivot_of None = nowhere
pivot_of (Some m) = at m.at m.world m.decision

-- a mark at index i of a list, in the world w
abbrev pub At : ℕ → World → Option Mark → Type 0
At i w r = (m : Mark) × (r ≡ Some m) × (m.at ≡ i) × (m.world ≡ w)

-- the last mark after the decision d at index i of a list
pub record Marked (m : Option Mark) (i : ℕ) (w : World) (d : ℕ) (r : Option Mark) : Type 0 where
  pub is : (table : Table) → pivot_of r ≡ better (step table) decisions (left table) (pivot_of m) i w d
  pub from : (r ≡ m) ⊎ At i w r

-- the table was accepted
pub record Started (table : Table) : Type 0 where
  pub within : Within table
  pub some : 0 < table.thread_count

-- what is known of the place of a mark in a list
pub record Placed (table : Table) (l : List ℕ) (i : ℕ) (w : World) : Type 0 where
  pub inside : i < length l
  pub good : Good table w
  pub few : i + left table w ≤ left table (start table)

-- and of that of the last one, if there is one
abbrev pub Marks : Table → List ℕ → Option Mark → Type 0
Marks table l o = IfSome o (λ m. Placed table l m.at m.world)

-- the pass over l, at index i
pub record Passing (table : Table) (l : List ℕ) (w : World) (m : Option Mark) (i : ℕ) : Type 0 where
  pub in_list : i ≤ length l
  pub good : Good table w
  pub few : i + left table w ≤ left table (start table)
  pub judged : judge (step table) 0 (start table) l ≡ judge (step table) i w (drop i l)
  pub pivot : pass (step table) decisions (left table) nowhere 0 (start table) l ≡ pass (step table) decisions (left table) (pivot_of m) i w (drop i l)
  pub placed : Marks table l m

-- why a list is not complete
abbrev pub fault : Judged World Verdict → Option Answer
fault (not_allowed i) = Some (NotAllowed i)
fault (surplus i) = Some (Surplus i)
fault (unfinished w) = Some NotComplete
fault (verdict v) = None

-- of a complete list its last mark
pub record Whole (table : Table) (l : List ℕ) (m : Option Mark) : Type 0 where
  pub whole : fault (judge (step table) 0 (start table) l) ≡ None
  pub pivot : pivot_of m ≡ pass (step table) decisions (left table) nowhere 0 (start table) l
  pub placed : Marks table l m

abbrev pub PassSays : Table → List ℕ → Result (Option Mark) Answer → Type 0
PassSays table l (Err a) = fault (judge (step table) 0 (start table) l) ≡ Some a
PassSays table l (Ok m) = Whole table l m

-- a list can be raised at a mark
pub record Raisable (table : Table) (l : List ℕ) (m : Mark) : Type 0 where
  pub started : Started table
  pub placed : Placed table l m.at m.world

abbrev pub raised_to : Table → List ℕ → Mark → List ℕ
raised_to table l m = take m.at l ++ raised (step table) decisions (left table) m.world m.decision
