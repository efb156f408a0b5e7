-- The walk as the code does it: a run completed, the kept world moved on, the next run.
use Rattle.std.specs.Prelude.{cond, Option, Some, None, Result, Ok, Err, List, [], ◌∷◌, ℕ, zero, suc, ◌+◌, ◌-◌, ◌*◌, min, max, leb, ltb, take, drop, get_or, set, replicate, unwrap_or}
use Rattle.std.specs.Option.{is_some, option_map, option_and_then}
use Rattle.lists.specs.Judge.{judge}
use Rattle.lists.specs.Greedy.{seek}
use Rattle.rules.specs.declared.answer.Answer.{Answer}
use Rattle.rules.specs.declared.table.Table.{Table}
use Rattle.rules.specs.declared.world.World.{World}
use Rattle.rules.specs.Limits.{max_list}
use Rattle.rules.specs.Turn.{is_allowed, start}
use Rattle.rules.specs.Judge.{step}
use Rattle.rules.specs.Walk.{decisions}
use Rattle.turns_steps.specs.Step.{below}
use Rattle.turns_run.specs.declared.Ran.{Ran}
use Rattle.turns_run.specs.declared.Refusal.{Refusal}
use Rattle.turns_run.specs.Run.{nowhere, ran_of, answer_of}
use Rattle.walker.specs.declared.Path.{Path}
use Rattle.walker.specs.declared.Kept.{Kept}
use Rattle.walker.specs.declared.Walker.{Walker}

-- the smallest allowed decision that is k or more, if there is one
abbrev pub least_from : World → ℕ → Option ℕ
least_from w k = below decisions (seek (is_allowed w.asked w.threads) (decisions - k) k)

-- the decision that is taken: where none is allowed, a number that is no decision
abbrev pub taken_from : World → ℕ → ℕ
taken_from w k = unwrap_or (least_from w k) (max k decisions)

-- a run of one decision
abbrev pub ran_by : Table → World → ℕ → Result Ran Refusal
ran_by table w d = ran_of (judge (step table) 0 w (d ∷ []))

-- how a list ended: its verdict or its refusal, and none where another decision is wanted
abbrev pub end_by : Result Ran Refusal → Option Answer
end_by (Err r) = Some (answer_of r)
end_by (Ok r) = r.verdict

-- the world that it came to; a refusal leaves none
abbrev pub world_by : Result Ran Refusal → World
world_by (Err r) = nowhere
world_by (Ok r) = r.world

-- what is added to a run by the decision d at its place i, which ends it so
abbrev pub with : Path → ℕ → ℕ → Option ℕ → Option Answer → Path
with p i d e x = record { list = set p.list i d; later = set p.later i e; at = i + 1; verdict = x }

-- a run goes on where another decision is wanted
abbrev pub or_on : Option Answer → Path → Path → Path
or_on None over on = on
or_on (Some a) over on = over

-- the smallest allowed decision that is `low` or more, and then the smallest ones, n of them at most, until the run ends
unfoldable pub completed : Table → ℕ → World → Path → ℕ → Path
completed table zero w p low = p
completed table (suc n) w p low =
    let d = taken_from w low in
    let r = ran_by table w d in
    let q = with p p.at d (least_from w (d + 1)) (end_by r) in
    or_on (end_by r) q (completed table n (world_by r) q 0)

-- the last of the first n places that has a decision
unfoldable pub last_below : List (Option ℕ) → ℕ → Option ℕ
last_below l zero = None
last_below l (suc n) = cond (is_some (get_or l n None)) (Some n) (last_below l n)

-- the kept world, moved on to the place `to`
unfoldable pub moved : Table → List ℕ → Kept → ℕ → Kept
moved table l k to =
    cond (leb to k.from) k (record { world = world_by (ran_of (judge (step table) 0 k.world (take (to - k.from) (drop k.from l)))); from = to })

unfoldable pub at_start : Table → Kept
at_start table = record { world = start table; from = 0 }

-- how far before the place of a change a world is kept
abbrev pub near : ℕ
near = 3

abbrev pub not_behind : Table → Kept → ℕ → Kept
not_behind table k p = cond (ltb p k.from) (at_start table) k

unfoldable pub nearer : Table → List ℕ → Kept → ℕ → Kept
nearer table l k p =
    let base = not_behind table k p in
    cond (leb (p - base.from) (2 * near)) base (moved table l base (p - near))

-- before any decision; what stands past `at` says nothing
abbrev pub empty : Path
empty = record { list = replicate max_list 0; later = replicate max_list (Some 0); at = 0; verdict = None }

unfoldable pub begun : Table → Walker
begun table = record { table = table; path = completed table max_list (start table) empty 0; kept = at_start table }

-- the run of a table raised to the decision d at the place p
unfoldable pub raised_at : Table → Walker → ℕ → ℕ → Walker
raised_at table w p d =
    let l = w.path.list in
    let kept = nearer table l w.kept p in
    let stem : Path = record { list = l; later = w.path.later; at = p; verdict = w.path.verdict } in
    record { table = table; path = completed table (max_list - p) (moved table l kept p).world stem d; kept = kept }

unfoldable pub advanced : Walker → Option Walker
advanced w = option_and_then (λ p. option_map (raised_at w.table w p) (get_or w.path.later p None)) (last_below w.path.later (min w.path.at max_list))
