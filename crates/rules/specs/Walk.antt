-- Document 01, demand 3: the smallest complete list, the next one, and what `runs` prints. Complete lists, their order and the statements that
-- "first" and "next" have to meet are those of the crate `lists`, at the rule `step`: "A list is complete when it gives 0 to 5."
use Rattle.std.specs.Prelude.{true, false, List, [], ◌∷◌, ◌++◌, ℕ, zero, suc, ◌+◌, ◌-◌, ◌*◌, ◌/◌, ◌%◌, leb, ltb, length, get_or, None, Option, Some, Err, Ok}
use Rattle.clocks.specs.declared.thread.ThreadId.{ThreadId}
use Rattle.rules.specs.declared.object.ObjectId.{ObjectId}
use Rattle.lists.specs.Judge.{Judged, not_allowed, surplus, unfinished, verdict, judge}
use Rattle.lists.specs.Next as next
use Rattle.lists.specs.Walk as walk
use Rattle.rules.specs.declared.answer.Answer.{Answer}
use Rattle.rules.specs.declared.answer.Answer.TheVariants.{NoLaterList, ListWritten, NotAllowed, Surplus, TooShort, NotComplete}
use Rattle.rules.specs.Effect.{wait_of}
use Rattle.clocks.specs.Clock.{max_threads}
use Rattle.rules.specs.declared.table.Op.{Op}
use Rattle.rules.specs.declared.table.Table.{Table}
use Rattle.rules.specs.declared.thread.Phase.{Phase}
use Rattle.rules.specs.declared.thread.Phase.TheVariants.{Nothing, Announced, Parked, Retaking}
use Rattle.rules.specs.declared.thread.Thread.{Thread}
use Rattle.rules.specs.declared.world.World.{World}
use Rattle.rules.specs.Ground.{is_ended}
use Rattle.rules.specs.Table.{Read, read_table, no_op}
use Rattle.rules.specs.Answer.{numbers_of}
use Rattle.rules.specs.Turn.{start, ops_left}
use Rattle.rules.specs.Judge.{Verdict, step, Given, over, untouched}

-- decisions name a thread or answer a question: they are below the number of threads
abbrev pub decisions : ℕ
decisions = max_threads

-- the decision that an announced operation has behind it; a condvar wait has parking and retaking still before it, and none is taken off
unfoldable pub waits_for : Option ObjectId → ℕ
waits_for None = 1
waits_for (Some m) = 0

unfoldable pub left_in : Phase → List Op → ℕ
left_in Nothing ops = 3 * length ops + 1
left_in (Announced p) ops = 3 * length ops - waits_for (wait_of (get_or ops 0 no_op).call)
left_in Parked ops = 3 * length ops - 1
left_in (Retaking p) ops = 3 * length ops - 2

unfoldable pub left_of : Thread → List Op → ℕ
left_of t ops = elim (is_ended t.state) [ true ↦ 0 | false ↦ left_in t.phase ops ]

unfoldable pub left_from : Table → World → ℕ → List Thread → ℕ
left_from table w k [] = 0
left_from table w k (t ∷ ts) = left_of t (ops_left table w (record { 0 = k })) + left_from table w (suc k) ts

-- a thread that is asked has one decision behind it
unfoldable pub asked_of : Option ThreadId → ℕ
asked_of None = 0
asked_of (Some t) = 1

-- "operations and phases left as the falling number"
unfoldable pub left : Table → World → ℕ
left table w = left_from table w 0 w.threads - asked_of w.asked

-- the list is written, if it fits
unfoldable pub hand_over : List ℕ → List ℕ → Given
hand_over list buffer =
    elim (leb (length list) (length buffer))
    [ true ↦ record { answer = ListWritten (length list); buffer = over list buffer } | false ↦ untouched (TooShort (length list)) buffer ]

-- "for "first": table, 25"
unfoldable pub first_table : Read → List ℕ → Given
first_table (Err a) buffer = untouched a buffer
first_table (Ok table) buffer = hand_over (next.first_of (step table) decisions (left table) (start table)) buffer

unfoldable pub first_of : List ℕ → List ℕ → Given
first_of table buffer = first_table (read_table table) buffer

-- "no later list", or the list
unfoldable pub next_list : Option (List ℕ) → List ℕ → Given
next_list None buffer = untouched NoLaterList buffer
next_list (Some list) buffer = hand_over list buffer

unfoldable pub next_judged : Judged World Verdict → Option (List ℕ) → List ℕ → Given
next_judged (not_allowed i) found buffer = untouched (NotAllowed i) buffer
next_judged (surplus i) found buffer = untouched (Surplus i) buffer
next_judged (unfinished w) found buffer = untouched NotComplete buffer
next_judged (verdict v) found buffer = next_list found buffer

-- "For "next": table, 23 or 24, 26, 7, 25"
unfoldable pub next_table : Read → List ℕ → List ℕ → Given
next_table (Err a) list buffer = untouched a buffer
next_table (Ok table) list buffer =
    let found = next.next_of (step table) decisions (left table) (start table) list in
    next_judged (judge (step table) 0 (start table) list) found buffer

unfoldable pub next_of : List ℕ → List ℕ → List ℕ → Given
next_of table list buffer = next_table (read_table table) list buffer

-- What `runs` prints. Two hexadecimal digits, in capital letters.
unfoldable pub hex_digit : ℕ → ℕ
hex_digit n = elim (ltb n 10) [ true ↦ 48 + n | false ↦ 55 + n ]

unfoldable pub decision_text : List ℕ → List ℕ
decision_text [] = 10 ∷ []
decision_text (d ∷ l) = 32 ∷ hex_digit (d / 16 % 16) ∷ hex_digit (d % 16) ∷ decision_text l

unfoldable pub verdict_digit : Judged World Verdict → ℕ
verdict_digit (not_allowed i) = 63
verdict_digit (surplus i) = 63
verdict_digit (unfinished w) = 63
verdict_digit (verdict v) = 48 + (numbers_of v.answer).number

-- "a line each": the verdict's number, then the decisions
unfoldable pub run_line : Table → List ℕ → List ℕ
run_line table l = verdict_digit (judge (step table) 0 (start table) l) ∷ decision_text l

unfoldable pub run_lines : Table → List (List ℕ) → List ℕ
run_lines table [] = []
run_lines table (l ∷ ls) = run_line table l ++ run_lines table ls

-- a number in decimal; n is at least as many digits as it has
unfoldable pub decimal : ℕ → ℕ → List ℕ
decimal zero x = []
decimal (suc n) x = elim (ltb x 10) [ true ↦ (48 + x) ∷ [] | false ↦ decimal n (x / 10) ++ (48 + x % 10) ∷ [] ]

-- "For a refused table `runs` prints `refused N at P`."
unfoldable pub refused_line : Answer → List ℕ
refused_line a = 114 ∷ 101 ∷ 102 ∷ 117 ∷ 115 ∷ 101 ∷ 100 ∷ 32 ∷ decimal 3 (numbers_of a).number ++ 32 ∷ 97 ∷ 116 ∷ 32 ∷ decimal 5 (numbers_of a).place ++ 10 ∷ []

-- at most n lists of the walk
unfoldable pub runs_table : ℕ → Read → List ℕ
runs_table n (Err a) = refused_line a
runs_table n (Ok table) = run_lines table (walk.walk (step table) decisions (left table) n (start table))

unfoldable pub runs_of : ℕ → List ℕ → List ℕ
runs_of n table = runs_table n (read_table table)
