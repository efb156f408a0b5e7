-- Worked examples as tables of cases: what a call gives for a table and a list, beside what document 01 says that it gives.
use Rattle.std.specs.Prelude.{ℕ, zero, suc, ◌+◌, Bool, true, false, List, [], ◌∷◌, ◌++◌, eqb, take, drop, replicate}
use Rattle.clocks.specs.Clock as clocks-clock
use Rattle.lists.specs.Judge as lists-judge
use Rattle.lists.specs.Greedy as lists-greedy
use Rattle.lists.specs.Next as lists-next
use Rattle.lists.specs.Walk as lists-walk
use Rattle.rules.specs.Ground as ground
use Rattle.rules.specs.Mutex as mutex
use Rattle.rules.specs.RwLock as rwlock
use Rattle.rules.specs.Mpsc as mpsc
use Rattle.rules.specs.Arc as arc
use Rattle.rules.specs.Notify as notify
use Rattle.rules.specs.Condvar as condvar
use Rattle.rules.specs.Cell as cell
use Rattle.rules.specs.Object as object
use Rattle.rules.specs.Table as table
use Rattle.rules.specs.Answer as answer
use Rattle.rules.specs.Effect as effect
use Rattle.rules.specs.Turn as turn
use Rattle.rules.specs.Sheet as sheet
use Rattle.rules.specs.Judge as judge
use Rattle.rules.specs.Judge.{Given, judge_of}
use Rattle.rules.specs.Walk as walk
use Rattle.rules.specs.Walk.{first_of, next_of}
use Rattle.rules.specs.declared.answer.Numbers.{Numbers}

-- what is looked at: the six numbers, n bytes of the buffer from a place on, the lines that `runs` prints, or the same lines by the calls of
-- "first", "next" and the judge
pub data Look : Type 0 where
  numbers : Look
  bytes : ℕ → ℕ → Look
  runs : Look
  walked : Look

-- the three calls, by whoever answers them
pub record Calls : Type 0 where
  pub judge : List ℕ → List ℕ → List ℕ → Given
  pub first : List ℕ → List ℕ → Given
  pub next : List ℕ → List ℕ → List ℕ → Given

abbrev pub definitions : Calls
definitions = record { judge = judge_of; first = first_of; next = next_of }

pub record Case : Type 0 where
  pub table : List ℕ
  pub list : List ℕ
  pub look : Look
  pub expected : List ℕ

abbrev pub six_numbers : Numbers → List ℕ
six_numbers n = n.number ∷ n.place ∷ n.thread ∷ n.position ∷ n.object ∷ n.other ∷ []

-- the buffer that is lent: 160 times EE
abbrev pub lent : List ℕ
lent = replicate 160 0xEE

-- whether "first" or "next" gave a list, and which
abbrev pub is_written : Given → Bool
is_written g = eqb (answer.numbers_of g.answer).number 8

abbrev pub written_of : Given → List ℕ
written_of g = take (answer.numbers_of g.answer).place g.buffer

-- a line for each list, from what "first" or "next" gave on, at most n
abbrev pub lines : Calls → ℕ → List ℕ → Given → List ℕ
lines c zero table g = []
lines c (suc n) table g =
    let list = written_of g in
    elim (is_written g) [
      | true ↦ (48 + (answer.numbers_of (c.judge table list lent).answer).number) ∷ walk.decision_text list ++ lines c n table (c.next table list lent)
      | false ↦ []
    ]

abbrev pub seen : Calls → Look → List ℕ → List ℕ → List ℕ
seen c numbers table list = six_numbers (answer.numbers_of (c.judge table list lent).answer)
seen c (bytes from n) table list = take n (drop from (c.judge table list lent).buffer)
seen c runs table list = walk.runs_of 9 table
seen c walked table list = lines c 9 table (c.first table lent)

-- to open this is to open every definition
unfoldable pub given : Calls → Case → List ℕ
unfolding ground.loaded
    ground.unpark_thread
    ground.changed ground.changed_at ground.others
    mutex.doing rwlock.is_reader rwlock.with_reader rwlock.without_reader rwlock.doing mpsc.doing arc.doing notify.doing condvar.doing
    cell.first_race cell.track_read cell.track_write cell.accessing cell.doing object.new_entry object.announced
    table.calls table.kinds
    table.is_object table.is_operation table.body_length table.object_of table.operation_of table.whole_record table.record_of
    table.is_kind table.objects_fine table.empty_table table.with_object
    table.with_thread table.with_op table.object_record table.thread_record table.operation_record table.one_record table.at_end table.read_from table.read_table
    table.ops_of answer.numbers_of
    effect.is_disabled effect.asks effect.last_dependent_access effect.set_last_access effect.doing effect.effect
    turn.all_ended turn.any_runnable turn.leak_check turn.stuck turn.after_step turn.announce_op turn.retake turn.dependence turn.operate turn.advance turn.ended turn.park turn.wait turn.ending_of turn.go_on turn.thereafter turn.operation turn.turn_of turn.begin turn.spurious turn.question turn.decide_at turn.decide turn.start_thread turn.start
    sheet.state_byte sheet.phase_byte sheet.thread_bytes sheet.holder_byte sheet.mutex_bytes
    sheet.form_byte sheet.who_byte sheet.rwlock_bytes sheet.condvar_bytes sheet.notify_bytes sheet.channel_bytes
    sheet.arc_bytes sheet.cell_bytes sheet.object_bytes sheet.objects_bytes sheet.sheet_of sheet.record_length
    sheet.objects_length sheet.sheet_length judge.outcome_of judge.step judge.shown judge.judge_table
    judge.judge_of walk.waits_for walk.left_in walk.left_of walk.left_from walk.asked_of
    walk.left walk.hand_over walk.first_table walk.first_of walk.next_list walk.next_judged
    walk.next_table walk.next_of walk.hex_digit walk.decision_text walk.verdict_digit walk.run_line
    walk.run_lines walk.decimal walk.refused_line walk.runs_table walk.runs_of lists-judge.judge
    lists-greedy.seek lists-greedy.smallest lists-greedy.larger lists-greedy.greedy lists-next.first_of lists-next.raised
    lists-next.later lists-next.pass lists-next.next_of lists-walk.walk_from lists-walk.walk clocks-clock.join_of
    clocks-clock.inc_of clocks-clock.ahead_of
given calls c = seen calls c.look c.table c.list

abbrev pub expected_of : Case → List ℕ
expected_of c = c.expected
