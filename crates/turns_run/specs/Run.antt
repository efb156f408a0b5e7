-- A list of decisions, run step by step: who acts, what that means for the turn of document 01, and what is left of the list's judgement.
use Rattle.std.specs.Prelude.{◌≡◌, Bool, List, ℕ, ◌+◌, ◌-◌, ◌*◌, ◌≤◌, ltb, length, get_or, drop, replicate, None, Option, Some, Result, Ok, Err}
use Rattle.clocks.specs.Clock.{max_threads, risen}
use Rattle.lists.specs.Rules.{Outcome}
use Rattle.lists.specs.Rules as outcome
use Rattle.lists.specs.Judge.{Judged, not_allowed, surplus, unfinished, verdict, judge_end, judge}
use Rattle.rules.specs.declared.object.ObjectId.{ObjectId}
use Rattle.rules.specs.declared.thread.Thread.{Thread}
use Rattle.rules.specs.declared.table.Op.{Op}
use Rattle.rules.specs.declared.table.Table.{Table}
use Rattle.rules.specs.declared.world.World.{World}
use Rattle.rules.specs.declared.world.Decided.{Decided}
use Rattle.rules.specs.Limits.{max_objects, op_places}
use Rattle.rules.specs.Ground.{absent, flag}
use Rattle.rules.specs.Effect.{wait_of}
use Rattle.rules.specs.Object.{put_entry, new_entry, no_object}
use Rattle.rules.specs.Table.{no_op, ops_of}
use Rattle.rules.specs.Turn.{thread_in, entry_in, wants, done, after_turn, leak_check, settled, wait, go_on, turn_of, question, ops_left}
use Rattle.rules.specs.Judge.{Verdict, outcome_of, step}
use Rattle.turns_steps.specs.declared.Move.{Move}
use Rattle.turns_steps.specs.declared.Move.TheVariants.{Begins, Answers, Goes, Waits}
use Rattle.turns_steps.specs.declared.Acting.{Acting}
use Rattle.turns_steps.specs.declared.Acting.TheVariants.{Nobody, Moves, InEffect, Over, AllEnded, Done}
use Rattle.turns_steps.specs.Step.{Scene, place_of}
use Rattle.turns_steps.specs.Quiet.{who}
use Rattle.turns_steps.specs.Loud.{turn_in, asked_in, version_in, changed, after_effect, recorded_in, next_in}
use Rattle.rules.specs.declared.answer.Answer.{Answer}
use Rattle.rules.specs.declared.answer.Answer.TheVariants as answer
use Rattle.turns_run.specs.declared.Refusal.{Refusal}
use Rattle.turns_run.specs.declared.Refusal.TheVariants.{NotAllowed, Surplus}
use Rattle.turns_run.specs.declared.Ran.{Ran}

-- whether an operation is left for a move, and the operation
abbrev pub left_of : Table → List Thread → Move → Bool
left_of table ts m = ltb (place_of table.counts ts m) op_places

abbrev pub op_of : Table → List Thread → Move → Op
op_of table ts m = get_or table.ops (place_of table.counts ts m) no_op

-- the world as a step about the object o sees it, and the world with what the step leaves
abbrev pub scene_of : World → ObjectId → Scene
scene_of w o = record { entry = entry_in w o; threads = w.threads; turn = w.turn; asked = w.asked }

abbrev pub world_of : World → ObjectId → Scene → World
world_of w o s = record { threads = s.threads; objects = put_entry w.objects o s.entry; turn = s.turn; asked = s.asked }

-- what a move comes to by document 01
unfoldable pub moved_by : Table → Move → World → Decided
moved_by table (Begins t) w = turn_of (thread_in w t).phase t (ops_left table w t) w
moved_by table (Answers t b) w = question t (get_or (ops_left table w t) 0 no_op) (flag b) w
moved_by table (Goes t p) w = go_on t (drop p (ops_of table t.0)) w
moved_by table (Waits t m) w = after_turn (settled w m (wait t m (entry_in w m) w.threads))

-- the world after what follows an effect: the access of an announced operation is recorded, and the thread goes on
unfoldable pub followed : Move → Op → Option ℕ → World → World
followed m op n w =
    let e = entry_in w op.object in
    let v = version_in m op.call e (thread_in w (who m)) in
    record {
      threads = changed w.threads (who m) (after_effect m (wait_of op.call) n v);
      objects = put_entry w.objects op.object (recorded_in m op.call (record { path_id = turn_in m w.turn; version = v }) e);
      turn = turn_in m w.turn;
      asked = asked_in m w.asked;
    }

-- what follows then
abbrev pub gone_on : Table → Acting → World → Decided
gone_on table Nobody w = wants w
gone_on table (Moves m) w = moved_by table m w
gone_on table (InEffect m op n) w = wants w
gone_on table Over w = after_turn w
gone_on table AllEnded w = done (leak_check 0 w.objects) w
gone_on table (Done a) w = done a w

unfoldable pub decided : Table → Acting → World → Decided
decided table Nobody w = wants w
decided table (Moves m) w = moved_by table m w
decided table (InEffect m op n) w = gone_on table (next_in m (wait_of op.call) (thread_in w (who m)).position) (followed m op n w)
decided table Over w = after_turn w
decided table AllEnded w = done (leak_check 0 w.objects) w
decided table (Done a) w = done a w

-- the judgement of what is left of the list from `at` on, after the outcome of the decision before it
abbrev pub onwards : Table → List ℕ → ℕ → Outcome World Verdict → Judged World Verdict
onwards table list at outcome.refused = not_allowed (at - 1)
onwards table list at (outcome.done v) = judge_end v at (drop at list)
onwards table list at (outcome.wants w) = judge (step table) at w (drop at list)

unfoldable pub rest : Table → List ℕ → ℕ → Acting → World → Judged World Verdict
rest table list at a w = let r = decided table a w in onwards table list at (outcome_of r.step r.world)

-- what holds from step to step: the judgement of the whole list is that of what is left
abbrev pub Running : Table → List ℕ → World → World → Acting → ℕ → Type 0
Running table list given w acting at = judge (step table) 0 given list ≡ rest table list at acting w

-- the operations have their places, and their counts are bytes
pub record Placed (table : Table) : Type 0 where
  pub all : length table.ops ≡ op_places
  pub few : (k : ℕ) → get_or table.counts k 0 ≤ 255

-- how many steps may follow in a turn: a number that falls with each; a position is a byte
abbrev pub goes_weight : ℕ → ℕ
goes_weight p = 256 - p + 3

abbrev pub move_weight : Move → ℕ
move_weight (Begins t) = 1000
move_weight (Answers t b) = 1000
move_weight (Goes t p) = goes_weight p
move_weight (Waits t o) = 3

abbrev pub effect_weight : Move → ℕ
effect_weight (Begins t) = 1999
effect_weight (Answers t b) = 1999
effect_weight (Goes t p) = 2 * goes_weight (risen 255 p) + 1
effect_weight (Waits t o) = 5

abbrev pub weight : Acting → ℕ
weight Nobody = 0
weight (Moves m) = 2 * move_weight m
weight (InEffect m op n) = effect_weight m
weight Over = 2
weight AllEnded = 1
weight (Done a) = 0

-- a world in which nothing is
unfoldable pub nowhere : World
nowhere = record { threads = replicate max_threads absent; objects = replicate max_objects (new_entry no_object); turn = 0; asked = None }

-- a judgement as the code hands it back
abbrev pub ran_of : Judged World Verdict → Result Ran Refusal
ran_of (not_allowed i) = Err (NotAllowed i)
ran_of (surplus i) = Err (Surplus i)
ran_of (unfinished v) = Ok (record { verdict = None; world = v })
ran_of (verdict v) = Ok (record { verdict = Some v.answer; world = v.world })

-- what a refusal is told as
abbrev pub answer_of : Refusal → Answer
answer_of (NotAllowed i) = answer.NotAllowed i
answer_of (Surplus i) = answer.Surplus i
