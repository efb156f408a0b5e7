-- What a turn comes to: it is never refused, and its verdict is one of 0 to 5, "A list is complete when it gives 0 to 5".
use Rattle.std.specs.Prelude.{◌≡◌, List, [], ◌∷◌, ℕ, suc, ◌≤◌, eqb, None, Option, Some, Err, Ok}
use Rattle.rules.specs.declared.object.ObjectId.{ObjectId}
use Rattle.std.proofs.Common.{arith}
use Rattle.clocks.specs.declared.thread.ThreadId.{ThreadId}
use Rattle.rules.specs.declared.object.Entry.{Entry}
use Rattle.rules.specs.Ground.{Ending}
use Rattle.rules.specs.declared.object.Failure.TheVariants as failure
use Rattle.rules.specs.declared.thread.Thread.{Thread}
use Rattle.rules.specs.declared.thread.Phase.{Phase}
use Rattle.rules.specs.declared.thread.Phase.TheVariants.{Nothing, Announced, Parked, Retaking}
use Rattle.rules.specs.declared.table.Op.{Op}
use Rattle.rules.specs.declared.table.Table.{Table}
use Rattle.rules.specs.declared.answer.Answer.{Answer}
use Rattle.rules.specs.declared.answer.Spot.{Spot}
use Rattle.rules.specs.declared.world.World.{World}
use Rattle.rules.specs.declared.world.Step.{Step}
use Rattle.rules.specs.declared.world.Step.TheVariants.{Refused, Done, Wants}
use Rattle.rules.specs.declared.world.Decided.{Decided}
use Rattle.rules.specs.Ground.{is_runnable}
use Rattle.rules.specs.Object.{leaks}
use Rattle.rules.specs.Answer.{numbers_of}
use Rattle.rules.proofs.TableLaws.{by_test}
use Rattle.rules.specs.Effect.{is_free, asks, wait_of}
use Rattle.rules.specs.Turn.{all_ended, any_runnable, leak_check, after_step, ending_of, go_on, thereafter, operation, turn_of, begin, question, decide_at, decide, entry_in, thread_in}

-- what a turn comes to: it is not refused, and a verdict's number is 0 to 5
abbrev pub Said : Step → Type 0
Said Refused = ⊥
Said (Done a) = (numbers_of a).number ≤ 5
Said Wants = Unit {0}

abbrev Fine : Decided → Type 0
Fine r = Said r.step

leak_told : (k : ℕ) (es : List Entry) → (numbers_of (leak_check k es)).number ≤ 5
unfolding leak_check numbers_of
leak_told k [] = omega arith
leak_told k (e ∷ es) = by_test (λ (a : Answer). (numbers_of a).number ≤ 5) (leaks e.kind e) (λ l. omega arith) (λ l. leak_told (suc k) es)

pub after_said : (ts : List Thread) (es : List Entry) → Said (after_step ts es)
unfolding after_step numbers_of
after_said ts es = by_test Said (all_ended ts) (λ a. leak_told 0 es) (λ a. by_test Said (any_runnable ts) (λ r. tt) (λ r. omega arith))

ending_said : (e : Ending) (s : Spot) (shown : World) (next : Decided) → Fine next → Fine (ending_of e s shown next)
unfolding ending_of numbers_of
ending_said (Ok ok) s shown next f = f
ending_said (Err failure.Misuse) s shown next f = omega arith
ending_said (Err failure.NoRoom) s shown next f = omega arith
ending_said (Err (failure.Race o)) s shown next f = omega arith

go_said : (t : ThreadId) (ops : List Op) (w : World) → Fine (go_on t ops w)
unfolding go_on
go_said t [] w = after_said _ _
go_said t (op ∷ ops) w =
    by_test Fine (is_free op.call) (λ b. ending_said _ _ w _ (go_said t ops _))
    (λ b. by_test Fine (asks op.call (entry_in w op.object)) (λ q. tt) (λ q. after_said _ _))

then_said : (m : Option ObjectId) (t : ThreadId) (n : Option ℕ) (ops : List Op) (w : World) → Fine (thereafter m t n ops w)
unfolding thereafter
then_said None t n ops w = go_said t ops _
then_said (Some m) t n ops w = after_said _ _

operation_said : (t : ThreadId) (op : Op) (ops : List Op) (w : World) → Fine (operation t op ops w)
unfolding operation
operation_said t op ops w = ending_said _ _ w _ (then_said (wait_of op.call) t _ ops _)

pub turn_said : (p : Phase) (t : ThreadId) (ops : List Op) (w : World) → Fine (turn_of p t ops w)
unfolding turn_of
turn_said Nothing t ops w = go_said t ops _
turn_said (Announced p) t ops w = operation_said t _ _ w
turn_said Parked t ops w = after_said _ _
turn_said (Retaking p) t ops w = operation_said t _ _ w

-- a decision may be refused as well
abbrev Told : Step → Type 0
Told Refused = Unit {0}
Told (Done a) = (numbers_of a).number ≤ 5
Told Wants = Unit {0}

abbrev FineIf : Decided → Type 0
FineIf r = Told r.step

said_told : (s : Step) → Said s → Told s
said_told Refused h = absurd h
said_told (Done a) h = h
said_told Wants h = tt

after_told : (ts : List Thread) (es : List Entry) → Told (after_step ts es)
after_told ts es = said_told (after_step ts es) (after_said ts es)

turn_told : (p : Phase) (t : ThreadId) (ops : List Op) (w : World) → FineIf (turn_of p t ops w)
turn_told p t ops w = said_told (turn_of p t ops w).step (turn_said p t ops w)

decide_told : (a : Option ThreadId) (table : Table) (w : World) (d : ℕ) → FineIf (decide_at a table w d)
unfolding decide_at begin question
decide_told None table w d = by_test FineIf (is_runnable (thread_in w (record { 0 = d })).state) (λ r. turn_told _ _ _ _) (λ r. tt)
decide_told (Some t) table w d = by_test FineIf (eqb d 0) (λ z. after_told _ _) (λ z. by_test FineIf (eqb d 1) (λ o. after_told _ _) (λ o. tt))

-- a decision's verdict is one of 0 to 5
pub verdict_number : (table : Table) (w : World) (d : ℕ) (a : Answer) → (decide table w d).step ≡ Done a → (numbers_of a).number ≤ 5
unfolding decide
verdict_number table w d a e = rw e at (decide_told w.asked table w d)
