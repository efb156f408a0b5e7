-- What a verdict tells of the world that it shows. Clean: all have ended and every Arc and Channel count is 0. Leak: all have ended, and the object is the
-- first whose count is not 0. Deadlock: the thread is the lowest that has not ended, and nobody is runnable. Race, misuse, no room: the position is the thread's. The words are in specs/Verdicts.antt.
use Rattle.std.specs.Prelude.{◌≡◌, refl, true, false, List, [], ◌∷◌, ℕ, suc, eqb, get_or, drop, None, Option, Some, Err, Ok}
use Rattle.rules.specs.declared.object.ObjectId.{ObjectId}
use Rattle.std.proofs.Common.{◌∙◌, ap, subst, arith}
use Rattle.clocks.specs.declared.thread.ThreadId.{ThreadId}
use Rattle.lists.specs.Judge.{verdict, judge_end, judge_at, judge}
use Rattle.rules.specs.Ground.{Ending}
use Rattle.rules.specs.declared.object.Failure.TheVariants as failure
use Rattle.rules.specs.declared.thread.Phase.{Phase}
use Rattle.rules.specs.declared.thread.Phase.TheVariants.{Nothing, Announced, Parked, Retaking}
use Rattle.rules.specs.declared.table.Op.{Op}
use Rattle.rules.specs.declared.table.Table.{Table}
use Rattle.rules.specs.declared.answer.Answer.{Answer}
use Rattle.rules.specs.declared.answer.Answer.TheVariants as answer
use Rattle.rules.specs.declared.answer.Spot.{Spot}
use Rattle.rules.specs.declared.world.World.{World}
use Rattle.rules.specs.declared.world.Step.{Step}
use Rattle.rules.specs.declared.world.Step.TheVariants.{Refused, Done, Wants}
use Rattle.rules.specs.declared.world.Decided.{Decided}
use Rattle.rules.specs.Ground.{is_ended, is_runnable}
use Rattle.rules.specs.Table.{no_op}
use Rattle.rules.proofs.TableLaws.{by_test}
use Rattle.rules.specs.Effect.{is_free, asks, wait_of}
use Rattle.rules.specs.Turn.{thread_in, entry_in, start, all_ended, any_runnable, leak_check, stuck, announced_object, after_step, after_turn, spot, ending_of, go_on, thereafter, operation, turn_of, ops_left, begin, question, decide_at, decide}
use Rattle.rules.specs.Judge.{Verdict, outcome_of, step}
use Rattle.theorems.specs.Tells.{Leaks, At, LeakTells, Lowest}
use Rattle.theorems.proofs.Tells.{empty_is, full_is, leak_tells, all_ended_lem, none_runnable, stuck_tells}
use Rattle.theorems.specs.Verdicts.{AllEnded, Stood, Means, Judges}

-- what a decision comes to
abbrev MeansStep : Step → World → Type 0
MeansStep Refused w = Unit {0}
MeansStep (Done a) w = Means a w
MeansStep Wants w = Unit {0}

abbrev MeansAll : Decided → Type 0
MeansAll r = MeansStep r.step r.world

-- the leak check
leak_means : (w : World) → AllEnded w → (a : Answer) → LeakTells 0 w.objects a → Means a w
leak_means w e answer.Clean h = (e, λ o. empty_is (entry_in w o).kind (entry_in w o) (h o.0))
leak_means w e (answer.Leak o) h =
    let q : h.0 ≡ o.0 = omega (arith, h.1) in (
      e,
      full_is (entry_in w o).kind (entry_in w o) (subst (λ (i : ℕ). Leaks (At w.objects i) ≡ true) q h.2),
      λ p l. empty_is (entry_in w p).kind (entry_in w p) (h.3 p.0 (omega (arith, l, q))),
    )
leak_means w e (answer.Race s x) h = absurd h
leak_means w e (answer.Deadlock s) h = absurd h
leak_means w e (answer.Misuse s) h = absurd h
leak_means w e (answer.NoRoom s) h = absurd h
leak_means w e answer.More h = h
leak_means w e answer.NoLaterList h = h
leak_means w e (answer.ListWritten n) h = h
leak_means w e (answer.BadRecord n) h = h
leak_means w e (answer.TooMany n) h = h
leak_means w e (answer.BadObject n) h = h
leak_means w e (answer.NotAllowed n) h = h
leak_means w e (answer.Surplus n) h = h
leak_means w e (answer.TooShort n) h = h
leak_means w e answer.NotComplete h = h

-- a deadlock
stuck_means : (w : World) (s : Spot) → Lowest 0 w.threads s → ((t : ThreadId) → is_runnable (thread_in w t).state ≡ false) → Means (answer.Deadlock s) w
stuck_means w s h none =
    let q : h.0 ≡ s.thread.0 = omega (arith, h.1) in
    let t : ℕ → ThreadId = λ i. record { 0 = i } in (
      subst (λ (i : ℕ). is_ended (thread_in w (t i)).state ≡ false) q h.2,
      h.3 ∙ ap (λ (i : ℕ). (thread_in w (t i)).position) q,
      h.4 ∙ ap (λ (i : ℕ). announced_object (thread_in w (t i)).phase) q,
      λ u l. h.5 u.0 (omega (arith, l, q)),
      none,
    )

-- after the turn
after_means : (w : World) → MeansAll (after_turn w)
unfolding after_step
after_means w =
    by_test (λ (s : Step). MeansStep s w) (all_ended w.threads) (λ e. leak_means w (λ t. all_ended_lem w.threads e t.0) (leak_check 0 w.objects) (leak_tells 0 w.objects))
    (λ e. by_test (λ (s : Step). MeansStep s w) (any_runnable w.threads) (λ r. tt) (λ r. stuck_means w (stuck 0 w.threads) (stuck_tells 0 w.threads e) (λ t. none_runnable w.threads r t.0)))

-- a failing step
ending_means : (e : Ending) (s : Spot) (shown : World) (next : Decided) → Stood s shown → MeansAll next → MeansAll (ending_of e s shown next)
unfolding ending_of
ending_means (Ok ok) s shown next h n = n
ending_means (Err failure.Misuse) s shown next h n = h
ending_means (Err failure.NoRoom) s shown next h n = h
ending_means (Err (failure.Race o)) s shown next h n = h

-- a turn
go_means : (t : ThreadId) (ops : List Op) (w : World) → MeansAll (go_on t ops w)
unfolding go_on
go_means t [] w = after_means _
go_means t (op ∷ ops) w =
    by_test MeansAll (is_free op.call) (λ f. ending_means _ (spot t op w) w _ refl (go_means t ops _)) (λ f. by_test MeansAll (asks op.call (entry_in w op.object)) (λ a. tt) (λ a. after_means _))

then_means : (m : Option ObjectId) (t : ThreadId) (n : Option ℕ) (ops : List Op) (w : World) → MeansAll (thereafter m t n ops w)
unfolding thereafter
then_means None t n ops w = go_means t ops _
then_means (Some m) t n ops w = after_means _

operation_means : (t : ThreadId) (op : Op) (ops : List Op) (w : World) → MeansAll (operation t op ops w)
unfolding operation
operation_means t op ops w = ending_means _ (spot t op w) w _ refl (then_means (wait_of op.call) t _ ops _)

turn_means : (f : Phase) (t : ThreadId) (ops : List Op) (w : World) → MeansAll (turn_of f t ops w)
unfolding turn_of
turn_means Nothing t ops w = go_means t ops _
turn_means (Announced p) t ops w = operation_means t (get_or ops 0 no_op) (drop 1 ops) w
turn_means Parked t ops w = after_means _
turn_means (Retaking p) t ops w = operation_means t _ (drop 1 ops) w

-- a decision
decided_means : (a : Option ThreadId) (table : Table) (w : World) (d : ℕ) → MeansAll (decide_at a table w d)
unfolding decide_at begin question
decided_means None table w d =
    let t : ThreadId = record { 0 = d } in by_test MeansAll (is_runnable (thread_in w t).state) (λ r. turn_means (thread_in w t).phase t (ops_left table w t) w) (λ r. tt)
decided_means (Some t) table w d = by_test MeansAll (eqb d 0) (λ z. after_means _) (λ z. by_test MeansAll (eqb d 1) (λ o. after_means _) (λ o. tt))

decide_means : (table : Table) (w : World) (d : ℕ) → MeansAll (decide table w d)
unfolding decide
decide_means table w d = decided_means w.asked table w d

end_means : (v : Verdict) (i : ℕ) (l : List ℕ) → Means v.answer v.world → Judges (judge_end v i l)
end_means v i [] h = h
end_means v i (d ∷ l) h = tt

pub judge_means : (table : Table) (list : List ℕ) (i : ℕ) (w : World) → Judges (judge (step table) i w list)
unfolding judge step outcome_of
judge_means table [] i w = tt
judge_means table (d ∷ l) i w = go (decide table w d).step (decide table w d).world (decide_means table w d) (λ v. judge_means table l (suc i) v)
  where
    go : (s : Step) (v : World) → MeansStep s v → ((x : World) → Judges (judge (step table) (suc i) x l)) → Judges (judge_at (outcome_of s v) i l (λ x. judge (step table) (suc i) x l))
    go Refused v h ih = tt
    go (Done a) v h ih = end_means (record { answer = a; world = v }) (suc i) l h
    go Wants v h ih = ih v

-- every verdict
pub verdict_means : (table : Table) (list : List ℕ) (v : Verdict) → judge (step table) 0 (start table) list ≡ verdict v → Means v.answer v.world
verdict_means table list v e = subst Judges e (judge_means table list 0 (start table))
