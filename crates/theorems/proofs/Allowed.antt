-- Which decisions document 01 allows: "naming a runnable thread, else 23", and "0 or 1 (else 23)".
use Rattle.std.specs.Prelude.{◌≡◌, refl, true, ℕ, eqb, leb, get_or, None, Option, Some}
use Rattle.std.proofs.Common.{arith, le-leb, eqb-true}
use Rattle.std.proofs.lemmas.Bool.{lt-leb, eqb-false}
use Rattle.clocks.specs.declared.thread.ThreadId.{ThreadId}
use Rattle.lists.specs.Rules.{allowedb, allowed}
use Rattle.rules.specs.declared.table.Op.{Op}
use Rattle.rules.specs.declared.table.Table.{Table}
use Rattle.rules.specs.declared.world.Step.{Step}
use Rattle.rules.specs.declared.world.Step.TheVariants.{Refused, Done, Wants}
use Rattle.rules.specs.declared.world.World.{World}
use Rattle.rules.specs.declared.world.Decided.{Decided}
use Rattle.rules.specs.Ground.{is_runnable}
use Rattle.rules.specs.Table.{no_op}
use Rattle.rules.proofs.TableLaws.{split}
use Rattle.rules.proofs.TurnLaws.{Said, after_said, turn_said}
use Rattle.rules.specs.Turn.{thread_in, entry_in, with_asked, with_threads, announce_op, spurious, after_turn, turn_of, ops_left, begin, question, decide_at, is_allowed, decide}
use Rattle.rules.specs.Judge.{outcome_of, step}

-- what is said is allowed
said_allowed : (r : Decided) → Said r.step → allowedb (outcome_of r.step r.world) ≡ true
unfolding outcome_of
said_allowed r h = go r.step h
  where
    go : (s : Step) → Said s → allowedb (outcome_of s r.world) ≡ true
    go Refused h = absurd h
    go (Done a) h = refl
    go Wants h = refl

begins-allowed : (table : Table) (w : World) (t : ThreadId) → allowedb (outcome_of (begin table w t).step (begin table w t).world) ≡ is_runnable (thread_in w t).state
unfolding begin outcome_of
begins-allowed table w t =
    let r = turn_of (thread_in w t).phase t (ops_left table w t) w in
    split (is_runnable (thread_in w t).state) (λ e. rw (begin, e) (said_allowed r (turn_said (thread_in w t).phase t (ops_left table w t) w))) (λ e. rw (begin, e))

asks-allowed : (t : ThreadId) (op : Op) (d : ℕ) (w : World) → allowedb (outcome_of (question t op d w).step (question t op d w).world) ≡ leb d 1
unfolding question outcome_of
asks-allowed t op d w =
    let v : World = with_asked w None in
    let told : World = with_threads v (announce_op t op (entry_in w op.object) w.threads) in
    let woken : World = spurious t op v in
    split (eqb d 0) (λ e. rw (question, e, le-leb d 1 (omega (arith, eqb-true d 0 e))) (said_allowed (after_turn told) (after_said told.threads told.objects)))
    (λ e.
    split (eqb d 1) (λ f. rw (question, e, f, le-leb d 1 (omega (arith, eqb-true d 1 f))) (said_allowed (after_turn woken) (after_said woken.threads woken.objects)))
    (λ f. let n = eqb-false d 0 e in let m = eqb-false d 1 f in rw (question, e, f, lt-leb d 1 (omega (arith, n, m)))))

pub allowed_is : (table : Table) (w : World) (d : ℕ) → allowed (step table) w d ≡ is_allowed w.asked w.threads d
unfolding step decide decide_at
allowed_is table w d = go w.asked
  where
    go : (a : Option ThreadId) → allowedb (outcome_of (decide_at a table w d).step (decide_at a table w d).world) ≡ is_allowed a w.threads d
    go None = begins-allowed table w (record { 0 = d })
    go (Some t) = asks-allowed t (get_or (ops_left table w t) 0 no_op) d w
