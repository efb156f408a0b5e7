-- The steps of a turn are the turn of document 01, and what is left of a list's judgement stays the same from step to step.
use Rattle.std.specs.Prelude.{◌≡◌, Bool, None, Option, Some, Err, Ok}
use Rattle.std.proofs.Math.Path.{refl, ap}
use Rattle.std.proofs.Common.{sym, ◌∙◌, add-one}
use Rattle.std.proofs.Math.Bool.{true, false}
use Rattle.std.proofs.lemmas.Bool.{false≢true}
use mathlib.Core.List.{List, [], ◌∷◌}
use Prim.Native.Nat.{ℕ, zero, suc, ◌+◌, ◌-◌, ◌*◌, ◌≤◌, ◌<◌}
use native.Mathlib.Omega.{arith}
use Rattle.std.proofs.Math.Dec.{ltb}
use Rattle.std.proofs.Math.ListN.{length, get_or, drop, length-take, length-drop, drop_of_length-le, get_or-eq_default}
use Rattle.std.proofs.Math.Seq.{drop-cons}
use Rattle.std.proofs.lemmas.List.{set-get_or}
use borrow.Author.Tests.{leb-true, leb-false, ltb-true, ltb-false, ne_eqb}
use Rattle.clocks.specs.Clock.{risen}
use Rattle.clocks.specs.Lists.{part_at}
use Rattle.clocks.specs.declared.thread.ThreadId.{ThreadId}
use Rattle.lists.specs.Rules.{Outcome}
use Rattle.lists.specs.Rules as outcome
use Rattle.lists.specs.Judge.{Judged, not_allowed, surplus, unfinished, verdict, judge_at, judge_end, judge}
use Rattle.rules.specs.declared.object.ObjectId.{ObjectId}
use Rattle.rules.specs.Ground.{Ending}
use Rattle.rules.specs.declared.object.Failure.TheVariants as failure
use Rattle.rules.specs.declared.mutex.Call.TheVariants as mutex-call
use Rattle.rules.specs.declared.thread.Phase.{Phase}
use Rattle.rules.specs.declared.thread.Phase.TheVariants.{Nothing, Announced, Parked, Retaking}
use Rattle.rules.specs.declared.thread.Thread.{Thread}
use Rattle.rules.specs.declared.table.Call.TheVariants.{Mutex}
use Rattle.rules.specs.declared.table.Op.{Op}
use Rattle.rules.specs.declared.table.Table.{Table}
use Rattle.rules.specs.declared.answer.Answer.{Answer}
use Rattle.rules.specs.declared.answer.Answer.TheVariants as answer
use Rattle.rules.specs.declared.world.World.{World}
use Rattle.rules.specs.declared.object.Entry.{Entry}
use Rattle.rules.specs.declared.world.Decided.{Decided}
use Rattle.rules.specs.Ground.{flag}
use Rattle.rules.specs.Object.{new_entry, no_object}
use Rattle.rules.specs.Limits.{max_operations, op_places}
use Rattle.rules.specs.Effect.{is_free, asks, wait_of, Effect, effect}
use Rattle.rules.specs.Table.{no_op, ops_of}
use Rattle.rules.proofs.TableLaws.{split, ops_few, ops-next}
use Rattle.rules.specs.Turn as turn
use Rattle.rules.specs.Turn.{thread_in, entry_in, with_threads, with_turn, with_asked, wants, done, refused, after_turn, after_step, all_ended, any_runnable, mutex_of, settled, ending_of, spot, advance, operate, go_on, turn_of, question, ops_left, begin, decide_at, is_allowed, decide, leak_check}
use Rattle.rules.specs.Judge.{Verdict, outcome_of, step}
use Rattle.turns_steps.specs.declared.Move.{Move}
use Rattle.turns_steps.specs.declared.Move.TheVariants.{Begins, Answers, Goes, Waits}
use Rattle.turns_steps.specs.declared.Acting.{Acting}
use Rattle.turns_steps.specs.declared.Acting.TheVariants.{Nobody, Moves, InEffect, Over, AllEnded, Done}
use Rattle.turns_steps.specs.Step.{Scene, Moved, after, first_subject, subject, with, in_turn, advanced, failing, thereafter, operation, begins, free, goes_on, spurious, answers, waits, act, place_at, chosen}
use Rattle.turns_run.specs.Run.{left_of, op_of, scene_of, world_of, moved_by, gone_on, decided, Placed, goes_weight, weight, onwards, rest, followed, effect_weight}
use Rattle.turns_steps.specs.Quiet.{who, stops, is_quiet}
use Rattle.turns_steps.specs.Loud.{verdict_or, next_of, outcome, next_in}

-- what a step leaves, as the turn goes on from there
abbrev landed : Table → World → ObjectId → Moved → Decided
landed table w o r = decided table r.acting (world_of w o r.scene)

-- an object that is read and put back changes nothing
same : (w : World) (o : ObjectId) → w ≡ world_of w o (scene_of w o)
same w o i = record { threads = w.threads; objects = sym (set-get_or w.objects o.0 (new_entry no_object)) i; turn = w.turn; asked = w.asked }

-- the operations of a thread that are left at position p: the one in its place, or none
module _ (table : Table) (t : ThreadId) (p : ℕ) (l : Placed table) where
  abbrev ops : List Op
  ops = ops_of table t.0

  none_left : ltb (place_at table.counts t p) op_places ≡ false → drop p ops ≡ []
  unfolding ops_of
  none_left h =
      let n : ℕ = get_or table.counts t.0 0 in
      split (ltb p n)
      (λ e.
      let k : ltb (max_operations * t.0 + p) op_places ≡ false = rw (place_at, e) at h in
      let s : length ops ≤ p = omega (arith, ops_few table t.0 l.all, ltb-false (max_operations * t.0 + p) op_places k) in
      drop_of_length-le ops {i = p} s)
      (λ e. let s : length ops ≤ p = omega (arith, length-take n (drop (max_operations * t.0) table.ops), ltb-false p n e) in drop_of_length-le ops {i = p} s)

  one_left : ltb (place_at table.counts t p) op_places ≡ true → drop p ops ≡ get_or table.ops (place_at table.counts t p) no_op ∷ drop (risen 255 p) ops
  unfolding ops_of
  one_left h =
      let n : ℕ = get_or table.counts t.0 0 in
      split (ltb p n)
      (λ e.
      let k : ltb (max_operations * t.0 + p) op_places ≡ true = rw (place_at, e) at h in
      let q : p < length ops = omega (arith, length-take n (drop (max_operations * t.0) table.ops), length-drop (max_operations * t.0) table.ops, l.all, ltb-true (max_operations * t.0 + p) op_places k, ltb-true p n e) in
      let r : suc p ≡ risen 255 p = omega (arith, l.few t.0, ltb-true p n e) in
      drop-cons ops p no_op q
      ∙ (λ i. part_at table.ops (max_operations * t.0) n p no_op (ltb-true p n e) i ∷ drop (r i) ops)
      ∙ rw (place_at, e))
      (λ e. let k : ltb op_places op_places ≡ true = rw (place_at, e) at h in absurd (false≢true k))

  first-left : get_or (drop p ops) 0 no_op ≡ get_or table.ops (place_at table.counts t p) no_op
  first-left =
      split (ltb (place_at table.counts t p) op_places)
      (λ e. ap (λ (os : List Op). get_or os 0 no_op) (one_left e))
      (λ e.
      let k : length table.ops ≤ place_at table.counts t p = omega (arith, l.all, ltb-false (place_at table.counts t p) op_places e) in
      ap (λ (os : List Op). get_or os 0 no_op) (none_left e) ∙ sym (get_or-eq_default table.ops no_op k))

-- a failing step is the same verdict, and shows the world before it
failing_law : (table : Table) (w : World) (t : ThreadId) (op : Op) (o : ObjectId) → op.object ≡ o → (e : Ending) (next : Decided) (then : Moved) → next ≡ landed table w o then
    → ending_of e (spot t op w) w next ≡ landed table w o (failing e t o (scene_of w o) then)
unfolding ending_of failing decided
failing_law table w t op o q (Ok ok) next then h = h
failing_law table w t op o q (Err failure.Misuse) next then h = λ i. done (answer.Misuse (record { thread = t; position = (thread_in w t).position; object = q i })) (same w o i)
failing_law table w t op o q (Err failure.NoRoom) next then h = λ i. done (answer.NoRoom (record { thread = t; position = (thread_in w t).position; object = q i })) (same w o i)
failing_law table w t op o q (Err (failure.Race x)) next then h = λ i. done (answer.Race (record { thread = t; position = (thread_in w t).position; object = q i }) x) (same w o i)

-- what follows an announced operation's effect
module _ (table : Table) (w : World) (o : ObjectId) (t : ThreadId) (p : ℕ) (later : List Op) (l : later ≡ drop (risen 255 p) (ops_of table t.0)) (s : Scene) where
  abbrev reached : World
  reached = world_of w o s

  goes_law : (n : Option ℕ) → go_on t later (with_threads reached (advance t n reached.threads)) ≡ landed table w o (advanced s t n p)
  unfolding decided moved_by
  goes_law n = ap (λ (os : List Op). go_on t os (with_threads reached (advance t n reached.threads))) l

  thereafter_law : (m : Option ObjectId) (n : Option ℕ) → turn.thereafter m t n later reached ≡ landed table w o (thereafter m t n p s)
  unfolding turn.thereafter thereafter decided moved_by
  thereafter_law None n = goes_law n
  thereafter_law (Some m) n = refl

-- an announced operation, or the retaking of a mutex
module _ (table : Table) (w : World) (t : ThreadId) (p : ℕ) (q : (thread_in w t).position ≡ p) (later : List Op) (l : later ≡ drop (risen 255 p) (ops_of table t.0)) where
  operation_law : (op : Op) → turn.operation t op later w ≡ landed table w op.object (operation t op (scene_of w op.object))
  unfolding turn.operation operation
  operation_law op =
      let o : ObjectId = op.object in
      let n : ℕ = risen 65535 w.turn in
      let r : Effect = operate t op n (entry_in w o) w.threads in
      failing_law table w t op o refl r.ending _ _
      (thereafter_law table w o t (thread_in w t).position later (l ∙ ap (λ (k : ℕ). drop (risen 255 k) (ops_of table t.0)) (sym q)) (with (in_turn (scene_of w o) n) r.entry r.threads) (wait_of op.call) r.answer)

-- a turn, by the thread's phase
module _ (table : Table) (w : World) (t : ThreadId) (l : Placed table) where
  abbrev at : ℕ
  at = (thread_in w t).position

  abbrev first : Op
  first = get_or table.ops (place_at table.counts t at) no_op

  begins_law : (p : Phase) → turn_of p t (ops_left table w t) w ≡ landed table w (first_subject p first) (begins p t first (scene_of w (first_subject p first)))
  unfolding turn_of begins decided moved_by
  begins_law Nothing = ap (λ (v : World). go_on t (ops_left table w t) (with_turn v (risen 65535 w.turn))) (same w first.object)
  begins_law (Announced p) =
      ap (λ (op : Op). turn.operation t op (drop 1 (ops_left table w t)) w) (first-left table t at l)
      ∙ operation_law table w t at refl (drop 1 (ops_left table w t)) (sym (ops-next table t.0 at (l.few t.0))) first
  begins_law Parked =
      ap (λ (op : Op). after_turn (with_threads (with_turn w (risen 65535 w.turn)) (turn.retake t (mutex_of (wait_of op.call)) (entry_in w (mutex_of (wait_of op.call))) w.threads))) (first-left table t at l)
      ∙ (let m : ObjectId = mutex_of (wait_of first.call) in ap (λ (v : World). after_turn (with_threads (with_turn v (risen 65535 w.turn)) (turn.retake t m (entry_in w m) w.threads))) (same w m))
  begins_law (Retaking p) = operation_law table w t at refl (drop 1 (ops_left table w t)) (sym (ops-next table t.0 at (l.few t.0))) (record { call = Mutex mutex-call.AcquireLock; object = p.obj })

  answers_law : (b : Bool) → question t (get_or (ops_left table w t) 0 no_op) (flag b) w ≡ landed table w first.object (answers t b first (scene_of w first.object))
  unfolding question answers spurious turn.spurious decided
  answers_law true = ap (λ (op : Op). after_turn (turn.spurious t op (with_asked w None))) (first-left table t at l)
  answers_law false =
      ap (λ (op : Op). after_turn (with_threads (with_asked w None) (turn.announce_op t op (entry_in w op.object) w.threads))) (first-left table t at l)
      ∙ ap (λ (v : World). after_turn (with_threads (with_asked v None) (turn.announce_op t first (entry_in w first.object) w.threads))) (same w first.object)

-- the operations that need no announcement, one at a time
module _ (table : Table) (w : World) (t : ThreadId) (p : ℕ) (l : Placed table) where
  abbrev op : Op
  op = get_or table.ops (place_at table.counts t p) no_op

  abbrev o : ObjectId
  o = op.object

  abbrev e : Entry
  e = entry_in w o

  abbrev run : List Op → Decided
  run os = go_on t os w

  goes_on_law : (b : Bool) → ltb (place_at table.counts t p) op_places ≡ b → run (drop p (ops_of table t.0)) ≡ landed table w o (goes_on t p b op (scene_of w o))
  unfolding go_on goes_on free decided
  goes_on_law false h = ap run (none_left table t p l h) ∙ ap (λ (v : World). after_turn (with_threads v (turn.ended t w.threads))) (same w o)
  goes_on_law true h =
      ap run (one_left table t p l h)
      ∙ split (is_free op.call)
      (λ f.
      let r : Effect = effect op.call t o e w.threads in
      rw (go_on, goes_on, f)
      (failing_law table w t op o refl r.ending _ _ (goes_law table w o t p (drop (risen 255 p) (ops_of table t.0)) refl (with (scene_of w o) r.entry r.threads) r.answer)))
      (λ f.
      split (asks op.call e) (λ a. rw (go_on, goes_on, f, a) (ap (λ (v : World). wants (with_asked v (Some t))) (same w o)))
      (λ a. rw (go_on, goes_on, f, a) (ap (λ (v : World). after_turn (with_threads v (turn.announce_op t op e w.threads))) (same w o))))

waits_law : (table : Table) (w : World) (t : ThreadId) (m : ObjectId)
    → after_turn (settled w m (turn.wait t m (entry_in w m) w.threads)) ≡ landed table w m (waits t m (scene_of w m))
unfolding waits decided
waits_law table w t m = refl

-- one step: what it comes to is what the move comes to
pub act_law : (table : Table) (w : World) (m : Move) → Placed table
    → let op = op_of table w.threads m in let o = subject w.threads m op in moved_by table m w ≡ landed table w o (act m (left_of table w.threads m) op (scene_of w o))
unfolding moved_by act
act_law table w (Begins t) l = begins_law table w t l (thread_in w t).phase
act_law table w (Answers t b) l = answers_law table w t l b
act_law table w (Goes t p) l = goes_on_law table w t p l (ltb (place_at table.counts t p) op_places) refl
act_law table w (Waits t m) l = waits_law table w t m

-- after the turn
after_law : (table : Table) (w : World) → after_turn w ≡ decided table (after w.threads) w
unfolding decided after after_step
after_law table w =
    split (all_ended w.threads) (λ e. rw (after_step, after, e)) (λ e. split (any_runnable w.threads) (λ r. rw (after_step, after, e, r)) (λ r. rw (after_step, after, e, r)))

-- a decision that is allowed, and one that is not
allowed_at : (table : Table) (w : World) (d : ℕ) (a : Option ThreadId) → is_allowed a w.threads d ≡ true → decide_at a table w d ≡ moved_by table (chosen a d) w
unfolding decide_at begin moved_by
allowed_at table w d None h = rw (begin, h)
allowed_at table w zero (Some t) h = refl
allowed_at table w (suc zero) (Some t) h = refl
allowed_at table w (suc (suc d)) (Some t) h = absurd (omega (arith, leb-true (suc (suc d)) 1 h))

refused_at : (table : Table) (w : World) (d : ℕ) (a : Option ThreadId) → is_allowed a w.threads d ≡ false → decide_at a table w d ≡ refused w
unfolding decide_at begin question
refused_at table w d None h = rw (begin, h)
refused_at table w d (Some t) h =
    let big : 1 < d = leb-false d 1 h in rw (question, ne_eqb d 0 (λ e. omega (arith, big, e)), ne_eqb d 1 (λ e. omega (arith, big, e)))

-- what is left of a list's judgement
module _ (table : Table) (list : List ℕ) (at : ℕ) (w : World) where
  abbrev left : Acting → Judged World Verdict
  left a = rest table list at a w

  abbrev settle : Decided → Judged World Verdict
  settle r = onwards table list at (outcome_of r.step r.world)

  pub rest_end : length list ≤ at → left Nobody ≡ unfinished w
  unfolding rest decided outcome_of judge
  rest_end h = ap (judge (step table) at w) (drop_of_length-le list {i = at} h)

  head_on : at < length list → left Nobody ≡ judge_at (step table w (get_or list at 0)) at (drop (at + 1) list) (λ v. judge (step table) (at + 1) v (drop (at + 1) list))
  unfolding rest decided outcome_of judge
  head_on h = ap (judge (step table) at w) (drop-cons list at 0 h)
      ∙ ap (λ (k : ℕ). judge_at (step table w (get_or list at 0)) at (drop k list) (λ v. judge (step table) k v (drop k list))) (sym (add-one at))

  pub rest-refused : at < length list → is_allowed w.asked w.threads (get_or list at 0) ≡ false → left Nobody ≡ not_allowed at
  unfolding step decide outcome_of
  rest-refused h f =
      head_on h
      ∙ ap (λ (r : Decided). judge_at (outcome_of r.step r.world) at (drop (at + 1) list) (λ v. judge (step table) (at + 1) v (drop (at + 1) list))) (refused_at table w (get_or list at 0) w.asked f)

  pub rest-chosen : at < length list → is_allowed w.asked w.threads (get_or list at 0) ≡ true → left Nobody ≡ rest table list (at + 1) (Moves (chosen w.asked (get_or list at 0))) w
  unfolding step decide rest decided
  rest-chosen h f =
      head_on h
      ∙ ap (λ (r : Decided). judge_at (outcome_of r.step r.world) at (drop (at + 1) list) (λ v. judge (step table) (at + 1) v (drop (at + 1) list))) (allowed_at table w (get_or list at 0) w.asked f)
      ∙ on (outcome_of _ _)
    where
      back : at ≡ at + 1 - 1
      back = omega arith

      on : (r : Outcome World Verdict) → judge_at r at (drop (at + 1) list) (λ v. judge (step table) (at + 1) v (drop (at + 1) list)) ≡ onwards table list (at + 1) r
      on outcome.refused = ap not_allowed back
      on (outcome.done v) = ap (λ (i : ℕ). judge_end v i (drop (at + 1) list)) (sym (add-one at))
      on (outcome.wants v) = refl

  pub rest_over : left Over ≡ left (after w.threads)
  unfolding rest decided
  rest_over = ap settle (after_law table w)

  pub rest_all_ended : left AllEnded ≡ left (Done (leak_check 0 w.objects))
  unfolding rest decided
  rest_all_ended = refl

  pub rest_verdict : (a : Answer) → length list ≤ at → left (Done a) ≡ verdict (record { answer = a; world = w })
  unfolding rest decided outcome_of
  rest_verdict a h = ap (λ (l : List ℕ). judge_end (record { answer = a; world = w }) at l) (drop_of_length-le list {i = at} h)

  pub rest_surplus : (a : Answer) → at < length list → left (Done a) ≡ surplus at
  unfolding rest decided outcome_of
  rest_surplus a h = ap (λ (l : List ℕ). judge_end (record { answer = a; world = w }) at l) (drop-cons list at 0 h)

  pub rest-act : (m : Move) (b : Bool) (op : Op) (r : Moved) → Placed table → b ≡ left_of table w.threads m → op ≡ op_of table w.threads m
      → let o = subject w.threads m op in r ≡ act m b op (scene_of w o)
      → left (Moves m) ≡ rest table list at r.acting (world_of w o r.scene)
  unfolding rest decided
  rest-act m b op r l f g e =
      let about : Op → ObjectId = λ p. subject w.threads m p in
      ap settle (act_law table w m l)
      ∙ (λ i. settle (landed table w (about (sym g i)) (act m (sym f i) (sym g i) (scene_of w (about (sym g i))))))
      ∙ ap (λ (q : Moved). settle (landed table w (about op) q)) (sym e)

-- each step of a turn has fewer steps to follow
failing_lighter : (n : ℕ) (e : Ending) (t : ThreadId) (o : ObjectId) (s : Scene) (next : Moved) → 0 < n → weight next.acting < n → weight (failing e t o s next).acting < n
unfolding failing
failing_lighter n (Ok ok) t o s next z h = h
failing_lighter n (Err failure.Misuse) t o s next z h = z
failing_lighter n (Err failure.NoRoom) t o s next z h = z
failing_lighter n (Err (failure.Race x)) t o s next z h = z

thereafter_lighter : (m : Option ObjectId) (t : ThreadId) (n : Option ℕ) (p : ℕ) (s : Scene) → weight (thereafter m t n p s).acting < 2000
unfolding thereafter
thereafter_lighter None t n p s = omega arith
thereafter_lighter (Some m) t n p s = omega arith

operation_lighter : (t : ThreadId) (op : Op) (s : Scene) → weight (operation t op s).acting < 2000
unfolding operation
operation_lighter t op s = failing_lighter 2000 _ t op.object s _ (omega arith) (thereafter_lighter (wait_of op.call) t _ _ _)

begins_lighter : (p : Phase) (t : ThreadId) (op : Op) (s : Scene) → weight (begins p t op s).acting < 2000
unfolding begins
begins_lighter Nothing t op s = omega arith
begins_lighter (Announced p) t op s = operation_lighter t op s
begins_lighter Parked t op s = omega arith
begins_lighter (Retaking p) t op s = operation_lighter t _ s

answers_lighter : (b : Bool) (t : ThreadId) (op : Op) (s : Scene) → weight (answers t b op s).acting < 2000
unfolding answers spurious
answers_lighter true t op s = omega arith
answers_lighter false t op s = omega arith

goes_on_lighter : (t : ThreadId) (p : ℕ) (b : Bool) (op : Op) (s : Scene) → (b ≡ true → p < 255) → weight (goes_on t p b op s).acting < 2 * goes_weight p
unfolding goes_on free
goes_on_lighter t p false op s h = omega arith
goes_on_lighter t p true op s h =
    let n : ℕ = 2 * goes_weight p in
    split (is_free op.call)
    (λ f. rw (goes_on, f) (failing_lighter n _ t op.object s _ (omega arith) (omega (arith, h refl))))
    (λ f. split (asks op.call s.entry) (λ a. rw (goes_on, f, a) (omega arith)) (λ a. rw (goes_on, f, a) (omega arith)))

left_early : (table : Table) → Placed table → (t : ThreadId) (p : ℕ) → ltb (place_at table.counts t p) op_places ≡ true → p < 255
left_early table l t p h =
    split (ltb p (get_or table.counts t.0 0)) (λ e. omega (arith, l.few t.0, ltb-true p (get_or table.counts t.0 0) e))
    (λ e. let k : ltb op_places op_places ≡ true = rw (place_at, e) at h in absurd (false≢true k))

pub act_lighter : (table : Table) → Placed table → (ts : List Thread) (m : Move) (b : Bool) (op : Op) (s : Scene) → b ≡ left_of table ts m → weight (act m b op s).acting < weight (Moves m)
unfolding act waits
act_lighter table l ts (Begins t) b op s e = begins_lighter _ t op s
act_lighter table l ts (Answers t x) b op s e = answers_lighter x t op s
act_lighter table l ts (Goes t p) b op s e = goes_on_lighter t p b op s (λ q. left_early table l t p (sym e ∙ q))
act_lighter table l ts (Waits t o) b op s e = omega arith

pub after_light : (ts : List Thread) → weight (after ts) < 2
unfolding after
after_light ts =
    split (all_ended ts) (λ e. rw (after, e) (omega arith)) (λ e. split (any_runnable ts) (λ r. rw (after, e, r) (omega arith)) (λ r. rw (after, e, r) (omega arith)))

pub chosen-weight : (a : Option ThreadId) (d : ℕ) → weight (Moves (chosen a d)) ≡ 2000
chosen-weight None d = refl
chosen-weight (Some t) d = refl

-- what follows an effect has fewer steps to follow
pub followed_lighter : (m : Move) (w : Option ObjectId) (position : ℕ) → weight (next_in m w position) < effect_weight m
followed_lighter (Begins t) None position = omega arith
followed_lighter (Begins t) (Some m) position = omega arith
followed_lighter (Answers t b) w position = omega arith
followed_lighter (Goes t p) w position = omega arith
followed_lighter (Waits t o) w position = omega arith

outcome_lighter : (e : Ending) (m : Move) (op : Op) (n : Option ℕ) (position k : ℕ) → effect_weight m < k → weight (outcome e m op n position) < k
unfolding outcome verdict_or
outcome_lighter (Ok ok) m op n position k h = h
outcome_lighter (Err failure.Misuse) m op n position k h = omega (arith, h)
outcome_lighter (Err failure.NoRoom) m op n position k h = omega (arith, h)
outcome_lighter (Err (failure.Race x)) m op n position k h = omega (arith, h)

-- so has an effect
pub effect_lighter : (table : Table) → Placed table → (ts : List Thread) (p : Phase) (e : Ending) (m : Move) (b : Bool) (op w : Op) (n : Option ℕ) (position : ℕ) → b ≡ left_of table ts m
    → is_quiet p m b op.call ≡ false → weight (outcome e m w n position) < weight (Moves m)
unfolding stops
effect_lighter table l ts p e (Begins t) b op w n position f q = outcome_lighter e (Begins t) w n position 2000 (omega arith)
effect_lighter table l ts p e (Answers t x) b op w n position f q = outcome_lighter e (Answers t x) w n position 2000 (omega arith)
effect_lighter table l ts p e (Goes t k) true op w n position f q =
    let h = left_early table l t k (sym f) in outcome_lighter e (Goes t k) w n position (2 * goes_weight k) (omega (arith, h))
effect_lighter table l ts p e (Goes t k) false op w n position f q = absurd (false≢true (sym q))
effect_lighter table l ts p e (Waits t o) b op w n position f q = outcome_lighter e (Waits t o) w n position 6 (omega arith)

-- what is left of the judgement once an effect is followed
pub rest-followed : (table : Table) (list : List ℕ) (at : ℕ) (w : World) (m : Move) (op : Op) (n : Option ℕ)
    → rest table list at (InEffect m op n) w ≡ rest table list at (next_in m (wait_of op.call) (thread_in w (who m)).position) (followed m op n w)
unfolding rest decided
rest-followed table list at w (Begins t) op n = by-wait (wait_of op.call)
  where
    by-wait : (o : Option ObjectId) → onwards table list at (outcome_of (gone_on table (next_of o t (risen 255 (thread_in w t).position)) (followed (Begins t) op n w)).step (gone_on table (next_of o t (risen 255 (thread_in w t).position)) (followed (Begins t) op n w)).world)
        ≡ rest table list at (next_of o t (risen 255 (thread_in w t).position)) (followed (Begins t) op n w)
    by-wait None = refl
    by-wait (Some m) = refl
rest-followed table list at w (Answers t b) op n = refl
rest-followed table list at w (Goes t p) op n = refl
rest-followed table list at w (Waits t o) op n = refl
