-- Each decision that wants another leaves a good world, with a smaller falling number. The words are in specs/Falling.antt.
use Rattle.std.specs.Prelude.{◌≡◌, Bool, eqb, ltb, get_or, drop, None, Option, Some, Err, Ok}
use Rattle.std.proofs.Math.Path.{refl, ap, subst}
use Rattle.std.proofs.Common.{sym, ◌∙◌, not-suc-le-zero, le_of_suc-le-suc, add-zero, ltb-true, ltb-false}
use Rattle.std.proofs.Math.Bool.{true, false}
use Rattle.std.proofs.lemmas.Bool.{false≢true}
use mathlib.Core.List.{List, [], ◌∷◌}
use Prim.Native.Nat.{ℕ, zero, suc, ◌+◌, ◌-◌, ◌*◌, ◌≤◌, ◌<◌}
use native.Mathlib.Omega.{arith}
use Rattle.std.proofs.Math.ListN.{length, get_or-map, get_or-eq_default}
use Rattle.std.proofs.lemmas.List.{length-map}
use Rattle.clocks.specs.Clock.{max_threads, risen}
use Rattle.clocks.specs.declared.thread.ThreadId.{ThreadId}
use Rattle.rules.specs.declared.object.ObjectId.{ObjectId}
use Rattle.rules.specs.declared.object.Entry.{Entry}
use Rattle.rules.specs.Ground.{Ending}
use Rattle.rules.specs.declared.object.Failure.TheVariants as failure
use Rattle.rules.specs.declared.object.Action.TheVariants as action
use Rattle.rules.specs.declared.mutex.Call.TheVariants as mutex-call
use Rattle.rules.specs.declared.thread.State.{State}
use Rattle.rules.specs.declared.thread.State.TheVariants as state
use Rattle.rules.specs.declared.thread.Phase.{Phase}
use Rattle.rules.specs.declared.thread.Phase.TheVariants as phase
use Rattle.rules.specs.declared.thread.Thread.{Thread}
use Rattle.rules.specs.declared.table.Call.{Call}
use Rattle.rules.specs.declared.table.Call.TheVariants.{Mutex, RwLock, Condvar, Notify, Channel, Arc, Cell}
use Rattle.rules.specs.declared.table.Op.{Op}
use Rattle.rules.specs.declared.table.Table.{Table}
use Rattle.rules.specs.declared.answer.Spot.{Spot}
use Rattle.rules.specs.declared.world.Step.TheVariants.{Wants}
use Rattle.rules.specs.declared.world.World.{World}
use Rattle.rules.specs.declared.world.Decided.{Decided}
use Rattle.rules.specs.Ground.{absent, thread_at, put_thread, with_phase, with_state, with_position, with_dependence, set_runnable, set_blocked, is_runnable, has_unpark, is_ended}
use Rattle.rules.specs.Object.{announced}
use Rattle.rules.specs.Mutex as mutex
use Rattle.rules.specs.TableLaws.{Within}
use Rattle.rules.proofs.TableLaws.{by_test, split, step_on}
use Rattle.rules.specs.Table.{no_op, ops_of}
use Rattle.rules.specs.Effect.{is_free, action_of, is_disabled, asks, wait_of, Effect, effect}
use Rattle.rules.specs.Turn.{thread_in, entry_in, with_threads, with_turn, with_asked, after_turn, after_step, all_ended, any_runnable, announce_op, retake, dependence, operate, advance, ended, park, wait, settled, ending_of, go_on, thereafter, operation, mutex_of, turn_of, ops_left, begin, spurious, question, decide_at, decide}
use Rattle.rules.specs.Walk.{waits_for, left_in, asked_of, left}
use Rattle.theorems.proofs.Touches.{answering_by}
use Rattle.theorems.specs.Shape.{Shape, shape, shapes}
use Rattle.theorems.proofs.Shape.{effect_keeps}
use Rattle.theorems.specs.Stage.{SoundIn, ops_at, left_at, total, Sound, Stage}
use Rattle.theorems.proofs.Stage.{sounds_at, stage_keeps, stage_put, left-total}
use Rattle.theorems.specs.Falling.{Ready, Good, Then, After}

pub left_sum : (table : Table) (w : World) → left table w ≡ total table 0 (shapes w.threads) - asked_of w.asked
unfolding left
left_sum table w = ap (λ (n : ℕ). n - asked_of w.asked) (left-total table w)

pub wait_small : (m : Option ObjectId) → waits_for m ≤ 1
unfolding waits_for
wait_small None = omega arith
wait_small (Some m) = omega arith

pub asked_one : (t : ThreadId) → asked_of (Some t) ≡ 1
unfolding asked_of
asked_one t = refl

pub asked_none : asked_of None ≡ 0
unfolding asked_of
asked_none = refl

-- only a Notify wait asks
asks-wait : (c : Call) (e : Entry) → asks c e ≡ true → waits_for (wait_of c) ≡ 1
unfolding asks waits_for
asks-wait (Mutex c) e h = refl
asks-wait (RwLock c) e h = refl
asks-wait (Condvar c) e h = absurd (false≢true h)
asks-wait (Notify c) e h = refl
asks-wait (Channel c) e h = refl
asks-wait (Arc c) e h = refl
asks-wait (Cell c) e h = refl

acquires : waits_for None ≡ 0 → ⊥
unfolding waits_for
acquires z = omega (arith, z)

-- the shapes of a thread in its turn, with the operations from position p on
abbrev going : ℕ → Shape
going p = record { position = p; phase = phase.Nothing; ended = false }

module _ (table : Table) (t : ThreadId) (within : t.0 < max_threads) (R B : ℕ) where
  -- after the turn
  after_then : (s : Shape) (w : World) → w.asked ≡ None → Stage table t R s w.threads → R + left_at table t.0 s < B → After table B (after_turn w)
  unfolding after_step
  after_then s w nobody g less =
      split (all_ended w.threads) (λ e. rw (after_step, e) tt)
      (λ e. split (any_runnable w.threads) (λ r. rw (after_step, e, r) (good r, small)) (λ r. rw (after_step, e, r) tt))
    where
      good : any_runnable w.threads ≡ true → Good table w
      good r = record { long = g.long; tidy = g.tidy; sounds = g.sounds; ready = subst (λ (a : Option ThreadId). Ready table a w.threads) (sym nobody) r }

      small : left table w < B
      small = let e = left_sum table w in let z : total table 0 (shapes w.threads) - asked_of w.asked ≤ total table 0 (shapes w.threads) = omega arith in omega (arith, e, z, less, g.rest)

  -- the thread ends
  ended_then : (p : ℕ) (w : World) → w.asked ≡ None → Stage table t R (going p) w.threads → 0 < B - R → After table B (after_turn (with_threads w (ended t w.threads)))
  unfolding ended
  ended_then p w nobody g room =
      let z : Shape = record { position = p; phase = phase.Nothing; ended = true } in
      let e : shape (with_phase (with_state (thread_at w.threads t) state.Ended) phase.Nothing) ≡ z = ap (λ (s : Shape). record { position = s.position; phase = phase.Nothing; ended = true }) g.here in
      after_then z (with_threads w _) nobody (stage_put table t R (going p) w.threads g within _ z e (λ q. refl) tt) (omega (arith, room))

  -- an operation is announced, or a mutex retaken, whatever was announced before
  announced-shape : (p : ℕ) (f q : Phase) (b : Bool) (x : Thread) → shape x ≡ record { position = p; phase = f; ended = false } → shape (announced q b x) ≡ record { position = p; phase = q; ended = false }
  unfolding announced
  announced-shape p f q true x e = ap (λ (s : Shape). record { position = s.position; phase = q; ended = false }) e
  announced-shape p f q false x e = ap (λ (s : Shape). record { position = s.position; phase = q; ended = s.ended }) e

  announce_then : (p : ℕ) (op : Op) (e : Entry) (w : World) → w.asked ≡ None → Stage table t R (going p) w.threads → (ops : List Op) → drop p (ops_of table t.0) ≡ op ∷ ops
      → R + 3 * suc (length ops) - waits_for (wait_of op.call) < B → After table B (after_turn (with_threads w (announce_op t op e w.threads)))
  unfolding announce_op left_in
  announce_then p op e w nobody g ops q less =
      let z : Shape = record { position = p; phase = phase.Announced (record { obj = op.object; action = action_of op.call }); ended = false } in
      let sound : 0 < length (drop p (ops_of table t.0)) = rw q (omega arith) in
      let n : left_at table t.0 z ≡ 3 * suc (length ops) - waits_for (wait_of op.call) = ap (λ (os : List Op). 3 * length os - waits_for (wait_of (get_or os 0 no_op).call)) q in
      after_then z (with_threads w _) nobody
      (stage_put table t R (going p) w.threads g within _ z (announced-shape p phase.Nothing z.phase (is_disabled op.call e) (thread_at w.threads t) g.here) (λ f. absurd (false≢true f)) sound)
      (omega (arith, n, less, wait_small (wait_of op.call)))

  -- an ending: a failing step is a verdict
  ending_then : (e : Ending) (r : Decided) (s : Spot) (shown : World) → After table B r → After table B (ending_of e s shown r)
  unfolding ending_of
  ending_then (Ok ok) r s shown h = h
  ending_then (Err failure.Misuse) r s shown h = tt
  ending_then (Err failure.NoRoom) r s shown h = tt
  ending_then (Err (failure.Race x)) r s shown h = tt

  module _ (limits : Within table) where
    -- one operation is done
    advanced : (p : ℕ) (n : Option ℕ) (ts : List Thread) → Stage table t R (going p) ts → Stage table t R (going (risen 255 p)) (advance t n ts)
    unfolding advance
    advanced p n ts g =
        answering_by (λ (x : Thread). Stage table t R (going (risen 255 p)) (put_thread ts t (with_position x (risen 255 (thread_at ts t).position)))) n (thread_at ts t)
        (λ m.
        stage_put table t R (going p) ts g within _ (going (risen 255 p))
        (ap (λ (s : Shape). record { position = risen 255 s.position; phase = s.phase; ended = s.ended }) g.here) (λ f. absurd (false≢true f)) tt)

    left_one : (p : ℕ) (op : Op) (later : List Op) → drop p (ops_of table t.0) ≡ op ∷ later → 0 < length (drop p (ops_of table t.0))
    left_one p op later q = rw q (omega arith)

    later-ops : (p : ℕ) (op : Op) (ops : List Op) → drop p (ops_of table t.0) ≡ op ∷ ops → drop (risen 255 p) (ops_of table t.0) ≡ ops
    later-ops p op ops q = step_on table limits t.0 p ∙ ap (λ (os : List Op). drop 1 os) q

    asked_then : (p : ℕ) (op : Op) (ops : List Op) (w : World) → Stage table t R (going p) w.threads → drop p (ops_of table t.0) ≡ op ∷ ops → waits_for (wait_of op.call) ≡ 1
        → R + (3 * suc (length ops) + 1) ≤ B → Then table B Wants (with_asked w (Some t))
    unfolding left_in
    asked_then p op ops w g q f room =
        let here : ops_at table t.0 (shape (thread_at w.threads t)) ≡ op ∷ ops = ap (ops_at table t.0) g.here ∙ q in
        let n : left_at table t.0 (going p) ≡ 3 * suc (length ops) + 1 = ap (λ (os : List Op). 3 * length os + 1) q in
        let e = left_sum table (with_asked w (Some t)) in
        let one : asked_of (Some t) ≡ 1 = asked_one t in (
          record {
            long = g.long;
            tidy = g.tidy;
            sounds = g.sounds;
            ready = (
              within,
              g.here ∙ ap (λ (s : Shape). going s.position) (sym g.here),
              rw here (omega arith),
              ap (λ (os : List Op). waits_for (wait_of (get_or os 0 no_op).call)) here ∙ f,
            );
          },
          omega (arith, e, one, n, g.rest, room),
        )

    go_then : (ops : List Op) (p : ℕ) (w : World) → w.asked ≡ None → Stage table t R (going p) w.threads → drop p (ops_of table t.0) ≡ ops
        → R + (3 * length ops + 1) ≤ B → After table B (go_on t ops w)
    unfolding go_on
    go_then [] p w nobody g q room = ended_then p w nobody g (omega (arith, room))
    go_then (op ∷ ops) p w nobody g q room =
        let e : Entry = entry_in w op.object in
        let r : Effect = effect op.call t op.object e w.threads in
        let u : Stage table t R (going (risen 255 p)) (advance t r.answer r.threads) =
        advanced p r.answer r.threads (stage_keeps table t R (going p) w.threads g within r.threads (effect_keeps t op.object e w.threads g.tidy op.call)) in
        by_test (After table B) (is_free op.call)
        (λ f. ending_then r.ending _ _ w (go_then ops (risen 255 p) (with_threads (settled w op.object r) (advance t r.answer r.threads)) nobody u (later-ops p op ops q) (omega (arith, room))))
        (λ f.
        by_test (After table B) (asks op.call e) (λ a. asked_then p op ops w g q (asks-wait op.call e a) room)
        (λ a. announce_then p op e w nobody g ops q (omega (arith, room))))

    -- the retaking of a mutex is announced, by a wait at once or by a parked thread that was woken
    retaken_then : (p : ℕ) (f : Phase) (m : ObjectId) (e : Entry) (w : World) (ts : List Thread) → w.asked ≡ None
        → Stage table t R (record { position = p; phase = f; ended = false }) ts → (op : Op) (later : List Op) → drop p (ops_of table t.0) ≡ op ∷ later
        → R + (3 * suc (length later) - 2) < B → After table B (after_turn (with_threads w (retake t m e ts)))
    unfolding retake left_in
    retaken_then p f m e w ts nobody g op later q less =
        let z : Shape = record { position = p; phase = phase.Retaking (record { obj = m; action = action.Opaque }); ended = false } in
        let n : left_at table t.0 z ≡ 3 * suc (length later) - 2 = ap (λ (os : List Op). 3 * length os - 2) q in
        after_then z (with_threads w _) nobody
        (stage_put table t R _ ts g within _ z (announced-shape p f z.phase (mutex.is_locked e.mutex.lock) (thread_at ts t) g.here) (λ h. absurd (false≢true h)) (left_one p op later q))
        (omega (arith, n, less))

    -- a wait, once it is queued: parked, or retaking its mutex at once
    park_then : (p : ℕ) (m : ObjectId) (e : Entry) (w : World) (ts : List Thread) → w.asked ≡ None → Stage table t R (going p) ts → (op : Op) (later : List Op)
        → drop p (ops_of table t.0) ≡ op ∷ later → R + 3 * suc (length later) ≤ B → After table B (after_turn (with_threads w (park t m e ts)))
    unfolding park left_in
    park_then p m e w ts nobody g op later q room =
        by_test (λ (us : List Thread). After table B (after_turn (with_threads w us))) (has_unpark (thread_at ts t).state) (λ h. retaken) (λ h. parked)
      where
        parked : After table B (after_turn (with_threads w (put_thread ts t (with_phase (set_blocked (thread_at ts t)) phase.Parked))))
        parked =
            let z : Shape = record { position = p; phase = phase.Parked; ended = false } in
            let n : left_at table t.0 z ≡ 3 * suc (length later) - 1 = ap (λ (os : List Op). 3 * length os - 1) q in
            after_then z (with_threads w _) nobody
            (stage_put table t R (going p) ts g within _ z (ap (λ (s : Shape). record { position = s.position; phase = phase.Parked; ended = false }) g.here) (λ f. absurd (false≢true f)) (left_one p op later q))
            (omega (arith, n, room))

        ready : Stage table t R (going p) (put_thread ts t (set_runnable (thread_at ts t)))
        ready = stage_put table t R (going p) ts g within _ (going p) (ap (λ (s : Shape). record { position = s.position; phase = s.phase; ended = false }) g.here) (λ f. absurd (false≢true f)) tt

        retaken : After table B (after_turn (with_threads w (retake t m e (put_thread ts t (set_runnable (thread_at ts t))))))
        retaken = retaken_then p phase.Nothing m e w _ nobody ready op later q (omega (arith, room))

    wait_then : (p : ℕ) (m : ObjectId) (w : World) → w.asked ≡ None → Stage table t R (going p) w.threads → (op : Op) (later : List Op)
        → drop p (ops_of table t.0) ≡ op ∷ later → R + 3 * suc (length later) ≤ B → After table B (after_turn (settled w m (wait t m (entry_in w m) w.threads)))
    unfolding wait
    wait_then p m w nobody g op later q room =
        let r = effect (Mutex mutex-call.ReleaseLock) t m (entry_in w m) w.threads in
        let k = stage_keeps table t R (going p) w.threads g within r.threads (effect_keeps t m (entry_in w m) w.threads g.tidy (Mutex mutex-call.ReleaseLock)) in
        park_then p m r.entry (settled w m (wait t m (entry_in w m) w.threads)) r.threads nobody k op later q room

    thereafter_then : (m : Option ObjectId) (n : Option ℕ) (p : ℕ) (w : World) → w.asked ≡ None → Stage table t R (going p) w.threads → (op : Op) (later : List Op)
        → drop p (ops_of table t.0) ≡ op ∷ later → R + (3 * length later + 1) ≤ B → (waits_for m ≡ 0 → R + 3 * suc (length later) ≤ B) → After table B (thereafter m t n later w)
    unfolding thereafter waits_for
    thereafter_then None n p w nobody g op later q room wide =
        go_then later (risen 255 p) (with_threads w (advance t n w.threads)) nobody (advanced p n w.threads g) (later-ops p op later q) room
    thereafter_then (Some m) n p w nobody g op later q room wide = wait_then p m w nobody g op later q (wide refl)

    -- an announced operation, or the retaking of a mutex
    operation_then : (op : Op) (p : ℕ) (f : Phase) (w : World) → w.asked ≡ None → Stage table t R (record { position = p; phase = f; ended = false }) w.threads
        → (head : Op) (later : List Op) → drop p (ops_of table t.0) ≡ head ∷ later → R + (3 * length later + 1) ≤ B → (waits_for (wait_of op.call) ≡ 0 → R + 3 * suc (length later) ≤ B)
        → After table B (operation t op later w)
    unfolding operation operate
    operation_then op p f w nobody g head later q room wide =
        let n : ℕ = risen 65535 w.turn in
        let r : Effect = operate t op n (entry_in w op.object) w.threads in
        let x : Thread = with_dependence (thread_in w t) (dependence t op.call (entry_in w op.object) (thread_in w t)) in
        let a : Stage table t R (going p) (put_thread w.threads t (with_phase x phase.Nothing)) =
        stage_put table t R _ w.threads g within (with_phase x phase.Nothing) (going p) (ap (λ (s : Shape). record { position = s.position; phase = phase.Nothing; ended = s.ended }) g.here) (λ f. absurd (false≢true f)) tt in
        let b : Stage table t R (going p) r.threads = stage_keeps table t R (going p) _ a within r.threads (effect_keeps t op.object _ _ a.tidy op.call) in
        ending_then r.ending _ _ w (thereafter_then (wait_of op.call) r.answer p _ nobody b head later q room wide)

    -- the turn of a thread, by its phase
    turn_then : (f : Phase) (p : ℕ) (w : World) → w.asked ≡ None → Stage table t R (record { position = p; phase = f; ended = false }) w.threads
        → B ≡ R + left_in f (drop p (ops_of table t.0)) → (ops : List Op) → drop p (ops_of table t.0) ≡ ops → SoundIn f ops → After table B (turn_of f t ops w)
    unfolding turn_of left_in
    turn_then phase.Nothing p w nobody g b ops q sound =
        let n : 3 * length (drop p (ops_of table t.0)) + 1 ≡ 3 * length ops + 1 = ap (λ (os : List Op). 3 * length os + 1) q in
        go_then ops p _ nobody g q (omega (arith, b, n))
    turn_then (phase.Announced x) p w nobody g b [] q sound = absurd (omega (arith, sound))
    turn_then (phase.Announced x) p w nobody g b (op ∷ later) q sound =
        let n : 3 * length (drop p (ops_of table t.0)) - waits_for (wait_of (get_or (drop p (ops_of table t.0)) 0 no_op).call) ≡ 3 * suc (length later) - waits_for (wait_of op.call) =
        ap (λ (os : List Op). 3 * length os - waits_for (wait_of (get_or os 0 no_op).call)) q in
        operation_then op p (phase.Announced x) w nobody g op later q (omega (arith, b, n, wait_small (wait_of op.call))) (λ z. omega (arith, b, n, z))
    turn_then phase.Parked p w nobody g b [] q sound = absurd (omega (arith, sound))
    turn_then phase.Parked p w nobody g b (op ∷ later) q sound =
        let m : ObjectId = mutex_of (wait_of op.call) in
        let k : 3 * length (drop p (ops_of table t.0)) - 1 ≡ 3 * suc (length later) - 1 = ap (λ (os : List Op). 3 * length os - 1) q in
        retaken_then p phase.Parked m (entry_in w m) (with_turn w (risen 65535 w.turn)) w.threads nobody g op later q (omega (arith, k, b))
    turn_then (phase.Retaking x) p w nobody g b [] q sound = absurd (omega (arith, sound))
    turn_then (phase.Retaking x) p w nobody g b (op ∷ later) q sound =
        let n : 3 * length (drop p (ops_of table t.0)) - 2 ≡ 3 * suc (length later) - 2 = ap (λ (os : List Op). 3 * length os - 2) q in
        operation_then (record { call = Mutex mutex-call.AcquireLock; object = x.obj }) p (phase.Retaking x) w nobody g op later q (omega (arith, b, n)) (λ z. absurd (acquires z))

going-left : (table : Table) (t : ThreadId) (k : ℕ) (ops : List Op) → drop k (ops_of table t.0) ≡ ops → left_at table t.0 (going k) ≡ 3 * length ops + 1
unfolding left_in
going-left table t k ops q = ap (λ (os : List Op). 3 * length os + 1) q

-- a runnable thread has not ended
pub runs : (s : State) → is_runnable s ≡ true → is_ended s ≡ false
runs state.Runnable r = refl
runs state.Unparked r = refl
runs state.Blocked r = refl
runs state.Ended r = absurd (false≢true r)

-- one thread's part of a sum
pub total_at : (table : Table) (k : ℕ) (ss : List Shape) (i : ℕ) (d : Shape) → i < length ss → left_at table (k + i) (get_or ss i d) ≤ total table k ss
total_at table k [] i d l = absurd (not-suc-le-zero l)
total_at table k (x ∷ ss) zero d l = let e : left_at table (k + 0) x ≡ left_at table k x = ap (λ (j : ℕ). left_at table j x) (add-zero k) in omega (arith, e)
total_at table k (x ∷ ss) (suc i) d l =
    let e : k + suc i ≡ suc k + i = omega arith in
    let p : left_at table (k + suc i) (get_or ss i d) ≡ left_at table (suc k + i) (get_or ss i d) = ap (λ (j : ℕ). left_at table j (get_or ss i d)) e in
    let h = total_at table (suc k) ss i d (le_of_suc-le-suc l) in
    omega (arith, p, h)

module _ (table : Table) (w : World) (g : Good table w) (limits : Within table) where
  -- the others' falling numbers
  abbrev pub others : ThreadId → ℕ
  others t = total table 0 (shapes w.threads) - left_at table t.0 (shape (thread_in w t))

  pub staged : (t : ThreadId) → t.0 < max_threads → Stage table t (others t) (shape (thread_in w t)) w.threads
  staged t within =
      let l : t.0 < length (shapes w.threads) = omega (arith, within, g.long, length-map w.threads shape) in
      let h = total_at table 0 (shapes w.threads) t.0 (shape absent) l in
      let z : 0 + t.0 ≡ t.0 = omega arith in
      let a : left_at table (0 + t.0) (get_or (shapes w.threads) t.0 (shape absent)) ≡ left_at table t.0 (shape (thread_in w t)) =
      (λ i. left_at table (z i) (get_or-map shape w.threads t.0 absent i)) in
      record { long = g.long; tidy = g.tidy; sounds = g.sounds; here = refl; rest = omega (arith, h, a) }

  pub sound_here : (t : ThreadId) → t.0 < max_threads → Sound table t.0 (shape (thread_in w t))
  sound_here t within =
      let l : t.0 < length (shapes w.threads) = omega (arith, within, g.long, length-map w.threads shape) in
      let z : 0 + t.0 ≡ t.0 = omega arith in
      let h : Sound table (0 + t.0) (get_or (shapes w.threads) t.0 (shape absent)) = sounds_at table 0 (shapes w.threads) t.0 (shape absent) g.sounds l in
      subst (λ (s : Shape). Sound table t.0 s) (get_or-map shape w.threads t.0 absent) (subst (λ (j : ℕ). Sound table j (get_or (shapes w.threads) t.0 (shape absent))) z h)

  -- a thread that is not there is not runnable
  pub runnable_within : (t : ThreadId) → is_runnable (thread_in w t).state ≡ true → t.0 < max_threads
  runnable_within t r =
      split (ltb t.0 max_threads) (λ l. ltb-true t.0 max_threads l)
      (λ l.
      let out : length w.threads ≤ t.0 = omega (arith, g.long, ltb-false t.0 max_threads l) in
      absurd (false≢true (sym (ap (λ (x : Thread). is_runnable x.state) (get_or-eq_default w.threads absent out)) ∙ r)))

  begin_then : (t : ThreadId) → w.asked ≡ None → After table (left table w) (begin table w t)
  unfolding begin
  begin_then t nobody =
      by_test (After table (left table w)) (is_runnable (thread_in w t).state) (λ r. go (runs (thread_in w t).state r) (runnable_within t r)) (λ r. tt)
    where
      go : is_ended (thread_in w t).state ≡ false → t.0 < max_threads → After table (left table w) (turn_of (thread_in w t).phase t (ops_left table w t) w)
      go e within =
          let p : ℕ = (thread_in w t).position in
          let f : Phase = (thread_in w t).phase in
          let s : shape (thread_in w t) ≡ record { position = p; phase = f; ended = false } = (λ i. record { position = p; phase = f; ended = e i }) in
          let a : Stage table t (others t) (record { position = p; phase = f; ended = false }) w.threads =
          subst (λ (x : Shape). Stage table t (others t) x w.threads) s (staged t within) in
          let b : left table w ≡ total table 0 (shapes w.threads) = left_sum table w ∙ ap (λ (x : Option ThreadId). total table 0 (shapes w.threads) - asked_of x) nobody ∙ none in
          turn_then table t within (others t) (left table w) limits f p w nobody a (b ∙ a.rest) (ops_left table w t) refl (sound_here t within)
        where
          none : total table 0 (shapes w.threads) - asked_of None ≡ total table 0 (shapes w.threads)
          none = ap (λ (n : ℕ). total table 0 (shapes w.threads) - n) asked_none ∙ omega arith

  question_then : (t : ThreadId) (d : ℕ) → w.asked ≡ Some t → After table (left table w) (question t (get_or (ops_left table w t) 0 no_op) d w)
  unfolding question spurious
  question_then t d who =
      by_test (After table (left table w)) (eqb d 0) (λ z. answered (ops_left table w t) refl) (λ z. by_test (After table (left table w)) (eqb d 1) (λ o. woken (ops_left table w t) refl) (λ o. tt))
    where
      r : Ready table (Some t) w.threads
      r = subst (λ (x : Option ThreadId). Ready table x w.threads) who g.ready

      p : ℕ
      p = (thread_in w t).position

      v : World
      v = with_asked w None

      a : Stage table t (others t) (going p) w.threads
      a = subst (λ (x : Shape). Stage table t (others t) x w.threads) r.1 (staged t r.0)

      b : left table w ≡ total table 0 (shapes w.threads) - 1
      b = left_sum table w ∙ ap (λ (x : Option ThreadId). total table 0 (shapes w.threads) - asked_of x) who ∙ ap (λ (n : ℕ). total table 0 (shapes w.threads) - n) (asked_one t)

      answered : (ops : List Op) → ops_left table w t ≡ ops → After table (left table w) (after_turn (with_threads v (announce_op t (get_or (ops_left table w t) 0 no_op) (entry_in w (get_or (ops_left table w t) 0 no_op).object) w.threads)))
      answered [] q = absurd (omega (arith, r.2, ap (λ (os : List Op). length os) q))
      answered (op ∷ later) q =
          let head : get_or (ops_left table w t) 0 no_op ≡ op = ap (λ (os : List Op). get_or os 0 no_op) q in
          let one : waits_for (wait_of (get_or (ops_left table w t) 0 no_op).call) ≡ 1 = r.3 in
          let n : left_at table t.0 (going p) ≡ 3 * suc (length later) + 1 = going-left table t p (op ∷ later) q in
          announce_then table t r.0 (others t) (left table w) p _ _ v refl a later
          (q ∙ ap (λ (x : Op). x ∷ later) (sym head)) (omega (arith, one, n, b, a.rest))

      woken : (ops : List Op) → ops_left table w t ≡ ops → After table (left table w) (after_turn (spurious t (get_or (ops_left table w t) 0 no_op) v))
      woken [] q = absurd (omega (arith, r.2, ap (λ (os : List Op). length os) q))
      woken (op ∷ later) q =
          let n : left_at table t.0 (going p) ≡ 3 * suc (length later) + 1 = going-left table t p (op ∷ later) q in
          let m : left_at table t.0 (going (risen 255 p)) ≡ 3 * length later + 1 = going-left table t (risen 255 p) later (later-ops table t r.0 (others t) (left table w) limits p op later q) in
          let x : Stage table t (others t) (going p) (put_thread w.threads t (set_runnable (thread_in w t))) =
          stage_put table t (others t) (going p) w.threads a r.0 _ (going p) (ap (λ (s : Shape). record { position = s.position; phase = s.phase; ended = false }) r.1) (λ f. absurd (false≢true f)) tt in
          let y = advanced table t r.0 (others t) (left table w) limits p None _ x in
          after_then table t r.0 (others t) (left table w) (going (risen 255 p)) _ refl y (omega (arith, n, m, b, a.rest))

  -- one decision
  pub decide_then : (d : ℕ) → After table (left table w) (decide table w d)
  unfolding decide decide_at
  decide_then d = go w.asked refl
    where
      go : (a : Option ThreadId) → w.asked ≡ a → After table (left table w) (decide_at a table w d)
      go None e = begin_then (record { 0 = d }) e
      go (Some t) e = question_then t d e
