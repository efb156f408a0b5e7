-- A loud step in two: what takes effect, and what follows it. That the two are the step of `Loud`.
use Rattle.std.specs.Prelude.{◌≡◌, Bool, true, false, ◌≤◌, ltb, get_or, Err, Ok}
use Rattle.std.proofs.Math.Path.{refl, sym, ap}
use Rattle.std.proofs.Common.{◌∙◌, ltb-true, ltb-false, get_or-set_same}
use Rattle.std.proofs.lemmas.Bool.{false≢true}
use mathlib.Core.List.{List}
use Rattle.std.proofs.Math.ListN.{length}
use Rattle.std.proofs.Math.Seq.{set_out}
use Rattle.clocks.specs.Clock.{join_of, inc_of}
use Rattle.clocks.specs.declared.clock.Clock.{Clock}
use Rattle.clocks.specs.declared.thread.ThreadId.{ThreadId}
use Rattle.rules.specs.declared.object.ObjectId.{ObjectId}
use Rattle.rules.specs.declared.object.Entry.{Entry}
use Rattle.rules.specs.Ground.{Ending}
use Rattle.rules.specs.declared.object.Failure.TheVariants as failure
use Rattle.rules.specs.declared.thread.Phase.{Phase}
use Rattle.rules.specs.declared.thread.Phase.TheVariants.{Nothing, Announced, Parked, Retaking}
use Rattle.rules.specs.declared.thread.Thread.{Thread}
use Rattle.rules.specs.declared.table.Call.{Call}
use Rattle.rules.specs.declared.table.Op.{Op}
use Rattle.rules.specs.declared.world.World.{World}
use Rattle.rules.specs.Ground.{with_clock, thread_at, is_fine}
use Rattle.rules.specs.Object.{new_entry, no_object, entry_at, put_entry}
use Rattle.rules.specs.Effect.{wait_of, last_dependent_access, doing, Effect, effect}
use Rattle.rules.proofs.TableLaws.{split}
use Rattle.rules.proofs.TouchLaws.{touched-read}
use Rattle.rules.specs.Turn.{dependence}
use Rattle.turns_steps.specs.declared.Move.{Move}
use Rattle.turns_steps.specs.declared.Move.TheVariants.{Begins, Answers, Goes, Waits}
use Rattle.turns_steps.specs.Step.{Scene}
use Rattle.turns_steps.specs.Quiet.{who, rests, is_quiet, subject_in}
use Rattle.turns_steps.specs.Loud.{again, op_in, takes_effect, version_in, after_effect, changed, recorded_in, turn_in, asked_in, work, done_by, scene_by, version_before, set_then}
use Rattle.turns_run.specs.Run.{world_of, followed}

-- the object of a loud move is that of its operation
again-subject : (p : Phase) (t : ThreadId) (op : Op) → rests p ≡ false → subject_in p (Begins t) op ≡ (again p op).object
again-subject Nothing t op h = absurd (false≢true (sym h))
again-subject (Announced p) t op h = refl
again-subject Parked t op h = absurd (false≢true (sym h))
again-subject (Retaking p) t op h = refl

pub work-subject : (p : Phase) (m : Move) (b : Bool) (op : Op) → is_quiet p m b op.call ≡ false → subject_in p m op ≡ (op_in p m op).object
work-subject p (Begins t) b op h = again-subject p t op h
work-subject p (Answers t x) b op h = refl
work-subject p (Goes t q) b op h = refl
work-subject p (Waits t o) b op h = refl

-- what takes effect leaves a reading of its thread that does not see the clock: the position and the dependence clock
module _ (t : ThreadId) (o : ObjectId) (e : Entry) (ts : List Thread) {A : Type 0} (f : Thread → A) (clocks : (x : Thread) (c : Clock) → f (with_clock x c) ≡ f x) where
  effect_keeps : (c : Call) → f (thread_at (effect c t o e ts).threads t) ≡ f (thread_at ts t)
  unfolding effect
  effect_keeps c = touched-read t f clocks (doing c t o (thread_at ts t).clock e).touches ts

  done_keeps : (m : Move) (c : Call) → f (thread_at (takes_effect m c t o e ts).threads t) ≡ f (thread_at ts t)
  done_keeps (Begins u) c = effect_keeps c
  done_keeps (Answers u b) c = refl
  done_keeps (Goes u p) c = effect_keeps c
  done_keeps (Waits u p) c = effect_keeps c

pub done-position : (t : ThreadId) (o : ObjectId) (e : Entry) (ts : List Thread) (m : Move) (c : Call) → (thread_at (takes_effect m c t o e ts).threads t).position ≡ (thread_at ts t).position
done-position t o e ts = done_keeps t o e ts (λ x. x.position) (λ x c. refl)

done-dependence : (t : ThreadId) (o : ObjectId) (e : Entry) (ts : List Thread) (m : Move) (c : Call) → (thread_at (takes_effect m c t o e ts).threads t).dependence ≡ (thread_at ts t).dependence
done-dependence t o e ts = done_keeps t o e ts (λ x. x.dependence) (λ x c. refl)

-- a version goes by the thread's dependence clock alone
version-by : (m : Move) (c : Call) (e : Entry) (x y : Thread) → x.dependence ≡ y.dependence → version_in m c e x ≡ version_in m c e y
unfolding dependence
version-by (Begins t) c e x y h = ap (λ (v : Clock). inc_of (join_of v (last_dependent_access c e).version) t) h
version-by (Answers t b) c e x y h = h
version-by (Goes t p) c e x y h = h
version-by (Waits t o) c e x y h = h

module _ (v : World) (m : Move) (op : Op) (o : ObjectId) where
  abbrev pub scene : Scene
  scene = record { entry = entry_at v.objects o; threads = v.threads; turn = v.turn; asked = v.asked }

  abbrev w : Op
  w = work op scene m

  abbrev r : Effect
  r = done_by op scene m w

  -- the world between the two parts
  abbrev pub between : World
  between = record { threads = r.threads; objects = put_entry v.objects o r.entry; turn = v.turn; asked = v.asked }

  abbrev by : Entry → Thread → Clock
  by e x = version_in m w.call e x

  -- the object as it is read again: it is the one that was put back, or none
  version-again : by (entry_at between.objects o) (thread_at r.threads (who m)) ≡ by r.entry (thread_at v.threads (who m))
  version-again =
      version-by m w.call _ (thread_at r.threads (who m)) (thread_at v.threads (who m)) (done-dependence (who m) w.object scene.entry v.threads m w.call)
      ∙ split (ltb o.0 (length v.objects))
      (λ h. ap (λ (e : Entry). by e (thread_at v.threads (who m))) (get_or-set_same v.objects o.0 r.entry (new_entry no_object) (ltb-true o.0 (length v.objects) h)))
      (λ h.
      let past : length v.objects ≤ o.0 = ltb-false o.0 (length v.objects) h in
      ap (λ (es : List Entry). by (get_or es o.0 (new_entry no_object)) (thread_at v.threads (who m))) (set_out v.objects o.0 r.entry past)
      ∙ version_before m w.call (who m) w.object scene.entry v.threads (thread_at v.threads (who m)))

  again_by : by r.entry (thread_at r.threads (who m)) ≡ by r.entry (thread_at v.threads (who m))
  again_by = version-by m w.call r.entry _ _ (done-dependence (who m) w.object scene.entry v.threads m w.call)

  pub followed_is : o ≡ w.object → followed m w r.answer between ≡ world_of v o (scene_by op scene m w r)
  unfolding followed
  followed_is h =
      let x : Thread = thread_at r.threads (who m) in
      let f : Entry → Entry = λ e. recorded_in m w.call (record { path_id = turn_in m v.turn; version = by e x }) e in
      let following : ObjectId → World = λ p. record { threads = changed r.threads (who m) (after_effect m (wait_of w.call) r.answer (by (entry_at between.objects p) x)); objects = put_entry between.objects p (f (entry_at between.objects p)); turn = turn_in m v.turn; asked = asked_in m v.asked } in
      ap following (sym h)
      ∙ (λ i.
      record {
        threads = changed r.threads (who m) (after_effect m (wait_of w.call) r.answer (version-again i));
        objects = (set_then v.objects o.0 r.entry (new_entry no_object) f ∙ ap (λ (c : Clock). put_entry v.objects o (recorded_in m w.call (record { path_id = turn_in m v.turn; version = c }) r.entry)) again_by) i;
        turn = turn_in m v.turn;
        asked = asked_in m v.asked;
      })
