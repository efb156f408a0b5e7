-- A step of a run as the code takes it, in a world that is lent, and that what is left of any list's judgement stays the same by it.
use Rattle.std.specs.Prelude.{◌≡◌, refl, Bool, true, false, List, ℕ, ◌<◌, ◌≤◌, ltb, length, get_or, is_some, unwrap_or, None, Option, Some, Result, Ok, Err}
use Rattle.std.proofs.Common.{sym, ◌∙◌, ap, subst, arith, ltb-false}
use Rattle.std.proofs.Math.ListN.{get_or-eq_default}
use Rattle.rules.proofs.TableLaws.{split}
use Rattle.std.proofs.lemmas.List.{set-get_or}
use Rattle.rules.specs.declared.object.ObjectId.{ObjectId}
use Rattle.rules.specs.declared.object.Failure.{Failure}
use Rattle.rules.specs.declared.object.Failure.TheVariants as failure
use Rattle.rules.specs.declared.object.Entry.{Entry}
use Rattle.rules.specs.declared.thread.Thread.{Thread}
use Rattle.clocks.specs.declared.thread.ThreadId.{ThreadId}
use Rattle.rules.specs.declared.table.Op.{Op}
use Rattle.rules.specs.declared.table.Table.{Table}
use Rattle.rules.specs.declared.world.World.{World}
use Rattle.rules.specs.Limits.{op_places}
use Rattle.rules.specs.Ground.{Ending, thread_at, put_thread, is_fine}
use Rattle.rules.specs.Object.{entry_at, put_entry}
use Rattle.rules.specs.Effect.{asks, wait_of, Effect}
use Rattle.rules.specs.Table.{no_op}
use Rattle.objects.specs.Settled.{Settled, settled}
use Rattle.turns_steps.specs.declared.Move.{Move}
use Rattle.turns_steps.specs.declared.Acting.{Acting}
use Rattle.turns_steps.specs.declared.Acting.TheVariants.{Moves, InEffect}
use Rattle.turns_steps.specs.declared.Quiet.{Quiet}
use Rattle.turns_steps.specs.Step.{Scene, Moved, act, subject, place_of}
use Rattle.turns_steps.specs.Quiet.{who, is_begun, is_barred, is_quiet, quietly, quiet_law, stayed, subject_in, subject_in_lem, place_in, place_in_lem}
use Rattle.turns_steps.specs.Loud.{op_in, takes_effect, next_in, outcome, outcome_of, verdict_or, done_by, scene_by, loud_fine, loud_fails}
use Rattle.turns_run.specs.Run.{left_of, op_of, scene_of, world_of, followed, rest, Placed, weight}
use Rattle.turns_run.specs.RunLaws.{rest-act, act_lighter, effect_lighter, followed_lighter, rest-followed}
use Rattle.turns_run.specs.InEffect.{work-subject, done-position, between, followed_is}

-- the operation of a move of a thread that stands at p, if one is left
abbrev pub next_op : Table → ℕ → Move → Option Op
next_op table p m = let k = place_in table.counts p m in elim (ltb k op_places) [ true ↦ Some (get_or table.ops k no_op) | false ↦ None ]

-- a quiet step of the thread's record x, and the world then
abbrev pub quiet_of : Move → Bool → Op → Thread → World → Quiet
quiet_of m left op x w =
    let e = entry_at w.objects (subject_in x.phase m op) in quietly m left op (is_barred (is_begun m) op.call e) (asks op.call e) x w.turn w.asked

abbrev pub rested : World → ThreadId → Quiet → World
rested w t q = record { threads = put_thread w.threads t q.thread; objects = w.objects; turn = q.turn; asked = q.asked }

-- what takes effect, and the world then: a step that fails leaves it as it was
abbrev pub effect_in : Move → Op → List Entry → List Thread → Settled
effect_in m op es ts = let e = entry_at es op.object in settled (takes_effect m op.call (who m) op.object e ts) e ts

abbrev pub effect_of : Move → Op → World → Settled
effect_of m op w = effect_in m op w.objects w.threads

abbrev pub affected : ObjectId → World → Settled → World
affected o w s = record { threads = s.threads; objects = put_entry w.objects o s.entry; turn = w.turn; asked = w.asked }

-- the same as the code has it in the store of objects
pub record InStore (m : Move) (op : Op) (es : List Entry) (ts : List Thread) (answer : Result (Option ℕ) Failure) (fs : List Entry) (us : List Thread) : Type 0 where
  pub answered : answer ≡ (effect_in m op es ts).answer
  pub stored : fs ≡ put_entry es op.object (effect_in m op es ts).entry
  pub threaded : us ≡ (effect_in m op es ts).threads

-- a step from one world to another: what is left of the judgement of any list is the same, and fewer steps may follow
pub record Follows (table : Table) (a : Acting) (w : World) (b : Acting) (v : World) : Type 0 where
  pub judged : (list : List ℕ) (at : ℕ) → rest table list at a w ≡ rest table list at b v
  pub fewer : weight b < weight a

-- the same step from and to what is equal
pub follows_as : {table : Table} {a b c : Acting} {w v u : World} → Follows table a w b v → c ≡ b → u ≡ v → Follows table a w c u
follows_as {table} f p q =
    record {
      judged = λ list at. f.judged list at ∙ sym (λ i. rest table list at (p i) (q i));
      fewer = let e = ap weight p in let h = f.fewer in omega (arith, e, h);
    }

pub follow_follows : (table : Table) (w : World) (m : Move) (op : Op) (n : Option ℕ)
    → Follows table (InEffect m op n) w (next_in m (wait_of op.call) (thread_at w.threads (who m)).position) (followed m op n w)
follow_follows table w m op n =
    record { judged = λ list at. rest-followed table list at w m op n; fewer = followed_lighter m (wait_of op.call) (thread_at w.threads (who m)).position }

outcome_err : (f : Failure) (m : Move) (op : Op) (n : Option ℕ) (position : ℕ) → outcome (Err f) m op n position ≡ outcome_of (Err f) m op position
unfolding outcome verdict_or
outcome_err failure.Misuse m op n position = refl
outcome_err failure.NoRoom m op n position = refl
outcome_err (failure.Race x) m op n position = refl

module _ (table : Table) (w : World) (m : Move) (l : Placed table) where
  abbrev x : Thread
  x = thread_at w.threads (who m)

  abbrev b : Bool
  b = left_of table w.threads m

  abbrev op : Op
  op = op_of table w.threads m

  abbrev o : ObjectId
  o = subject w.threads m op

  pub rest_quiet : is_quiet x.phase m b op.call ≡ true → (q : Quiet) → q ≡ quiet_of m b op x w → Follows table (Moves m) w q.acting (rested w (who m) q)
  rest_quiet h q e =
      let s : Scene = scene_of w o in
      let r : Moved = stayed s (who m) q in
      let same : q ≡ quietly m b op (is_barred (is_begun m) op.call s.entry) (asks op.call s.entry) x w.turn w.asked =
      e ∙ ap (λ (p : ObjectId). let y = entry_at w.objects p in quietly m b op (is_barred (is_begun m) op.call y) (asks op.call y) x w.turn w.asked) (sym (subject_in_lem w.threads m op)) in
      let acts : r ≡ act m b op s = ap (stayed s (who m)) same ∙ sym (quiet_law op s m b h) in
      record {
        judged = λ list at. rest-act table list at w m b op r l refl refl acts
            ∙ ap (λ (es : List Entry). rest table list at q.acting (record { threads = put_thread w.threads (who m) q.thread; objects = es; turn = q.turn; asked = q.asked })) (set-get_or w.objects o.0 _);
        fewer =
            let p = ap (λ (y : Moved). weight y.acting) acts in
            let f = act_lighter table l w.threads m b op s refl in
            omega (arith, p, f);
      }

  -- the operation that takes effect, and what it does to the object of number p
  abbrev work_op : Op
  work_op = op_in x.phase m op

  abbrev effect_at : ObjectId → Settled
  effect_at p = let e = entry_at w.objects p in settled (takes_effect m work_op.call (who m) work_op.object e w.threads) e w.threads

  abbrev ActFollows : ObjectId → Type 0
  ActFollows p = Follows table (Moves m) w (outcome_of (effect_at p).answer m work_op x.position) (affected p w (effect_at p))

  module _ (h : is_quiet x.phase m b op.call ≡ false) where
    abbrev s : Scene
    s = scene_of w o

    abbrev r : Effect
    r = done_by op s m work_op

    about : o ≡ work_op.object
    about = subject_in_lem w.threads m op ∙ work-subject x.phase m b op h

    abbrev settled_by : Ending → Settled
    settled_by y = elim y [ Ok ok ↦ record { answer = Ok r.answer; entry = r.entry; threads = r.threads } | Err f ↦ record { answer = Err f; entry = s.entry; threads = w.threads } ]

    abbrev ByEnding : Ending → Type 0
    ByEnding y = Follows table (Moves m) w (outcome_of (settled_by y).answer m work_op x.position) (affected o w (settled_by y))

    by_ending : (y : Ending) → r.ending ≡ y → ByEnding y
    unfolding outcome verdict_or
    by_ending (Ok ok) q =
        let fine : is_fine r.ending ≡ true = ap is_fine q in
        let same : x.position ≡ (thread_at r.threads (who m)).position = sym (done-position (who m) work_op.object s.entry w.threads m work_op.call) in
        record {
          judged = λ list at.
              rest-act table list at w m b op (record { acting = next_in m (wait_of work_op.call) x.position; scene = scene_by op s m work_op r }) l refl refl (sym (loud_fine op s m b h fine))
              ∙ (λ i. rest table list at (next_in m (wait_of work_op.call) (same i)) (sym (followed_is w m op o about) i))
              ∙ sym (rest-followed table list at (between w m op o) m work_op r.answer);
          fewer = effect_lighter table l w.threads x.phase (Ok ok) m b op work_op r.answer x.position refl h;
        }
    by_ending (Err f) q =
        let fails : is_fine r.ending ≡ false = ap is_fine q in
        let verdict = ap (λ (y : Ending). outcome y m work_op r.answer x.position) q ∙ outcome_err f m work_op r.answer x.position in
        record {
          judged = λ list at.
              rest-act table list at w m b op (record { acting = outcome r.ending m work_op r.answer x.position; scene = s }) l refl refl (sym (loud_fails op s m b h fails))
              ∙ ap (λ (c : Acting). rest table list at c (world_of w o s)) verdict;
          fewer =
              let f' = effect_lighter table l w.threads x.phase r.ending m b op work_op r.answer x.position refl h in
              let p = ap weight verdict in
              omega (arith, f', p);
        }

    pub rest_act : ActFollows work_op.object
    rest_act = subst ActFollows about (by_ending r.ending refl)

  -- the operation as the code finds it
  pub op_found : (next : Option Op) → next ≡ next_op table x.position m → (is_some next ≡ b) × (unwrap_or next no_op ≡ op)
  op_found next e =
      let k : ℕ = place_in table.counts x.position m in
      let at : place_of table.counts w.threads m ≡ k = place_in_lem table.counts w.threads m in
      split (ltb k op_places)
      (λ t. let f : next ≡ Some (get_or table.ops k no_op) = e ∙ rw (next_op, t) in (ap is_some f ∙ sym (ap (λ (j : ℕ). ltb j op_places) at ∙ t), ap (λ (y : Option Op). unwrap_or y no_op) f ∙ sym (ap (λ (j : ℕ). get_or table.ops j no_op) at)))
      (λ t.
      let f : next ≡ None = e ∙ rw (next_op, t) in
      let past : length table.ops ≤ k = omega (arith, l.all, ltb-false k op_places t) in
      (ap is_some f ∙ sym (ap (λ (j : ℕ). ltb j op_places) at ∙ t), ap (λ (y : Option Op). unwrap_or y no_op) f ∙ sym (ap (λ (j : ℕ). get_or table.ops j no_op) at ∙ get_or-eq_default table.ops no_op past)))
