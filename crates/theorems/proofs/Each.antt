-- A decision, an effect at a time: what holds before each effect, and what the decision leaves. The words are in specs/Each.antt.
use Rattle.std.proofs.Math.Path.{◌≡◌, refl, ap}
use Rattle.std.proofs.Common.{sym, subst, arith}
use Rattle.std.specs.Prelude.{ℕ, eqb, drop, None, Option, Some, Err, Ok}
use mathlib.Core.List.{List, [], ◌∷◌}
use Rattle.std.proofs.Math.ListN.{get_or}
use Rattle.clocks.specs.Clock.{risen}
use Rattle.clocks.specs.declared.thread.ThreadId.{ThreadId}
use Rattle.rules.specs.declared.object.ObjectId.{ObjectId}
use Rattle.rules.specs.declared.object.Entry.{Entry}
use Rattle.rules.specs.Ground.{Ending}
use Rattle.rules.specs.declared.object.Failure.TheVariants as failure
use Rattle.rules.specs.declared.mutex.Call.TheVariants as mutex-call
use Rattle.rules.specs.declared.thread.Phase.{Phase}
use Rattle.rules.specs.declared.thread.Phase.TheVariants.{Nothing, Announced, Parked, Retaking}
use Rattle.rules.specs.declared.thread.Thread.{Thread}
use Rattle.rules.specs.declared.table.Call.{Call}
use Rattle.rules.specs.declared.table.Call.TheVariants.{Mutex}
use Rattle.rules.specs.declared.table.Op.{Op}
use Rattle.rules.specs.declared.table.Table.{Table}
use Rattle.rules.specs.declared.answer.Spot.{Spot}
use Rattle.rules.specs.declared.world.World.{World}
use Rattle.rules.specs.declared.world.Decided.{Decided}
use Rattle.rules.specs.Ground.{is_runnable}
use Rattle.rules.specs.Table.{no_op}
use Rattle.rules.specs.TableLaws.{Within}
use Rattle.rules.proofs.TableLaws.{by_test}
use Rattle.rules.specs.Effect.{is_free, asks, wait_of}
use Rattle.rules.specs.Turn.{thread_in, entry_in, with_turn, ending_of, go_on, thereafter, operation, mutex_of, turn_of, ops_left, begin, question, decide_at, decide}
use Rattle.theorems.specs.Stage.{SoundIn}
use Rattle.theorems.specs.Falling.{Good, Ready}
use Rattle.theorems.proofs.Falling.{sound_here, runnable_within}
use Rattle.theorems.specs.Each.{onward, operated, in_effect, waiting, recorded, dependent, retaking, Takes, Succeeds, OnGo, OnOperation, OnTurn, OnAsked, Each, Passes, Begins, Acts, Answers}

-- two things at once
pub begins_both : (table : Table) (w : World) (t : ThreadId) (Q R : ThreadId → Call → Entry → List Thread → Type 0) (I K : List Op → World → Type 0) (J L : World → Type 0)
    → Begins table w t Q I J → Begins table w t R K L → Begins table w t (λ u c e ts. Q u c e ts × R u c e ts) (λ ops v. I ops v × K ops v) (λ v. J v × L v)
begins_both table w t Q R I K J L b c =
    record {
      passes = record {
        sees = λ ops v op f i. (b.passes.sees ops v op f i.0, c.passes.sees ops v op f i.1);
        shows = λ ops v i. (b.passes.shows ops v i.0, c.passes.shows ops v i.1);
        asks = λ ops v op a i. (b.passes.asks ops v op a i.0, c.passes.asks ops v op a i.1);
        ends = λ v i. (b.passes.ends v i.0, c.passes.ends v i.1);
        announces = λ ops v op i. (b.passes.announces ops v op i.0, c.passes.announces ops v op i.1);
        goes = λ ops v op f z i. (b.passes.goes ops v op f z i.0, c.passes.goes ops v op f z i.1);
      };
      nothing = λ e. (b.nothing e, c.nothing e);
      effects = λ op k. (b.effects op k, c.effects op k);
      releases = λ op m k f s. (b.releases op m k f s, c.releases op m k f s);
      operates = λ op next ops k e z s. (b.operates op next ops k e z s, c.operates op next ops k e z s);
      waits = λ op a m o e f s. (b.waits op a m o e f s, c.waits op a m o e f s);
      retakes = λ m o e. (b.retakes m o e, c.retakes m o e);
    }

-- what else is seen before each effect
pub begins_sees : (table : Table) (w : World) (t : ThreadId) (Q R : ThreadId → Call → Entry → List Thread → Type 0) (I : List Op → World → Type 0) (J : World → Type 0) → Begins table w t Q I J
    → ((ops : List Op) (v : World) (op : Op) → I (op ∷ ops) v → R t op.call (entry_in v op.object) v.threads)
    → ((op : Op) → Takes (thread_in w t).phase (ops_left table w t) op → R t op.call (recorded t op w) (dependent t op w))
    → ((op : Op) (m : ObjectId) → Takes (thread_in w t).phase (ops_left table w t) op → wait_of op.call ≡ Some m → R t (Mutex mutex-call.ReleaseLock) (entry_in (in_effect t op w) m) (in_effect t op w).threads)
    → Begins table w t R I J
begins_sees table w t Q R I J b sees effects releases =
    record {
      passes = record {
        sees = λ ops v op f i. sees ops v op i;
        shows = b.passes.shows;
        asks = b.passes.asks;
        ends = b.passes.ends;
        announces = b.passes.announces;
        goes = b.passes.goes;
      };
      nothing = b.nothing;
      effects = effects;
      releases = λ op m k f s. releases op m k f;
      operates = b.operates;
      waits = b.waits;
      retakes = b.retakes;
    }

-- an ending: a failing step shows the world before it
ending_passes : (J : World → Type 0) (e : Ending) (s : Spot) (shown : World) (next : Decided) → J shown → (e ≡ Ok tt → J next.world) → J (ending_of e s shown next).world
unfolding ending_of
ending_passes J (Ok ok) s shown next j k = k refl
ending_passes J (Err failure.Misuse) s shown next j k = j
ending_passes J (Err failure.NoRoom) s shown next j k = j
ending_passes J (Err (failure.Race o)) s shown next j k = j

module _ (t : ThreadId) (Q : ThreadId → Call → Entry → List Thread → Type 0) (I : List Op → World → Type 0) (J : World → Type 0) (h : Passes t Q I J) where
  -- through operations that need no announcement
  go_passes : (ops : List Op) (w : World) → I ops w → J (go_on t ops w).world
  unfolding go_on
  go_passes [] w i = h.ends w i
  go_passes (op ∷ ops) w i =
      by_test (λ (r : Decided). J r.world) (is_free op.call)
      (λ f. ending_passes J _ _ w _ (h.shows _ w i) (λ well. go_passes ops (onward t op w) (h.goes ops w op f well i)))
      (λ f. by_test (λ (r : Decided). J r.world) (asks op.call (entry_in w op.object)) (λ a. h.asks ops w op a i) (λ a. h.announces ops w op i))

  -- what holds before each of their effects
  go_each : (ops : List Op) (w : World) → I ops w → OnGo Q t ops w
  go_each [] w i = tt
  go_each (op ∷ ops) w i = λ f. (h.sees ops w op f i, λ well. go_each ops (onward t op w) (h.goes ops w op f well i))

module _ (table : Table) (w : World) (t : ThreadId) (Q : ThreadId → Call → Entry → List Thread → Type 0) (I : List Op → World → Type 0) (J : World → Type 0) (b : Begins table w t Q I J) where
  -- an announced operation and what follows its effect
  module _ (op first : Op) (ops : List Op) (takes : Takes (thread_in w t).phase (ops_left table w t) op) (left : ops_left table w t ≡ first ∷ ops) (before : J w)
      (waits : (m : ObjectId) → wait_of op.call ≡ Some m → Succeeds t op w → J (waiting t m (in_effect t op w))) where
    then_passes : (m : Option ObjectId) → wait_of op.call ≡ m → Succeeds t op w → J (thereafter m t (operated t op w).answer ops (in_effect t op w)).world
    unfolding thereafter
    then_passes None e s = go_passes t Q I J b.passes ops _ (b.operates op first ops takes left e s)
    then_passes (Some m) e s = waits m e s

    operation_passes : J (operation t op ops w).world
    unfolding operation
    operation_passes = ending_passes J _ _ w _ before (then_passes (wait_of op.call) refl)

  -- what a turn leaves
  turn_passes : J w → (f : Phase) → (thread_in w t).phase ≡ f → (ops : List Op) → ops_left table w t ≡ ops → SoundIn f ops → J (turn_of f t ops w).world
  unfolding turn_of
  turn_passes j Nothing e ops q s = go_passes t Q I J b.passes ops _ (subst (λ (os : List Op). I os (with_turn w (risen 65535 w.turn))) q (b.nothing e))
  turn_passes j (Announced p) e [] q s = absurd (omega (arith, s))
  turn_passes j (Announced p) e (op ∷ ops) q s =
      let same : get_or (ops_left table w t) 0 no_op ≡ op = ap (λ (os : List Op). get_or os 0 no_op) q in
      operation_passes op op ops (subst (λ (f : Phase). Takes f (ops_left table w t) op) (sym e) (sym same)) q j (λ m z. b.waits op p m (sym same) e z)
  turn_passes j Parked e ops q s = b.retakes _ (ap (λ (os : List Op). mutex_of (wait_of (get_or os 0 no_op).call)) (sym q)) e
  turn_passes j (Retaking p) e [] q s = absurd (omega (arith, s))
  turn_passes j (Retaking p) e (op ∷ ops) q s =
      operation_passes (retaking p) op ops (subst (λ (f : Phase). Takes f (ops_left table w t) (retaking p)) (sym e) refl) q j (λ m z. let q : ◌≡◌ {A = ℕ} 0 1 = cc in absurd (omega (arith, q)))

  -- what holds before the effects of an announced operation and of those after it
  operation-each : (op first : Op) (ops : List Op) → Takes (thread_in w t).phase (ops_left table w t) op → ops_left table w t ≡ first ∷ ops → OnOperation Q t op ops w
  operation-each op first ops takes q = (b.effects op takes, λ e s. go_each t Q I J b.passes ops _ (b.operates op first ops takes q e s), λ m. b.releases op m takes)

  -- what holds before the effects of a turn
  turn_each : (f : Phase) → (thread_in w t).phase ≡ f → (ops : List Op) → ops_left table w t ≡ ops → SoundIn f ops → OnTurn Q f t ops w
  turn_each Nothing e ops q s = go_each t Q I J b.passes ops _ (subst (λ (os : List Op). I os (with_turn w (risen 65535 w.turn))) q (b.nothing e))
  turn_each (Announced p) e [] q s = absurd (omega (arith, s))
  turn_each (Announced p) e (op ∷ ops) q s =
      operation-each op op ops (subst (λ (f : Phase). Takes f (ops_left table w t) op) (sym e) (sym (ap (λ (os : List Op). get_or os 0 no_op) q))) q
  turn_each Parked e ops q s = tt
  turn_each (Retaking p) e [] q s = absurd (omega (arith, s))
  turn_each (Retaking p) e (op ∷ ops) q s = operation-each (retaking p) op ops (subst (λ (f : Phase). Takes f (ops_left table w t) (retaking p)) (sym e) refl) q

pub answers_both : (table : Table) (w : World) (t : ThreadId) (J L : World → Type 0) → Answers table w t J → Answers table w t L → Answers table w t (λ v. J v × L v)
answers_both table w t J L a b = record { goes = λ op o. (a.goes op o, b.goes op o); wakes = λ op o. (a.wakes op o, b.wakes op o) }

module _ (table : Table) (n : Within table) (w : World) (g : Good table w) (Q : ThreadId → Call → Entry → List Thread → Type 0) (I : ThreadId → List Op → World → Type 0) (J : World → Type 0)
    (before : J w) (begins : (t : ThreadId) → Acts w t → Begins table w t Q (I t) J)
    (answers : (t : ThreadId) → w.asked ≡ Some t → Ready table (Some t) w.threads → Answers table w t J) where
  -- what a decision leaves, the last one too
  pub decide_passes : (d : ℕ) → J (decide table w d).world
  unfolding decide decide_at begin question
  decide_passes d = go w.asked refl
    where
      go : (a : Option ThreadId) → w.asked ≡ a → J (decide_at a table w d).world
      go None e =
          let t : ThreadId = record { 0 = d } in
          by_test (λ (r : Decided). J r.world) (is_runnable (thread_in w t).state)
          (λ r.
          let l = runnable_within table w g n t r in
          turn_passes table w t Q (I t) J (begins t (record { within = l; runs = r; nobody = e })) before (thread_in w t).phase refl (ops_left table w t) refl (sound_here table w g n t l))
          (λ r. before)
      go (Some t) e =
          let a = answers t e (subst (λ (x : Option ThreadId). Ready table x w.threads) e g.ready) in
          by_test (λ (r : Decided). J r.world) (eqb d 0) (λ z. a.goes _ refl) (λ z. by_test (λ (r : Decided). J r.world) (eqb d 1) (λ o. a.wakes _ refl) (λ o. before))

  -- what holds before each of its effects
  pub decide-each : (d : ℕ) → Each Q table w d
  decide-each d = go w.asked refl
    where
      go : (a : Option ThreadId) → w.asked ≡ a → OnAsked Q a table w d
      go None e =
          λ r.
          let t : ThreadId = record { 0 = d } in
          let l = runnable_within table w g n t r in
          turn_each table w t Q (I t) J (begins t (record { within = l; runs = r; nobody = e })) (thread_in w t).phase refl (ops_left table w t) refl (sound_here table w g n t l)
      go (Some t) e = tt

-- what follows from `Q` and `S` for the thread d holds before each effect too
module _ (Q S R : ThreadId → Call → Entry → List Thread → Type 0) (d : ℕ)
    (on : (c : Call) (e : Entry) (ts : List Thread) → Q (record { 0 = d }) c e ts → S (record { 0 = d }) c e ts → R (record { 0 = d }) c e ts) where
  -- the thread
  abbrev who : ThreadId
  who = record { 0 = d }

  -- of operations that need no announcement
  go_both : (ops : List Op) (w : World) → OnGo Q who ops w → OnGo S who ops w → OnGo R who ops w
  go_both [] w h i = tt
  go_both (op ∷ ops) w h i = λ f. (on _ _ _ (h f).0 (i f).0, λ z. go_both ops (onward who op w) ((h f).1 z) ((i f).1 z))

  -- of a turn
  turn_both : (f : Phase) (ops : List Op) (w : World) → OnTurn Q f who ops w → OnTurn S f who ops w → OnTurn R f who ops w
  turn_both Nothing ops w h i = go_both ops _ h i
  turn_both (Announced p) ops w h i = (on _ _ _ h.0 i.0, λ z s. go_both (drop 1 ops) _ (h.1 z s) (i.1 z s), λ m z s. on _ _ _ (h.2 m z s) (i.2 m z s))
  turn_both Parked ops w h i = tt
  turn_both (Retaking p) ops w h i = (on _ _ _ h.0 i.0, λ z s. go_both (drop 1 ops) _ (h.1 z s) (i.1 z s), λ m z s. on _ _ _ (h.2 m z s) (i.2 m z s))

  -- of a decision
  pub each_both : (table : Table) (w : World) → Each Q table w d → Each S table w d → Each R table w d
  each_both table w h i = go w.asked h i
    where
      go : (a : Option ThreadId) → OnAsked Q a table w d → OnAsked S a table w d → OnAsked R a table w d
      go None h i = λ r. turn_both (thread_in w who).phase (ops_left table w who) w (h r) (i r)
      go (Some t) h i = tt
