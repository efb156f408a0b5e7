-- An object keeps the kind that the table gave it, and what is announced, waited for, retaken or asked is on an object of its kind. The words are in specs/Kinds.antt.
use Rattle.std.specs.Prelude.{◌≡◌, refl, true, List, ◌∷◌, ℕ, ◌<◌, length, get_or, drop, None, Option, Some, Ok}
use Rattle.std.proofs.Common.{sym, ◌∙◌, ap, subst, arith}
use Rattle.std.proofs.lemmas.Bool.{false≢true}
use Rattle.clocks.specs.declared.clock.Clock.{Clock}
use Rattle.clocks.specs.declared.thread.ThreadId.{ThreadId}
use Rattle.rules.specs.declared.access.Access.{Access}
use Rattle.rules.specs.declared.object.ObjectId.{ObjectId}
use Rattle.rules.specs.declared.object.Entry.{Entry}
use Rattle.rules.specs.declared.object.Kind.TheVariants as kind
use Rattle.rules.specs.declared.object.Operation.{Operation}
use Rattle.rules.specs.declared.notify.Call.TheVariants as notify-call
use Rattle.rules.specs.declared.thread.Phase.{Phase}
use Rattle.rules.specs.declared.thread.Phase.TheVariants.{Nothing, Announced, Parked, Retaking}
use Rattle.rules.specs.declared.table.Call.{Call}
use Rattle.rules.specs.declared.table.Call.TheVariants.{Mutex, RwLock, Condvar, Notify, Channel, Arc, Cell}
use Rattle.rules.specs.declared.table.Made.{Made}
use Rattle.rules.specs.declared.table.Op.{Op}
use Rattle.rules.specs.declared.table.Table.{Table}
use Rattle.rules.specs.declared.world.World.{World}
use Rattle.rules.specs.Object.{new_entry, no_object}
use Rattle.rules.specs.Notify as notify
use Rattle.rules.specs.Table.{no_op, kind_of, ops_of, read_table}
use Rattle.rules.specs.TableLaws.{Within}
use Rattle.rules.proofs.TableLaws.{read-within}
use Rattle.rules.specs.Effect.{asks, wait_of, set_last_access, doing}
use Rattle.rules.specs.Turn.{thread_in, entry_in, mutex_of, ops_left}
use Rattle.theorems.specs.Reached.{Shown, Reached}
use Rattle.theorems.proofs.Reached.{reached-shown, reached_good}
use Rattle.theorems.specs.Phases.{PhaseIs, AskedIs}
use Rattle.theorems.proofs.Phases.{Orderly, orderly, acting, asking}
use Rattle.theorems.proofs.Phases as phases
use Rattle.theorems.specs.Each.{Takes, retaking, accessed, Each, Begins}
use Rattle.theorems.proofs.Each.{begins_both, begins_sees, answers_both, decide-each}
use Rattle.theorems.specs.Objects.{Lasting}
use Rattle.theorems.proofs.Objects.{Objects, lasting}
use Rattle.theorems.proofs.Objects as objects
use Rattle.theorems.specs.Typed.{WaitsOnMutex, OnKind}
use Rattle.theorems.proofs.Typed.{ops_typed}
use Rattle.theorems.specs.Kinds.{KindOf, KindIn, AskedWait, OfKind}

doing_kind : (c : Call) (a : ThreadId) (o : ObjectId) (by : Clock) (e : Entry) → (doing c a o by e).state.kind ≡ e.kind
unfolding doing
doing_kind (Mutex c) a o by e = refl
doing_kind (RwLock c) a o by e = refl
doing_kind (Condvar c) a o by e = refl
doing_kind (Notify c) a o by e = refl
doing_kind (Channel c) a o by e = refl
doing_kind (Arc c) a o by e = refl
doing_kind (Cell c) a o by e = refl

records_kind : (c : Call) (x : Access) (e : Entry) → (set_last_access c x e).kind ≡ e.kind
unfolding set_last_access
records_kind (Mutex c) x e = refl
records_kind (RwLock c) x e = refl
records_kind (Condvar c) x e = refl
records_kind (Notify c) x e = refl
records_kind (Channel c) x e = refl
records_kind (Arc c) x e = refl
records_kind (Cell c) x e = refl

pub kinds_last : (n : ℕ) (ms : List Made) → Lasting n ms (KindOf ms)
unfolding new_entry
kinds_last n ms =
    record {
      made = λ k. refl;
      records = λ k c x e h. records_kind c x e ∙ h;
      effects = λ k c a o by e l h. doing_kind c a o by e ∙ h;
      spurs = λ k e h. h;
    }

-- only a Notify wait asks
asks-wait : (c : Call) (e : Entry) → asks c e ≡ true → (c ≡ Notify notify-call.Wait) × (notify.might_spur e.notify ≡ true)
unfolding asks
asks-wait (Mutex c) e h = absurd (false≢true h)
asks-wait (RwLock c) e h = absurd (false≢true h)
asks-wait (Condvar c) e h = absurd (false≢true h)
asks-wait (Notify notify-call.Notify) e h = absurd (false≢true h)
asks-wait (Notify notify-call.Wait) e h = (refl, h)
asks-wait (Channel c) e h = absurd (false≢true h)
asks-wait (Arc c) e h = absurd (false≢true h)
asks-wait (Cell c) e h = absurd (false≢true h)

-- in every world that the sheet of an accepted table shows
module _ (bs list : List ℕ) (table : Table) (w : World) (a : read_table bs ≡ Ok table) (e : Shown table list w) where
  -- an object's kind
  pub kind_kept : (o : ObjectId) → (entry_in w o).kind ≡ (get_or table.objects o.0 no_object).kind
  kind_kept o = lasting table (KindOf table.objects) (kinds_last table.thread_count table.objects) bs list w a e o.0

  mutex_kept : (m : Option ObjectId) (o : ObjectId) → m ≡ Some o → WaitsOnMutex table.objects m → (entry_in w o).kind ≡ kind.Mutex
  mutex_kept m o q h = kind_kept o ∙ subst (WaitsOnMutex table.objects) q h

  -- what is announced, waited for or retaken
  pub phase_kind : (t : ThreadId) → KindIn (thread_in w t).phase (ops_left table w t) w
  phase_kind t = go (thread_in w t).phase ((orderly bs list table w a e).threads.1 t.0).0
    where
      typed : 0 < length (ops_left table w t) → OnKind table.objects (get_or (ops_left table w t) 0 no_op)
      typed l = ops_typed bs table a t.0 (thread_in w t).position l

      go : (f : Phase) → PhaseIs f (ops_left table w t) → KindIn f (ops_left table w t) w
      go Nothing h = tt
      go (Announced p) h = ap (λ (x : Operation). (entry_in w x.obj).kind) h.1 ∙ kind_kept (get_or (ops_left table w t) 0 no_op).object ∙ (typed h.0).0
      go Parked h = mutex_kept (wait_of (get_or (ops_left table w t) 0 no_op).call) (mutex_of (wait_of (get_or (ops_left table w t) 0 no_op).call)) h.1 (typed h.0).1
      go (Retaking p) h = mutex_kept (wait_of (get_or (ops_left table w t) 0 no_op).call) p.obj h.1 (typed h.0).1

  -- who is asked
  pub asked_wait : AskedWait table w.asked w
  asked_wait = go w.asked (orderly bs list table w a e).asked
    where
      go : (x : Option ThreadId) → AskedIs table x w → AskedWait table x w
      go None h = tt
      go (Some t) h =
          let op : Op = get_or (ops_left table w t) 0 no_op in
          let r = asks-wait op.call (entry_in w op.object) h.3 in
          (r.0, kind_kept op.object ∙ (ops_typed bs table a t.0 (thread_in w t).position h.2).0 ∙ ap kind_of r.0, r.1)

module _ (bs : List ℕ) (table : Table) (a : read_table bs ≡ Ok table) where
  abbrev KindsIn : World → Type 0
  KindsIn w = Objects table (KindOf table.objects) (kinds_last table.thread_count table.objects) w

  -- the next operation
  typed : (t : ThreadId) (v : World) (op : Op) (ops : List Op) → drop (thread_in v t).position (ops_of table t.0) ≡ op ∷ ops → OnKind table.objects op
  typed t v op ops e =
      subst (OnKind table.objects) (ap (λ (os : List Op). get_or os 0 no_op) e) (ops_typed bs table a t.0 (thread_in v t).position (subst (λ (os : List Op). 0 < length os) (sym e) (omega arith)))

  module _ (t : ThreadId) (member : t.0 < table.thread_count) (w : World) (order : Orderly table w) (h : KindsIn w) where
    -- the operation that a turn takes first
    taken : (op : Op) → Takes (thread_in w t).phase (ops_left table w t) op → (get_or table.objects op.object.0 no_object).kind ≡ kind_of op.call
    taken op k = go (thread_in w t).phase k (order.threads.1 t.0).0
      where
        go : (f : Phase) → Takes f (ops_left table w t) op → PhaseIs f (ops_left table w t) → (get_or table.objects op.object.0 no_object).kind ≡ kind_of op.call
        go Nothing k p = absurd k
        go (Announced x) k p = subst (λ (y : Op). (get_or table.objects y.object.0 no_object).kind ≡ kind_of y.call) (sym k) (ops_typed bs table a t.0 (thread_in w t).position p.0).0
        go Parked k p = absurd k
        go (Retaking x) k p =
            subst (λ (y : Op). (get_or table.objects y.object.0 no_object).kind ≡ kind_of y.call) (sym k) (subst (WaitsOnMutex table.objects) p.1 (ops_typed bs table a t.0 (thread_in w t).position p.0).1)

    -- the mutex of a wait
    waited : (op : Op) (m : ObjectId) → Takes (thread_in w t).phase (ops_left table w t) op → wait_of op.call ≡ Some m → (get_or table.objects m.0 no_object).kind ≡ kind.Mutex
    waited op m k f = go (thread_in w t).phase k (order.threads.1 t.0).0
      where
        go : (x : Phase) → Takes x (ops_left table w t) op → PhaseIs x (ops_left table w t) → (get_or table.objects m.0 no_object).kind ≡ kind.Mutex
        go Nothing k p = absurd k
        go (Announced x) k p = subst (WaitsOnMutex table.objects) (ap (λ (y : Op). wait_of y.call) (sym k) ∙ f) (ops_typed bs table a t.0 (thread_in w t).position p.0).1
        go Parked k p = absurd k
        go (Retaking x) k p = let q : wait_of (retaking x).call ≡ Some m = ap (λ (y : Op). wait_of y.call) (sym k) ∙ f in let z : ◌≡◌ {A = ℕ} 0 1 = cc in absurd (omega (arith, z))

    begins : Within table → w.asked ≡ None → Begins table w t OfKind (λ ops v. phases.Mid table t ops v × KindsIn v) (λ v. Orderly table v × KindsIn v)
    begins n nobody =
        let l = kinds_last table.thread_count table.objects in
        begins_sees table w t _ OfKind _ _
        (begins_both table w t _ _ _ _ _ _ (phases.begins table t member n w order nobody) (objects.begins table (KindOf table.objects) l t member w h))
        (λ ops v op i. i.1 op.object.0 ∙ (typed t v op ops i.0.turn.left).0)
        (λ op k. records_kind op.call (accessed t op w) (entry_in w op.object) ∙ h op.object.0 ∙ taken op k)
        (λ op m k f. objects.in_effect_lem table (KindOf table.objects) l t member w h op m.0 ∙ waited op m k f)

-- before each effect of a further decision
pub effect_kind : (bs list : List ℕ) (table : Table) (w : World) → read_table bs ≡ Ok table → Reached table list w → (d : ℕ) → Each OfKind table w d
effect_kind bs list table w a e =
    let s = reached-shown table list w e in
    let n = (read-within bs table a).0 in
    let l = kinds_last table.thread_count table.objects in
    let order = orderly bs list table w a s in
    let h = lasting table (KindOf table.objects) l bs list w a s in
    decide-each table n w (reached_good bs list table w a e) OfKind (λ t ops v. phases.Mid table t ops v × KindsIn bs table a v) (λ v. Orderly table v × KindsIn bs table a v) (order, h)
    (λ t x. begins bs table a t (acting table w order t x) w order h n x.nobody)
    (λ t q r. let k = asking table w order t q in answers_both table w t _ _ (phases.answers table t k.0 n w order k.1 k.2) (objects.answers table (KindOf table.objects) l t k.0 w h))
