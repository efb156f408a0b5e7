-- What a thread has announced, waits for when parked, or retakes, is what the operation at its position says; who is asked stands before a wait that may
-- end spuriously; and a thread that the table does not have has ended, with nothing announced. The words are in specs/Phases.antt.
use Rattle.std.specs.Prelude.{◌≡◌, Bool, ℕ, ◌≤◌, ◌<◌, ltb, get_or, drop, None, Option, Some, Ok}
use Rattle.std.proofs.Math.Path.{refl, ap, subst}
use Rattle.std.proofs.Common.{sym, ◌∙◌, length-set, get_or-set_same, ltb-true, ltb-false}
use Rattle.std.proofs.Math.Bool.{true}
use Rattle.std.proofs.lemmas.Bool.{false≢true}
use mathlib.Core.List.{List, [], ◌∷◌}
use native.Mathlib.Omega.{arith}
use Rattle.std.proofs.Math.ListN.{length}
use Rattle.clocks.specs.Clock.{max_threads, risen}
use Rattle.clocks.specs.declared.thread.ThreadId.{ThreadId}
use Rattle.rules.specs.declared.object.ObjectId.{ObjectId}
use Rattle.rules.specs.declared.object.Action.TheVariants as action
use Rattle.rules.specs.declared.object.Entry.{Entry}
use Rattle.rules.specs.declared.mutex.Call.TheVariants as mutex-call
use Rattle.rules.specs.declared.thread.State.TheVariants as state
use Rattle.rules.specs.declared.thread.Phase.{Phase}
use Rattle.rules.specs.declared.thread.Phase.TheVariants.{Nothing, Announced, Parked, Retaking}
use Rattle.rules.specs.declared.thread.Thread.{Thread}
use Rattle.rules.specs.declared.table.Call.{Call}
use Rattle.rules.specs.declared.table.Call.TheVariants.{Mutex}
use Rattle.rules.specs.declared.table.Op.{Op}
use Rattle.rules.specs.declared.table.Table.{Table}
use Rattle.rules.specs.declared.world.World.{World}
use Rattle.rules.specs.Ground.{absent, thread_at, put_thread, with_state, with_phase, with_position, with_answer, set_runnable, has_unpark, is_runnable, is_on, unpark_state}
use Rattle.rules.specs.Object.{announced}
use Rattle.rules.specs.Mutex as mutex
use Rattle.rules.specs.Table.{no_op, ops_of, read_table}
use Rattle.rules.specs.TableLaws.{Within}
use Rattle.rules.proofs.TableLaws.{by_test, split, step_on, read-within}
use Rattle.rules.specs.Effect.{action_of, asks, wait_of, effect}
use Rattle.rules.specs.Turn.{thread_in, entry_in, start, announce_op, retake, operate, advance, ended, park, wait, mutex_of, ops_left, spurious, decide}
use Rattle.theorems.specs.Falling.{Good}
use Rattle.theorems.specs.Reached.{Shown}
use Rattle.theorems.proofs.Reached.{shown_by}
use Rattle.theorems.specs.Named.{Named, MutexNamed}
use Rattle.theorems.proofs.Named.{ops_named}
use Rattle.theorems.proofs.All.{all_put}
use Rattle.theorems.specs.Touches.{Hold, Bears, Any}
use Rattle.theorems.proofs.Touches.{put_holds, start_holds, effect-any, keeps_position, answering_by}
use Rattle.theorems.specs.Each.{Acts, Passes, Begins, Answers, recorded, dependent, in_effect, waiting}
use Rattle.theorems.proofs.Each.{decide_passes}
use Rattle.theorems.specs.Phases.{PhaseIs, Stand, AskedIs, NamedIn}

-- one operation more is done: those after it are left
pub advance-left : (table : Table) → Within table → (t : ThreadId) (n : Option ℕ) (ts : List Thread) (op : Op) (ops : List Op) → t.0 < length ts
    → drop (thread_at ts t).position (ops_of table t.0) ≡ op ∷ ops → drop (thread_at (advance t n ts) t).position (ops_of table t.0) ≡ ops
unfolding advance
advance-left table limits t n ts op ops l e =
    answering_by (λ (x : Thread). drop (thread_at (put_thread ts t (with_position x (risen 255 (thread_at ts t).position))) t).position (ops_of table t.0) ≡ ops) n (thread_at ts t)
    (λ m.
    ap (λ (y : Thread). drop y.position (ops_of table t.0)) (get_or-set_same ts t.0 (with_position (with_answer (thread_at ts t) m) (risen 255 (thread_at ts t).position)) absent l)
    ∙ step_on table limits t.0 (thread_at ts t).position ∙ ap (λ (os : List Op). drop 1 os) e)

module _ (table : Table) where
  nobody_is : (w : World) → w.asked ≡ None → AskedIs table w.asked w
  nobody_is w e = subst (λ (a : Option ThreadId). AskedIs table a w) (sym e) tt

  pub record Orderly (w : World) : Type 0 where
    pub threads : Hold max_threads (Stand table) w.threads
    pub asked : AskedIs table w.asked w

  module _ (t : ThreadId) where
    -- in a turn of t: it has announced nothing
    abbrev Standing : ℕ → Thread → Type 0
    Standing k x = Stand table k x × (k ≡ t.0 → x.phase ≡ Nothing)

    -- p operations are done
    pub record InTurn (ops : List Op) (ts : List Thread) : Type 0 where
      pub hold : Hold max_threads Standing ts
      pub left : drop (thread_at ts t).position (ops_of table t.0) ≡ ops

    pub record Mid (ops : List Op) (v : World) : Type 0 where
      pub turn : InTurn ops v.threads
      pub nobody : v.asked ≡ None

  module _ (t : ThreadId) (member : t.0 < table.thread_count) (limits : Within table) where
    -- t is a thread of the table
    stays : {A : Type 0} → table.thread_count ≤ t.0 → A
    stays l = absurd (omega (arith, l, member))

    inside : (ts : List Thread) (P : ℕ → Thread → Type 0) → Hold max_threads P ts → t.0 < length ts
    inside ts P h = omega (arith, h.0, member, limits.threads)

    -- effects leave phases, positions, and who has ended
    bears : Bears Any (Standing t)
    bears =
        record {
          join = λ c d p q. tt;
          clock = λ k x h. tt;
          clocked = λ k x c p h. h;
          unparked = λ k x h. ((h.0.0, λ l. (ap unpark_state (h.0.1 l).0, (h.0.1 l).1)), h.1);
          stands = λ k x o s on live h. ((h.0.0, λ l. absurd (false≢true (sym (ap (is_on o) (h.0.1 l).1) ∙ on))), h.1);
        }

    effected : (ops : List Op) (c : Call) (o : ObjectId) (e : Entry) (ts : List Thread) → InTurn t ops ts → InTurn t ops (effect c t o e ts).threads
    effected ops c o e ts h =
        record {
          hold = effect-any max_threads (Standing t) bears c t o e ts h.hold;
          left = ap (λ (p : ℕ). drop p (ops_of table t.0)) (keeps_position c t o e ts) ∙ h.left;
        }

    -- the thread is put, with nothing announced
    same_put : (ops : List Op) (ts : List Thread) (x : Thread) → x.position ≡ (thread_at ts t).position → x.phase ≡ Nothing → InTurn t ops ts → InTurn t ops (put_thread ts t x)
    same_put ops ts x q f h =
        record {
          hold = put_holds max_threads (Standing t) t ts x h.hold ((subst (λ (y : Phase). PhaseIs y (drop x.position (ops_of table t.0))) (sym f) tt, stays), λ e. f);
          left = ap (λ (y : Thread). drop y.position (ops_of table t.0)) (get_or-set_same ts t.0 x absent (inside ts (Standing t) h.hold)) ∙ ap (λ (p : ℕ). drop p (ops_of table t.0)) q ∙ h.left;
        }

    -- one operation more is done
    advanced : (op : Op) (ops : List Op) (n : Option ℕ) (ts : List Thread) → InTurn t (op ∷ ops) ts → InTurn t ops (advance t n ts)
    unfolding advance
    advanced op ops n ts h =
        record {
          hold =
              answering_by (λ (x : Thread). Hold max_threads (Standing t) (put_thread ts t (with_position x (risen 255 (thread_at ts t).position)))) n (thread_at ts t)
              (λ m.
              let f : (thread_at ts t).phase ≡ Nothing = (h.hold.1 t.0).1 refl in
              put_holds max_threads (Standing t) t ts _ h.hold ((subst (λ (y : Phase). PhaseIs y (drop (risen 255 (thread_at ts t).position) (ops_of table t.0))) (sym f) tt, stays), λ e. f));
          left = advance-left table limits t n ts op ops (inside ts (Standing t) h.hold) h.left;
        }

    -- the turn ends
    done : (ts : List Thread) → Hold max_threads (Standing t) ts → Hold max_threads (Stand table) ts
    done ts h = (h.0, λ k. (h.1 k).0)

    -- with a phase set
    phased : (ops : List Op) (ts : List Thread) (f : Phase) (d : Bool) → InTurn t ops ts → PhaseIs f ops → Hold max_threads (Stand table) (put_thread ts t (announced f d (thread_at ts t)))
    unfolding announced
    phased ops ts f d h i =
        let j : PhaseIs f (drop (thread_at ts t).position (ops_of table t.0)) = subst (PhaseIs f) (sym h.left) i in
        put_holds max_threads (Stand table) t ts _ (done ts h.hold) (by_test (Stand table t.0) d (λ z. (j, stays)) (λ z. (j, stays)))

    -- through operations that need no announcement
    passes : Passes t (λ u c e ts. Unit {0}) (Mid t) Orderly
    unfolding announce_op ended
    passes =
        record {
          sees = λ ops v op f i. tt;
          shows = λ ops v i. record { threads = done v.threads i.turn.hold; asked = nobody_is _ i.nobody };
          asks =
              λ ops v op a i.
              record {
                threads = done v.threads i.turn.hold;
                asked = (
                  member,
                  (i.turn.hold.1 t.0).1 refl,
                  subst (λ (os : List Op). 0 < length os) (sym i.turn.left) (omega arith),
                  subst (λ (os : List Op). asks (get_or os 0 no_op).call (entry_in v (get_or os 0 no_op).object) ≡ true) (sym i.turn.left) a,
                );
              };
          ends =
              λ v i.
              let x : Thread = with_phase (with_state (thread_at v.threads t) state.Ended) Nothing in
              record {
                threads = done (put_thread v.threads t x) (same_put [] v.threads x refl refl i.turn).hold;
                asked = nobody_is _ i.nobody;
              };
          announces =
              λ ops v op i.
              record {
                threads = phased (op ∷ ops) v.threads _ _ i.turn (omega arith, refl);
                asked = nobody_is _ i.nobody;
              };
          goes =
              λ ops v op f z i.
              record {
                turn = advanced op ops _ _ (effected (op ∷ ops) op.call op.object (entry_in v op.object) v.threads i.turn);
                nobody = i.nobody;
              };
        }

    -- a wait, once it is queued: its mutex is released, and it parks or retakes at once
    parked : (ops : List Op) (m : ObjectId) (e : Entry) (ts : List Thread) → InTurn t ops ts → 0 < length ops → wait_of (get_or ops 0 no_op).call ≡ Some m → Hold max_threads (Stand table) (park t m e ts)
    unfolding park retake announced
    parked ops m e ts i l q =
        by_test (Hold max_threads (Stand table)) (has_unpark (thread_at ts t).state)
        (λ z. phased ops (put_thread ts t (set_runnable (thread_at ts t))) (Retaking (record { obj = m; action = action.Opaque })) (mutex.is_locked e.mutex.lock) (same_put ops ts (set_runnable (thread_at ts t)) refl ((i.hold.1 t.0).1 refl) i) (l, q))
        (λ z. phased ops ts Parked true i (l, q ∙ ap Some (sym (ap mutex_of q))))

    waited : (ops : List Op) (m : ObjectId) (v : World) → v.asked ≡ None → InTurn t ops v.threads → 0 < length ops → wait_of (get_or ops 0 no_op).call ≡ Some m → Orderly (waiting t m v)
    unfolding wait
    waited ops m v nobody i l q =
        record {
          threads = parked ops m _ _ (effected ops (Mutex mutex-call.ReleaseLock) m (entry_in v m) v.threads i) l q;
          asked = nobody_is _ nobody;
        }

    module _ (w : World) (h : Orderly w) where
      -- t has announced nothing
      begun : (thread_in w t).phase ≡ Nothing → InTurn t (ops_left table w t) w.threads
      begun f = record { hold = (h.threads.0, λ k. (h.threads.1 k, λ e. ap (λ (x : ℕ). (get_or w.threads x absent).phase) e ∙ f)); left = refl }

      -- an announced operation before its effect, and after it
      before : (op : Op) → InTurn t (ops_left table w t) (dependent t op w)
      before op =
          record {
            hold = (
              length-set w.threads t.0 _ ∙ h.threads.0,
              all_put (Stand table) (Standing t) absent w.threads t.0 _ (inside w.threads (Stand table) h.threads) (λ j y n i. (i, λ e. absurd (n e))) h.threads.1 ((tt, stays), λ e. refl),
            );
            left = ap (λ (y : Thread). drop y.position (ops_of table t.0)) (get_or-set_same w.threads t.0 _ absent (inside w.threads (Stand table) h.threads));
          }

      after : (op : Op) → InTurn t (ops_left table w t) (in_effect t op w).threads
      unfolding operate
      after op = effected (ops_left table w t) op.call op.object (recorded t op w) (dependent t op w) (before op)

      -- a turn
      pub begins : w.asked ≡ None → Begins table w t (λ u c e ts. Unit {0}) (Mid t) Orderly
      unfolding retake announced
      begins nobody =
          record {
            passes = passes;
            nothing = λ e. record { turn = begun e; nobody = nobody };
            effects = λ op k. tt;
            releases = λ op m k f s. tt;
            operates = λ op first ops k e z s. record { turn = advanced first ops _ _ (subst (λ (os : List Op). InTurn t os (in_effect t op w).threads) e (after op)); nobody = nobody };
            waits =
                λ op a m o e f s.
                let l : 0 < length (ops_left table w t) = (subst (λ (x : Phase). PhaseIs x (ops_left table w t)) e (h.threads.1 t.0).0).0 in
                waited (ops_left table w t) m (in_effect t op w) nobody (after op) l (ap (λ (x : Op). wait_of x.call) (sym o) ∙ f);
            retakes =
                λ m o e.
                let p = subst (λ (x : Phase). PhaseIs x (ops_left table w t)) e (h.threads.1 t.0).0 in
                record {
                  threads = retaken m p.0 (p.1 ∙ ap Some (sym o));
                  asked = nobody_is _ nobody;
                };
          }
        where
          retaken : (m : ObjectId) → 0 < length (ops_left table w t) → wait_of (get_or (ops_left table w t) 0 no_op).call ≡ Some m → Hold max_threads (Stand table) (retake t m (entry_in w m) w.threads)
          retaken m l q =
              put_holds max_threads (Stand table) t w.threads _ h.threads (by_test (Stand table t.0) (mutex.is_locked (entry_in w m).mutex.lock) (λ z. ((l, q), stays)) (λ z. ((l, q), stays)))

      -- an answer to a question
      pub answers : (thread_in w t).phase ≡ Nothing → 0 < length (ops_left table w t) → Answers table w t Orderly
      unfolding announce_op spurious
      answers f l =
          record {
            goes = λ op o. record { threads = phased (ops_left table w t) w.threads _ _ (begun f) (l, ap (λ (x : Op). record { obj = x.object; action = action_of x.call }) o); asked = tt };
            wakes =
                λ op o.
                let us : List Thread = put_thread w.threads t (set_runnable (thread_in w t)) in
                record { threads = done (advance t None us) (woken (ops_left table w t) l (same_put (ops_left table w t) w.threads (set_runnable (thread_in w t)) refl f (begun f))); asked = tt };
          }
        where
          woken : (ops : List Op) → 0 < length ops → InTurn t ops (put_thread w.threads t (set_runnable (thread_in w t))) → Hold max_threads (Standing t) (advance t None (put_thread w.threads t (set_runnable (thread_in w t))))
          woken [] l i = absurd (omega (arith, l))
          woken (op ∷ ops) l i = (advanced op ops None _ i).hold

  -- a thread that may act is one of the table's
  pub acting : (w : World) → Orderly w → (t : ThreadId) → Acts w t → t.0 < table.thread_count
  acting w h t x =
      split (ltb t.0 table.thread_count) (λ l. ltb-true t.0 table.thread_count l)
      (λ l. absurd (false≢true (sym (ap is_runnable ((h.threads.1 t.0).1 (ltb-false t.0 table.thread_count l)).0) ∙ x.runs)))

  -- who is asked
  pub asking : (w : World) → Orderly w → (t : ThreadId) → w.asked ≡ Some t → AskedIs table (Some t) w
  asking w h t q = subst (λ (x : Option ThreadId). AskedIs table x w) q h.asked

  -- each decision keeps it
  pub decide_orderly : Within table → (w : World) → Good table w → Orderly w → (d : ℕ) → Orderly (decide table w d).world
  decide_orderly n w g h =
      decide_passes table n w g (λ u c e ts. Unit {0}) Mid Orderly h (λ t x. begins t (acting w h t x) n w h x.nobody)
      (λ t q r. let a = asking w h t q in answers t a.0 n w h a.1 a.2)

  -- at the start nobody has announced anything
  pub start_orderly : Orderly (start table)
  unfolding start
  start_orderly = record { threads = start_holds (Stand table) table (λ k. (tt, λ l. (refl, refl))) (λ k x l h. (h.0, λ m. absurd (omega (arith, l, m)))); asked = tt }

-- in every world that the sheet of an accepted table shows
pub orderly : (bs list : List ℕ) (table : Table) (w : World) → read_table bs ≡ Ok table → Shown table list w → Orderly table w
orderly bs list table w a e =
    let h = read-within bs table a in (shown_by table h.0 (λ u v. Orderly table v) (λ u v d g l i. decide_orderly table h.0 v g i d) h.1 (start_orderly table) list w e).1

named_in : (f : Phase) (ops : List Op) → PhaseIs f ops → Named (get_or ops 0 no_op) → NamedIn f ops
named_in Nothing ops h n = tt
named_in (Announced p) ops h n = rw h.1 n.0
named_in Parked ops h n = subst MutexNamed h.1 n.1
named_in (Retaking p) ops h n = subst MutexNamed h.1 n.1

pub phase_named : (bs list : List ℕ) (table : Table) (w : World) → read_table bs ≡ Ok table → Shown table list w → (t : ThreadId) → NamedIn (thread_in w t).phase (ops_left table w t)
phase_named bs list table w a e t = named_in (thread_in w t).phase (ops_left table w t) ((orderly bs list table w a e).threads.1 t.0).0 (ops_named bs table a t.0 (thread_in w t).position 0)
