-- What lasts of each object: what the table makes has it, and every effect of one of the table's threads keeps it. The words are in specs/Objects.antt.
use Rattle.std.specs.Prelude.{◌≡◌, List, [], ◌∷◌, map, ℕ, zero, suc, ◌<◌, get_or, Ok}
use Rattle.clocks.specs.declared.thread.ThreadId.{ThreadId}
use Rattle.rules.specs.declared.object.ObjectId.{ObjectId}
use Rattle.rules.specs.declared.object.Entry.{Entry}
use Rattle.rules.specs.declared.mutex.Call.TheVariants as mutex-call
use Rattle.rules.specs.declared.thread.Thread.{Thread}
use Rattle.rules.specs.declared.table.Call.{Call}
use Rattle.rules.specs.declared.table.Call.TheVariants.{Mutex}
use Rattle.rules.specs.declared.table.Made.{Made}
use Rattle.rules.specs.declared.table.Op.{Op}
use Rattle.rules.specs.declared.table.Table.{Table}
use Rattle.rules.specs.declared.world.World.{World}
use Rattle.rules.specs.Ground.{thread_at}
use Rattle.rules.specs.Object.{new_entry, no_object, put_entry}
use Rattle.rules.specs.Table.{read_table}
use Rattle.rules.specs.TableLaws.{Within}
use Rattle.rules.proofs.TableLaws.{read-within}
use Rattle.rules.specs.Effect.{effect}
use Rattle.rules.specs.Turn.{entry_in, start, operate, wait, spurious, decide}
use Rattle.theorems.specs.Falling.{Good}
use Rattle.theorems.specs.Reached.{Shown, Reached}
use Rattle.theorems.proofs.Reached.{shown_by, reached-shown, reached_good}
use Rattle.theorems.specs.All.{All}
use Rattle.theorems.proofs.All.{all_set}
use Rattle.theorems.proofs.Phases.{Orderly, orderly, acting, asking, decide_orderly, start_orderly}
use Rattle.theorems.specs.Each.{Each, Begins, Answers, accessed, recorded, dependent, in_effect, waiting}
use Rattle.theorems.proofs.Each.{decide-each, decide_passes}
use Rattle.theorems.specs.Objects.{Lasting}

-- the objects that the table makes
made_all : (P : ℕ → Entry → Type 0) (ms : List Made) → ((k : ℕ) → P k (new_entry (get_or ms k no_object))) → All P (new_entry no_object) (map new_entry ms)
made_all P [] h k = h k
made_all P (m ∷ ms) h zero = h 0
made_all P (m ∷ ms) h (suc k) = made_all (λ j. P (suc j)) ms (λ j. h (suc j)) k

module _ (table : Table) (P : ℕ → Entry → Type 0) (l : Lasting table.thread_count table.objects P) where
  -- of all objects of a world
  abbrev pub Objects : World → Type 0
  Objects w = All P (new_entry no_object) w.objects

  -- before an effect: of its object, which has some number
  abbrev pub Before : ThreadId → Call → Entry → List Thread → Type 0
  Before t c e ts = (k : ℕ) × P k e

  start_objects : Objects (start table)
  unfolding start
  start_objects = made_all P table.objects l.made

  module _ (t : ThreadId) (member : t.0 < table.thread_count) where
    -- an effect
    effected : (c : Call) (o : ObjectId) (e : Entry) (ts : List Thread) (v : World) → Objects v → P o.0 e → All P (new_entry no_object) (put_entry v.objects o (effect c t o e ts).entry)
    unfolding effect
    effected c o e ts v h p = all_set P (new_entry no_object) v.objects o.0 _ h (l.effects o.0 c t o (thread_at ts t).clock e member p)

    module _ (w : World) (h : Objects w) where
      -- an announced operation with its access recorded, and in effect
      noted : (op : Op) → P op.object.0 (recorded t op w)
      noted op = l.records op.object.0 op.call (accessed t op w) (entry_in w op.object) (h op.object.0)

      pub in_effect_lem : (op : Op) → Objects (in_effect t op w)
      unfolding operate
      in_effect_lem op = effected op.call op.object (recorded t op w) (dependent t op w) w h (noted op)

      -- a wait, once it is queued
      waited : (m : ObjectId) (v : World) → Objects v → Objects (waiting t m v)
      unfolding wait
      waited m v i = effected (Mutex mutex-call.ReleaseLock) m (entry_in v m) v.threads v i (i m.0)

      -- a turn
      pub begins : Begins table w t Before (λ ops v. Objects v) Objects
      begins =
          record {
            passes = record {
              sees = λ ops v op f i. (op.object.0, i op.object.0);
              shows = λ ops v i. i;
              asks = λ ops v op a i. i;
              ends = λ v i. i;
              announces = λ ops v op i. i;
              goes = λ ops v op f z i. effected op.call op.object (entry_in v op.object) v.threads v i (i op.object.0);
            };
            nothing = λ e. h;
            effects = λ op k. (op.object.0, noted op);
            releases = λ op m k f s. (m.0, in_effect_lem op m.0);
            operates = λ op next ops k e z s. in_effect_lem op;
            waits = λ op a m o e f s. waited m (in_effect t op w) (in_effect_lem op);
            retakes = λ m o e. h;
          }

      -- an answer to a question
      pub answers : Answers table w t Objects
      unfolding spurious
      answers = record { goes = λ op o. h; wakes = λ op o. all_set P (new_entry no_object) w.objects op.object.0 _ h (l.spurs op.object.0 _ (h op.object.0)) }

  module _ (n : Within table) (w : World) (g : Good table w) (order : Orderly table w) (h : Objects w) where
    -- each decision keeps it
    decided : (d : ℕ) → Objects (decide table w d).world
    decided =
        decide_passes table n w g Before (λ t ops v. Objects v) Objects h (λ t x. begins t (acting table w order t x) w h) (λ t q r. answers t (asking table w order t q).0 w h)

    -- and it holds before each of its effects
    each_before : (d : ℕ) → Each Before table w d
    each_before =
        decide-each table n w g Before (λ t ops v. Objects v) Objects h (λ t x. begins t (acting table w order t x) w h) (λ t q r. answers t (asking table w order t q).0 w h)

  -- in every world that the sheet of the table, accepted, shows
  pub lasting : (bs list : List ℕ) (w : World) → read_table bs ≡ Ok table → Shown table list w → Objects w
  lasting bs list w a e =
      let h = read-within bs table a in
      (shown_by table h.0 (λ u v. Orderly table v × Objects v) (λ u v d g m i. (decide_orderly table h.0 v g i.0 d, decided h.0 v g i.0 i.1 d)) h.1
      (start_orderly table, start_objects) list w e).1.1

  -- and before each effect of a further decision
  pub lasting_before : (bs list : List ℕ) (w : World) → read_table bs ≡ Ok table → Reached table list w → (d : ℕ) → Each Before table w d
  lasting_before bs list w a e =
      let s = reached-shown table list w e in each_before (read-within bs table a).0 w (reached_good bs list table w a e) (orderly bs list table w a s) (lasting bs list w a s)
