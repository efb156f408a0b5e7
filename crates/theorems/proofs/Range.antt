-- The lists of threads, of objects and of a clock's places keep their lengths. So a thread that acts is there, and its place of every clock is. The words are in specs/Range.antt.
use Rattle.std.specs.Prelude.{◌≡◌, refl, List, ℕ, ◌<◌, length, Ok}
use Rattle.std.proofs.Common.{◌∙◌, length-set}
use Rattle.std.proofs.lemmas.List.{length-map}
use Rattle.clocks.specs.Clock.{max_threads, join_of, inc_of}
use Rattle.clocks.proofs.Laws.{join_length, raised-length}
use Rattle.clocks.specs.declared.clock.Clock.{Clock}
use Rattle.clocks.specs.declared.thread.ThreadId.{ThreadId}
use Rattle.rules.specs.declared.table.Table.{Table}
use Rattle.rules.specs.declared.world.World.{World}
use Rattle.rules.specs.Limits.{max_objects}
use Rattle.rules.specs.Object.{new_entry}
use Rattle.rules.specs.Table.{read_table}
use Rattle.rules.specs.TableLaws.{Within}
use Rattle.rules.proofs.TableLaws.{read-within}
use Rattle.rules.specs.Turn.{start, decide}
use Rattle.theorems.specs.Falling.{Good}
use Rattle.theorems.specs.Reached.{Shown, Reached}
use Rattle.theorems.proofs.Reached.{shown_by, reached-shown, reached_good}
use Rattle.theorems.proofs.Named.{objects_there}
use Rattle.theorems.proofs.Steady.{steady}
use Rattle.theorems.specs.Each.{Each, Begins, Answers}
use Rattle.theorems.proofs.Each.{decide-each, decide_passes}
use Rattle.theorems.proofs.Kept.{start_threads, start_objects}
use Rattle.theorems.specs.Range.{Full, any, Lengths, There}

-- a join has as many
full_join : (c d : Clock) → Full c → Full d → Full (join_of c d)
unfolding join_of
full_join c d p q = join_length c.counts d.counts ∙ p

-- and a clock whose count rises
full_inc : (c : Clock) (t : ThreadId) → Full c → Full (inc_of c t)
unfolding inc_of
full_inc c t p = raised-length c.counts t.0 ∙ p

-- a turn of t, and an answer to a question
turn : (t : ThreadId) → t.0 < max_threads → (table : Table) (w : World) → Lengths w → Begins table w t There (λ n v. Lengths v) Lengths × Answers table w t Lengths
turn t within table w h =
    steady Full Full any (λ es. length es ≡ max_objects) full_join refl full_join refl (λ es o e l. length-set es o.0 e ∙ l) t (λ c. full_inc c t) (λ c. full_inc c t) (λ q f. tt) There
    (λ c e ts i x. (within, i.0, (i.1 t.0).0, (i.1 t.0).1, x)) Lengths (λ v i. i) table w h

-- the start of a table with its places for objects
start_whole : (table : Table) → length table.objects ≡ max_objects → Lengths (start table)
unfolding start
start_whole table l =
    record { threads = start_threads Full Full any refl refl (λ j. tt) table; objects = start_objects Full Full refl refl table; store = length-map table.objects new_entry ∙ l }

module _ (table : Table) (n : Within table) (w : World) (g : Good table w) (h : Lengths w) where
  -- each decision keeps it
  decide_whole : (d : ℕ) → Lengths (decide table w d).world
  decide_whole = decide_passes table n w g There (λ t m v. Lengths v) Lengths h (λ t l. (turn t l.within table w h).0) (λ t q r. (turn t r.0 table w h).1)

  -- and what an effect takes is there
  each_there : (d : ℕ) → Each There table w d
  each_there = decide-each table n w g There (λ t m v. Lengths v) Lengths h (λ t l. (turn t l.within table w h).0) (λ t q r. (turn t r.0 table w h).1)

-- in every world that the sheet of an accepted table shows
pub lengths : (bs list : List ℕ) (table : Table) (w : World) → read_table bs ≡ Ok table → Shown table list w → Lengths w
lengths bs list table w a e =
    let h = read-within bs table a in
    (shown_by table h.0 (λ u v. Lengths v) (λ u v d g l i. decide_whole table h.0 v g i d) h.1 (start_whole table (objects_there bs table a)) list w e).1

-- before each effect of a further decision
pub there : (bs list : List ℕ) (table : Table) (w : World) → read_table bs ≡ Ok table → Reached table list w → (d : ℕ) → Each There table w d
there bs list table w a e d = each_there table (read-within bs table a).0 w (reached_good bs list table w a e) (lengths bs list table w a (reached-shown table list w e)) d
