-- Demand 3: what document 01's "first" and "next" find is what the demand asks for, over the lists that are complete under the step rules.
use Rattle.std.specs.Prelude.{◌≡◌, refl, List, ℕ, ◌<◌, T, Err, Ok}
use Rattle.std.proofs.Common.{sym, ◌∙◌, ap, subst}
use Rattle.lists.specs.Judge.{Judged, not_allowed, surplus, unfinished, verdict, is_verdict, judge}
use Rattle.lists.proofs.Judge.{judge-complete}
use Rattle.lists.specs.Rules as lists
use Rattle.lists.specs.Next as next
use Rattle.lists.proofs.Next as next-laws
use Rattle.rules.specs.declared.table.Table.{Table}
use Rattle.rules.specs.declared.world.World.{World}
use Rattle.rules.specs.Table.{Read, read_table}
use Rattle.rules.specs.Turn.{start}
use Rattle.rules.specs.Judge.{Verdict, step}
use Rattle.rules.specs.Walk.{decisions, left, first_table, first_of, next_table, next_judged, next_of}
use Rattle.rules.specs.Demand.{Complete, First, FirstMust, Next, NextMust, NextOfList}
use Rattle.theorems.specs.Falling.{Good}
use Rattle.theorems.proofs.Machine.{bounded, some_allowed, keeps, falls}
use Rattle.theorems.proofs.Accepted.{start_good}
use Rattle.rules.specs.TableLaws.{Within}
use Rattle.rules.proofs.TableLaws.{read-within}

module _ (table : Table) (w : Within table) (some : 0 < table.thread_count) where
  good : Good table (start table)
  good = start_good table w some

  pub first_is : lists.IsFirst (step table) (start table) (next.first_of (step table) decisions (left table) (start table))
  first_is = next-laws.first-first (step table) decisions (left table) (Good table) (bounded table w) (some_allowed table w) (keeps table w) (falls table w) (start table) good

  pub next_is : (list : List ℕ) → Complete table list → lists.Answers (step table) (start table) list (next.next_of (step table) decisions (left table) (start table) list)
  next_is list c = next-laws.next-answers (step table) decisions (left table) (Good table) (bounded table w) (some_allowed table w) (keeps table w) (falls table w) (start table) list good c

-- a list whose judgement is a verdict is complete
pub complete_told : (t : Table) (list : List ℕ) (v : Verdict) → judge (step t) 0 (start t) list ≡ verdict v → Complete t list
complete_told t list v q = subst T (sym (ap is_verdict q) ∙ judge-complete (step t) 0 (start t) list) tt

pub first_meets : (bs buffer : List ℕ) → First bs buffer (first_of bs buffer)
unfolding first_of first_table
first_meets bs buffer = go (read_table bs) refl
  where
    go : (r : Read) → read_table bs ≡ r → FirstMust r buffer (first_table r buffer)
    go (Err a) e = refl
    go (Ok t) e = let h = read-within bs t e in (_, first_is t h.0 h.1, refl)

pub next_meets : (bs list buffer : List ℕ) → Next bs list buffer (next_of bs list buffer)
unfolding next_of next_table next_judged
next_meets bs list buffer = go (read_table bs) refl
  where
    by_list : (t : Table) → Within t → 0 < t.thread_count → (j : Judged World Verdict) → judge (step t) 0 (start t) list ≡ j
        → NextOfList t j list buffer (next_judged j (next.next_of (step t) decisions (left t) (start t) list) buffer)
    by_list t w some (not_allowed i) q = refl
    by_list t w some (surplus i) q = refl
    by_list t w some (unfinished v) q = refl
    by_list t w some (verdict v) q = (_, next_is t w some list (complete_told t list v q), refl)

    go : (r : Read) → read_table bs ≡ r → NextMust r list buffer (next_table r list buffer)
    go (Err a) e = refl
    go (Ok t) e = let h = read-within bs t e in by_list t h.0 h.1 (judge (step t) 0 (start t) list) refl
