-- The walk of an accepted table goes through its complete lists as "first" and "next" do, each with the judge's verdict.
--     Stands          the walker stands at the complete list l
--     begun_stands    it begins at the smallest
--     Follows, advanced_follows   from l it advances to the next list, or to none where there is none
--     walker_walks    what is met from the first run on is the walk of `first` and `next`
use Rattle.std.specs.Prelude.{◌≡◌, true, false, T, Some, None, Ok, ltb, leb, length, drop, get_or, Option}
use Rattle.std.specs.Option.{is_some, option_map, option_and_then}
use Rattle.std.proofs.lemmas.Bool.{false≢true}
use Rattle.std.proofs.Math.Path.{refl, sym, ap, subst}
use Rattle.std.proofs.Common.{◌∙◌, arith, take-append-drop, length-take-le, take-take, get_or-take}
use mathlib.Core.List.{List, [], ◌∷◌, ◌++◌}
use Prim.Native.Nat.{ℕ, zero, suc, ◌+◌, ◌-◌, ◌*◌, ◌≤◌, ◌<◌, min}
use Rattle.std.proofs.Math.ListN.{take, length-append, get_or-map}
use Rattle.std.proofs.lemmas.List.{length-replicate, take-append-le, map-append}
use Rattle.std.specs.List.{take-map}
use Rattle.std.proofs.Math.Seq.{take-add}
use borrow.Author.Tests.{ltb-true, ltb-false, leb-true, leb-false}
use Rattle.lists.specs.Rules.{allowed, Complete}
use Rattle.clocks.specs.Lists.{get_or-within}
use Rattle.lists.specs.Judge.{Judged, not_allowed, surplus, unfinished, is_verdict, verdict, judge}
use Rattle.lists.proofs.Judge.{judge-complete}
use Rattle.lists.specs.Greedy.{larger, smallest}
use Rattle.lists.proofs.Greedy.{larger-allowed}
use Rattle.lists.proofs.CodeLaws.{seek_hit, raised-smallest}
use Rattle.lists.specs.Next.{raised, first_of, next_of}
use Rattle.lists.proofs.Next.{next_of-later}
use Rattle.lists.specs.Walk.{walk_from, walk_on, walk}
use Rattle.rules.specs.declared.table.Table.{Table}
use Rattle.rules.specs.declared.world.World.{World}
use Rattle.rules.specs.Limits.{max_list}
use Rattle.rules.specs.Table.{read_table}
use Rattle.rules.specs.TableLaws.{Within}
use Rattle.rules.proofs.TableLaws.{read-within, split}
use Rattle.rules.specs.Turn.{is_allowed, start}
use Rattle.rules.specs.Judge.{Verdict, step}
use Rattle.rules.specs.Walk.{decisions, left}
use Rattle.rules.specs.declared.answer.Answer.{Answer}
use Rattle.rules.specs.declared.answer.Answer.TheVariants.{NotAllowed, Surplus}
use Rattle.turns_steps.specs.Step.{below, below_there}
use Rattle.turns_run.specs.Run.{ran_of}
use Rattle.theorems.proofs.Allowed.{allowed_is}
use Rattle.theorems.specs.Falling.{Good}
use Rattle.theorems.proofs.Machine.{keeps, falls}
use Rattle.theorems.proofs.Accepted.{start_good}
use Rattle.theorems.proofs.Length.{start_left}
use Rattle.walk.specs.Decided.{below_some, below_past}
use Rattle.walk.specs.Says.{Started}
use Rattle.walker.specs.declared.Path.{Path}
use Rattle.walker.specs.declared.Kept.{Kept}
use Rattle.walker.specs.declared.Walker.{Walker}
use Rattle.walker.specs.Walking.{least_from, completed, last_below, moved, at_start, near, not_behind, nearer, empty, begun, raised_at, advanced}
use Rattle.walker.specs.Steps.{Last, last_is, moved_not, moved_on, behind, behind_not, nearer-near, nearer_far}
use Rattle.walker.specs.Way.{Reaches, judge_reaches, reaches_rest, reaches_same, reaches_keeps, judge_on, complete_reaches, laters, laters_get, laters_on, laters_front, later-none, later_at_lem}
use Rattle.walker.specs.Ends.{Ends, larger_ones, some_smallest, least_smallest, completed_ends}

-- a kept world on the way of a list is moved on along it
module _ (table : Table) (l : List ℕ) where
  abbrev On : List ℕ → World → Type 0
  On = Reaches (step table) (start table)

  moved_lands : (k : Kept) (to : ℕ) (v : World) → k.from ≤ to → On (take k.from l) k.world → On (take to l) v → moved table l k to ≡ record { world = v; from = to }
  moved_lands k to v h a b =
      split (leb to k.from)
      (λ t.
      let same : to ≡ k.from = omega (arith, h, leb-true to k.from t) in
      let there : k.world ≡ v = reaches_same (step table) (take to l) (start table) k.world v (subst (λ (i : ℕ). On (take i l) k.world) (sym same) a) b in
      sym (moved_not table l k to (leb-true to k.from t)) ∙ (λ i. record { world = there i; from = sym same i }))
      (λ t.
      let on = leb-false to k.from t in
      let mid : List ℕ = take (to - k.from) (drop k.from l) in
      let whole : take to l ≡ take k.from l ++ mid = let z : to ≡ k.from + (to - k.from) = omega (arith, h) in ap (λ (i : ℕ). take i l) z ∙ take-add k.from (to - k.from) l in
      let way = reaches_rest (step table) (take k.from l) mid (start table) k.world v a (subst (λ (m : List ℕ). On m v) whole b) in
      sym (moved_on table l k to on (Ok (record { verdict = None; world = v })) (ap ran_of (judge_reaches (step table) mid 0 k.world v way))))

  -- what is kept for a change at p stands on the way to it
  module _ (p : ℕ) (ways : (i : ℕ) → i ≤ p → (v : World) × On (take i l) v) where
    base_lands : (k : Kept) → On (take k.from l) k.world → (On (take (not_behind table k p).from l) (not_behind table k p).world) × ((not_behind table k p).from ≤ p)
    unfolding at_start
    base_lands k a =
        split (ltb p k.from)
        (λ t. subst (λ (b : Kept). On (take b.from l) b.world × (b.from ≤ p)) (behind table l k p (ltb-true p k.from t)) (refl, omega arith))
        (λ t. subst (λ (b : Kept). On (take b.from l) b.world × (b.from ≤ p)) (behind_not table l k p (ltb-false p k.from t)) (a, ltb-false p k.from t))

    nearer_lands : (k : Kept) → On (take k.from l) k.world → On (take (nearer table l k p).from l) (nearer table l k p).world × ((nearer table l k p).from ≤ p)
    nearer_lands k a =
        let b : Kept = not_behind table k p in
        let f = base_lands k a in
        split (leb (p - b.from) (2 * near))
        (λ t. subst (λ (x : Kept). On (take x.from l) x.world × (x.from ≤ p)) (nearer-near table l k p b refl (leb-true (p - b.from) (2 * near) t)) f)
        (λ t.
        let far = leb-false (p - b.from) (2 * near) t in
        let u = ways (p - near) (omega arith) in
        let lands = moved_lands b (p - near) u.0 (omega (arith, far)) f.0 u.1 in
        subst (λ (x : Kept). On (take x.from l) x.world × (x.from ≤ p)) (sym lands ∙ nearer_far table l k p b refl far) (u.1, omega arith))

-- how the judge sees a list end: its verdict or its refusal, and none where another decision is wanted
abbrev pub verdict_of : Judged World Verdict → Option Answer
verdict_of (not_allowed i) = Some (NotAllowed i)
verdict_of (surplus i) = Some (Surplus i)
verdict_of (unfinished v) = None
verdict_of (verdict v) = Some v.answer

-- the walker stands at the complete list l
pub record Stands (table : Table) (w : Walker) (l : List ℕ) : Type 0 where
  pub of : w.table ≡ table
  pub list : take w.path.at w.path.list ≡ l
  pub ends : w.path.verdict ≡ verdict_of (judge (step table) 0 (start table) l)
  pub whole : Complete (step table) (start table) l
  pub later : take w.path.at w.path.later ≡ larger_ones (laters (step table) decisions (left table) (start table) l)
  pub in_list : w.path.at ≤ max_list
  pub long : length w.path.list ≡ max_list
  pub long_later : length w.path.later ≡ max_list
  pub kept : Reaches (step table) (start table) (take w.kept.from l) w.kept.world
  pub kept_in : w.kept.from ≤ length l

-- a list with a verdict is complete
whole_by : (table : Table) (l : List ℕ) (v : Verdict) → judge (step table) 0 (start table) l ≡ verdict v → Complete (step table) (start table) l
whole_by table l v e = subst T (judge-complete (step table) 0 (start table) l) (subst (λ (j : Judged World Verdict). T (is_verdict j)) (sym e) tt)

ends_by : (table : Table) (l : List ℕ) (v : Verdict) (x : Option Answer) → judge (step table) 0 (start table) l ≡ verdict v → x ≡ Some v.answer → x ≡ verdict_of (judge (step table) 0 (start table) l)
ends_by table l v x e f = f ∙ ap verdict_of (sym e)

none_of : (o : Option ℕ) → is_some o ≡ false → o ≡ None
none_of None e = refl
none_of (Some x) e = absurd (false≢true (sym e))

module _ (table : Table) (s : Started table) where
  abbrev n : Within table
  n = s.within

  few : left table (start table) ≤ max_list
  few = omega (arith, start_left table n, n.threads)

  good : Good table (start table)
  good = start_good table n s.some

  abbrev first : List ℕ
  first = first_of (step table) decisions (left table) (start table)

  pub begun_stands : Stands table (begun table) first
  unfolding begun at_start
  begun_stands =
      let d : ℕ = smallest (step table) decisions (start table) in
      let y : Ends table (start table) empty first (completed table max_list (start table) empty 0) =
      subst (λ (l : List ℕ). Ends table (start table) empty l (completed table max_list (start table) empty 0)) (raised-smallest (step table) decisions (left table) (start table))
      (completed_ends table n max_list (start table) empty 0 good few (omega (arith, few)) (length-replicate {A = ℕ} max_list 0) (length-replicate {A = Option ℕ} max_list (Some 0)) d (least_smallest table n (start table) good) (some_smallest table n (start table) good)) in
      record {
        of = refl;
        list = y.list;
        ends = ends_by table first y.answer.0 _ (y.answer.1 0) y.answer.2;
        whole = whole_by table first y.answer.0 (y.answer.1 0);
        later = y.later;
        in_list = y.in_list;
        long = y.long;
        long_later = y.long_later;
        kept = refl;
        kept_in = omega arith;
      }

  -- where the walker goes from l
  abbrev pub Follows : Option Walker → Option (List ℕ) → Type 0
  Follows o None = o ≡ None
  Follows o (Some m) = (w : Walker) × (o ≡ Some w) × Stands table w m

  module _ (w : Walker) (l : List ℕ) (at : Stands table w l) where
    size : length l ≡ w.path.at
    size = ap length (sym at.list) ∙ length-take-le w.path.at w.path.list (omega (arith, at.in_list, at.long))

    abbrev there : List ℕ
    there = laters (step table) decisions (left table) (start table) l

    size_later : length (larger_ones there) ≡ w.path.at
    size_later = ap length (sym at.later) ∙ length-take-le w.path.at w.path.later (omega (arith, at.in_list, at.long_later))

    -- the larger decision at a place, as the walker has it
    told : (i : ℕ) → i < length l → get_or w.path.later i None ≡ below decisions (get_or there i 0)
    told i h =
        sym (get_or-take w.path.at w.path.later i None (omega (arith, h, size)))
        ∙ ap (λ (k : List (Option ℕ)). get_or k i None) at.later
        ∙ get_or-within (larger_ones there) i None (below decisions 0) (omega (arith, h, size, size_later))
        ∙ get_or-map (below decisions) there i 0

    told_none : (i : ℕ) → i < length l → is_some (get_or w.path.later i None) ≡ false → decisions ≤ get_or there i 0
    told_none i h e = below_past decisions (get_or there i 0) (sym (told i h) ∙ none_of (get_or w.path.later i None) e)

    front : (i : ℕ) → i ≤ length l → take i w.path.list ≡ take i l
    front i h = sym (take-take i w.path.at w.path.list (omega (arith, h, size))) ∙ ap (take i) at.list

    none_left : Last w.path.later w.path.at None → next_of (step table) decisions (left table) (start table) l ≡ None
    none_left f =
        next_of-later (step table) decisions (left table) (start table) l
        ∙ later-none (step table) decisions (left table) l (start table) at.whole (λ i h. told_none i h (f i (omega (arith, h, size))))

    module _ (p : ℕ) (f : Last w.path.later w.path.at (Some p)) (e : ℕ) (is-e : get_or w.path.later p None ≡ Some e) (v : World) (to-v : Reaches (step table) (start table) (take p l) v) where
      inside : p < length l
      inside = let h = f.0 in omega (arith, h, size)

      way : (i : ℕ) → i ≤ p → (v : World) × Reaches (step table) (start table) (take i l) v
      way i h = complete_reaches (step table) l i (start table) at.whole (omega (arith, h, inside))

      -- the larger decision
      told_some : (get_or there p 0 ≡ e) × (get_or there p 0 < decisions)
      told_some = below_some decisions (get_or there p 0) e (sym (told p inside) ∙ is-e)

      small : e < decisions
      small = let s = told_some in omega (arith, s.0, s.1)

      is_larger : e ≡ larger (step table) decisions v (get_or l p 0)
      is_larger = sym told_some.0 ∙ laters_get (step table) decisions (left table) l p (start table) v to-v inside

      e-allowed : allowed (step table) v e ≡ true
      e-allowed = ap (allowed (step table) v) is_larger ∙ larger-allowed (step table) decisions v (get_or l p 0) (omega (arith, small, is_larger))

      e-least : least_from v e ≡ Some e
      e-least =
          ap (below decisions) (seek_hit (is_allowed v.asked v.threads) decisions e small (sym (allowed_is table v e) ∙ e-allowed))
          ∙ sym (below_there decisions e e refl small)

      abbrev tail : List ℕ
      tail = raised (step table) decisions (left table) v e

      abbrev next : List ℕ
      next = take p l ++ tail

      is_next : next_of (step table) decisions (left table) (start table) l ≡ Some next
      is_next =
          next_of-later (step table) decisions (left table) (start table) l
          ∙ later_at_lem (step table) decisions (left table) l p (start table) v at.whole to-v inside told_some.1 (λ i a h. told_none i h (f.2 i a (omega (arith, h, size))))
          ∙ ap (λ (k : ℕ). Some (take p l ++ raised (step table) decisions (left table) v k)) told_some.0

      abbrev L : List ℕ
      L = w.path.list

      way' : (i : ℕ) → i ≤ p → (u : World) × Reaches (step table) (start table) (take i L) u
      way' i h = ((way i h).0, subst (λ (m : List ℕ). Reaches (step table) (start table) m (way i h).0) (sym (front i (omega (arith, h, inside)))) (way i h).1)

      abbrev kept : Kept
      kept = nearer table L w.kept p

      lands : Reaches (step table) (start table) (take kept.from L) kept.world × (kept.from ≤ p)
      lands = nearer_lands table L p way' w.kept (subst (λ (m : List ℕ). Reaches (step table) (start table) m w.kept.world) (sym (front w.kept.from at.kept_in)) at.kept)

      here : (moved table L kept p).world ≡ v
      here = ap (λ (k : Kept). k.world) (moved_lands table L kept p v lands.1 lands.0 (subst (λ (m : List ℕ). Reaches (step table) (start table) m v) (sym (front p (omega (arith, inside)))) to-v))

      abbrev stem : Path
      stem = record { list = L; later = w.path.later; at = p; verdict = w.path.verdict }

      abbrev then : Path
      then = completed table (max_list - p) (moved table L kept p).world stem e

      long_p : length (take p l) ≡ p
      long_p = length-take-le p l (omega (arith, inside))

      made : Ends table v stem tail then
      made =
          let g = reaches_keeps (step table) (left table) (Good table) (keeps table n) (falls table n) (take p l) (start table) v good to-v in
          let h = g.1 in
          let y = completed_ends table n (max_list - p) v stem e g.0 (omega (arith, h, few, long_p)) (omega (arith, h, few, long_p)) at.long at.long_later e e-least e-allowed in
          subst (λ (u : World). Ends table v stem tail (completed table (max_list - p) u stem e)) (sym here) y

      judged : judge (step table) 0 (start table) next ≡ verdict made.answer.0
      judged = judge_on (step table) (take p l) tail 0 (start table) v to-v ∙ made.answer.1 (0 + length (take p l))

      front_later : take p w.path.later ≡ larger_ones (take (length (take p l)) (laters (step table) decisions (left table) (start table) next))
      front_later =
          sym (take-take p w.path.at w.path.later (omega (arith, inside, size)))
          ∙ ap (take p) at.later
          ∙ take-map (below decisions) p there
          ∙ ap larger_ones
          ((λ i. take (sym long_p i) (laters (step table) decisions (left table) (start table) (sym (take-append-drop p l) i)))
          ∙ laters_front (step table) decisions (left table) (take p l) (drop p l) tail (start table) v to-v)

      front_kept : take kept.from L ≡ take kept.from next
      front_kept =
          front kept.from (omega (arith, lands.1, inside))
          ∙ sym (take-take kept.from p l lands.1)
          ∙ sym (take-append-le kept.from (take p l) tail (omega (arith, lands.1, long_p)))

      raised_stands : Stands table (raised_at table w p e) next
      unfolding raised_at
      raised_stands =
          record {
            of = refl;
            list = made.list ∙ ap (λ (k : List ℕ). k ++ tail) (front p (omega (arith, inside)));
            ends = ends_by table next made.answer.0 _ judged made.answer.2;
            whole = whole_by table next made.answer.0 judged;
            later =
                made.later
                ∙ ap (λ (k : List (Option ℕ)). k ++ larger_ones (laters (step table) decisions (left table) v tail)) front_later
                ∙ sym (map-append (below decisions) (take (length (take p l)) (laters (step table) decisions (left table) (start table) next)) (laters (step table) decisions (left table) v tail))
                ∙ ap larger_ones (sym (laters_on (step table) decisions (left table) (take p l) tail (start table) v to-v));
            in_list = made.in_list;
            long = made.long;
            long_later = made.long_later;
            kept = subst (λ (m : List ℕ). Reaches (step table) (start table) m kept.world) front_kept lands.0;
            kept_in = omega (arith, lands.1, long_p, length-append (take p l) tail);
          }

    abbrev from_last : Option ℕ → Option Walker
    from_last o = option_and_then (λ p. option_map (raised_at w.table w p) (get_or w.path.later p None)) o

    pub advanced_follows : Follows (advanced w) (next_of (step table) decisions (left table) (start table) l)
    unfolding advanced
    advanced_follows =
        let z : min w.path.at max_list ≡ w.path.at = omega (arith, at.in_list) in
        subst (λ (i : ℕ). Follows (from_last (last_below w.path.later i)) (next_of (step table) decisions (left table) (start table) l)) (sym z) (go (last_below w.path.later w.path.at) (last_is w.path.later w.path.at))
      where
        go : (o : Option ℕ) → Last w.path.later w.path.at o → Follows (from_last o) (next_of (step table) decisions (left table) (start table) l)
        go None f = subst (Follows None) (sym (none_left f)) refl
        go (Some p) f = raise (get_or w.path.later p None) refl f.1
          where
            raise : (x : Option ℕ) → get_or w.path.later p None ≡ x → is_some x ≡ true → Follows (option_map (raised_at w.table w p) x) (next_of (step table) decisions (left table) (start table) l)
            raise None q h = absurd (false≢true h)
            raise (Some e) q h =
                let r = complete_reaches (step table) l p (start table) at.whole (let b = f.0 in omega (arith, b, size)) in
                subst (Follows (Some (raised_at w.table w p e))) (sym (is_next p f e q r.0 r.1))
                (raised_at w.table w p e, refl, subst (λ (t : Table). Stands table (raised_at t w p e) (next p f e q r.0 r.1)) (sym at.of) (raised_stands p f e q r.0 r.1))

-- what a walker shows of a run: its list, and its verdict
pub record Met : Type 0 where
  pub list : List ℕ
  pub verdict : Option Answer

abbrev pub met_on : Option Walker → (Walker → List Met) → List Met
met_on None k = []
met_on (Some w) k = k w

-- the runs that are met from a walker on, k at most
unfoldable pub met : ℕ → Walker → List Met
met zero w = []
met (suc k) w = record { list = take w.path.at w.path.list; verdict = w.path.verdict } ∷ met_on (advanced w) (met k)

-- lists, each with the verdict that the judge sees
abbrev pub all_judged : Table → List (List ℕ) → List Met
all_judged table [] = []
all_judged table (l ∷ ls) = record { list = l; verdict = verdict_of (judge (step table) 0 (start table) l) } ∷ all_judged table ls

module _ (table : Table) (s : Started table) where
  walks_from : (k : ℕ) (w : Walker) (l : List ℕ) → Stands table w l → met k w ≡ all_judged table (walk_from (next_of (step table) decisions (left table) (start table)) k l)
  unfolding met walk_from
  walks_from zero w l at = refl
  walks_from (suc k) w l at = λ i. record { list = at.list i; verdict = at.ends i } ∷ go (next_of (step table) decisions (left table) (start table) l) (advanced_follows table s w l at) (walks_from k) i
    where
      go : (o : Option (List ℕ)) → Follows table s (advanced w) o → ((v : Walker) (m : List ℕ) → Stands table v m → met k v ≡ all_judged table (walk_from (next_of (step table) decisions (left table) (start table)) k m)) → met_on (advanced w) (met k) ≡ all_judged table (walk_on o (walk_from (next_of (step table) decisions (left table) (start table)) k))
      go None e ih = ap (λ (v : Option Walker). met_on v (met k)) e
      go (Some m) y ih = ap (λ (v : Option Walker). met_on v (met k)) y.1 ∙ ih y.0 m y.2

-- THE WALKER: of an accepted table it meets the lists of "first" and "next", in order, each with the judge's verdict, and none is left after the last
pub walker_walks : (bs : List ℕ) (table : Table) → read_table bs ≡ Ok table → (k : ℕ) → met k (begun table) ≡ all_judged table (walk (step table) decisions (left table) k (start table))
unfolding walk
walker_walks bs table e k =
    let h = read-within bs table e in
    let s : Started table = record { within = h.0; some = h.1 } in
    walks_from table s k (begun table) (first_of (step table) decisions (left table) (start table)) (begun_stands table s)
