-- A completion of an accepted table's run: its list is the smallest, its larger decisions are told, and its verdict is the judge's.
use Rattle.std.specs.Prelude.{◌≡◌, refl, true, Option, Some, None, Ok, map, length, take}
use Rattle.std.proofs.Common.{sym, ◌∙◌, subst, arith, take-suc-set}
use Rattle.std.proofs.Math.Path.{ap}
use Rattle.std.proofs.lemmas.Bool.{false≢true}
use mathlib.Core.List.{List, [], ◌∷◌, ◌++◌}
use Prim.Native.Nat.{ℕ, zero, suc, ◌+◌, ◌-◌, ◌≤◌, ◌<◌}
use Rattle.std.proofs.Math.Numerals.{add-one}
use Rattle.std.proofs.Math.ListN.{length-set}
use Rattle.std.proofs.Math.Seq.{append_snoc}
use Rattle.lists.specs.Rules.{Outcome, refused, done, wants, allowedb, allowed}
use Rattle.lists.specs.Judge.{verdict, judge}
use Rattle.lists.specs.Greedy.{larger, smallest}
use Rattle.lists.proofs.Greedy.{smallest-allowed, allowed_below}
use Rattle.lists.specs.Next.{raised}
use Rattle.lists.proofs.CodeLaws.{raised-smallest, raised_last, raised-wants}
use Rattle.rules.specs.declared.table.Table.{Table}
use Rattle.rules.specs.declared.world.World.{World}
use Rattle.rules.specs.Limits.{max_list}
use Rattle.rules.specs.TableLaws.{Within}
use Rattle.rules.specs.Judge.{Verdict, step}
use Rattle.rules.specs.Walk.{decisions, left}
use Rattle.rules.specs.declared.answer.Answer.{Answer}
use Rattle.turns_steps.specs.Step.{below, below_there}
use Rattle.turns_run.specs.declared.Ran.{Ran}
use Rattle.theorems.specs.Falling.{Good}
use Rattle.theorems.proofs.Machine.{bounded, some_allowed, keeps, falls}
use Rattle.theorems.proofs.Length.{left_some}
use Rattle.rules.specs.Turn.{is_allowed}
use Rattle.lists.specs.Greedy.{seek}
use Rattle.walk.specs.Decided.{least_is}
use Rattle.walker.specs.declared.Path.{Path}
use Rattle.walker.specs.Walking.{least_from, ran_by, with, completed}
use Rattle.walker.specs.Steps.{taken_there, first_on, first_over}
use Rattle.walker.specs.Way.{laters}

-- the larger decisions as a run has them: none for what is no decision
abbrev pub larger_ones : List ℕ → List (Option ℕ)
larger_ones = map (below decisions)

-- q is the run p with the decisions l, which end it
pub record Ends (table : Table) (w : World) (p : Path) (l : List ℕ) (q : Path) : Type 0 where
  pub list : take q.at q.list ≡ take p.at p.list ++ l
  pub later : take q.at q.later ≡ take p.at p.later ++ larger_ones (laters (step table) decisions (left table) w l)
  pub in_list : q.at ≤ max_list
  pub long : length q.list ≡ max_list
  pub long_later : length q.later ≡ max_list
  pub answer : (v : Verdict) × ((i : ℕ) → judge (step table) i w l ≡ verdict v) × (q.verdict ≡ Some v.answer)

-- a run of one decision, by its outcome
module _ (table : Table) (w : World) (d : ℕ) where
  one_done : (v : Verdict) → step table w d ≡ done v → ran_by table w d ≡ Ok (record { verdict = Some v.answer; world = v.world })
  unfolding judge
  one_done v e = rw e refl

  one_wants : (v : World) → step table w d ≡ wants v → ran_by table w d ≡ Ok (record { verdict = None; world = v })
  unfolding judge
  one_wants v e = rw e refl

  larger_sought : seek (is_allowed w.asked w.threads) (decisions - (d + 1)) (d + 1) ≡ larger (step table) decisions w d
  unfolding larger
  larger_sought = rw add-one (least_is table w (decisions - suc d) (suc d))

  larger_is : least_from w (d + 1) ≡ below decisions (larger (step table) decisions w d)
  larger_is = ap (below decisions) larger_sought

smallest_is : (table : Table) (w : World) → least_from w 0 ≡ below decisions (smallest (step table) decisions w)
unfolding smallest
smallest_is table w = ap (below decisions) (least_is table w decisions 0)

module _ (table : Table) (n : Within table) where
  -- a decision is allowed where one is wanted
  pub some_smallest : (w : World) → Good table w → allowed (step table) w (smallest (step table) decisions w) ≡ true
  some_smallest w g = smallest-allowed (step table) decisions (left table) (Good table) (bounded table n) (some_allowed table n) (keeps table n) (falls table n) w g

  pub least_smallest : (w : World) → Good table w → least_from w 0 ≡ Some (smallest (step table) decisions w)
  least_smallest w g =
      let d : ℕ = smallest (step table) decisions w in
      let few : d < decisions = allowed_below (step table) decisions (left table) (Good table) (bounded table n) (some_allowed table n) (keeps table n) (falls table n) w d g (some_smallest w g) in
      smallest_is table w ∙ sym (below_there decisions d d refl few)

  -- the run with one decision more
  module _ (w : World) (p : Path) (d : ℕ) (x : Option Answer) (room : p.at < max_list) (long : length p.list ≡ max_list) (long_later : length p.later ≡ max_list) where
    abbrev q : Path
    q = with p p.at d (least_from w (d + 1)) x

    longer : take q.at q.list ≡ take p.at p.list ++ d ∷ []
    longer = rw add-one (take-suc-set p.list p.at d (omega (arith, room, long)))

    longer_later : take q.at q.later ≡ take p.at p.later ++ below decisions (larger (step table) decisions w d) ∷ []
    longer_later =
        let next : p.at + 1 ≡ suc p.at = add-one p.at in
        rw next (take-suc-set p.later p.at (least_from w (d + 1)) (omega (arith, room, long_later)))
        ∙ ap (λ (k : Option ℕ). take p.at p.later ++ k ∷ []) (larger_is table w d)

    -- it ends the run
    ends_done : (v : Verdict) → step table w d ≡ done v → x ≡ Some v.answer → Ends table w p (d ∷ []) q
    unfolding judge laters
    ends_done v e f = record {
      list = longer;
      later = rw e longer_later;
      in_list = omega (arith, room);
      long = length-set p.list p.at d ∙ long;
      long_later = length-set p.later p.at _ ∙ long_later;
      answer = (v, λ i. rw e, f);
    }

    -- others do
    ends_wants : (v : World) → step table w d ≡ wants v → (l : List ℕ) (z : Path) → Ends table v q l z → Ends table w p (d ∷ l) z
    unfolding judge laters
    ends_wants v e l z y = record {
      list = y.list ∙ ap (λ (k : List ℕ). k ++ l) longer ∙ append_snoc (take p.at p.list) d l;
      later =
          rw e
          (y.later
          ∙ ap (λ (k : List (Option ℕ)). k ++ larger_ones (laters (step table) decisions (left table) v l)) longer_later
          ∙ append_snoc (take p.at p.later) (below decisions (larger (step table) decisions w d)) (larger_ones (laters (step table) decisions (left table) v l)));
      in_list = y.in_list;
      long = y.long;
      long_later = y.long_later;
      answer = (y.answer.0, λ i. rw e (y.answer.1 (suc i)), y.answer.2);
    }

  -- the decision d, and then the smallest ones
  raised-done : (w : World) (d : ℕ) (v : Verdict) → step table w d ≡ done v → d ∷ [] ≡ raised (step table) decisions (left table) w d
  raised-done w d v e = sym (raised_last (step table) decisions (left table) w d (λ u f. let z : done v ≡ wants u = sym e ∙ f in let q : ◌≡◌ {A = ℕ} 0 1 = cc in omega (arith, q)))

  raised_on : (w : World) (d : ℕ) (v : World) → Good table w → step table w d ≡ wants v
      → d ∷ raised (step table) decisions (left table) v (smallest (step table) decisions v) ≡ raised (step table) decisions (left table) w d
  raised_on w d v g e =
      ap (λ (l : List ℕ). d ∷ l) (raised-smallest (step table) decisions (left table) v)
      ∙ sym (raised-wants (step table) decisions (left table) (Good table) (bounded table n) (some_allowed table n) (keeps table n) (falls table n) w d v g e)

  -- a completion ends the run, with the smallest list
  pub completed_ends : (k : ℕ) (w : World) (p : Path) (low : ℕ) → Good table w → left table w ≤ k → p.at + left table w ≤ max_list → length p.list ≡ max_list → length p.later ≡ max_list
      → (d : ℕ) → least_from w low ≡ Some d → allowed (step table) w d ≡ true → Ends table w p (raised (step table) decisions (left table) w d) (completed table k w p low)
  completed_ends zero w p low g enough few long long_later d is-d a = absurd (omega (arith, enough, left_some table n w g))
  completed_ends (suc k) w p low g enough few long long_later d is-d a = go (step table w d) refl (completed_ends k)
    where
      room : p.at < max_list
      room = omega (arith, few, left_some table n w g)

      longer_by : Option Answer → Path
      longer_by x = with p p.at d (least_from w (d + 1)) x

      go : (o : Outcome World Verdict) → step table w d ≡ o
          → ((v : World) (s : Path) (low : ℕ) → Good table v → left table v ≤ k → s.at + left table v ≤ max_list → length s.list ≡ max_list → length s.later ≡ max_list
          → (e : ℕ) → least_from v low ≡ Some e → allowed (step table) v e ≡ true → Ends table v s (raised (step table) decisions (left table) v e) (completed table k v s low))
          → Ends table w p (raised (step table) decisions (left table) w d) (completed table (suc k) w p low)
      go refused e ih = absurd (false≢true (sym (ap allowedb e) ∙ a))
      go (done v) e ih =
          let r : Ran = record { verdict = Some v.answer; world = v.world } in
          let made : longer_by (Some v.answer) ≡ completed table (suc k) w p low = sym (first_over table w p low d (Ok r) (taken_there table w p low d is-d) (one_done table w d v e) k refl) in
          subst (λ (l : List ℕ). Ends table w p l (completed table (suc k) w p low)) (raised-done w d v e) (subst (Ends table w p (d ∷ [])) made (ends_done w p d (Some v.answer) room long long_later v e refl))
      go (wants v) e ih =
          let r : Ran = record { verdict = None; world = v } in
          let q : Path = longer_by None in
          let made : completed table k v q 0 ≡ completed table (suc k) w p low = sym (first_on table w p low d (Ok r) (taken_there table w p low d is-d) (one_wants table w d v e) k refl) in
          let less = falls table n w d v g e in
          let good = keeps table n w d v g e in
          let first : ℕ = smallest (step table) decisions v in
          let rest = ih v q 0 good (omega (arith, less, enough)) (omega (arith, less, few)) (length-set p.list p.at d ∙ long) (length-set p.later p.at _ ∙ long_later) first (least_smallest v good) (some_smallest v good) in
          subst (λ (l : List ℕ). Ends table w p l (completed table (suc k) w p low)) (raised_on w d v g e)
          (subst (Ends table w p (d ∷ raised (step table) decisions (left table) v first)) made (ends_wants w p d None room long long_later v e (raised (step table) decisions (left table) v first) (completed table k v q 0) rest))
