-- One pass over a list, and the list that is raised at its last mark.
use Rattle.std.specs.Prelude.{◌≡◌, refl, ◌⊎◌, true, false, Option, Some, None, Result, Ok, Err, List, length, drop, get_or}
use Rattle.std.specs.Option.{is_some}
use Rattle.std.proofs.Math.Path.{sym}
use Rattle.std.proofs.Common.{◌∙◌, ap, subst, inl, inr, arith, lt-ltb, le-ltb}
use Rattle.std.proofs.lemmas.Bool.{false≢true}
use Prim.Native.Nat.{ℕ, suc, ◌+◌, ◌-◌, ◌≤◌, ◌<◌}
use Rattle.std.proofs.Math.Numerals.{add-one}
use Rattle.lists.specs.Rules.{done, wants}
use Rattle.lists.specs.Greedy.{seek, larger}
use Rattle.lists.specs.Next.{Pivot, at, pass}
use Rattle.lists.proofs.CodeLaws.{pass-done, pass-wants, judge_end_lem, judge-refused, judge_last, judge_surplus, judge-wants}
use Rattle.rules.specs.declared.answer.Answer.{Answer}
use Rattle.rules.specs.declared.answer.Answer.TheVariants.{NotAllowed, Surplus, NotComplete}
use Rattle.rules.specs.declared.table.Table.{Table}
use Rattle.rules.specs.declared.world.World.{World}
use Rattle.rules.specs.Turn.{is_allowed, start}
use Rattle.rules.specs.Judge.{Verdict, step}
use Rattle.rules.specs.Walk.{decisions, left}
use Rattle.turns_steps.specs.Step.{below}
use Rattle.turns_run.specs.declared.Ran.{Ran}
use Rattle.turns_run.specs.declared.Refusal.{Refusal}
use Rattle.walk.specs.declared.Mark.{Mark}
use Rattle.theorems.proofs.Machine.{keeps, falls}
use Rattle.theorems.proofs.Accepted.{start_good}
use Rattle.walk.specs.Decided.{least_is, below_some, below_past}
use Rattle.walk.specs.Says.{stage_at, stage_of, pivot_of, At, Marked, Marks, Started, Placed, Passing, PassSays, fault}

-- a larger decision, or none
module _ (m : Option Mark) (i : ℕ) (w : World) (d : ℕ) (o : Option ℕ) (s : o ≡ below decisions (seek (is_allowed w.asked w.threads) (decisions - (d + 1)) (d + 1))) where
  abbrev sought : ℕ
  sought = seek (is_allowed w.asked w.threads) (decisions - (d + 1)) (d + 1)

  found : (table : Table) → sought ≡ larger (step table) decisions w d
  unfolding larger
  found table = let same : d + 1 ≡ suc d = add-one d in rw same (least_is table w (decisions - suc d) (suc d))

  pub better_found : (e : ℕ) → o ≡ Some e → Marked m i w d (Some (record { at = i; world = w; decision = e }))
  better_found e f =
      let b = below_some decisions sought e (sym s ∙ f) in
      record { is = λ table. rw (← found table, lt-ltb sought decisions b.1) (ap (at i w) (sym b.0)); from = inr (_, refl, refl, refl) }

  pub better-kept : o ≡ None → Marked m i w d m
  better-kept f =
      let b = below_past decisions sought (sym s ∙ f) in
      record { is = λ table. rw (← found table, le-ltb sought decisions b); from = inl refl }

module _ (table : Table) (begun : Started table) (l : List ℕ) where
  pub passing_start : Passing table l (start table) None 0
  passing_start = record {
    in_list = omega arith;
    good = start_good table begun.within begun.some;
    few = omega arith;
    judged = refl;
    pivot = refl;
    placed = tt;
  }

  module _ (w : World) (m : Option Mark) (i : ℕ) (p : Passing table l w m i) where
    pub passing_end : length l ≤ i → PassSays table l (Err NotComplete)
    passing_end h = ap fault (p.judged ∙ judge_end_lem (step table) w l i h)

    pub passing_refused : i < length l → (o : Result Ran Refusal) (r : Refusal) → stage_of o ≡ step table w (get_or l i 0) → o ≡ Err r → PassSays table l (Err (NotAllowed i))
    passing_refused h o r e f = ap fault (p.judged ∙ judge-refused (step table) w l i h (sym e ∙ ap stage_of f))

    module _ (b : Option Mark) (x : Marked m i w (get_or l i 0) b) (h : i < length l) (o : Result Ran Refusal) (r : Ran) (e : stage_of o ≡ step table w (get_or l i 0)) (f : o ≡ Ok r) where
      there : Marks table l b
      there = go x.from
        where
          here : Placed table l i w
          here = record { inside = h; good = p.good; few = p.few }

          go : (b ≡ m) ⊎ At i w b → Marks table l b
          go (inl q) = subst (Marks table l) (sym q) p.placed
          go (inr y) =
              let n : Mark = y.0 in
              subst (Marks table l) (sym y.1) (subst (λ (k : ℕ). Placed table l k n.world) (sym y.2) (subst (Placed table l i) (sym y.3) here))

      -- where the decision leads
      stage : step table w (get_or l i 0) ≡ stage_at r.verdict r.world
      stage = sym e ∙ ap stage_of f

      ends : is_some r.verdict ≡ true → (v : Verdict) × (step table w (get_or l i 0) ≡ done v)
      ends t = go r.verdict stage t
        where
          go : (y : Option Answer) → step table w (get_or l i 0) ≡ stage_at y r.world → is_some y ≡ true → (v : Verdict) × (step table w (get_or l i 0) ≡ done v)
          go None q t = absurd (false≢true t)
          go (Some a) q t = (_, q)

      pub passing_ends : is_some r.verdict ≡ true → length l ≤ i + 1 → PassSays table l (Ok b)
      passing_ends t q =
          let v = ends t in
          let last : i + 1 ≡ length l = omega (arith, h, q) in
          record {
            whole = ap fault (p.judged ∙ judge_last (step table) w l i v.0 last v.1);
            pivot = x.is table ∙ sym (p.pivot ∙ pass-done (step table) decisions (left table) w l i (pivot_of m) v.0 h v.1);
            placed = there;
          }

      pub passing_surplus : is_some r.verdict ≡ true → i + 1 < length l → PassSays table l (Err (Surplus (i + 1)))
      passing_surplus t q = let v = ends t in ap fault (p.judged ∙ judge_surplus (step table) w l i v.0 q v.1)

      pub passing_wants : is_some r.verdict ≡ false → Passing table l r.world b (i + 1)
      passing_wants t =
          let on : step table w (get_or l i 0) ≡ wants r.world = go r.verdict stage t in
          let less = falls table begun.within w (get_or l i 0) r.world p.good on in
          let few = p.few in
          record {
            in_list = omega (arith, h);
            good = keeps table begun.within w (get_or l i 0) r.world p.good on;
            few = omega (arith, less, few);
            judged = p.judged ∙ judge-wants (step table) w l i r.world h on;
            pivot =
                p.pivot
                ∙ pass-wants (step table) decisions (left table) w l i (pivot_of m) r.world h on
                ∙ ap (λ (z : Pivot World). pass (step table) decisions (left table) z (i + 1) r.world (drop (i + 1) l)) (sym (x.is table));
            placed = there;
          }
        where
          go : (y : Option Answer) → step table w (get_or l i 0) ≡ stage_at y r.world → is_some y ≡ false → step table w (get_or l i 0) ≡ wants r.world
          go None q t = q
          go (Some a) q t = absurd (false≢true (sym t))
