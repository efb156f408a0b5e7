-- "A list is complete when it gives 0 to 5": the definition of completeness and the judge's number say the same.
use Rattle.std.specs.Prelude.{◌≡◌, refl, ◌↔◌, List, [], ◌∷◌, ℕ, suc, ◌≤◌, T, length, Ok}
use Rattle.std.proofs.Common.{sym, subst, arith, le-leb}
use Rattle.lists.specs.Judge.{Judged, not_allowed, surplus, unfinished, verdict, judge_at, is_verdict, judge}
use Rattle.lists.proofs.Judge.{judge-complete}
use Rattle.rules.specs.declared.answer.Answer.{Answer}
use Rattle.rules.specs.declared.table.Table.{Table}
use Rattle.rules.specs.declared.world.World.{World}
use Rattle.rules.specs.declared.world.Step.{Step}
use Rattle.rules.specs.declared.world.Step.TheVariants.{Refused, Done, Wants}
use Rattle.rules.specs.Answer.{numbers_of}
use Rattle.rules.specs.Turn.{decide, start}
use Rattle.rules.proofs.TurnLaws.{verdict_number}
use Rattle.rules.specs.Sheet.{sheet_length}
use Rattle.rules.specs.Judge.{Verdict, outcome_of, step, shown, judge_table}
use Rattle.rules.specs.Demand.{Complete}

abbrev number : Answer → ℕ
number a = (numbers_of a).number

-- a verdict's number is 0 to 5
abbrev pub Told : Judged World Verdict → Type 0
Told (not_allowed i) = Unit {0}
Told (surplus i) = Unit {0}
Told (unfinished w) = Unit {0}
Told (verdict v) = number v.answer ≤ 5

pub judge_told : (table : Table) (i : ℕ) (w : World) (l : List ℕ) → Told (judge (step table) i w l)
unfolding judge step outcome_of
judge_told table i w [] = tt
judge_told table i w (d ∷ l) = go (decide table w d).step (verdict_number table w d) l (λ v. judge_told table (suc i) v l)
  where
    go : (s : Step) → ((a : Answer) → s ≡ Done a → number a ≤ 5) → (m : List ℕ) → ((v : World) → Told (judge (step table) (suc i) v m))
        → Told (judge_at (outcome_of s (decide table w d).world) i m (λ v. judge (step table) (suc i) v m))
    go Refused f m ih = tt
    go (Done a) f [] ih = f a refl
    go (Done a) f (x ∷ m) ih = tt
    go Wants f m ih = ih (decide table w d).world

-- the judgement's number is 0 to 5 exactly when it is a verdict
shown_iff : (table : Table) (j : Judged World Verdict) (buffer : List ℕ) → Told j → T (is_verdict j) ↔ (number (shown table j buffer).answer ≤ 5)
unfolding shown numbers_of
shown_iff table (not_allowed i) buffer t = (λ f. absurd f, λ h. omega arith)
shown_iff table (surplus i) buffer t = (λ f. absurd f, λ h. omega arith)
shown_iff table (unfinished w) buffer t = (λ f. absurd f, λ h. omega arith)
shown_iff table (verdict v) buffer t = (λ f. t, λ h. tt)

fits_shown : (table : Table) (list buffer : List ℕ) → sheet_length table ≤ length buffer
    → judge_table (Ok table) list buffer ≡ shown table (judge (step table) 0 (start table) list) buffer
unfolding judge_table
fits_shown table list buffer h = rw (judge_table, le-leb (sheet_length table) (length buffer) h)

pub complete_iff : (table : Table) (list buffer : List ℕ) → sheet_length table ≤ length buffer → Complete table list ↔ (number (judge_table (Ok table) list buffer).answer ≤ 5)
complete_iff table list buffer h =
    let e = judge-complete (step table) 0 (start table) list in
    let i = shown_iff table (judge (step table) 0 (start table) list) buffer (judge_told table 0 (start table) list) in
    rw (fits_shown table list buffer h) (λ c. i.0 (subst T (sym e) c), λ n. subst T e (i.1 n))
