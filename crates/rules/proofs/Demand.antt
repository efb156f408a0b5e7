-- Demand 3 leaves one answer.
use Rattle.std.specs.Prelude.{◌≡◌, List, ℕ, Err, Ok, Option}
use Rattle.std.proofs.Common.{sym, ◌∙◌, ap}
use Rattle.lists.proofs.Rules as lists
use Rattle.lists.specs.Judge.{Judged, not_allowed, surplus, unfinished, verdict, judge}
use Rattle.rules.specs.declared.table.Table.{Table}
use Rattle.rules.specs.declared.world.World.{World}
use Rattle.rules.specs.Table.{Read, read_table}
use Rattle.rules.specs.Turn.{start}
use Rattle.rules.specs.Judge.{Verdict, step, Given}
use Rattle.rules.specs.Walk.{hand_over, next_list}
use Rattle.rules.specs.Demand.{FirstMust, First, NextOfList, NextMust, Next}

-- any two results that these allow agree
pub first_agrees : (table buffer : List ℕ) (g h : Given) → First table buffer g → First table buffer h → g ≡ h
first_agrees table buffer g h = go (read_table table)
  where
    go : (r : Read) → FirstMust r buffer g → FirstMust r buffer h → g ≡ h
    go (Err a) p q = p ∙ sym q
    go (Ok t) p q = p.2 ∙ ap (λ (m : List ℕ). hand_over m buffer) (lists.first_unique (step t) (start t) p.0 q.0 p.1 q.1) ∙ sym q.2

pub next_agrees : (table list buffer : List ℕ) (g h : Given) → Next table list buffer g → Next table list buffer h → g ≡ h
next_agrees table list buffer g h = go (read_table table)
  where
    by_list : (t : Table) (j : Judged World Verdict) → NextOfList t j list buffer g → NextOfList t j list buffer h → g ≡ h
    by_list t (not_allowed i) p q = p ∙ sym q
    by_list t (surplus i) p q = p ∙ sym q
    by_list t (unfinished w) p q = p ∙ sym q
    by_list t (verdict v) p q = p.2 ∙ ap (λ (r : Option (List ℕ)). next_list r buffer) (lists.answers_unique (step t) (start t) list p.0 q.0 p.1 q.1) ∙ sym q.2

    go : (r : Read) → NextMust r list buffer g → NextMust r list buffer h → g ≡ h
    go (Err a) p q = p ∙ sym q
    go (Ok t) p q = by_list t (judge (step t) 0 (start t) list) p q
