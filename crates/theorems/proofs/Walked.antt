-- Demand 3, of the calls, for a table that is accepted and with no other premise: "first", and then "next" on each list that was got, gives all complete
-- lists, each once, in rising order, and then 7. Each call has a buffer of its own, of 582 bytes or more and whatever is in it.
--     walked_one         they give one list of lists only
--     walk_ends          those of the rules come to 7
--     walk_gives         what they give lists the complete lists: each of them once, rising
--     walk_once          a complete list is given once
--     fault_met          a list that the judge answers with 0 to 5, so with any fault, is given
--     never_short        25 is never answered
-- The words are in specs/Walked.antt.
use Rattle.std.specs.Prelude.{◌≡◌, Bool, true, false, ℕ, suc, ◌≤◌, ◌<◌, leb, length, take, drop, Ok, None, Option, Some}
use Rattle.std.proofs.Math.Path.{refl, ap, subst}
use Rattle.std.proofs.Common.{sym, ◌∙◌, inl, inr, arith, take_at, le-leb, leb-true}
use mathlib.Core.List.{List, [], ◌∷◌}
use Rattle.std.proofs.Math.Dec.{T}
use Rattle.lists.specs.Rules as lists
use Rattle.lists.specs.Judge.{Judged, not_allowed, surplus, unfinished, verdict, is_verdict, judge}
use Rattle.lists.proofs.Judge.{judge-complete}
use Rattle.lists.specs.Next as next
use Rattle.lists.specs.Walk.{In, Chain, Enumerates, tree}
use Rattle.lists.proofs.Walk.{times, times_once, chain_by, tree_enumerates}
use Rattle.rules.specs.declared.answer.Answer.{Answer}
use Rattle.rules.specs.declared.answer.Answer.TheVariants.{NoLaterList}
use Rattle.rules.specs.declared.table.Table.{Table}
use Rattle.rules.specs.declared.world.World.{World}
use Rattle.rules.specs.Limits.{max_list}
use Rattle.rules.specs.Answer.{numbers_of}
use Rattle.rules.specs.Table.{Read, read_table}
use Rattle.rules.specs.TableLaws.{Within}
use Rattle.rules.proofs.TableLaws.{read-within}
use Rattle.rules.specs.Turn.{start}
use Rattle.rules.specs.Judge.{Verdict, step, Given, judge_table, judge_of}
use Rattle.rules.proofs.JudgeLaws.{complete_iff}
use Rattle.rules.specs.Sheet.{sheet_length}
use Rattle.rules.specs.Walk.{decisions, left, hand_over, first_table, first_of, next_list, next_judged, next_table, next_of}
use Rattle.rules.specs.Demand.{Complete}
use Rattle.rules.specs.Cases.{Calls, definitions}
use Rattle.theorems.specs.Falling.{Good}
use Rattle.theorems.proofs.Machine.{bounded, some_allowed, keeps, falls}
use Rattle.theorems.proofs.Accepted.{start_good}
use Rattle.theorems.proofs.Fits.{list_fits}
use Rattle.theorems.proofs.Meets.{first_is, next_is, complete_told}
use Rattle.theorems.specs.Walked.{Handed, Onward, Walked, number}

-- the calls give one list of lists only
handed_one : (g : Given) (l m : List ℕ) → Handed g l → Handed g m → l ≡ m
unfolding numbers_of
handed_one g l m p q =
    let same : length l ≡ length m = ap (λ (a : Answer). (numbers_of a).place) (sym p.0 ∙ q.0) in
    sym p.1 ∙ ap (λ (n : ℕ). take n g.buffer) same ∙ q.1

handed_on : (g : Given) (l : List ℕ) → Handed g l → g.answer ≡ NoLaterList → ⊥
unfolding numbers_of
handed_on g l h e = let q : ◌≡◌ {A = ℕ} 8 7 = ap (λ (a : Answer). (numbers_of a).number) (sym h.0 ∙ e) in omega (arith, q)

onward_one : (c : Calls) (bs : List ℕ) (buffers : ℕ → List ℕ) (k : ℕ) (g : Given) (ls ms : List (List ℕ)) → Onward c bs buffers k g ls → Onward c bs buffers k g ms → ls ≡ ms
onward_one c bs buffers k g [] [] p q = refl
onward_one c bs buffers k g [] (m ∷ ms) p q = absurd (handed_on g m q.0 p)
onward_one c bs buffers k g (l ∷ ls) [] p q = absurd (handed_on g l p.0 q)
onward_one c bs buffers k g (l ∷ ls) (m ∷ ms) p q =
    let same = handed_one g l m p.0 q.0 in
    let rest = onward_one c bs buffers (suc k) (c.next bs m (buffers k)) ls ms (subst (λ (x : List ℕ). Onward c bs buffers (suc k) (c.next bs x (buffers k)) ls) same p.1) q.1 in
    λ i. same i ∷ rest i

pub walked_one : (c : Calls) (bs : List ℕ) (buffers : ℕ → List ℕ) (ls ms : List (List ℕ)) → Walked c bs buffers ls → Walked c bs buffers ms → ls ≡ ms
walked_one c bs buffers ls ms p q = onward_one c bs buffers 1 (c.first bs (buffers 0)) ls ms p q

-- a list that fits is handed over
hands : (l buffer : List ℕ) → length l ≤ length buffer → Handed (hand_over l buffer) l
unfolding hand_over
hands l buffer h = rw (hand_over, le-leb (length l) (length buffer) h) (refl, take_at l (drop (length l) buffer) (length l) refl)

module _ (bs : List ℕ) (table : Table) (e : read_table bs ≡ Ok table) where
  -- what the two calls find
  abbrev found_first : List ℕ
  found_first = next.first_of (step table) decisions (left table) (start table)

  abbrev found_next : List ℕ → Option (List ℕ)
  found_next = next.next_of (step table) decisions (left table) (start table)

  first_call : (buffer : List ℕ) → first_of bs buffer ≡ hand_over found_first buffer
  unfolding first_of first_table
  first_call buffer = ap (λ (r : Read). first_table r buffer) e

  next_call : (list buffer : List ℕ) → Complete table list → next_of bs list buffer ≡ next_list (found_next list) buffer
  unfolding next_of next_table next_judged
  next_call list buffer c = ap (λ (r : Read). next_table r list buffer) e ∙ told (judge (step table) 0 (start table) list) (subst T (sym (judge-complete (step table) 0 (start table) list)) c)
    where
      told : (j : Judged World Verdict) → T (is_verdict j) → next_judged j (found_next list) buffer ≡ next_list (found_next list) buffer
      told (not_allowed i) t = absurd t
      told (surplus i) t = absurd t
      told (unfinished w) t = absurd t
      told (verdict v) t = refl

  there : Enumerates (step table) (start table) (tree (step table) decisions (suc (left table (start table))) (start table))
  there =
      let h = read-within bs table e in
      let w = h.0 in
      tree_enumerates (step table) decisions (left table) (Good table) (bounded table w) (some_allowed table w) (keeps table w) (falls table w) (suc (left table (start table))) (start table)
      (start_good table w h.1) (omega arith)

  module _ (buffers : ℕ → List ℕ) (long : (k : ℕ) → max_list ≤ length (buffers k)) where
    hands_whole : (l : List ℕ) (k : ℕ) → Complete table l → Handed (hand_over l (buffers k)) l
    hands_whole l k c = hands l (buffers k) (omega (arith, list_fits bs table e l c, long k))

    -- where `next` finds ls from x on, the calls give them
    onward : (ls : List (List ℕ)) (x : List ℕ) (k : ℕ) → ((m : List ℕ) → In m (x ∷ ls) → Complete table m) → Chain found_next x ls → Onward definitions bs buffers (suc k) (next_of bs x (buffers k)) ls
    unfolding next_list
    onward [] x k w c = ap (λ (g : Given). g.answer) (next_call x (buffers k) (w x (inl refl)) ∙ ap (λ (r : Option (List ℕ)). next_list r (buffers k)) c)
    onward (y ∷ ls) x k w c =
        let got : next_of bs x (buffers k) ≡ hand_over y (buffers k) = next_call x (buffers k) (w x (inl refl)) ∙ ap (λ (r : Option (List ℕ)). next_list r (buffers k)) c.0 in
        (subst (λ (g : Given). Handed g y) (sym got) (hands_whole y k (w y (inr (inl refl)))), onward ls y (suc k) (λ m i. w m (inr i)) c.1)

    walk-by : (ls : List (List ℕ)) → Enumerates (step table) (start table) ls → Walked definitions bs buffers ls
    walk-by ls s =
        let h = read-within bs table e in
        let r = chain_by (step table) (start table) found_next (next_is table h.0 h.1) found_first (first_is table h.0 h.1) ls s in
        let w : (m : List ℕ) → In m (found_first ∷ r.0) → Complete table m = λ m i. s.whole m (subst (λ (ms : List (List ℕ)). In m ms) (sym r.1) i) in
        let begun : Handed (first_of bs (buffers 0)) found_first = subst (λ (g : Given). Handed g found_first) (sym (first_call (buffers 0))) (hands_whole found_first 0 (w found_first (inl refl))) in
        subst (Walked definitions bs buffers) (sym r.1) (begun, onward r.0 found_first 1 w r.2)

    pub walk_ends : (ls : List (List ℕ)) × Walked definitions bs buffers ls
    walk_ends = (tree (step table) decisions (suc (left table (start table))) (start table), walk-by _ there)

    pub walk_gives : (ls : List (List ℕ)) → Walked definitions bs buffers ls → Enumerates (step table) (start table) ls
    walk_gives ls w = subst (Enumerates (step table) (start table)) (walked_one definitions bs buffers _ ls (walk-by _ there) w) there

    pub walk_once : (ls : List (List ℕ)) → Walked definitions bs buffers ls → (list : List ℕ) → Complete table list → times list ls ≡ 1
    walk_once ls w list c = let s = walk_gives ls w in times_once list ls s.rising (s.all list c)

    -- the judge's sheet may have any length: where it is too short the answer is 25
    pub fault_met : (ls : List (List ℕ)) → Walked definitions bs buffers ls → (list sheet : List ℕ) → number (judge_of bs list sheet) ≤ 5 → In list ls
    unfolding judge_of judge_table numbers_of
    fault_met ls w list sheet h = (walk_gives ls w).all list (go (leb (sheet_length table) (length sheet)) refl)
      where
        told : number (judge_table (Ok table) list sheet) ≤ 5
        told = subst (λ (r : Read). number (judge_table r list sheet) ≤ 5) e h

        go : (b : Bool) → leb (sheet_length table) (length sheet) ≡ b → Complete table list
        go true q = (complete_iff table list sheet (leb-true _ _ q)).1 told
        go false q = absurd (let short = rw (judge_table, q) at told in omega (arith, short))

  -- 25 is never answered where there are 582 bytes, whatever list "next" is asked about
  pub never_short : (list buffer : List ℕ) → max_list ≤ length buffer → (number (first_of bs buffer) ≡ 25 → ⊥) × (number (next_of bs list buffer) ≡ 25 → ⊥)
  unfolding numbers_of next_of next_table next_judged next_list
  never_short list buffer h = (λ q. hand found_first (first_is table n.0 n.1).whole (sym (ap number (first_call buffer)) ∙ q), λ q. judged _ refl (sym (ap (λ (r : Read). number (next_table r list buffer)) e) ∙ q))
    where
      n : Within table × (0 < table.thread_count)
      n = read-within bs table e

      hand : (l : List ℕ) → Complete table l → number (hand_over l buffer) ≡ 25 → ⊥
      hand l c q =
          let eight : number (hand_over l buffer) ≡ 8 = ap (λ (a : Answer). (numbers_of a).number) (hands l buffer (omega (arith, list_fits bs table e l c, h))).0 in
          omega (arith, q, eight)

      found : (o : Option (List ℕ)) → lists.Answers (step table) (start table) list o → number (next_list o buffer) ≡ 25 → ⊥
      found None a q = omega (arith, q)
      found (Some m) a q = hand m a.whole q

      judged : (j : Judged World Verdict) → judge (step table) 0 (start table) list ≡ j → number (next_judged j (found_next list) buffer) ≡ 25 → ⊥
      judged (not_allowed i) p q = omega (arith, q)
      judged (surplus i) p q = omega (arith, q)
      judged (unfinished w) p q = omega (arith, q)
      judged (verdict v) p q = found (found_next list) (next_is table n.0 n.1 list (complete_told table list v p)) q
