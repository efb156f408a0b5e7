-- Demand 3 of the code: whatever code keeps its promises of bytes walks as the rules do, since every complete list is a list of bytes.
use Rattle.std.specs.Prelude.{◌≡◌, refl, ◌⊎◌, ◌↔◌, true, List, [], ◌∷◌, ℕ, suc, ◌≤◌, T, ltb, length, Ok}
use Rattle.std.proofs.Common.{sym, subst, inl, inr, arith, lt-ltb}
use Rattle.lists.specs.Rules as lists
use Rattle.lists.proofs.Rules as lists-laws
use Rattle.lists.proofs.Greedy.{allowed_below}
use Rattle.lists.specs.Walk.{In, Enumerates}
use Rattle.rules.specs.declared.table.Table.{Table}
use Rattle.rules.specs.declared.world.World.{World}
use Rattle.rules.specs.Limits.{max_list}
use Rattle.rules.specs.Table.{read_table}
use Rattle.rules.specs.TableLaws.{Within}
use Rattle.rules.proofs.TableLaws.{read-within}
use Rattle.rules.specs.Turn.{start}
use Rattle.rules.specs.Judge.{step, Given}
use Rattle.rules.specs.Walk.{decisions, left}
use Rattle.rules.specs.Demand.{Complete}
use Rattle.rules.specs.Cases.{Calls, definitions}
use Rattle.rules.specs.Promised.{is_bytes, Promised}
use Rattle.theorems.specs.Falling.{Good}
use Rattle.theorems.proofs.Machine.{bounded, some_allowed, keeps, falls}
use Rattle.theorems.proofs.Accepted.{start_good}
use Rattle.theorems.specs.Walked.{Onward, Walked, number}
use Rattle.theorems.proofs.Walked.{walked_one, walk_ends, walk_gives, fault_met}

-- every decision that is allowed is below the number of threads
bytes_from : (table : Table) → Within table → (l : List ℕ) (w : World) → Good table w → lists.Complete (step table) w l → T (is_bytes l)
unfolding is_bytes
bytes_from table n [] w g c = tt
bytes_from table n (d ∷ l) w g c = rw (is_bytes, small) (go (lists-laws.complete_cases (step table) w d l c) (λ v. bytes_from table n l v))
  where
    small : ltb d 256 ≡ true
    small =
        let below = allowed_below (step table) decisions (left table) (Good table) (bounded table n) (some_allowed table n) (keeps table n) (falls table n) w d g (lists-laws.complete-allowed (step table) w d l c) in
        lt-ltb d 256 (omega (arith, below))

    go : lists.Done (step table) w d l ⊎ lists.Wants (step table) w d l → ((v : World) → Good table v → lists.Complete (step table) v l → T (is_bytes l)) → T (is_bytes l)
    go (inl a) ih = rw a.2 tt
    go (inr a) ih = ih a.0 (keeps table n w d a.0 g a.1) a.2

module _ (bs : List ℕ) (table : Table) (e : read_table bs ≡ Ok table) where
  pub complete_bytes : (list : List ℕ) → Complete table list → T (is_bytes list)
  complete_bytes list c = let h = read-within bs table e in bytes_from table h.0 list (start table) (start_good table h.0 h.1) c

  module _ (c : Calls) (p : Promised c) (t : T (is_bytes bs)) (buffers : ℕ → List ℕ) (b : (k : ℕ) → T (is_bytes (buffers k))) (long : (k : ℕ) → max_list ≤ length (buffers k)) where
    onward : (ls : List (List ℕ)) (k : ℕ) (g : Given) → ((m : List ℕ) → In m ls → Complete table m) → Onward definitions bs buffers k g ls → Onward c bs buffers k g ls
    onward [] k g w h = h
    onward (l ∷ ls) k g w h =
        let same = p.next bs l (buffers k) t (complete_bytes l (w l (inl refl))) (b k) in
        (h.0, subst (λ (x : Given). Onward c bs buffers (suc k) x ls) (sym same) (onward ls (suc k) _ (λ m i. w m (inr i)) h.1))

    by_rules : (ls : List (List ℕ)) → Walked definitions bs buffers ls → Walked c bs buffers ls
    by_rules ls h =
        subst (λ (x : Given). Onward c bs buffers 1 x ls) (sym (p.first bs (buffers 0) t (b 0))) (onward ls 1 _ (walk_gives bs table e buffers long ls h).whole h)

    pub code_walks : (ls : List (List ℕ)) → Walked c bs buffers ls ↔ Walked definitions bs buffers ls
    code_walks ls = (λ h. let r = walk_ends bs table e buffers long in subst (Walked definitions bs buffers) (walked_one c bs buffers r.0 ls (by_rules r.0 r.1) h) r.1, by_rules ls)

    -- so what it gives is all complete lists, each once, rising, and then 7
    pub code_gives : (ls : List (List ℕ)) → Walked c bs buffers ls → Enumerates (step table) (start table) ls
    code_gives ls h = walk_gives bs table e buffers long ls ((code_walks ls).0 h)

    -- and a list that its judge answers with a fault is among them
    pub code_fault_met : (ls : List (List ℕ)) → Walked c bs buffers ls → (list sheet : List ℕ) → T (is_bytes list) → T (is_bytes sheet) → number (c.judge bs list sheet) ≤ 5 → In list ls
    code_fault_met ls h list sheet l s f =
        fault_met bs table e buffers long ls ((code_walks ls).0 h) list sheet (subst (λ (g : Given). number g ≤ 5) (p.judge bs list sheet t l s) f)
