-- Code that keeps the promises of bytes gives in each case what the definitions give.
use Rattle.std.specs.Prelude.{◌≡◌, Bool, true, false, ◌&&◌, ℕ, zero, suc, ◌+◌, T, take, drop}
use Rattle.std.proofs.Math.Path.{refl}
use Rattle.std.proofs.Common.{◌∙◌, ap}
use mathlib.Core.List.{List, [], ◌∷◌, ◌++◌, map}
use Rattle.rules.specs.Answer.{numbers_of}
use Rattle.rules.specs.Judge.{Given, judge_of}
use Rattle.rules.specs.Walk.{decision_text, first_of, next_of}
use Rattle.rules.specs.Cases.{Look, numbers, bytes, runs, walked, Calls, definitions, Case, six_numbers, lent, is_written, written_of, lines, seen, given}
use Rattle.rules.specs.Promised.{is_bytes, Promised, lines-fine, look_fine, fine}

both : (a b : Bool) → T (a && b) → T a × T b
both true b t = (tt, t)
both false b t = absurd t

lent_bytes : T (is_bytes lent)
unfolding is_bytes
lent_bytes = tt

module _ (c : Calls) (p : Promised c) where
  lines_same : (n : ℕ) (table : List ℕ) (g : Given) → T (is_bytes table) → T (lines-fine n table g) → lines c n table g ≡ lines definitions n table g
  lines_same zero table g t f = refl
  lines_same (suc n) table g t f = go (is_written g) f (lines_same n table (next_of table (written_of g) lent) t)
    where
      list : List ℕ
      list = written_of g

      go : (b : Bool) → T (elim b [ true ↦ is_bytes list && lines-fine n table (next_of table list lent) | false ↦ true ])
          → (T (lines-fine n table (next_of table list lent)) → lines c n table (next_of table list lent) ≡ lines definitions n table (next_of table list lent))
          → ◌≡◌ {A = List ℕ}
          (elim b [ true ↦ (48 + (numbers_of (c.judge table list lent).answer).number) ∷ decision_text list ++ lines c n table (c.next table list lent) | false ↦ [] ])
          (elim b [ true ↦ (48 + (numbers_of (judge_of table list lent).answer).number) ∷ decision_text list ++ lines definitions n table (next_of table list lent) | false ↦ [] ])
      go true h ih =
          let k = both (is_bytes list) _ h in
          let j = p.judge table list lent t k.0 lent_bytes in
          let rest = ap (lines c n table) (p.next table list lent t k.0 lent_bytes) ∙ ih k.1 in
          λ i. (48 + (numbers_of (j i).answer).number) ∷ decision_text list ++ rest i
      go false h ih = refl

  seen_same : (look : Look) (table list : List ℕ) → T (is_bytes table) → T (is_bytes list) → T (look_fine look table) → seen c look table list ≡ seen definitions look table list
  seen_same numbers table list t l f = ap (λ (g : Given). six_numbers (numbers_of g.answer)) (p.judge table list lent t l lent_bytes)
  seen_same (bytes from n) table list t l f = ap (λ (g : Given). take n (drop from g.buffer)) (p.judge table list lent t l lent_bytes)
  seen_same runs table list t l f = refl
  seen_same walked table list t l f = ap (lines c 9 table) (p.first table lent t lent_bytes) ∙ lines_same 9 table (first_of table lent) t f

  pub same : (cs : List Case) → T (fine cs) → map (given c) cs ≡ map (given definitions) cs
  unfolding given
  same [] f = refl
  same (k ∷ cs) f =
      let t = both (is_bytes k.table) (is_bytes k.list && (look_fine k.look k.table && fine cs)) f in
      let l = both (is_bytes k.list) (look_fine k.look k.table && fine cs) t.1 in
      let h = both (look_fine k.look k.table) (fine cs) l.1 in
      let head = seen_same k.look k.table k.list t.0 l.0 h.0 in
      let tail = same cs h.1 in
      λ i. head i ∷ tail i
