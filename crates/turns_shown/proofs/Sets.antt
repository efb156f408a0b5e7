-- Runs of stores: past a list's end, and in a part of it that reaches to its end.
use Rattle.std.specs.Prelude.{◌≡◌, refl, List, [], ◌∷◌, ◌++◌, ℕ, zero, suc, ◌-◌, ◌≤◌, length, set, take, drop}
use Rattle.std.proofs.Common.{sym, ◌∙◌, ap, append-nil, arith, length-set, length-drop}
use Rattle.std.proofs.lemmas.List.{take_rest, drop_all}
use Rattle.std.proofs.lemmas.List.Edits.{sets}
use Rattle.std.proofs.Math.Seq.{set_out}

module _ {A : Type 0} where
  -- past the end nothing is set
  pub sets_out : (l : List A) (i : ℕ) (vs : List A) → length l ≤ i → sets l i vs ≡ l
  sets_out l i [] h = refl
  sets_out l i (v ∷ vs) h = sets_out (set l i v) (suc i) vs (omega (arith, length-set l i v)) ∙ set_out l i v h

  next : (x : A) (l : List A) (i : ℕ) (vs : List A) → sets (x ∷ l) (suc i) vs ≡ x ∷ sets l i vs
  next x l i [] = refl
  next x l i (v ∷ vs) = next x (set l i v) (suc i) vs

  rest : (l : List A) (at : ℕ) (vs : List A) → take at l ++ sets (drop at l) 0 vs ≡ sets l at vs
  rest l zero vs = refl
  rest [] (suc at) vs = sets_out [] 0 vs (omega arith) ∙ sym (sets_out [] (suc at) vs (omega arith))
  rest (x ∷ l) (suc at) vs = ap (λ (ys : List A). x ∷ ys) (rest l at vs) ∙ sym (next x l at vs)

  -- after a write to `l[at..]`
  pub sets_rest : (l : List A) (at : ℕ) (vs ys : List A) → ys ≡ sets (take (length l - at) (drop at l)) 0 vs
      → take at l ++ (ys ++ drop (length l - at) (drop at l)) ≡ sets l at vs
  sets_rest l at vs ys e =
      let all : length (drop at l) ≤ length l - at = omega (arith, length-drop at l) in
      rw (drop_all (length l - at) (drop at l) all, append-nil ys, e, take_rest l at) (rest l at vs)
