-- Laws of lists. `get_or-within` and `take_min` are the library's; the others it does not have.
use Rattle.std.specs.Prelude.{◌≡◌, List, [], ◌∷◌, ◌++◌, ℕ, zero, suc, ◌+◌, ◌≤◌, ◌<◌, min, length, get_or, set, take, drop}
use Rattle.std.proofs.Common.{sym, ◌∙◌, ap, add-zero, arith, length-take, get_or-take, get_or-drop}
use Rattle.std.proofs.Math.ListN.{get_or-eq_default}
use Rattle.std.proofs.lemmas.List as list
use Rattle.std.proofs.lemmas.List.{get_or_default}
use Rattle.std.proofs.lemmas.List.Edits.{sets}

-- what is read within a list does not depend on what a place past its end would read
pub get_or-within : {A : Type 0} (xs : List A) (i : ℕ) (d e : A) → i < length xs → get_or xs i d ≡ get_or xs i e
get_or-within = get_or_default

-- a byte within a part of a list; before the part's end, past it, and past the list's
module _ {A : Type 0} (xs : List A) (from n i : ℕ) (d : A) where
  pub part_at : i < n → get_or (take n (drop from xs)) i d ≡ get_or xs (from + i) d
  part_at h = get_or-take n (drop from xs) i d h ∙ get_or-drop from xs i d

  pub part_past : n ≤ i → get_or (take n (drop from xs)) i d ≡ d
  part_past h = get_or-eq_default (take n (drop from xs)) d (omega (arith, length-take n (drop from xs)))

  pub part_end : i < n → length xs ≤ from + i → get_or (take n (drop from xs)) i d ≡ d
  part_end h k = part_at h ∙ get_or-eq_default xs d k

-- n is none of the numbers below k, as a `match` on a number tells it in its last arm
abbrev pub NoneBelow : ℕ → ℕ → Type 0
NoneBelow zero n = Unit {0}
NoneBelow (suc k) n = NoneBelow k n × (n ≡ k → ⊥)

pub none_below : (k n : ℕ) → NoneBelow k n → k ≤ n
none_below zero n r = omega arith
none_below (suc k) n r = let low = none_below k n r.0 in let other = r.1 in omega arith

-- a run of stores, and a second one where it ends, are one run
pub sets_append : {A : Type 0} (l : List A) (i : ℕ) (a b : List A) → sets (sets l i a) (i + length a) b ≡ sets l i (a ++ b)
sets_append l i [] b = ap (λ (k : ℕ). sets l k b) (add-zero i)
sets_append {A} l i (x ∷ a) b =
    let more : List A = sets (set l i x) (suc i) a in
    let e : i + suc (length a) ≡ suc i + length a = omega arith in
    ap (λ (k : ℕ). sets more k b) e ∙ sets_append (set l i x) (suc i) a b

pub sets_then : {A : Type 0} (l : List A) (at : ℕ) {m n : List A} (a b : List A) (k : ℕ)
    → length a ≡ k → m ≡ sets l at a → n ≡ sets m (at + k) b → n ≡ sets l at (a ++ b)
sets_then l at a b k e f g = g ∙ (λ i. sets (f i) (at + sym e i) b) ∙ sets_append l at a b

-- more than a list has is all of it
pub take_min : {A : Type 0} (k : ℕ) (xs : List A) → take (min k (length xs)) xs ≡ take k xs
take_min = list.take_min
