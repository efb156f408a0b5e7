-- A loop over the first n pairs of two slices of one length: which pair a turn is given, and how many turns there are.
use Rattle.std.specs.Prelude.{◌≡◌, List, [], ◌∷◌, ℕ, zero, suc, ◌+◌, ◌<◌, ◌≤◌, min, length, get_or, Option, Some, None}
use Rattle.std.proofs.Common.{refl, ap, arith, Bor}
use Rattle.std.proofs.lemmas.Iterator.{zips}
use Rattle.std.proofs.lemmas.Slice.Zip.{Zip-so_far, zip_turn, zip_end}
use Rattle.std.proofs.iter.Yields.{fronts}
use Rattle.std.specs.Iterator.{Yields}
use Rattle.std.specs.Iterator.Adapters.{take_source, take_count, take_steps, zip_first, zip_second}
use Rattle.std.specs.Slice.Iter.{iter_rest}
use Rattle.std.specs.declared.iter.Take.{Take}
use Rattle.std.specs.declared.iter.Zip.{Zip}
use Rattle.std.specs.declared.slice.Iter.{Iter}

taken : {S A : Type 0} (steps : S → Option A → S → Type 0) (xs : List A) (s t : Take S) → Yields (take_steps steps) s xs t
    → Yields steps (take_source s) xs (take_source t) × (take_count t + length xs ≡ take_count s)
taken steps [] s t y = (ap take_source y, omega (arith, ap take_count y))
taken steps (x ∷ xs) s t y = let k = taken steps xs y.0 t y.2 in ((take_source y.0, y.1.0, k.0), omega (arith, k.1, y.1.1))

-- a pair stands at place n of both
abbrev pub PairAt : {A B : Type 0} → List A → List B → ℕ → Bor A × Bor B → Type 0
PairAt {A} {B} ks vs n p = (n < length ks) × (n < length vs) × ((d : A) → p.0.now ≡ get_or ks n d) × ((d : B) → p.1.now ≡ get_or vs n d)

module _ {A B : Type 0} (ks : List A) (vs : List B) (n : ℕ) (xs : List (Bor A × Bor B)) (s t u : Take (Zip (Iter A) (Iter B)))
    (first : iter_rest (zip_first (take_source s)) ≡ ks) (second : iter_rest (zip_second (take_source s)) ≡ vs) (count : take_count s ≡ n) (y : Yields (take_steps (zips fronts fronts)) s xs t) where
  pub pair_turn : (p : Bor A × Bor B) → take_steps (zips fronts fronts) t (Some p) u → PairAt ks vs (length xs) p
  pair_turn p h = zip_turn ks vs xs (take_source s) (take_source t) (take_source u) (Some p) first second (taken (zips fronts fronts) xs s t y).0 p refl h.0

  pub pair_end : length ks ≡ length vs → take_steps (zips fronts fronts) t None u → length xs ≡ min n (length ks)
  pair_end same h =
      let k = taken (zips fronts fronts) xs s t y in
      let far = Zip-so_far xs (take_source s) (take_source t) k.0 in
      let within : length xs ≤ length ks = omega (arith, far.2, ap length first) in
      let all : 0 < take_count t → length xs ≡ min (length ks) (length vs) = λ l. zip_end ks vs xs (take_source s) (take_source t) (take_source u) None first second k.0 refl (h l) in
      by (take_count t) k.1 within all
    where
      -- the count is used up, or the slices are
      by : (left : ℕ) → left + length xs ≡ take_count s → length xs ≤ length ks → (0 < left → length xs ≡ min (length ks) (length vs)) → length xs ≡ min n (length ks)
      by zero k w all = omega (arith, count)
      by (suc left) k w all = omega (arith, count, all (omega arith))
