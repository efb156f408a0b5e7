-- A queue in an array: its oldest goes, each other moves up one place, and the last place is filled. One law for every queue of the project.
--     shifted n xs     after n turns: the first n places hold what stood one place on
--     shift_turn       a turn of the loop
--     shift_end        after the last turn, with the last place filled
use Rattle.std.specs.Prelude.{◌≡◌, refl, List, [], ◌∷◌, ◌++◌, ℕ, zero, suc, ◌+◌, ◌<◌, length, get_or, set, drop}
use Rattle.std.proofs.Common.{◌∙◌, ap, not-suc-le-zero, le_of_suc-le-suc, add-one, arith}

module _ {X : Type 0} where
  abbrev pub shifted : ℕ → List X → List X
  shifted zero xs = xs
  shifted (suc n) [] = []
  shifted (suc n) (x ∷ []) = x ∷ []
  shifted (suc n) (x ∷ y ∷ xs) = y ∷ shifted n (y ∷ xs)

  step : (n : ℕ) (xs : List X) (d : X) → suc n < length xs → set (shifted n xs) n (get_or (shifted n xs) (suc n) d) ≡ shifted (suc n) xs
  step n [] d l = absurd (not-suc-le-zero l)
  step n (x ∷ []) d l = absurd (not-suc-le-zero (le_of_suc-le-suc l))
  step zero (x ∷ y ∷ xs) d l = refl
  step (suc n) (x ∷ y ∷ xs) d l = ap (λ (zs : List X). y ∷ zs) (step n (y ∷ xs) d (le_of_suc-le-suc l))

  -- a turn, whose list is z, at the code's `n + 1`
  pub shift_turn : (n : ℕ) (xs : List X) (d : X) (z : List X) → n + 1 < length xs → z ≡ shifted n xs → set z n (get_or z (n + 1) d) ≡ shifted (n + 1) xs
  shift_turn n xs d z l e =
      ap (λ (w : List X). set w n (get_or w (n + 1) d)) e
      ∙ rw add-one (step n xs d (omega arith))

  fill : (n : ℕ) (xs : List X) (f : X) → suc n ≡ length xs → set (shifted n xs) n f ≡ drop 1 xs ++ f ∷ []
  fill n [] f l = absurd (omega arith)
  fill zero (x ∷ []) f l = refl
  fill zero (x ∷ y ∷ xs) f l = absurd (omega arith)
  fill (suc n) (x ∷ []) f l = absurd (omega arith)
  fill (suc n) (x ∷ y ∷ xs) f l = ap (λ (zs : List X). y ∷ zs) (fill n (y ∷ xs) f (omega arith))

  -- the end, whose list is z
  pub shift_end : (n : ℕ) (xs : List X) (f : X) (z : List X) → n + 1 ≡ length xs → z ≡ shifted n xs → set z n f ≡ drop 1 xs ++ f ∷ []
  shift_end n xs f z l e = ap (λ (w : List X). set w n f) e ∙ fill n xs f (omega arith)
