-- A pass: each element of a list replaced by a function of its index and itself. One definition for every pass of the project.
--     pass_from f k xs     each element of xs is replaced, the first by the index k
--     passed f n k xs     the same after n elements: the first n are replaced
--     passed_length       it is as long as xs.            passed-next     element n, at its turn, is still that of xs
--     passed-step         the turn of element n.          passed_all      after the last turn all are replaced
--     turned, ended       a turn, and the end, as a loop asks for them
--     pass_at_lem             an element of the whole pass
use Rattle.std.specs.Prelude.{◌≡◌, refl, List, [], ◌∷◌, ℕ, zero, suc, ◌+◌, ◌<◌, length, get_or, set}
use Rattle.std.proofs.Common.{sym, ◌∙◌, ap, zero-add, not-suc-le-zero, le_of_suc-le-suc, suc-add, add-suc, add-zero, add-one}

abbrev pub pass_from : {X : Type 0} → (ℕ → X → X) → ℕ → List X → List X
pass_from f k [] = []
pass_from f k (x ∷ xs) = f k x ∷ pass_from f (suc k) xs

module _ {X : Type 0} (f : ℕ → X → X) where
  abbrev pub passed : ℕ → ℕ → List X → List X
  passed zero k xs = xs
  passed (suc n) k [] = []
  passed (suc n) k (x ∷ xs) = f k x ∷ passed n (suc k) xs

  pub passed_length : (n k : ℕ) (xs : List X) → length (passed n k xs) ≡ length xs
  passed_length zero k xs = refl
  passed_length (suc n) k [] = refl
  passed_length (suc n) k (x ∷ xs) = ap suc (passed_length n (suc k) xs)

  pub passed-next : (n k : ℕ) (xs : List X) (d : X) → get_or (passed n k xs) n d ≡ get_or xs n d
  passed-next zero k xs d = refl
  passed-next (suc n) k [] d = refl
  passed-next (suc n) k (x ∷ xs) d = passed-next n (suc k) xs d

  step_from : (n k : ℕ) (xs : List X) (d : X) → n < length xs → set (passed n k xs) n (f (n + k) (get_or (passed n k xs) n d)) ≡ passed (suc n) k xs
  step_from n k [] d l = absurd (not-suc-le-zero l)
  step_from zero k (x ∷ xs) d l = ap (λ (j : ℕ). f j x ∷ xs) (zero-add k)
  step_from (suc n) k (x ∷ xs) d l =
      ap (λ (j : ℕ). f k x ∷ set (passed n (suc k) xs) n (f j (get_or (passed n (suc k) xs) n d))) (suc-add n k ∙ sym (add-suc n k))
      ∙ ap (λ (ys : List X). f k x ∷ ys) (step_from n (suc k) xs d (le_of_suc-le-suc l))

  -- at the code's `n + 1`
  pub passed-step : (n : ℕ) (xs : List X) (d : X) → n < length xs → set (passed n 0 xs) n (f n (get_or (passed n 0 xs) n d)) ≡ passed (n + 1) 0 xs
  passed-step n xs d l =
      ap (λ (j : ℕ). set (passed n 0 xs) n (f j (get_or (passed n 0 xs) n d))) (sym (add-zero n)) ∙ step_from n 0 xs d l ∙ ap (λ (m : ℕ). passed m 0 xs) (sym (add-one n))

  -- a turn of a loop, whose list is z and whose element is read as y
  pub turned : (n : ℕ) (xs : List X) (d : X) (z : List X) (y : X) → n < length xs → z ≡ passed n 0 xs → y ≡ f n (get_or z n d) → set z n y ≡ passed (n + 1) 0 xs
  turned n xs d z y l e r = ap (λ (u : X). set z n u) r ∙ ap (λ (w : List X). set w n (f n (get_or w n d))) e ∙ passed-step n xs d l

  pub passed_all : (k : ℕ) (xs : List X) → passed (length xs) k xs ≡ pass_from f k xs
  passed_all k [] = refl
  passed_all k (x ∷ xs) = ap (λ (ys : List X). f k x ∷ ys) (passed_all (suc k) xs)

  -- the end of a loop
  pub ended : (n : ℕ) (xs z : List X) → n ≡ length xs → z ≡ passed n 0 xs → z ≡ pass_from f 0 xs
  ended n xs z l e = e ∙ ap (λ (m : ℕ). passed m 0 xs) l ∙ passed_all 0 xs

  pub pass-length : (k : ℕ) (xs : List X) → length (pass_from f k xs) ≡ length xs
  pass-length k [] = refl
  pass-length k (x ∷ xs) = ap suc (pass-length (suc k) xs)

  at_from : (i k : ℕ) (xs : List X) (d : X) → i < length xs → get_or (pass_from f k xs) i d ≡ f (i + k) (get_or xs i d)
  at_from i k [] d l = absurd (not-suc-le-zero l)
  at_from zero k (x ∷ xs) d l = ap (λ (j : ℕ). f j x) (sym (zero-add k))
  at_from (suc i) k (x ∷ xs) d l = at_from i (suc k) xs d (le_of_suc-le-suc l) ∙ ap (λ (j : ℕ). f j (get_or xs i d)) (add-suc i k ∙ sym (suc-add i k))

  pub pass_at_lem : (i : ℕ) (xs : List X) (d : X) → i < length xs → get_or (pass_from f 0 xs) i d ≡ f i (get_or xs i d)
  pass_at_lem i xs d l = at_from i 0 xs d l ∙ ap (λ (j : ℕ). f j (get_or xs i d)) (add-zero i)
