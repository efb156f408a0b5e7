-- A sum over a list, by each element and its number; and what the operations before a position come to. The words are in specs/Sums.antt.
use Rattle.std.specs.Prelude.{◌≡◌, refl, List, [], ◌∷◌, ℕ, zero, suc, ◌+◌, ◌*◌, ◌≤◌, ◌<◌, length, get_or, set, drop, take}
use Rattle.std.proofs.Common.{ap, arith}
use Rattle.rules.specs.declared.table.Op.{Op}
use Rattle.rules.specs.Table.{no_op}
use Rattle.theorems.specs.Sums.{sum_of, tally}

-- one element changed
pub sum_set : {A : Type 0} (g : ℕ → A → ℕ) (xs : List A) (i : ℕ) (x d : A) → i < length xs → sum_of g (set xs i x) + g i (get_or xs i d) ≡ sum_of g xs + g i x
sum_set g [] i x d l = absurd (omega (arith, l))
sum_set g (y ∷ xs) zero x d l = omega arith
sum_set g (y ∷ xs) (suc i) x d l = omega (arith, sum_set (λ k. g (suc k)) xs i x d (omega (arith, l)))

-- the same of each element
pub sum_same : {A : Type 0} (g : ℕ → A → ℕ) (xs ys : List A) (d : A) → length xs ≡ length ys → ((i : ℕ) → g i (get_or xs i d) ≡ g i (get_or ys i d)) → sum_of g xs ≡ sum_of g ys
sum_same g [] [] d l h = refl
sum_same g [] (y ∷ ys) d l h = absurd (omega (arith, l))
sum_same g (x ∷ xs) [] d l h = absurd (omega (arith, l))
sum_same g (x ∷ xs) (y ∷ ys) d l h = omega (arith, h 0, sum_same (λ k. g (suc k)) xs ys d (omega (arith, l)) (λ i. h (suc i)))

-- at most b of each
pub sum_most : {A : Type 0} (g : ℕ → A → ℕ) (b : ℕ) (xs : List A) (d : A) → ((i : ℕ) → g i (get_or xs i d) ≤ b) → sum_of g xs ≤ length xs * b
sum_most g b [] d h = omega arith
sum_most g b (x ∷ xs) d h = omega (arith, h 0, sum_most (λ k. g (suc k)) b xs d (λ i. h (suc i)))

-- and less of one
pub sum_less : {A : Type 0} (g : ℕ → A → ℕ) (b : ℕ) (xs : List A) (d : A) → ((i : ℕ) → g i (get_or xs i d) ≤ b) → (i : ℕ) → i < length xs → g i (get_or xs i d) < b → sum_of g xs < length xs * b
sum_less g b [] d h i l m = absurd (omega (arith, l))
sum_less g b (x ∷ xs) d h zero l m = omega (arith, m, sum_most (λ k. g (suc k)) b xs d (λ i. h (suc i)))
sum_less g b (x ∷ xs) d h (suc i) l m = omega (arith, h 0, sum_less (λ k. g (suc k)) b xs d (λ i. h (suc i)) i (omega (arith, l)) m)

-- one each at most
pub tally_most : (f : Op → ℕ) → ((op : Op) → f op ≤ 1) → (ops : List Op) → tally f ops ≤ length ops
tally_most f h [] = omega arith
tally_most f h (op ∷ ops) = omega (arith, h op, tally_most f h ops)

-- one operation further
pub tally-next : (f : Op → ℕ) (p : ℕ) (os : List Op) (op : Op) (ops : List Op) → drop p os ≡ op ∷ ops → tally f (take (suc p) os) ≡ tally f (take p os) + f op
tally-next f zero [] op ops e = absurd (omega (arith, ap (λ (xs : List Op). length xs) e))
tally-next f (suc p) [] op ops e = absurd (omega (arith, ap (λ (xs : List Op). length xs) e))
tally-next f zero (x ∷ os) op ops e = let q : f x ≡ f op = ap (λ (xs : List Op). f (get_or xs 0 no_op)) e in omega (arith, q)
tally-next f (suc p) (x ∷ os) op ops e = omega (arith, tally-next f p os op ops e)
