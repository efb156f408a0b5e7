-- The laws of the orders of specs/Order.antt.
--     trichotomy          of two lists one is smaller, or they are equal
--     less_trans, less_irrefl, less_asym, le_antisym, cons_less, cons-le
use Rattle.std.specs.Prelude.{◌≡◌, refl, ◌⊎◌, List, [], ◌∷◌, ℕ, ◌<◌}
use Rattle.std.proofs.Common.{sym, ◌∙◌, inl, inr, arith}
use Rattle.std.proofs.Math.Decide.{dec_lt}
use Rattle.lists.specs.Order.{◌<ₗ◌, ◌≤ₗ◌}

pub less_trans : (l m n : List ℕ) → l <ₗ m → m <ₗ n → l <ₗ n
less_trans [] [] n p q = absurd p
less_trans [] (y ∷ m) [] p q = absurd q
less_trans [] (y ∷ m) (z ∷ n) p q = tt
less_trans (x ∷ l) [] n p q = absurd p
less_trans (x ∷ l) (y ∷ m) [] p q = absurd q
less_trans (x ∷ l) (y ∷ m) (z ∷ n) p q = go (less_trans l m n) p q
  where
    go : (l <ₗ m → m <ₗ n → l <ₗ n) → (x < y) ⊎ ((x ≡ y) × (l <ₗ m)) → (y < z) ⊎ ((y ≡ z) × (m <ₗ n)) → (x < z) ⊎ ((x ≡ z) × (l <ₗ n))
    go ih (inl a) (inl b) = inl (omega arith)
    go ih (inl a) (inr b) = inl (omega arith)
    go ih (inr a) (inl b) = inl (omega arith)
    go ih (inr a) (inr b) = inr (a.0 ∙ b.0, ih a.1 b.1)

pub less_irrefl : (l : List ℕ) → l <ₗ l → ⊥
less_irrefl [] p = p
less_irrefl (x ∷ l) p = go (less_irrefl l) p
  where
    go : (l <ₗ l → ⊥) → (x < x) ⊎ ((x ≡ x) × (l <ₗ l)) → ⊥
    go ih (inl a) = omega arith
    go ih (inr a) = ih a.1

pub less_asym : (l m : List ℕ) → l <ₗ m → m <ₗ l → ⊥
less_asym l m p q = less_irrefl l (less_trans l m l p q)

pub le_antisym : (l m : List ℕ) → l ≤ₗ m → m ≤ₗ l → l ≡ m
le_antisym l m (inl e) q = e
le_antisym l m (inr p) (inl e) = sym e
le_antisym l m (inr p) (inr q) = absurd (less_asym l m p q)

-- of two lists one is smaller, or they are equal
pub trichotomy : (l m : List ℕ) → (l <ₗ m) ⊎ ((l ≡ m) ⊎ (m <ₗ l))
trichotomy [] [] = inr (inl refl)
trichotomy [] (y ∷ m) = inl tt
trichotomy (x ∷ l) [] = inr (inr tt)
trichotomy (x ∷ l) (y ∷ m) = go (dec_lt x y) (dec_lt y x) (trichotomy l m)
  where
    go : Dec (x < y) → Dec (y < x) → (l <ₗ m) ⊎ ((l ≡ m) ⊎ (m <ₗ l)) → ((x ∷ l) <ₗ (y ∷ m)) ⊎ ((x ∷ l ≡ y ∷ m) ⊎ ((y ∷ m) <ₗ (x ∷ l)))
    go (yes a) b c = inl (inl a)
    go (no a) (yes b) c = inr (inr (inl b))
    go (no a) (no b) (inl p) = inl (inr (omega arith, p))
    go (no a) (no b) (inr (inl e)) = let xy : x ≡ y = omega arith in inr (inl (cc))
    go (no a) (no b) (inr (inr q)) = inr (inr (inr (omega arith, q)))

-- the same first number
pub cons_less : (x : ℕ) (l m : List ℕ) → l <ₗ m → (x ∷ l) <ₗ (x ∷ m)
cons_less x l m p = inr (refl, p)

pub cons-le : (x y : ℕ) (l m : List ℕ) → x ≡ y → l ≤ₗ m → (x ∷ l) ≤ₗ (y ∷ m)
cons-le x y l m e (inl p) = inl (cc)
cons-le x y l m e (inr p) = inr (inr (e, p))
