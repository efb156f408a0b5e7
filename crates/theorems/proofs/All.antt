-- What holds of each element of a list, by its number, and of the default past its end. The words are in specs/All.antt.
use Rattle.std.specs.Prelude.{◌≡◌, refl, ◌≢◌, List, [], ◌∷◌, ◌++◌, map, ℕ, zero, suc, ◌≤◌, ◌<◌, eqb, ltb, length, get_or, set, drop, replicate}
use Rattle.std.proofs.Common.{sym, ◌∙◌, ap, subst, arith, get_or-set_same, get_or-set_other, ltb-true, ltb-false, eqb-true}
use Rattle.std.proofs.Math.ListN.{get_or-eq_default}
use Rattle.std.proofs.lemmas.Bool.{eqb-false}
use Rattle.clocks.specs.Pass.{pass_from, pass-length, pass_at_lem}
use Rattle.rules.proofs.TableLaws.{split}
use Rattle.theorems.specs.All.{All}

-- one element changed
pub all_set : {A : Type 0} (P : ℕ → A → Type 0) (d : A) (xs : List A) (i : ℕ) (x : A) → All P d xs → P i x → All P d (set xs i x)
all_set P d [] i x h p k = h k
all_set P d (y ∷ xs) zero x h p zero = p
all_set P d (y ∷ xs) zero x h p (suc k) = h (suc k)
all_set P d (y ∷ xs) (suc i) x h p zero = h 0
all_set P d (y ∷ xs) (suc i) x h p (suc k) = all_set (λ j. P (suc j)) d xs i x (λ j. h (suc j)) p k

-- a pass over all
pub all_pass : {A : Type 0} (P : ℕ → A → Type 0) (d : A) (f : ℕ → A → A) (xs : List A) → ((k : ℕ) (x : A) → P k x → P k (f k x)) → All P d xs → All P d (pass_from f 0 xs)
all_pass P d f xs on h k =
    split (ltb k (length xs)) (λ l. subst (P k) (sym (pass_at_lem f k xs d (ltb-true k (length xs) l))) (on k (get_or xs k d) (h k)))
    (λ l.
    let out : length xs ≤ k = ltb-false k (length xs) l in
    let past : length (pass_from f 0 xs) ≤ k = omega (arith, out, pass-length f 0 xs) in
    subst (P k) (get_or-eq_default xs d out ∙ sym (get_or-eq_default (pass_from f 0 xs) d past)) (h k))

-- the same of every element
pub all_map : {A B : Type 0} (P : B → Type 0) (d : B) (f : A → B) → P d → ((x : A) → P (f x)) → (xs : List A) (k : ℕ) → P (get_or (map f xs) k d)
all_map P d f p on [] k = p
all_map P d f p on (x ∷ xs) zero = on x
all_map P d f p on (x ∷ xs) (suc k) = all_map P d f p on xs k

-- one more at the end, and one less in front, of a list whose elements have no number
pub all_last : {A : Type 0} (P : A → Type 0) (d : A) (x : A) → P d → P x → (xs : List A) → All (λ k. P) d xs → All (λ k. P) d (xs ++ x ∷ [])
all_last P d x p q [] h zero = q
all_last P d x p q [] h (suc k) = p
all_last P d x p q (y ∷ xs) h zero = h 0
all_last P d x p q (y ∷ xs) h (suc k) = all_last P d x p q xs (λ j. h (suc j)) k

-- one less in front
pub all_rest : {A : Type 0} (P : A → Type 0) (d : A) (xs : List A) → All (λ k. P) d xs → All (λ k. P) d (drop 1 xs)
all_rest P d [] h k = h k
all_rest P d (x ∷ xs) h k = h (suc k)

-- a list of one element only
pub all_same : {A : Type 0} (P : A → Type 0) (d : A) → P d → (n : ℕ) → All (λ k. P) d (replicate n d)
all_same P d p zero k = p
all_same P d p (suc n) zero = p
all_same P d p (suc n) (suc k) = all_same P d p n k

-- one element changed, and what holds of the others
pub all_put : {A : Type 0} (P R : ℕ → A → Type 0) (d : A) (xs : List A) (i : ℕ) (x : A) → i < length xs → ((k : ℕ) (y : A) → k ≢ i → P k y → R k y) → All P d xs → R i x → All R d (set xs i x)
all_put P R d xs i x l on h p k =
    split (eqb k i) (λ e. subst (λ (j : ℕ). R j (get_or (set xs i x) j d)) (sym (eqb-true k i e)) (subst (R i) (sym (get_or-set_same xs i x d l)) p))
    (λ e. let n : k ≢ i = eqb-false k i e in subst (R k) (sym (get_or-set_other xs i k x d n)) (on k (get_or xs k d) n (h k)))

-- a list shifted by one, its default last
pub get_last : {A : Type 0} (d : A) (xs : List A) (k : ℕ) → get_or (xs ++ d ∷ []) k d ≡ get_or xs k d
get_last d [] zero = refl
get_last d [] (suc k) = refl
get_last d (x ∷ xs) zero = refl
get_last d (x ∷ xs) (suc k) = get_last d xs k

-- the list without its first
pub get_rest : {A : Type 0} (d : A) (xs : List A) (k : ℕ) → get_or (drop 1 xs) k d ≡ get_or xs (suc k) d
get_rest d [] k = refl
get_rest d (x ∷ xs) k = refl

-- one more at the end is one longer
last_length : {A : Type 0} (x : A) (xs : List A) → length (xs ++ x ∷ []) ≡ suc (length xs)
last_length x [] = refl
last_length x (y ∷ xs) = ap suc (last_length x xs)

-- a shifted list is as long as before
pub shift_length : {A : Type 0} (d : A) (xs : List A) → 0 < length xs → length (drop 1 xs ++ d ∷ []) ≡ length xs
shift_length d [] l = absurd (omega (arith, l))
shift_length d (x ∷ xs) l = last_length d xs
