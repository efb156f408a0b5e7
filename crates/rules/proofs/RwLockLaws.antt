-- The laws of the readers' mask: "readers are a set".
--     entered_fits         a reader that enters leaves the mask below any bound that has room for every thread's bit
--     member_bit           a reader's bit is in the mask
--     entered_self, entered_other, left_self, left_other   who is a reader after a thread enters or leaves, for any mask
--     entered_twice, left_twice   entering twice is entering once, and so for leaving
--     entered_mask, left_mask, reader_member   masks of the first n threads stay such, and their readers are among these
--     reader_some, somebody, nobody   with a reader a mask is not 0; such a mask that is not 0 has a reader, and is 0 exactly when nobody is one
use Rattle.std.specs.Prelude.{◌≡◌, refl, ◌⊎◌, ◌↔◌, Bool, true, false, ℕ, zero, suc, ◌+◌, ◌-◌, ◌*◌, ◌/◌, ◌%◌, ◌^◌, ◌≤◌, ◌<◌, eqb, ltb}
use Rattle.std.proofs.Common.{sym, ◌∙◌, ap, subst, inl, inr, mul_assoc, arith, ltb-true, ltb-false, lt-ltb, le-ltb, eqb-true, eq-eqb}
use Rattle.std.proofs.lemmas.Bool.{false≢true, eqb-false}
use Rattle.std.proofs.Math.Nat.{pow-succ', div-div-eq-div-mul, zero-div}
use Rattle.std.proofs.Math.Decide.{ℕ_discrete}
use Rattle.clocks.specs.Clock.{max_threads}
use Rattle.clocks.specs.declared.thread.ThreadId.{ThreadId}
use Rattle.rules.proofs.TableLaws.{by_test, split}
use Rattle.rules.specs.RwLock.{reader_bit, is_reader, with_reader, without_reader}

-- the bit at the place suc i is the bit at i of the half
half_bit : (mask i : ℕ) → mask / 2 ^ suc i % 2 ≡ mask / 2 / 2 ^ i % 2
half_bit mask i = ap (λ (n : ℕ). n % 2) (ap (λ (n : ℕ). mask / n) (pow-succ' 2 i) ∙ sym (div-div-eq-div-mul mask 2 (2 ^ i)))

-- a bit that is not in the mask fits under a bound that has room for it
room : (i k mask : ℕ) → mask < 2 ^ suc i * k → (mask / 2 ^ i % 2 ≡ 1 → ⊥) → mask + 2 ^ i < 2 ^ suc i * k
room zero k mask l n = omega (arith, l, n)
room (suc i) k mask l n =
    let h : 2 ^ suc (suc i) * k ≡ 2 * (2 ^ suc i * k) = ap (λ (m : ℕ). m * k) (pow-succ' 2 (suc i)) ∙ mul_assoc 2 (2 ^ suc i) k in
    let p : 2 ^ suc i ≡ 2 * 2 ^ i = pow-succ' 2 i in
    let q : mask / 2 + 2 ^ i < 2 ^ suc i * k = room i k (mask / 2) (omega (arith, l, h)) (λ e. n (half_bit mask i ∙ e)) in
    omega (arith, h, p, q)

-- a bit that is in the mask is no more than the mask
within : (i mask : ℕ) → mask / 2 ^ i % 2 ≡ 1 → 2 ^ i ≤ mask
within zero mask e = omega (arith, e)
within (suc i) mask e =
    let p : 2 ^ suc i ≡ 2 * 2 ^ i = pow-succ' 2 i in
    let q : 2 ^ i ≤ mask / 2 = within i (mask / 2) (sym (half_bit mask i) ∙ e) in
    omega (arith, p, q)

-- the bit of a place below n has room below a multiple of 2 ^ n
wider : (i n : ℕ) → i < n → (k : ℕ) → (j : ℕ) × (2 ^ n * k ≡ 2 ^ suc i * j)
wider i zero l k = absurd (omega (arith, l))
wider zero (suc n) l k = (2 ^ n * k, ap (λ (m : ℕ). m * k) (pow-succ' 2 n) ∙ mul_assoc 2 (2 ^ n) k)
wider (suc i) (suc n) l k =
    let r = wider i n (omega (arith, l)) k in
    (r.0, ap (λ (m : ℕ). m * k) (pow-succ' 2 n) ∙ mul_assoc 2 (2 ^ n) k ∙ ap (λ (m : ℕ). 2 * m) r.1 ∙ sym (mul_assoc 2 (2 ^ suc i) r.0) ∙ ap (λ (m : ℕ). m * r.0) (sym (pow-succ' 2 (suc i))))

fits : (n k mask i : ℕ) → i < n → mask < 2 ^ n * k → (mask / 2 ^ i % 2 ≡ 1 → ⊥) → mask + 2 ^ i < 2 ^ n * k
fits n k mask i h l z =
    let r = wider i n h k in
    subst (λ (m : ℕ). mask + 2 ^ i < m) (sym r.1) (room i r.0 mask (subst (λ (m : ℕ). mask < m) r.1 l) z)

pub entered_fits : (k mask : ℕ) (t : ThreadId) → mask < 2 ^ max_threads * k → is_reader mask t ≡ false → mask + reader_bit t < 2 ^ max_threads * k
unfolding is_reader
entered_fits k mask t l n = go (ltb t.0 max_threads) refl n
  where
    go : (b : Bool) → ltb t.0 max_threads ≡ b → elim b [ true ↦ eqb (mask / 2 ^ t.0 % 2) 1 | false ↦ false ] ≡ false → mask + elim b [ true ↦ 2 ^ t.0 | false ↦ 0 ] < 2 ^ max_threads * k
    go true e z = fits max_threads k mask t.0 (ltb-true _ _ e) l (eqb-false _ _ z)
    go false e z = omega (arith, l)

pub member_bit : (mask : ℕ) (t : ThreadId) → is_reader mask t ≡ true → reader_bit t ≤ mask
unfolding is_reader
member_bit mask t n = go (ltb t.0 max_threads) refl n
  where
    go : (b : Bool) → ltb t.0 max_threads ≡ b → elim b [ true ↦ eqb (mask / 2 ^ t.0 % 2) 1 | false ↦ false ] ≡ true → elim b [ true ↦ 2 ^ t.0 | false ↦ 0 ] ≤ mask
    go true e z = within t.0 mask (eqb-true _ _ z)
    go false e z = omega arith

-- the bit at i, set and taken away: at i and at any other place
abbrev bit : ℕ → ℕ → ℕ
bit i mask = mask / 2 ^ i % 2

set_self : (i mask : ℕ) → (bit i mask ≡ 1 → ⊥) → bit i (mask + 2 ^ i) ≡ 1
set_self zero mask n = omega (arith, n)
set_self (suc i) mask n =
    let half : (mask + 2 ^ suc i) / 2 ≡ mask / 2 + 2 ^ i = omega (arith, pow-succ' 2 i) in
    half_bit (mask + 2 ^ suc i) i ∙ ap (bit i) half ∙ set_self i (mask / 2) (λ e. n (half_bit mask i ∙ e))

set_other : (i j mask : ℕ) → (i ≡ j → ⊥) → (bit i mask ≡ 1 → ⊥) → bit j (mask + 2 ^ i) ≡ bit j mask
set_other zero zero mask d n = absurd (d refl)
set_other zero (suc j) mask d n =
    let half : (mask + 1) / 2 ≡ mask / 2 = omega (arith, n) in
    half_bit (mask + 1) j ∙ ap (bit j) half ∙ sym (half_bit mask j)
set_other (suc i) zero mask d n = omega (arith, pow-succ' 2 i)
set_other (suc i) (suc j) mask d n =
    let half : (mask + 2 ^ suc i) / 2 ≡ mask / 2 + 2 ^ i = omega (arith, pow-succ' 2 i) in
    half_bit (mask + 2 ^ suc i) j ∙ ap (bit j) half ∙ set_other i j (mask / 2) (λ e. d (ap suc e)) (λ e. n (half_bit mask i ∙ e)) ∙ sym (half_bit mask j)

clear_self : (i mask : ℕ) → bit i mask ≡ 1 → bit i (mask - 2 ^ i) ≡ 0
clear_self zero mask n = omega (arith, n)
clear_self (suc i) mask n =
    let half : (mask - 2 ^ suc i) / 2 ≡ mask / 2 - 2 ^ i = omega (arith, pow-succ' 2 i) in
    half_bit (mask - 2 ^ suc i) i ∙ ap (bit i) half ∙ clear_self i (mask / 2) (sym (half_bit mask i) ∙ n)

clear_other : (i j mask : ℕ) → (i ≡ j → ⊥) → bit i mask ≡ 1 → bit j (mask - 2 ^ i) ≡ bit j mask
clear_other zero zero mask d n = absurd (d refl)
clear_other zero (suc j) mask d n =
    let half : (mask - 1) / 2 ≡ mask / 2 = omega (arith, n) in
    half_bit (mask - 1) j ∙ ap (bit j) half ∙ sym (half_bit mask j)
clear_other (suc i) zero mask d n = omega (arith, pow-succ' 2 i, within (suc i) mask n)
clear_other (suc i) (suc j) mask d n =
    let half : (mask - 2 ^ suc i) / 2 ≡ mask / 2 - 2 ^ i = omega (arith, pow-succ' 2 i) in
    half_bit (mask - 2 ^ suc i) j ∙ ap (bit j) half ∙ clear_other i j (mask / 2) (λ e. d (ap suc e)) (sym (half_bit mask i) ∙ n) ∙ sym (half_bit mask j)

-- a mask below 2 ^ n that is not 0 has one of the n bits
some_bit : (n mask : ℕ) → mask < 2 ^ n → 0 < mask → (i : ℕ) × (i < n) × (bit i mask ≡ 1)
some_bit zero mask l z = absurd (omega (arith, l, z))
some_bit (suc n) mask l z = go (ℕ_discrete (bit 0 mask) 1) (some_bit n (mask / 2) (omega (arith, l, pow-succ' 2 n)))
  where
    go : Dec (bit 0 mask ≡ 1) → (0 < mask / 2 → (i : ℕ) × (i < n) × (bit i (mask / 2) ≡ 1)) → (i : ℕ) × (i < suc n) × (bit i mask ≡ 1)
    go (yes e) ih = (0, omega arith, e)
    go (no e) ih = let r = ih (omega (arith, e, z)) in (suc r.0, omega (arith, r.1), half_bit mask r.0 ∙ r.2)

-- who is a reader: the bit of a thread, and never a number that no thread has
reader_at : (mask : ℕ) (t : ThreadId) → t.0 < max_threads → is_reader mask t ≡ eqb (bit t.0 mask) 1
unfolding is_reader
reader_at mask t h = rw (is_reader, lt-ltb t.0 max_threads h)

reader_past : (mask : ℕ) (t : ThreadId) → max_threads ≤ t.0 → is_reader mask t ≡ false
unfolding is_reader
reader_past mask t h = rw (is_reader, le-ltb t.0 max_threads h)

reader_same : (mask new : ℕ) (t : ThreadId) → bit t.0 new ≡ bit t.0 mask → is_reader new t ≡ is_reader mask t
unfolding is_reader
reader_same mask new t e = ap (λ (k : ℕ). elim (ltb t.0 max_threads) as (λ _. Bool) [ true ↦ eqb k 1 | false ↦ false ]) e

-- entering and leaving: nothing changes, or the thread's bit does
enters : (mask : ℕ) (t : ThreadId) → (with_reader mask t ≡ mask) ⊎ ((with_reader mask t ≡ mask + 2 ^ t.0) × (bit t.0 mask ≡ 1 → ⊥))
unfolding with_reader
enters mask t =
    split (is_reader mask t) (λ e. inl (rw (with_reader, e)))
    (λ e. split (ltb t.0 max_threads) (λ h. inr (rw (with_reader, e, reader_bit, h), eqb-false _ _ (sym (reader_at mask t (ltb-true _ _ h)) ∙ e))) (λ h. inl (rw (with_reader, e, reader_bit, h) (omega arith))))

leaves : (mask : ℕ) (t : ThreadId) → (without_reader mask t ≡ mask) ⊎ ((without_reader mask t ≡ mask - 2 ^ t.0) × (bit t.0 mask ≡ 1))
unfolding without_reader
leaves mask t =
    split (is_reader mask t)
    (λ e. split (ltb t.0 max_threads) (λ h. inr (rw (without_reader, e, reader_bit, h), eqb-true _ _ (sym (reader_at mask t (ltb-true _ _ h)) ∙ e))) (λ h. inl (rw (without_reader, e, reader_bit, h) (omega arith))))
    (λ e. inl (rw (without_reader, e)))

-- who is a reader afterwards
pub entered_self : (mask : ℕ) (t : ThreadId) → t.0 < max_threads → is_reader (with_reader mask t) t ≡ true
unfolding with_reader
entered_self mask t h =
    split (is_reader mask t) (λ e. rw (with_reader, e) e)
    (λ e. rw (with_reader, e, reader_bit, lt-ltb t.0 max_threads h) (reader_at (mask + 2 ^ t.0) t h ∙ eq-eqb _ _ (set_self t.0 mask (eqb-false _ _ (sym (reader_at mask t h) ∙ e)))))

pub left_self : (mask : ℕ) (t : ThreadId) → is_reader (without_reader mask t) t ≡ false
unfolding without_reader
left_self mask t =
    split (ltb t.0 max_threads) (λ h. at_place h (ltb-true _ _ h)) (λ h. reader_past (without_reader mask t) t (ltb-false _ _ h))
  where
    at_place : ltb t.0 max_threads ≡ true → t.0 < max_threads → is_reader (without_reader mask t) t ≡ false
    at_place h l =
        split (is_reader mask t)
        (λ e. rw (without_reader, e, reader_bit, h) (reader_at (mask - 2 ^ t.0) t l ∙ ap (λ (k : ℕ). eqb k 1) (clear_self t.0 mask (eqb-true _ _ (sym (reader_at mask t l) ∙ e)))))
        (λ e. rw (without_reader, e) e)

pub entered_other : (mask : ℕ) (a b : ThreadId) → (a.0 ≡ b.0 → ⊥) → is_reader (with_reader mask a) b ≡ is_reader mask b
entered_other mask a b d = go (enters mask a)
  where
    go : (with_reader mask a ≡ mask) ⊎ ((with_reader mask a ≡ mask + 2 ^ a.0) × (bit a.0 mask ≡ 1 → ⊥)) → is_reader (with_reader mask a) b ≡ is_reader mask b
    go (inl e) = ap (λ (m : ℕ). is_reader m b) e
    go (inr e) = ap (λ (m : ℕ). is_reader m b) e.0 ∙ reader_same mask (mask + 2 ^ a.0) b (set_other a.0 b.0 mask d e.1)

pub left_other : (mask : ℕ) (a b : ThreadId) → (a.0 ≡ b.0 → ⊥) → is_reader (without_reader mask a) b ≡ is_reader mask b
left_other mask a b d = go (leaves mask a)
  where
    go : (without_reader mask a ≡ mask) ⊎ ((without_reader mask a ≡ mask - 2 ^ a.0) × (bit a.0 mask ≡ 1)) → is_reader (without_reader mask a) b ≡ is_reader mask b
    go (inl e) = ap (λ (m : ℕ). is_reader m b) e
    go (inr e) = ap (λ (m : ℕ). is_reader m b) e.0 ∙ reader_same mask (mask - 2 ^ a.0) b (clear_other a.0 b.0 mask d e.1)

pub entered_twice : (mask : ℕ) (t : ThreadId) → with_reader (with_reader mask t) t ≡ with_reader mask t
unfolding with_reader
entered_twice mask t = split (ltb t.0 max_threads) (λ h. reader (with_reader mask t) (entered_self mask t (ltb-true _ _ h))) (λ h. past (with_reader mask t) h)
  where
    reader : (m : ℕ) → is_reader m t ≡ true → with_reader m t ≡ m
    reader m e = rw (with_reader, e)

    past : (m : ℕ) → ltb t.0 max_threads ≡ false → with_reader m t ≡ m
    past m h = rw (with_reader, reader_past m t (ltb-false _ _ h), reader_bit, h) (omega arith)

pub left_twice : (mask : ℕ) (t : ThreadId) → without_reader (without_reader mask t) t ≡ without_reader mask t
unfolding without_reader
left_twice mask t = out (without_reader mask t) (left_self mask t)
  where
    out : (m : ℕ) → is_reader m t ≡ false → without_reader m t ≡ m
    out m e = rw (without_reader, e)

-- masks of the first n threads
pub entered_mask : (n mask : ℕ) (t : ThreadId) → t.0 < n → mask < 2 ^ n → with_reader mask t < 2 ^ n
entered_mask n mask t h l = go (enters mask t)
  where
    go : (with_reader mask t ≡ mask) ⊎ ((with_reader mask t ≡ mask + 2 ^ t.0) × (bit t.0 mask ≡ 1 → ⊥)) → with_reader mask t < 2 ^ n
    go (inl e) = omega (arith, e, l)
    go (inr e) = omega (arith, e.0, fits n 1 mask t.0 h (omega (arith, l)) e.1)

pub left_mask : (n mask : ℕ) (t : ThreadId) → mask < 2 ^ n → without_reader mask t < 2 ^ n
unfolding without_reader
left_mask n mask t l = by_test (λ (m : ℕ). m < 2 ^ n) (is_reader mask t) (λ e. omega (arith, l)) (λ e. l)

-- a larger power
pub pow_most : (i n : ℕ) → i ≤ n → 2 ^ i ≤ 2 ^ n
pow_most i n l = go (n - i) n (omega (arith, l))
  where
    go : (k n : ℕ) → n ≡ i + k → 2 ^ i ≤ 2 ^ n
    go zero n e = let q : 2 ^ n ≡ 2 ^ i = ap (λ (m : ℕ). 2 ^ m) (omega (arith, e)) in omega (arith, q)
    go (suc k) zero e = absurd (omega (arith, e))
    go (suc k) (suc n) e = omega (arith, pow-succ' 2 n, go k n (omega (arith, e)))

pub reader_member : (n mask : ℕ) (t : ThreadId) → mask < 2 ^ n → is_reader mask t ≡ true → t.0 < n
reader_member n mask t l e = split (ltb t.0 n) (λ z. ltb-true _ _ z) (λ z. absurd (past (ltb-false _ _ z)))
  where
    past : n ≤ t.0 → ⊥
    past h =
        split (ltb t.0 max_threads)
        (λ z. omega (arith, l, within t.0 mask (eqb-true _ _ (sym (reader_at mask t (ltb-true _ _ z)) ∙ e)), pow_most n t.0 h))
        (λ z. false≢true (sym (reader_past mask t (ltb-false _ _ z)) ∙ e))

-- who has a reader is not 0, and the other way round
empty : (t : ThreadId) → is_reader 0 t ≡ false
empty t = split (ltb t.0 max_threads) (λ h. reader_at 0 t (ltb-true _ _ h) ∙ ap (λ (k : ℕ). eqb (k % 2) 1) (zero-div (2 ^ t.0))) (λ h. reader_past 0 t (ltb-false _ _ h))

pub reader_some : (mask : ℕ) (t : ThreadId) → is_reader mask t ≡ true → 0 < mask
reader_some zero t e = absurd (false≢true (sym (empty t) ∙ e))
reader_some (suc m) t e = omega arith

pub somebody : (mask : ℕ) → mask < 2 ^ max_threads → 0 < mask → (t : ThreadId) × (is_reader mask t ≡ true)
somebody mask l z =
    let r = some_bit max_threads mask l z in
    let t : ThreadId = record { 0 = r.0 } in
    (t, reader_at mask t r.1 ∙ eq-eqb _ _ r.2)

pub nobody : (mask : ℕ) → mask < 2 ^ max_threads → (mask ≡ 0) ↔ ((t : ThreadId) → is_reader mask t ≡ false)
nobody zero l = (λ e. empty, λ none. refl)
nobody (suc m) l = (λ e. absurd (omega (arith, e)), λ none. let r = somebody (suc m) l (omega arith) in absurd (false≢true (sym (none r.0) ∙ r.1)))
