-- The laws of clocks, each once for a list of any number of places.
--     AtMost                                  the order: each count is at most the other's at its place
--     AtMost-refl, -trans, -antisym           it is an order
--     join_length, join_at                    a join's places
--     join_comm, join_assoc, join_idem        join's algebra
--     join_left, join_right, join_least       join is the least upper bound
--     raised_own, raised_end, raised_other    raising moves one place by one
--     Compared, compared, nobody_iff          the compare: nobody exactly when the other clock is at most this one, else all that are ahead and the lowest
--     lowest_trails                           the lowest place is the mask's lowest bit
--     Down, down_..                           the compare's walk from the last place down
use Rattle.std.specs.Prelude.{◌≡◌, refl, ◌≢◌, ◌↔◌, not, map, Option, None, Some, Bool, true, false, cond, List, [], ◌∷◌, ℕ, zero, suc, ◌+◌, ◌*◌, ◌^◌, ◌≤◌, ◌<◌, max, min, eqb, ltb, length, get_or, drop, set}
use Rattle.std.proofs.Common.{sym, ◌∙◌, ap, true≢false, not-suc-le-zero, le_of_suc-le-suc, arith, length-set, length-drop, pow_mono, ext_get_or, get_or-set_same, get_or-set_other, drop-cons, ltb-true, ltb-false, eqb-true, eq-eqb, ne_eqb}
use Rattle.std.proofs.Math.Decide.{dec_lt}
use Rattle.std.proofs.Math.ListN.{get_or-eq_default}
use Rattle.std.proofs.lemmas.List.{set-get_or}
use Rattle.std.proofs.Math.Seq.{set_out, drop-length}
use Rattle.std.proofs.lemmas.Bool.{eqb-false}
use mir.Val.{bool_byte}
use Rattle.std.specs.Int.{bit_at}
use Rattle.std.specs.Int.Count.{count_trailing_zeros}
use Rattle.std.specs.Simd.Lanes.{mask_l}
use Rattle.std.specs.List.{prefix_len}
use Rattle.std.proofs.lemmas.Simd.{mask_l-lt, bit_mask_l, trailing_mask_l}
use Rattle.std.proofs.lemmas.List.{map-id}
use Rattle.clocks.specs.Pass.{pass-length, pass_at_lem}
use Rattle.clocks.specs.Clock.{joined, raised, aheads, mask_of, lowest_of, who_ahead}
use Rattle.clocks.specs.declared.clock.Ahead.{Ahead}

-- each count is at most the other's at its place; a place that is not there counts 0
abbrev pub AtMost : List ℕ → List ℕ → Type 0
AtMost xs ys = (i : ℕ) → get_or xs i 0 ≤ get_or ys i 0

pub AtMost-refl : (xs : List ℕ) → AtMost xs xs
AtMost-refl xs i = omega arith

pub AtMost-trans : (xs ys zs : List ℕ) → AtMost xs ys → AtMost ys zs → AtMost xs zs
AtMost-trans xs ys zs p q i = omega (arith, p i, q i)

pub AtMost-antisym : (xs ys : List ℕ) → length xs ≡ length ys → AtMost xs ys → AtMost ys xs → xs ≡ ys
AtMost-antisym xs ys l p q = ext_get_or 0 xs ys l (λ i h. omega (arith, p i, q i))

-- an order at the places that are there is one at all
at_places : (xs ys : List ℕ) → ((i : ℕ) → i < length xs → get_or xs i 0 ≤ get_or ys i 0) → AtMost xs ys
at_places xs ys f i = go (dec_lt i (length xs))
  where
    go : Dec (i < length xs) → get_or xs i 0 ≤ get_or ys i 0
    go (yes h) = f i h
    go (no h) = omega (arith, get_or-eq_default xs 0 {n = i} (omega arith))

pub join_length : (xs ys : List ℕ) → length (joined xs ys) ≡ length xs
join_length xs ys = pass-length _ 0 xs

pub join_at : (xs ys : List ℕ) (i : ℕ) → i < length xs → get_or (joined xs ys) i 0 ≡ max (get_or xs i 0) (get_or ys i 0)
join_at xs ys i h = pass_at_lem _ i xs 0 h

module _ (xs ys : List ℕ) (l : length xs ≡ length ys) where
  pub join_comm : joined xs ys ≡ joined ys xs
  join_comm =
      ext_get_or 0 (joined xs ys) (joined ys xs) (join_length xs ys ∙ l ∙ sym (join_length ys xs))
      (λ i h.
      let x : i < length xs = rw join_length at h in
      let y : i < length ys = omega arith in
      omega (arith, join_at xs ys i x, join_at ys xs i y))

  pub join_assoc : (zs : List ℕ) → joined (joined xs ys) zs ≡ joined xs (joined ys zs)
  join_assoc zs =
      ext_get_or 0 (joined (joined xs ys) zs) (joined xs (joined ys zs)) (join_length (joined xs ys) zs ∙ join_length xs ys ∙ sym (join_length xs (joined ys zs)))
      (λ i h.
      let j : i < length (joined xs ys) = rw join_length at h in
      let x : i < length xs = rw join_length at j in
      let y : i < length ys = omega arith in
      omega (arith, join_at (joined xs ys) zs i j, join_at xs ys i x, join_at xs (joined ys zs) i x, join_at ys zs i y))

  pub join_right : AtMost ys (joined xs ys)
  join_right = at_places ys (joined xs ys) (λ i h. let x : i < length xs = omega arith in omega (arith, join_at xs ys i x))

pub join_left : (xs ys : List ℕ) → AtMost xs (joined xs ys)
join_left xs ys = at_places xs (joined xs ys) (λ i h. omega (arith, join_at xs ys i h))

pub join_least : (xs ys zs : List ℕ) → AtMost xs zs → AtMost ys zs → AtMost (joined xs ys) zs
join_least xs ys zs p q = at_places (joined xs ys) zs (λ i h. let x : i < length xs = rw join_length at h in omega (arith, join_at xs ys i x, p i, q i))

pub join_idem : (xs : List ℕ) → joined xs xs ≡ xs
join_idem xs = ext_get_or 0 (joined xs xs) xs (join_length xs xs) (λ i h. let x : i < length xs = rw join_length at h in omega (arith, join_at xs xs i x))

-- raising moves one place by one
module _ (xs : List ℕ) (i : ℕ) where
  pub raised-length : length (raised i xs) ≡ length xs
  raised-length = length-set xs i _

  pub raised_own : i < length xs → get_or xs i 0 < 255 → get_or (raised i xs) i 0 ≡ suc (get_or xs i 0)
  raised_own h k = omega (arith, get_or-set_same xs i (min (get_or xs i 0 + 1) 255) 0 h)

  -- a count at its type's end stays
  pub raised_end : get_or xs i 0 ≡ 255 → raised i xs ≡ xs
  raised_end e = let m : min (get_or xs i 0 + 1) 255 ≡ get_or xs i 0 = omega arith in ap (set xs i) m ∙ set-get_or xs i 0

  -- a place that is not there changes nothing
  pub raised-past : length xs ≤ i → raised i xs ≡ xs
  raised-past h = set_out xs i _ h

  pub raised_other : (j : ℕ) → j ≢ i → get_or (raised i xs) j 0 ≡ get_or xs j 0
  raised_other j n = get_or-set_other xs i j _ 0 n

-- the places at which the second clock is ahead
pub aheads-length : (xs ys : List ℕ) → length xs ≡ length ys → length (aheads xs ys) ≡ length xs
aheads-length [] ys l = refl
aheads-length (x ∷ xs) [] l = sym l
aheads-length (x ∷ xs) (y ∷ ys) l = ap suc (aheads-length xs ys (omega arith))

pub aheads_at : (xs ys : List ℕ) (i : ℕ) → length xs ≡ length ys → i < length xs → get_or (aheads xs ys) i false ≡ ltb (get_or xs i 0) (get_or ys i 0)
aheads_at [] ys i l h = absurd (not-suc-le-zero h)
aheads_at (x ∷ xs) [] i l h = absurd (not-suc-le-zero (rw l at h))
aheads_at (x ∷ xs) (y ∷ ys) zero l h = refl
aheads_at (x ∷ xs) (y ∷ ys) (suc i) l h = aheads_at xs ys i (omega arith) (le_of_suc-le-suc h)

-- the mask and the first place in the library's words
mask_is : (bs : List Bool) → mask_of bs ≡ mask_l bs
mask_is [] = refl
mask_is (b ∷ bs) = ap (λ (m : ℕ). cond b 1 0 + 2 * m) (mask_is bs)

lowest_is : (bs : List Bool) → lowest_of bs ≡ prefix_len not bs
lowest_is [] = refl
lowest_is (true ∷ bs) = refl
lowest_is (false ∷ bs) = omega (arith, lowest_is bs)

pub mask_bit : (bs : List Bool) (i : ℕ) → bit_at (mask_of bs) i ≡ cond (get_or bs i false) 1 0
mask_bit bs i = rw mask_is (bit_mask_l bs i)

pub mask_fits : (bs : List Bool) → mask_of bs < 2 ^ length bs
mask_fits bs = rw mask_is (mask_l-lt bs)

-- no place has a yes exactly when the mask is 0
pub mask_zero : (bs : List Bool) (i : ℕ) → mask_of bs ≡ 0 → get_or bs i false ≡ false
mask_zero [] i e = refl
mask_zero (true ∷ bs) i e = absurd (omega arith)
mask_zero (false ∷ bs) zero e = refl
mask_zero (false ∷ bs) (suc i) e = mask_zero bs i (omega arith)

pub mask_none : (bs : List Bool) → ((i : ℕ) → i < length bs → get_or bs i false ≡ false) → mask_of bs ≡ 0
mask_none [] f = refl
mask_none (true ∷ bs) f = absurd (true≢false (f 0 (omega arith)))
mask_none (false ∷ bs) f = omega (arith, mask_none bs (λ i h. f (suc i) (omega arith)))

-- the lowest place has a yes, and none before it
pub lowest_yes : (bs : List Bool) → (mask_of bs ≡ 0 → ⊥) → (lowest_of bs < length bs) × (get_or bs (lowest_of bs) false ≡ true)
lowest_yes [] n = absurd (n refl)
lowest_yes (true ∷ bs) n = (omega arith, refl)
lowest_yes (false ∷ bs) n = let h = lowest_yes bs (λ e. n (omega arith)) in (omega arith, h.1)

pub lowest_first : (bs : List Bool) (j : ℕ) → j < lowest_of bs → get_or bs j false ≡ false
lowest_first [] j h = refl
lowest_first (true ∷ bs) j h = absurd (not-suc-le-zero h)
lowest_first (false ∷ bs) zero h = refl
lowest_first (false ∷ bs) (suc j) h = lowest_first bs j (le_of_suc-le-suc h)

pub lowest_le : (bs : List Bool) → lowest_of bs ≤ length bs
lowest_le [] = omega arith
lowest_le (true ∷ bs) = omega arith
lowest_le (false ∷ bs) = omega (arith, lowest_le bs)

-- where the mask is not 0, its lowest bit is the lowest place's
pub lowest_trails : (bs : List Bool) (k : ℕ) → length bs ≤ k → 0 < mask_of bs → count_trailing_zeros k (mask_of bs) ≡ lowest_of bs
lowest_trails bs k h n =
    let m : mask_of bs ≡ mask_l (map (λ (b : Bool). b) bs) = rw map-id (mask_is bs) in
    let e = trailing_mask_l (λ b. b) k bs h (omega arith) in
    ap (count_trailing_zeros k) m ∙ e ∙ sym (lowest_is bs)

-- somebody is ahead: the mask has exactly the places that are, and the lowest of them is told
pub record Found (xs ys : List ℕ) (mask low : ℕ) : Type 0 where
  pub all : (i : ℕ) → i < length xs → bit_at mask i ≡ cond (ltb (get_or xs i 0) (get_or ys i 0)) 1 0
  pub small : mask < 2 ^ length xs
  pub place : low < length xs
  pub ahead : get_or xs low 0 < get_or ys low 0
  pub first : (j : ℕ) → j < low → get_or ys j 0 ≤ get_or xs j 0

-- what the compare of xs with ys has to say
abbrev pub Compared : List ℕ → List ℕ → Option Ahead → Type 0
Compared xs ys None = AtMost ys xs
Compared xs ys (Some a) = Found xs ys a.mask a.lowest.0

module _ (xs ys : List ℕ) (l : length xs ≡ length ys) where
  none_at : (i : ℕ) → i < length xs → get_or (aheads xs ys) i false ≡ false → get_or ys i 0 ≤ get_or xs i 0
  none_at i h e = ltb-false (get_or xs i 0) (get_or ys i 0) (sym (aheads_at xs ys i l h) ∙ e)

  pub compared : Compared xs ys (who_ahead (aheads xs ys))
  compared = go (eqb (mask_of (aheads xs ys)) 0) refl
    where
      go : (b : Bool) → eqb (mask_of (aheads xs ys)) 0 ≡ b → Compared xs ys (cond b None (Some (record { mask = mask_of (aheads xs ys); lowest = record { 0 = lowest_of (aheads xs ys) } })))
      go true e = at_places ys xs (λ i h. let x : i < length xs = omega arith in none_at i x (mask_zero (aheads xs ys) i (eqb-true _ _ e)))
      go false e =
          let w = lowest_yes (aheads xs ys) (eqb-false _ _ e) in
          let p : lowest_of (aheads xs ys) < length xs = rw (aheads-length xs ys l) at w.0 in
          record {
            all = λ i h. mask_bit (aheads xs ys) i ∙ ap (λ (b : Bool). cond b 1 0) (aheads_at xs ys i l h);
            small = rw (aheads-length xs ys l) at (mask_fits (aheads xs ys));
            place = p;
            ahead = ltb-true _ _ (sym (aheads_at xs ys _ l p) ∙ w.1);
            first = λ j h. let x : j < length xs = omega arith in none_at j x (lowest_first (aheads xs ys) j h);
          }

  -- nobody is ahead exactly when the other clock is at most this one at every place
  pub nobody_iff : (who_ahead (aheads xs ys) ≡ None) ↔ AtMost ys xs
  nobody_iff = (λ e. rw e at compared, λ p. go p (who_ahead (aheads xs ys)) compared)
    where
      go : AtMost ys xs → (a : Option Ahead) → Compared xs ys a → a ≡ None
      go p None c = refl
      go p (Some a) c = absurd (omega (arith, p a.lowest.0, c.ahead))

-- the compare's walk down: what is found from place i on
pub record Down (bs : List Bool) (mask low i : ℕ) : Type 0 where
  pub in_list : i ≤ length bs
  pub mask_is : mask ≡ mask_of (drop i bs)
  pub low_is : low ≡ i + lowest_of (drop i bs)

pub down_start : (bs : List Bool) (n : ℕ) → n ≡ length bs → Down bs 0 n n
down_start bs n e = record {
  in_list = omega arith;
  mask_is = ap mask_of (sym (none n e));
  low_is = omega (arith, ap lowest_of (none n e));
}
  where
    none : (k : ℕ) → k ≡ length bs → drop k bs ≡ []
    none k q = rw q (drop-length bs)

module _ {bs : List Bool} {mask low i : ℕ} (d : Down bs mask low i) where
  pub down_fits : mask < 2 ^ length bs
  down_fits =
      let m : length (drop i bs) ≤ length bs = omega (arith, length-drop i bs) in
      omega (arith, d.mask_is, mask_fits (drop i bs), pow_mono m)

  pub low_fits : low ≤ length bs
  low_fits = omega (arith, d.in_list, d.low_is, lowest_le (drop i bs), length-drop i bs)

  -- the lowest of the places from i on need not be carried along
  pub down_here : Down bs mask (i + lowest_of (drop i bs)) i
  down_here = record { in_list = d.in_list; mask_is = d.mask_is; low_is = refl }

  module _ (j : ℕ) (s : i ≡ suc j) where
    more : (b : Bool) → get_or bs j false ≡ b → drop j bs ≡ b ∷ drop i bs
    more b e = drop-cons bs j false (omega (arith, d.in_list)) ∙ cc

    pub down_yes : get_or bs j false ≡ true → Down bs (mask * 2 + 1) j j
    down_yes e = record {
      in_list = omega (arith, d.in_list);
      mask_is = rw (more true e) (omega (arith, d.mask_is));
      low_is = rw (more true e) (omega arith);
    }

    pub down_no : get_or bs j false ≡ false → Down bs (mask * 2) low j
    down_no e = record {
      in_list = omega (arith, d.in_list);
      mask_is = rw (more false e) (omega (arith, d.mask_is));
      low_is = rw (more false e) (omega (arith, d.low_is));
    }

    -- a turn, at the place before
    pub down_turn : (b : Bool) → get_or bs j false ≡ b → Down bs (2 * mask + bool_byte b) (cond b j low) j
    down_turn true e = let y = down_yes e in record { in_list = y.in_list; mask_is = omega (arith, y.mask_is); low_is = y.low_is }
    down_turn false e = let n = down_no e in record { in_list = n.in_list; mask_is = omega (arith, n.mask_is); low_is = n.low_is }

  at_last : i ≤ 0 → (mask ≡ mask_of bs) × (low ≡ lowest_of bs)
  at_last z = go i d (omega arith)
    where
      go : (k : ℕ) → Down bs mask low k → k ≡ 0 → (mask ≡ mask_of bs) × (low ≡ lowest_of bs)
      go zero e q = (e.mask_is, omega (arith, e.low_is))
      go (suc k) e q = absurd (omega arith)

  pub down_end : i ≤ 0 → mask ≡ mask_of bs
  down_end z = (at_last z).0

  pub down_nobody : i ≤ 0 → mask ≡ 0 → None ≡ who_ahead bs
  down_nobody z e = rw (eq-eqb (mask_of bs) 0 (omega (arith, at_last z)))

  pub down_found : i ≤ 0 → (mask ≡ 0 → ⊥) → Some (record { mask = mask; lowest = record { 0 = low } }) ≡ who_ahead bs
  down_found z n = rw ((at_last z).0, (at_last z).1, ne_eqb (mask_of bs) 0 (λ e. n ((at_last z).0 ∙ e)))
