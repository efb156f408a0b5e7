-- The laws in the shape that code asks for: a search that counts up, a completion by one decision and then the rest, a pass at an index.
--     seek_end, seek_hit, seek_miss   the search from k to top
--     raised-smallest                 the smallest decision, raised to, begins the smallest list
--     raised_last, raised-wants       a decision ends its list, or the smallest list from the next world follows
--     pass_end, pass-refused, pass-done, pass-wants, and the same for judge   the pass at index i of a list
--     copied_more, copied_length      the first bytes of a list, copied over a buffer
use Rattle.std.specs.Prelude.{◌≡◌, Bool, true, false, length, take, drop, get_or, set}
use Rattle.std.proofs.Math.Path.{refl, ap}
use Rattle.std.proofs.Common.{sym, ◌∙◌, add-one, length-append, length-drop, take-suc, length-take-le}
use mathlib.Core.List.{List, [], ◌∷◌, ◌++◌}
use Prim.Native.Nat.{ℕ, zero, suc, ◌+◌, ◌-◌, ◌≤◌, ◌<◌}
use native.Mathlib.Omega.{arith}
use Rattle.std.proofs.Math.Seq.{drop-cons, append_snoc}
use Rattle.std.proofs.lemmas.List.{set_at}
use Rattle.lists.specs.Rules.{Outcome, refused, done, wants}
use Rattle.lists.specs.Greedy.{seek, go_on, smallest, greedy}
use Rattle.lists.proofs.Greedy.{greedy_enough}
use Rattle.lists.specs.Next.{Pivot, first_of, raised, better, pass}
use Rattle.lists.specs.Judge.{not_allowed, surplus, unfinished, verdict, judge}

module _ (p : ℕ → Bool) (top k : ℕ) where
  pub seek_end : top ≤ k → seek p (top - k) k ≡ k
  unfolding seek
  seek_end h = let e : top - k ≡ zero = omega arith in rw e

  pub seek_hit : k < top → p k ≡ true → seek p (top - k) k ≡ k
  unfolding seek
  seek_hit h t = let e : top - k ≡ suc (top - suc k) = omega arith in rw (e, t)

  pub seek_miss : k < top → p k ≡ false → seek p (top - k) k ≡ seek p (top - (k + 1)) (k + 1)
  unfolding seek
  seek_miss h t = let e : top - k ≡ suc (top - suc k) = omega arith in rw (e, t, add-one)

module _ {W Verdict : Type 0} (decide : W → ℕ → Outcome W Verdict) (top : ℕ) (left : W → ℕ) where
  pub raised-smallest : (w : W) → raised decide top left w (smallest decide top w) ≡ first_of decide top left w
  unfolding raised first_of greedy
  raised-smallest w = refl

  pub raised_last : (w : W) (d : ℕ) → ((v : W) → decide w d ≡ wants v → ⊥) → raised decide top left w d ≡ d ∷ []
  unfolding raised
  raised_last w d h = go (decide w d) h
    where
      go : (o : Outcome W Verdict) → ((v : W) → o ≡ wants v → ⊥) → d ∷ go_on o (greedy decide top (left w)) ≡ d ∷ []
      go refused n = refl
      go (done v) n = refl
      go (wants v) n = absurd (n v refl)

module _ {W Verdict : Type 0} (decide : W → ℕ → Outcome W Verdict) (top : ℕ) (left : W → ℕ) (Good : W → Type 0)
    (bounded : (w : W) (d : ℕ) → Good w → top ≤ d → decide w d ≡ refused)
    (some_allowed : (w : W) → Good w → (d : ℕ) × (decide w d ≡ refused → ⊥))
    (keeps : (w : W) (d : ℕ) (w' : W) → Good w → decide w d ≡ wants w' → Good w')
    (falls : (w : W) (d : ℕ) (w' : W) → Good w → decide w d ≡ wants w' → left w' < left w) where
  pub raised-wants : (w : W) (d : ℕ) (v : W) → Good w → decide w d ≡ wants v → raised decide top left w d ≡ d ∷ first_of decide top left v
  unfolding raised first_of
  raised-wants w d v g e =
      ap (λ (o : Outcome W Verdict). d ∷ go_on o (greedy decide top (left w))) e
      ∙ ap (λ (l : List ℕ). d ∷ l) (greedy_enough decide top left Good bounded some_allowed keeps falls (left w) (suc (left v)) v (keeps w d v g e) (falls w d v g e) (omega arith))

nothing_left : (k : ℕ) (m : List ℕ) → length m ≤ k → drop k m ≡ []
nothing_left zero [] h = refl
nothing_left zero (x ∷ m) h = absurd (omega arith)
nothing_left (suc k) [] h = refl
nothing_left (suc k) (x ∷ m) h = nothing_left k m (omega arith)

-- the pass at index i of a list, whose decision there is d
module _ {W Verdict : Type 0} (decide : W → ℕ → Outcome W Verdict) (top : ℕ) (left : W → ℕ) (w : W) (l : List ℕ) (i : ℕ) where
  pub pass_end : (best : Pivot W) → length l ≤ i → pass decide top left best i w (drop i l) ≡ best
  unfolding pass
  pass_end best h = rw (nothing_left i l h)

  pub pass-refused : (best : Pivot W) → i < length l → decide w (get_or l i 0) ≡ refused → pass decide top left best i w (drop i l) ≡ best
  unfolding pass
  pass-refused best h e = rw (drop-cons l i 0 h, e)

  pub pass-done : (best : Pivot W) (v : Verdict) → i < length l → decide w (get_or l i 0) ≡ done v
      → pass decide top left best i w (drop i l) ≡ better decide top left best i w (get_or l i 0)
  unfolding pass
  pass-done best v h e = rw (drop-cons l i 0 h, e)

  pub pass-wants : (best : Pivot W) (w' : W) → i < length l → decide w (get_or l i 0) ≡ wants w'
      → pass decide top left best i w (drop i l) ≡ pass decide top left (better decide top left best i w (get_or l i 0)) (i + 1) w' (drop (i + 1) l)
  unfolding pass
  pass-wants best w' h e = rw (drop-cons l i 0 h, e, add-one)

-- the judgement at index i of a list
module _ {W Verdict : Type 0} (decide : W → ℕ → Outcome W Verdict) (w : W) (l : List ℕ) (i : ℕ) where
  pub judge_end_lem : length l ≤ i → judge decide i w (drop i l) ≡ unfinished w
  unfolding judge
  judge_end_lem h = rw (nothing_left i l h)

  pub judge-refused : i < length l → decide w (get_or l i 0) ≡ refused → judge decide i w (drop i l) ≡ not_allowed i
  unfolding judge
  judge-refused h e = rw (drop-cons l i 0 h, e)

  pub judge_last : (v : Verdict) → i + 1 ≡ length l → decide w (get_or l i 0) ≡ done v → judge decide i w (drop i l) ≡ verdict v
  unfolding judge
  judge_last v h e = rw (drop-cons l i 0 (omega arith), e, nothing_left (suc i) l (omega arith))

  pub judge_surplus : (v : Verdict) → i + 1 < length l → decide w (get_or l i 0) ≡ done v → judge decide i w (drop i l) ≡ surplus (i + 1)
  unfolding judge
  judge_surplus v h e = rw (drop-cons l i 0 (omega arith), e, drop-cons l (suc i) 0 (omega arith), add-one)

  pub judge-wants : (w' : W) → i < length l → decide w (get_or l i 0) ≡ wants w' → judge decide i w (drop i l) ≡ judge decide (i + 1) w' (drop (i + 1) l)
  unfolding judge
  judge-wants w' h e = rw (drop-cons l i 0 h, e, add-one)

-- a copy of the first i bytes of f over l, and one byte more
pub copied_more : (f l : List ℕ) (i : ℕ) → i < length f → i < length l → set (take i f ++ drop i l) i (get_or f i 0) ≡ take (i + 1) f ++ drop (i + 1) l
copied_more f l i h k =
    rw (drop-cons l i 0 k, add-one, take-suc f i 0 h)
    (set_at (take i f) (get_or l i 0) (drop (suc i) l) (get_or f i 0) i (length-take-le i f (omega arith)) ∙ sym (append_snoc (take i f) (get_or f i 0) (drop (suc i) l)))

pub copied_length : (f l : List ℕ) (i : ℕ) → i ≤ length f → i ≤ length l → length (take i f ++ drop i l) ≡ length l
copied_length f l i h k = simp (length-append, length-drop) (let e = length-take-le i f h in omega arith)
