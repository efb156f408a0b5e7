-- A turn seen from one thread: the falling numbers of all the others stay, and the active thread's own goes with its shape. The words are in specs/Stage.antt.
use Rattle.std.specs.Prelude.{◌≡◌, refl, List, [], ◌∷◌, ℕ, zero, suc, ◌+◌, ◌<◌, length, get_or, set, drop}
use Rattle.std.proofs.Common.{sym, ◌∙◌, ap, subst, not-suc-le-zero, le_of_suc-le-suc, add-zero, arith, length-set, get_or-set_same}
use Rattle.std.proofs.lemmas.List.{length-map}
use Rattle.std.proofs.Math.ListN.{get_or-map}
use Rattle.clocks.specs.Clock.{max_threads}
use Rattle.clocks.specs.declared.thread.ThreadId.{ThreadId}
use Rattle.rules.specs.declared.thread.Thread.{Thread}
use Rattle.rules.specs.declared.table.Table.{Table}
use Rattle.rules.specs.declared.world.World.{World}
use Rattle.rules.specs.Ground.{absent, put_thread}
use Rattle.rules.specs.Table.{ops_of}
use Rattle.rules.specs.Walk.{left_of, left_from}
use Rattle.theorems.specs.Shape.{Shape, shape, shapes, TidyOne, Tidy, Keeps}
use Rattle.theorems.specs.Stage.{left_at, total, Sound, Sounds, Stage}

-- the sum of document 01's falling numbers is the sum over the shapes
left-from : (table : Table) (w : World) (k : ℕ) (ts : List Thread) → ((i : ℕ) → i < length ts → get_or ts i absent ≡ get_or w.threads (k + i) absent)
    → left_from table w k ts ≡ total table k (shapes ts)
unfolding left_from left_of
left-from table w k [] h = refl
left-from table w k (t ∷ ts) h =
    let same : t ≡ get_or w.threads k absent = h 0 (omega arith) ∙ ap (λ (j : ℕ). get_or w.threads j absent) (add-zero k) in
    let later : left_from table w (suc k) ts ≡ total table (suc k) (shapes ts) =
    left-from table w (suc k) ts (λ i l. let e : k + suc i ≡ suc k + i = omega arith in h (suc i) (omega (arith, l)) ∙ ap (λ (j : ℕ). get_or w.threads j absent) e) in
    λ i. left_of t (drop (sym same i).position (ops_of table k)) + later i

pub left-total : (table : Table) (w : World) → left_from table w 0 w.threads ≡ total table 0 (shapes w.threads)
left-total table w = left-from table w 0 w.threads (λ i l. let e : i ≡ 0 + i = omega arith in ap (λ (j : ℕ). get_or w.threads j absent) e)

-- one shape changed
total-set : (table : Table) (k : ℕ) (ss : List Shape) (i : ℕ) (s d : Shape) → i < length ss
    → total table k (set ss i s) + left_at table (k + i) (get_or ss i d) ≡ total table k ss + left_at table (k + i) s
total-set table k [] i s d l = absurd (not-suc-le-zero l)
total-set table k (x ∷ ss) zero s d l =
    let e : k + 0 ≡ k = add-zero k in
    let p : left_at table (k + 0) x ≡ left_at table k x = ap (λ (j : ℕ). left_at table j x) e in
    let q : left_at table (k + 0) s ≡ left_at table k s = ap (λ (j : ℕ). left_at table j s) e in
    omega (arith, p, q)
total-set table k (x ∷ ss) (suc i) s d l =
    let e : k + suc i ≡ suc k + i = omega arith in
    let h = total-set table (suc k) ss i s d (le_of_suc-le-suc l) in
    let p : left_at table (k + suc i) (get_or ss i d) ≡ left_at table (suc k + i) (get_or ss i d) = ap (λ (j : ℕ). left_at table j (get_or ss i d)) e in
    let q : left_at table (k + suc i) s ≡ left_at table (suc k + i) s = ap (λ (j : ℕ). left_at table j s) e in
    omega (arith, p, q, h)

sounds_set : (table : Table) (k : ℕ) (ss : List Shape) (i : ℕ) (s : Shape) → Sounds table k ss → Sound table (k + i) s → Sounds table k (set ss i s)
sounds_set table k [] i s a h = tt
sounds_set table k (x ∷ ss) zero s a h = (subst (λ (j : ℕ). Sound table j s) (add-zero k) h, a.1)
sounds_set table k (x ∷ ss) (suc i) s a h =
    let e : k + suc i ≡ suc k + i = omega arith in (a.0, sounds_set table (suc k) ss i s a.1 (subst (λ (j : ℕ). Sound table j s) e h))

pub sounds_at : (table : Table) (k : ℕ) (ss : List Shape) (i : ℕ) (d : Shape) → Sounds table k ss → i < length ss → Sound table (k + i) (get_or ss i d)
sounds_at table k [] i d a l = absurd (not-suc-le-zero l)
sounds_at table k (x ∷ ss) zero d a l = subst (λ (j : ℕ). Sound table j x) (sym (add-zero k)) a.0
sounds_at table k (x ∷ ss) (suc i) d a l =
    let e : suc k + i ≡ k + suc i = omega arith in subst (λ (j : ℕ). Sound table j (get_or ss i d)) e (sounds_at table (suc k) ss i d a.1 (le_of_suc-le-suc l))

tidy_set : (ss : List Shape) (i : ℕ) (s : Shape) → Tidy ss → TidyOne s → Tidy (set ss i s)
tidy_set [] i s a h = tt
tidy_set (x ∷ ss) zero s a h = (h, a.1)
tidy_set (x ∷ ss) (suc i) s a h = (a.0, tidy_set ss i s a.1 h)

map-set : (ts : List Thread) (i : ℕ) (x : Thread) → shapes (set ts i x) ≡ set (shapes ts) i (shape x)
map-set [] i x = refl
map-set (t ∷ ts) zero x = refl
map-set (t ∷ ts) (suc i) x = λ j. shape t ∷ map-set ts i x j

module _ (table : Table) (t : ThreadId) (R : ℕ) (s : Shape) (ts : List Thread) (g : Stage table t R s ts) (within : t.0 < max_threads) where
  pub stage_keeps : (us : List Thread) → Keeps ts us → Stage table t R s us
  stage_keeps us k =
      record {
        long = sym (length-map us shape) ∙ ap (λ (ss : List Shape). length ss) k ∙ length-map ts shape ∙ g.long;
        tidy = subst Tidy (sym k) g.tidy;
        sounds = subst (Sounds table 0) (sym k) g.sounds;
        here = sym (get_or-map shape us t.0 absent) ∙ ap (λ (ss : List Shape). get_or ss t.0 (shape absent)) k ∙ get_or-map shape ts t.0 absent ∙ g.here;
        rest = ap (total table 0) k ∙ g.rest;
      }

  pub stage_put : (x : Thread) (z : Shape) → shape x ≡ z → TidyOne z → Sound table t.0 z → Stage table t R z (put_thread ts t x)
  stage_put x z e h sound =
      record {
        long = length-set ts t.0 x ∙ g.long;
        tidy = subst Tidy (sym new) (tidy_set (shapes ts) t.0 z g.tidy h);
        sounds = subst (Sounds table 0) (sym new) (sounds_set table 0 (shapes ts) t.0 z g.sounds (subst (λ (j : ℕ). Sound table j z) zero_on sound));
        here = ap shape (get_or-set_same ts t.0 x absent inside) ∙ e;
        rest = ap (total table 0) new ∙ moved;
      }
    where
      inside : t.0 < length ts
      inside = omega (arith, within, g.long)

      zero_on : t.0 ≡ 0 + t.0
      zero_on = omega arith

      new : shapes (put_thread ts t x) ≡ set (shapes ts) t.0 z
      new = map-set ts t.0 x ∙ ap (set (shapes ts) t.0) e

      moved : total table 0 (set (shapes ts) t.0 z) ≡ R + left_at table t.0 z
      moved =
          let l : t.0 < length (shapes ts) = omega (arith, inside, length-map ts shape) in
          let h = total-set table 0 (shapes ts) t.0 z (shape absent) l in
          let a : left_at table (0 + t.0) (get_or (shapes ts) t.0 (shape absent)) ≡ left_at table t.0 s =
          (λ i. left_at table (sym zero_on i) ((get_or-map shape ts t.0 absent ∙ g.here) i)) in
          let b : left_at table (0 + t.0) z ≡ left_at table t.0 z = ap (λ (j : ℕ). left_at table j z) (sym zero_on) in
          omega (arith, h, a, b, g.rest)
