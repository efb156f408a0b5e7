-- The walk's definitions in the shape that the code asks for.
use Rattle.std.specs.Prelude.{◌≡◌, refl, Bool, true, false, Option, Some, None, Result, List, leb, ltb, take, drop, get_or, max, unwrap_or}
use Rattle.std.specs.Option.{is_some, option_map, option_and_then}
use Rattle.std.proofs.Common.{sym, ◌∙◌, subst, arith, ltb-false, lt-ltb, le-ltb, le-leb}
use Rattle.std.proofs.Math.Path.{ap}
use Rattle.std.proofs.Math.Bool.{cond}
use Rattle.std.proofs.lemmas.Bool.{false≢true, lt-leb}
use Prim.Native.Nat.{ℕ, zero, suc, ◌+◌, ◌-◌, ◌*◌, ◌≤◌, ◌<◌, min}
use Rattle.std.proofs.Math.Decide.{dec_lt}
use Rattle.lists.specs.Judge.{judge}
use Rattle.rules.specs.declared.answer.Answer.{Answer}
use Rattle.rules.specs.declared.table.Table.{Table}
use Rattle.rules.specs.declared.world.World.{World}
use Rattle.rules.specs.Limits.{max_list}
use Rattle.rules.proofs.TableLaws.{split}
use Rattle.rules.specs.Turn.{start}
use Rattle.rules.specs.Judge.{step}
use Rattle.rules.specs.Walk.{decisions}
use Rattle.turns_run.specs.declared.Ran.{Ran}
use Rattle.turns_run.specs.declared.Refusal.{Refusal}
use Rattle.turns_run.specs.Run.{ran_of}
use Rattle.walker.specs.declared.Path.{Path}
use Rattle.walker.specs.declared.Kept.{Kept}
use Rattle.walker.specs.declared.Walker.{Walker}
use Rattle.walker.specs.Walking.{least_from, taken_from, ran_by, end_by, world_by, with, or_on, completed, last_below, moved, at_start, near, not_behind, nearer, empty, begun, raised_at, advanced}

or_over : (x : Option Answer) (a b : Path) → is_some x ≡ true → or_on x a b ≡ a
or_over None a b h = absurd (false≢true h)
or_over (Some v) a b h = refl

or_goes : (x : Option Answer) (a b : Path) → is_some x ≡ false → or_on x a b ≡ b
or_goes None a b h = refl
or_goes (Some v) a b h = absurd (false≢true (sym h))

module _ (table : Table) (w : World) (p : Path) (low : ℕ) where
  pub taken_there : (d : ℕ) → least_from w low ≡ Some d → d ≡ taken_from w low
  taken_there d e = ap (λ (o : Option ℕ). unwrap_or o (max low decisions)) (sym e)

  pub complete_full : (i : ℕ) → max_list ≤ i → completed table (max_list - i) w p low ≡ p
  unfolding completed
  complete_full i h = let e : max_list - i ≡ zero = omega (arith, h) in rw e

  module _ (d : ℕ) (o : Result Ran Refusal) (is-d : d ≡ taken_from w low) (is-o : ran_by table w d ≡ o) where
    abbrev one : ℕ → ℕ → Result Ran Refusal → Path
    one n x r =
        let q = with p p.at x (least_from w (x + 1)) (end_by r) in
        or_on (end_by r) q (completed table n (world_by r) q 0)

    -- the first decision of a completion
    first : (n : ℕ) → completed table (suc n) w p low ≡ one n d o
    unfolding completed
    first n = ap (λ (x : ℕ). one n x (ran_by table w x)) (sym is-d) ∙ ap (one n d) is-o

    abbrev q : Path
    q = with p p.at d (least_from w (d + 1)) (end_by o)

    pub first_over : (n : ℕ) → is_some (end_by o) ≡ true → completed table (suc n) w p low ≡ q
    first_over n h = first n ∙ or_over (end_by o) _ _ h

    pub first_on : (n : ℕ) → is_some (end_by o) ≡ false → completed table (suc n) w p low ≡ completed table n (world_by o) q 0
    first_on n h = first n ∙ or_goes (end_by o) _ _ h

    -- as the loop has it, at its place
    module _ (i : ℕ) (e : Option ℕ) (at : p.at ≡ i) (h : i < max_list) (is-e : e ≡ least_from w (d + 1)) where
      room : max_list - i ≡ suc (max_list - (i + 1))
      room = omega (arith, h)

      abbrev rest : ℕ → Path
      rest k = completed table k w p low

      here : q ≡ with p i d e (end_by o)
      here = λ j. with p (at j) d (sym is-e j) (end_by o)

      pub complete_over : is_some (end_by o) ≡ true → completed table (max_list - i) w p low ≡ with p i d e (end_by o)
      complete_over t = ap rest room ∙ first_over (max_list - (i + 1)) t ∙ here

      pub complete_on : is_some (end_by o) ≡ false → completed table (max_list - i) w p low ≡ completed table (max_list - (i + 1)) (world_by o) (with p i d e (end_by o)) 0
      complete_on t = ap rest room ∙ first_on (max_list - (i + 1)) t ∙ ap (λ (x : Path). completed table (max_list - (i + 1)) (world_by o) x 0) here

-- the last of the first n places that has a decision
abbrev pub Last : List (Option ℕ) → ℕ → Option ℕ → Type 0
Last l n None = (i : ℕ) → i < n → is_some (get_or l i None) ≡ false
Last l n (Some p) = (p < n) × (is_some (get_or l p None) ≡ true) × ((i : ℕ) → p < i → i < n → is_some (get_or l i None) ≡ false)

module _ (l : List (Option ℕ)) where
  below_found : (n : ℕ) → is_some (get_or l n None) ≡ true → last_below l (suc n) ≡ Some n
  unfolding last_below
  below_found n h = rw h

  below_not : (n : ℕ) → is_some (get_or l n None) ≡ false → last_below l (suc n) ≡ last_below l n
  unfolding last_below
  below_not n h = rw h

  pub last_is : (n : ℕ) → Last l n (last_below l n)
  unfolding last_below
  last_is zero = λ i h. absurd (omega (arith, h))
  last_is (suc n) =
      split (is_some (get_or l n None))
      (λ t. subst (Last l (suc n)) (sym (below_found n t)) (omega arith, t, λ i a b. absurd (omega (arith, a, b))))
      (λ t. subst (Last l (suc n)) (sym (below_not n t)) (wider (last_below l n) t (last_is n)))
    where
      at : (i : ℕ) → Dec (i < n) → i < suc n → is_some (get_or l n None) ≡ false → (i < n → is_some (get_or l i None) ≡ false) → is_some (get_or l i None) ≡ false
      at i (yes h) b e k = k h
      at i (no h) b e k = let same : i ≡ n = omega (arith, b, h) in rw same e

      wider : (o : Option ℕ) → is_some (get_or l n None) ≡ false → Last l n o → Last l (suc n) o
      wider None e f = λ i b. at i (dec_lt i n) b e (f i)
      wider (Some p) e f = let h = f.0 in (omega (arith, h), f.1, λ i a b. at i (dec_lt i n) b e (f.2 i a))

  -- and it is the only one
  pub last_none : (n : ℕ) → Last l n None → None ≡ last_below l n
  unfolding last_below
  last_none zero f = refl
  last_none (suc n) f = last_none n (λ i h. f i (omega (arith, h))) ∙ sym (below_not n (f n (omega arith)))

  pub last_some : (n p : ℕ) → Last l n (Some p) → Some p ≡ last_below l n
  unfolding last_below
  last_some zero p f = let h = f.0 in absurd (omega (arith, h))
  last_some (suc n) p f = go (dec_lt p n) (last_some n p)
    where
      go : Dec (p < n) → (Last l n (Some p) → Some p ≡ last_below l n) → Some p ≡ last_below l (suc n)
      go (yes h) ih = ih (h, f.1, λ i a b. f.2 i a (omega (arith, b))) ∙ sym (below_not n (f.2 n h (omega arith)))
      go (no h) ih = let b = f.0 in let same : p ≡ n = omega (arith, b, h) in ap Some same ∙ sym (below_found n (subst (λ (k : ℕ). is_some (get_or l k None) ≡ true) same f.1))

pub at_start_is : (table : Table) (w : World) → w ≡ start table → record { world = w; from = 0 } ≡ at_start table
unfolding at_start
at_start_is table w e = λ i. record { world = e i; from = 0 }

module _ (table : Table) (l : List ℕ) (k : Kept) where
  pub moved_not : (to : ℕ) → to ≤ k.from → k ≡ moved table l k to
  unfolding moved
  moved_not to h = rw (le-leb to k.from h)

  pub moved_on : (to : ℕ) → k.from < to → (o : Result Ran Refusal) → ran_of (judge (step table) 0 k.world (take (to - k.from) (drop k.from l))) ≡ o → record { world = world_by o; from = to } ≡ moved table l k to
  unfolding moved
  moved_on to h o e =
      ap (λ (x : Result Ran Refusal). record { world = world_by x; from = to }) (sym e)
      ∙ ap (λ (y : Bool). cond y k (record { world = world_by (ran_of (judge (step table) 0 k.world (take (to - k.from) (drop k.from l)))); from = to })) (sym (lt-leb to k.from h))

  module _ (p : ℕ) where
    pub behind : p < k.from → at_start table ≡ not_behind table k p
    behind h = rw (lt-ltb p k.from h)

    pub behind_not : k.from ≤ p → k ≡ not_behind table k p
    behind_not h = rw (le-ltb p k.from h)

    pub behind_in : (not_behind table k p).from ≤ p
    unfolding at_start
    behind_in = split (ltb p k.from) (λ t. rw t (omega arith)) (λ t. rw t (ltb-false p k.from t))

    module _ (b : Kept) (e : b ≡ not_behind table k p) where
      abbrev by : Kept → Kept
      by x = cond (leb (p - x.from) (2 * near)) x (moved table l x (p - near))

      is_by : by b ≡ nearer table l k p
      unfolding nearer
      is_by = ap by e

      pub nearer-near : p - b.from ≤ 2 * near → b ≡ nearer table l k p
      nearer-near h = ap (λ (y : Bool). cond y b (moved table l b (p - near))) (sym (le-leb (p - b.from) (2 * near) h)) ∙ is_by

      pub nearer_far : 2 * near < p - b.from → moved table l b (p - near) ≡ nearer table l k p
      nearer_far h = ap (λ (y : Bool). cond y b (moved table l b (p - near))) (sym (lt-leb (p - b.from) (2 * near) h)) ∙ is_by

pub begun_is : (table : Table) (k : Kept) (q : Path) → k ≡ at_start table → q ≡ completed table (max_list - 0) k.world empty 0
    → record { table = table; path = q; kept = k } ≡ begun table
unfolding begun at_start
begun_is table k q e f = λ i. record { table = table; path = (f ∙ ap (λ (x : Kept). completed table max_list x.world empty 0) e) i; kept = e i }

-- the code's steps to the next run
module _ (w : Walker) where
  abbrev from_last : Option ℕ → Option Walker
  from_last o = option_and_then (λ p. option_map (raised_at w.table w p) (get_or w.path.later p None)) o

  pub advanced_not : last_below w.path.later (min w.path.at max_list) ≡ None → None ≡ advanced w
  unfolding advanced
  advanced_not e = sym (ap from_last e)

  module _ (p : ℕ) (at : last_below w.path.later (min w.path.at max_list) ≡ Some p) where
    abbrev raised : Option ℕ → Option Walker
    raised o = option_map (raised_at w.table w p) o

    pub advanced-none : get_or w.path.later p None ≡ None → None ≡ advanced w
    unfolding advanced
    advanced-none e = sym (ap from_last at ∙ ap raised e)

    pub advanced_on : (d : ℕ) → get_or w.path.later p None ≡ Some d → (k h : Kept) (q : Path) → k ≡ nearer w.table w.path.list w.kept p → h ≡ moved w.table w.path.list k p
        → q ≡ completed w.table (max_list - p) h.world (record { list = w.path.list; later = w.path.later; at = p; verdict = w.path.verdict }) d
        → Some (record { table = w.table; path = q; kept = k }) ≡ advanced w
    unfolding advanced raised_at
    advanced_on d e k h q is-k is-h is-q =
        let stem : Path = record { list = w.path.list; later = w.path.later; at = p; verdict = w.path.verdict } in
        let there : h ≡ moved w.table w.path.list (nearer w.table w.path.list w.kept p) p = is-h ∙ ap (λ (x : Kept). moved w.table w.path.list x p) is-k in
        (λ j. Some (record { table = w.table; path = (is-q ∙ ap (λ (x : Kept). completed w.table (max_list - p) x.world stem d) there) j; kept = is-k j }))
        ∙ sym (ap from_last at ∙ ap raised e)
