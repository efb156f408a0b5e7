-- The loops of what follows a turn, at an index of the list: what is looked for from there on is what is looked for from the next on, or is found.
use Rattle.std.specs.Prelude.{◌≡◌, Bool, true, false, ◌&&◌, ◌||◌, List, ◌∷◌, ℕ, ◌+◌, ◌<◌, length, get_or, drop}
use Rattle.std.proofs.Common.{◌∙◌, drop-cons}
use Rattle.std.proofs.Math.Path.{ap}
use Rattle.std.proofs.Math.Numerals.{add-one}
use Rattle.rules.specs.declared.object.Entry.{Entry}
use Rattle.rules.specs.declared.thread.Thread.{Thread}
use Rattle.rules.specs.declared.answer.Answer.TheVariants as answer
use Rattle.rules.specs.Ground.{is_runnable, is_ended}
use Rattle.rules.specs.Object.{leaks}
use Rattle.rules.specs.Turn.{all_ended, any_runnable, leak_check, announced_object, stuck}

next_one : {A : Type 0} (xs : List A) (i : ℕ) (d : A) → i < length xs → drop i xs ≡ get_or xs i d ∷ drop (i + 1) xs
next_one xs i d h = drop-cons xs i d h ∙ rw (← add-one i)

module _ (ts : List Thread) (i : ℕ) (d : Thread) (h : i < length ts) where
  pub ended_at : (b : Bool) → is_ended (get_or ts i d).state ≡ b → all_ended (drop i ts) ≡ (b && all_ended (drop (i + 1) ts))
  unfolding all_ended
  ended_at b e = ap all_ended (next_one ts i d h) ∙ ap (λ (c : Bool). c && all_ended (drop (i + 1) ts)) e

  pub runnable_at : (b : Bool) → is_runnable (get_or ts i d).state ≡ b → any_runnable (drop i ts) ≡ (b || any_runnable (drop (i + 1) ts))
  unfolding any_runnable
  runnable_at b e = ap any_runnable (next_one ts i d h) ∙ ap (λ (c : Bool). c || any_runnable (drop (i + 1) ts)) e

  pub stuck-passed : (k : ℕ) → is_ended (get_or ts i d).state ≡ true → stuck k (drop i ts) ≡ stuck (k + 1) (drop (i + 1) ts)
  unfolding stuck
  stuck-passed k e = ap (stuck k) (next_one ts i d h) ∙ rw (stuck, e, add-one k)

  pub stuck-here : (k : ℕ) → is_ended (get_or ts i d).state ≡ false
      → stuck k (drop i ts) ≡ record { thread = record { 0 = k }; position = (get_or ts i d).position; object = announced_object (get_or ts i d).phase }
  unfolding stuck
  stuck-here k e = ap (stuck k) (next_one ts i d h) ∙ rw (stuck, e)

module _ (es : List Entry) (i : ℕ) (d : Entry) (h : i < length es) where
  pub leak_passed : (k : ℕ) → leaks (get_or es i d).kind (get_or es i d) ≡ false → leak_check k (drop i es) ≡ leak_check (k + 1) (drop (i + 1) es)
  unfolding leak_check
  leak_passed k e = ap (leak_check k) (next_one es i d h) ∙ rw (leak_check, e, add-one k)

  pub leak_here : (k : ℕ) → leaks (get_or es i d).kind (get_or es i d) ≡ true → leak_check k (drop i es) ≡ answer.Leak (record { 0 = k })
  unfolding leak_check
  leak_here k e = ap (leak_check k) (next_one es i d h) ∙ rw (leak_check, e)
