-- What an effect leaves as it is: no thread's position, none's phase, and nobody ends or comes back. So a turn moves the active thread alone. The words are in specs/Shape.antt.
use Rattle.std.specs.Prelude.{◌≡◌, refl, Bool, true, false, List, [], ◌∷◌, ℕ, zero, suc, length, get_or}
use Rattle.std.proofs.Common.{sym, ◌∙◌, ap, subst, ext_get_or}
use Rattle.std.proofs.lemmas.Bool.{false≢true}
use Rattle.std.proofs.lemmas.List.{length-map}
use Rattle.std.proofs.Math.ListN.{get_or-map}
use Rattle.clocks.specs.declared.thread.ThreadId.{ThreadId}
use Rattle.rules.specs.declared.object.ObjectId.{ObjectId}
use Rattle.rules.specs.declared.object.Entry.{Entry}
use Rattle.rules.specs.declared.thread.State.{State}
use Rattle.rules.specs.declared.thread.State.TheVariants as state
use Rattle.rules.specs.declared.thread.Thread.{Thread}
use Rattle.rules.specs.declared.table.Call.{Call}
use Rattle.rules.specs.Ground.{with_state, absent, unpark_state, is_ended, is_on}
use Rattle.rules.specs.Effect.{effect}
use Rattle.theorems.specs.Touches.{Hold, Bears, Any}
use Rattle.theorems.proofs.Touches.{effect-any}
use Rattle.theorems.specs.Shape.{Shape, shape, shapes, TidyOne, Tidy, Keeps}

tidy_at : (ts : List Thread) (k : ℕ) → Tidy (shapes ts) → TidyOne (shape (get_or ts k absent))
tidy_at [] k h = λ e. refl
tidy_at (t ∷ ts) zero h = h.0
tidy_at (t ∷ ts) (suc k) h = tidy_at ts k h.1

-- so who is announced on an object has not ended
on_lives : (o : ObjectId) (s : Shape) → TidyOne s → is_on o s.phase ≡ true → s.ended ≡ false
on_lives o s tidy on = go s.ended refl
  where
    go : (b : Bool) → s.ended ≡ b → s.ended ≡ false
    go false e = e
    go true e = absurd (false≢true (ap (is_on o) (sym (tidy e)) ∙ on))

unparked_ended : (s : State) → is_ended (unpark_state s) ≡ is_ended s
unparked_ended state.Runnable = refl
unparked_ended state.Unparked = refl
unparked_ended state.Blocked = refl
unparked_ended state.Ended = refl

-- another state, as much ended
state_same : (x : Thread) (s : State) → is_ended s ≡ is_ended x.state → shape (with_state x s) ≡ shape x
state_same x s e = λ i. record { position = x.position; phase = x.phase; ended = e i }

module _ (a : ThreadId) (o : ObjectId) (e : Entry) (ts : List Thread) (tidy : Tidy (shapes ts)) where
  -- a thread with the shape that it has in `ts`
  abbrev Same : ℕ → Thread → Type 0
  Same k x = shape x ≡ shape (get_or ts k absent)

  same_bears : Bears Any Same
  same_bears =
      record {
        join = λ c d p q. tt;
        clock = λ k x h. tt;
        clocked = λ k x c p h. h;
        unparked = λ k x h. state_same x (unpark_state x.state) (unparked_ended x.state) ∙ h;
        stands =
            λ k x p s on live h.
            let l : (shape x).ended ≡ false = on_lives p (shape x) (subst TidyOne (sym h) (tidy_at ts k tidy)) on in state_same x s (live ∙ sym l) ∙ h;
      }

  pub effect_keeps : (c : Call) → Keeps ts (effect c a o e ts).threads
  effect_keeps c =
      let us : List Thread = (effect c a o e ts).threads in
      let h : Hold (length ts) Same us = effect-any (length ts) Same same_bears c a o e ts (refl, λ k. refl) in
      ext_get_or (shape absent) (shapes us) (shapes ts) (length-map us shape ∙ h.0 ∙ sym (length-map ts shape))
      (λ k l. get_or-map shape us k absent ∙ h.1 k ∙ sym (get_or-map shape ts k absent))
