-- What an effect does to the threads is its touches, so what each touch keeps, every effect keeps.
--     touched-read      a reading of the active thread that does not see its clock stays
--     effect-resume     the thread of an announced operation may be resumed after the effect as well as before it
use Rattle.std.specs.Prelude.{◌≡◌, refl, ◌≢◌, ℕ, zero, suc, ◌+◌, eqb, get_or, set}
use Rattle.std.proofs.Common.{sym, ◌∙◌, arith, get_or-set_other}
use Rattle.std.proofs.Math.Path.{ap}
use mathlib.Core.List.{List, [], ◌∷◌}
use borrow.Author.Tests.{eqb-false}
use Rattle.clocks.specs.Clock.{join_of, inc_of}
use Rattle.clocks.specs.Pass.{pass_from}
use Rattle.clocks.specs.declared.clock.Clock.{Clock}
use Rattle.clocks.specs.declared.thread.ThreadId.{ThreadId}
use Rattle.rules.specs.declared.object.ObjectId.{ObjectId}
use Rattle.rules.specs.declared.object.Entry.{Entry}
use Rattle.rules.specs.declared.thread.Change.{Change}
use Rattle.rules.specs.declared.thread.Thread.{Thread}
use Rattle.rules.specs.declared.table.Call.{Call}
use Rattle.rules.specs.Ground.{with_clock, absent, thread_at, put_thread, loaded, unpark, unpark_thread, changed_at, others, Touch, loads, passes, unparks, raises, touch, touched}
use Rattle.rules.specs.Effect.{doing, Effect, left, effect}
use Rattle.rules.proofs.TableLaws.{by_test, split}
use Rattle.rules.specs.TouchLaws.{resumed}

-- thread n of a list changed by a function
abbrev change : (Thread → Thread) → ℕ → List Thread → List Thread
change h n ts = set ts n (h (get_or ts n absent))

module _ (h : Thread → Thread) where
  -- what h leaves of a thread
  change-read : {A : Type 0} (f : Thread → A) → ((x : Thread) → f (h x) ≡ f x) → (n : ℕ) (ts : List Thread) → f (get_or (change h n ts) n absent) ≡ f (get_or ts n absent)
  change-read f p n [] = refl
  change-read f p zero (x ∷ ts) = p x
  change-read f p (suc n) (x ∷ ts) = change-read f p n ts

  -- another change of the same thread
  change_same : (g : Thread → Thread) → ((x : Thread) → g (h x) ≡ h (g x)) → (n : ℕ) (ts : List Thread) → change g n (change h n ts) ≡ change h n (change g n ts)
  change_same g p n [] = refl
  change_same g p zero (x ∷ ts) = ap (λ (y : Thread). y ∷ ts) (p x)
  change_same g p (suc n) (x ∷ ts) = ap (λ (us : List Thread). x ∷ us) (change_same g p n ts)

  -- a change of another thread
  change_other : (g : Thread → Thread) (n m : ℕ) → m ≢ n → (ts : List Thread) → change g m (change h n ts) ≡ change h n (change g m ts)
  change_other g n m d [] = refl
  change_other g zero zero d (x ∷ ts) = absurd (d refl)
  change_other g zero (suc m) d (x ∷ ts) = refl
  change_other g (suc n) zero d (x ∷ ts) = refl
  change_other g (suc n) (suc m) d (x ∷ ts) = ap (λ (us : List Thread). x ∷ us) (change_other g n m (λ e. d (ap suc e)) ts)

  -- a pass that leaves the thread alone
  change-pass : (f : ℕ → Thread → Thread) (n k : ℕ) → ((j : ℕ) → j ≡ n + k → (x : Thread) → f j x ≡ x) → (ts : List Thread) → pass_from f k (change h n ts) ≡ change h n (pass_from f k ts)
  change-pass f n k p [] = refl
  change-pass f zero k p (x ∷ ts) = ap (λ (y : Thread). y ∷ pass_from f (suc k) ts) (p k (omega arith) (h x) ∙ ap h (sym (p k (omega arith) x)))
  change-pass f (suc n) k p (x ∷ ts) = ap (λ (us : List Thread). f k x ∷ us) (change-pass f n (suc k) (λ j e. p j (omega arith)) ts)

-- what a pass that leaves a thread alone keeps of it
pass-read : (f : ℕ → Thread → Thread) (n k : ℕ) → ((j : ℕ) → j ≡ n + k → (x : Thread) → f j x ≡ x) → (ts : List Thread) → get_or (pass_from f k ts) n absent ≡ get_or ts n absent
pass-read f n k p [] = refl
pass-read f zero k p (x ∷ ts) = p k (omega arith) x
pass-read f (suc n) k p (x ∷ ts) = pass-read f n (suc k) (λ j e. p j (omega arith)) ts

-- a pass leaves the active thread alone
alone : (t : ThreadId) (c : Change) (o : ObjectId) (by : Clock) (j : ℕ) → j ≡ t.0 + 0 → (x : Thread) → changed_at c t o by j x ≡ x
unfolding changed_at
alone t c o by j e x = by_test (λ (y : Thread). y ≡ x) (eqb j t.0) (λ q. refl) (λ q. absurd (eqb-false j t.0 q (omega arith)))

-- a reading of the active thread that does not see its clock
module _ (t : ThreadId) {A : Type 0} (f : Thread → A) (clocks : (x : Thread) (c : Clock) → f (with_clock x c) ≡ f x) where
  touch-read : (x : Touch) (ts : List Thread) → f (thread_at (touch t x ts) t) ≡ f (thread_at ts t)
  unfolding loaded others unpark_thread
  touch-read (loads c) ts = change-read (λ x. with_clock x (join_of x.clock c)) f (λ x. clocks x _) t.0 ts
  touch-read (passes c o) ts = ap f (pass-read (changed_at c t o (thread_at ts t).clock) t.0 0 (alone t c o (thread_at ts t).clock) ts)
  touch-read (unparks u) ts =
      by_test (λ (us : List Thread). f (thread_at us t) ≡ f (thread_at ts t)) (eqb u.0 t.0) (λ q. refl)
      (λ q. ap f (get_or-set_other ts u.0 t.0 _ absent (λ e. eqb-false u.0 t.0 q (sym e))))
  touch-read raises ts = change-read (λ x. with_clock x (inc_of x.clock t)) f (λ x. clocks x _) t.0 ts

  pub touched-read : (xs : List Touch) (ts : List Thread) → f (thread_at (touched t xs ts) t) ≡ f (thread_at ts t)
  touched-read [] ts = refl
  touched-read (x ∷ xs) ts = touched-read xs (touch t x ts) ∙ touch-read x ts

abbrev pub resume : ThreadId → Clock → List Thread → List Thread
resume t v ts = put_thread ts t (resumed v (thread_at ts t))

module _ (t : ThreadId) (v : Clock) where
  clock-resume : (ts : List Thread) → (thread_at (resume t v ts) t).clock ≡ (thread_at ts t).clock
  clock-resume ts = change-read (resumed v) (λ x. x.clock) (λ x. refl) t.0 ts

  touch-resume : (x : Touch) (ts : List Thread) → touch t x (resume t v ts) ≡ resume t v (touch t x ts)
  unfolding loaded others unpark_thread
  touch-resume (loads c) ts = change_same (resumed v) (λ x. with_clock x (join_of x.clock c)) (λ x. refl) t.0 ts
  touch-resume (passes c o) ts = rw clock-resume (change-pass (resumed v) (changed_at c t o (thread_at ts t).clock) t.0 0 (alone t c o (thread_at ts t).clock) ts)
  touch-resume (unparks u) ts =
      split (eqb u.0 t.0) (λ q. simp (unpark_thread, q))
      (λ q. simp (unpark_thread, q, clock-resume) (change_other (resumed v) (unpark (thread_at ts t).clock) t.0 u.0 (eqb-false u.0 t.0 q) ts))
  touch-resume raises ts = change_same (resumed v) (λ x. with_clock x (inc_of x.clock t)) (λ x. refl) t.0 ts

  touched-resume : (xs : List Touch) (ts : List Thread) → touched t xs (resume t v ts) ≡ resume t v (touched t xs ts)
  touched-resume [] ts = refl
  touched-resume (x ∷ xs) ts = ap (touched t xs) (touch-resume x ts) ∙ touched-resume xs (touch t x ts)

-- the effect first, then the thread resumed
abbrev pub resumed_after : ThreadId → Clock → Effect → Effect
resumed_after t v r = record { ending = r.ending; answer = r.answer; entry = r.entry; threads = resume t v r.threads }

pub effect-resume : (call : Call) (t : ThreadId) (o : ObjectId) (e : Entry) (v : Clock) (ts : List Thread) → effect call t o e (resume t v ts) ≡ resumed_after t v (effect call t o e ts)
unfolding effect
effect-resume call t o e v ts =
    let d = doing call t o (thread_at ts t).clock e in
    ap (λ (c : Clock). left t (doing call t o c e) (resume t v ts)) (clock-resume t v ts)
    ∙ ap (λ (us : List Thread). record { ending = d.ending; answer = d.answer; entry = d.state; threads = us }) (touched-resume t v d.touches ts)
