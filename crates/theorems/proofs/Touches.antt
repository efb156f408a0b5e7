-- What an operation does to the threads is a list of touches. One law of them: what each touch keeps of every thread, every effect keeps. The words are in specs/Touches.antt.
use Rattle.std.specs.Prelude.{◌≡◌, Bool, true, false, List, [], ◌∷◌, ℕ, ◌<◌, eqb, ltb, replicate, None, Option, Some}
use Rattle.std.proofs.Math.Path.{refl}
use Rattle.std.proofs.Common.{◌∙◌, length-set, ltb-true}
use Rattle.clocks.specs.Clock.{max_threads, join_of}
use Rattle.clocks.specs.Pass.{pass-length}
use Rattle.clocks.specs.declared.clock.Clock.{Clock}
use Rattle.clocks.specs.declared.thread.ThreadId.{ThreadId}
use Rattle.rules.specs.declared.object.ObjectId.{ObjectId}
use Rattle.rules.specs.declared.object.Entry.{Entry}
use Rattle.rules.specs.declared.thread.State.TheVariants as state
use Rattle.rules.specs.declared.thread.Thread.{Thread}
use Rattle.rules.specs.declared.thread.Change.{Change}
use Rattle.rules.specs.declared.thread.Change.TheVariants.{Wake, Block, BlockWriters, BlockReceivers, Unpark}
use Rattle.rules.specs.declared.table.Call.{Call}
use Rattle.rules.specs.declared.table.Table.{Table}
use Rattle.rules.specs.Ground.{with_state, with_clock, with_answer, absent, thread_at, put_thread, loaded, unpark, unpark_thread, is_on, is_write, is_recv, action_of, blocked_if, changed, changed_at, others, answering, Touch, loads, passes, unparks, raises, touch, touched}
use Rattle.rules.proofs.TableLaws.{by_test}
use Rattle.rules.proofs.TouchLaws.{touched-read}
use Rattle.rules.specs.Effect.{doing, effect}
use Rattle.rules.specs.Turn.{start_thread, start}
use Rattle.theorems.proofs.All.{all_set, all_pass, all_same}
use Rattle.theorems.specs.Touches.{Hold, Bears, Brings, Any}

-- a thread is put
pub put_holds : (n : ℕ) (P : ℕ → Thread → Type 0) (t : ThreadId) (ts : List Thread) (x : Thread) → Hold n P ts → P t.0 x → Hold n P (put_thread ts t x)
put_holds n P t ts x h p = (length-set ts t.0 x ∙ h.0, all_set P absent ts t.0 x h.1 p)

-- the threads that a table starts with: those that it has are runnable
pub start_holds : (P : ℕ → Thread → Type 0) (table : Table) → ((k : ℕ) → P k absent) → ((k : ℕ) (x : Thread) → k < table.thread_count → P k x → P k (with_state x state.Runnable))
    → Hold max_threads P (start table).threads
unfolding start start_thread
start_holds P table first on = (
  pass-length (start_thread table.thread_count) 0 (replicate max_threads absent),
  all_pass P absent (start_thread table.thread_count) (replicate max_threads absent)
      (λ k x h. by_test (P k) (ltb k table.thread_count) (λ z. on k x (ltb-true k table.thread_count z) h) (λ z. h)) (λ k. all_same (P k) absent (first k) max_threads k),
)

module _ (n : ℕ) (C : Clock → Type 0) (P : ℕ → Thread → Type 0) (b : Bears C P) (a : ThreadId) where
  -- one thread: another clock joined, unparked, blocked or not
  joined_one : (k : ℕ) (x : Thread) (c : Clock) → C c → P k x → P k (with_clock x (join_of x.clock c))
  joined_one k x c p h = b.clocked k x _ (b.join _ _ (b.clock k x h) p) h

  unparked_one : (k : ℕ) (x : Thread) (by : Clock) → C by → P k x → P k (unpark by x)
  unparked_one k x by p h = b.unparked k (with_clock x (join_of x.clock by)) (joined_one k x by p h)

  blocked_one : (k : ℕ) (x : Thread) (o : ObjectId) (w : Bool) → is_on o x.phase ≡ true → P k x → P k (blocked_if w x)
  blocked_one k x o true on h = b.stands k x o state.Blocked on refl h
  blocked_one k x o false on h = h

  -- a change of a pass, and where it is made
  changed_one : (k : ℕ) (x : Thread) (o : ObjectId) (c : Change) (by : Clock) → C by → is_on o x.phase ≡ true → P k x → P k (changed c by x)
  unfolding changed
  changed_one k x o Wake by p on h = b.stands k x o state.Runnable on refl h
  changed_one k x o Block by p on h = b.stands k x o state.Blocked on refl h
  changed_one k x o BlockWriters by p on h = blocked_one k x o (is_write (action_of x.phase)) on h
  changed_one k x o BlockReceivers by p on h = blocked_one k x o (is_recv (action_of x.phase)) on h
  changed_one k x o Unpark by p on h = unparked_one k x by p h

  changed_at_lem : (c : Change) (o : ObjectId) (by : Clock) → C by → (k : ℕ) (x : Thread) → P k x → P k (changed_at c a o by k x)
  unfolding changed_at
  changed_at_lem c o by p k x h = by_test (P k) (eqb k a.0) (λ e. h) (λ e. by_test (P k) (is_on o x.phase) (λ on. changed_one k x o c by p on h) (λ on. h))

  -- one touch, before others
  touch_holds : (B : Clock → Type 0) (x : Touch) (xs : List Touch) (ts : List Thread) → B (thread_at ts a).clock → Brings B C a (x ∷ xs) → Hold n P ts
      → Hold n P (touch a x ts) × Brings C C a xs
  unfolding loaded others unpark_thread
  touch_holds B (loads c) xs ts at g h = (put_holds n P a ts _ h (joined_one a.0 (thread_at ts a) c g.0 (h.1 a.0)), g.1)
  touch_holds B (passes c o) xs ts at g h = (
    (pass-length _ 0 ts ∙ h.0, all_pass P absent _ ts (changed_at_lem c o (thread_at ts a).clock (b.clock a.0 (thread_at ts a) (h.1 a.0))) h.1),
    g,
  )
  touch_holds B (unparks t) xs ts at g h = (
    by_test (Hold n P) (eqb t.0 a.0) (λ e. h)
        (λ e. put_holds n P t ts _ h (unparked_one t.0 (thread_at ts t) (thread_at ts a).clock (b.clock a.0 (thread_at ts a) (h.1 a.0)) (h.1 t.0))),
    g,
  )
  touch_holds B raises xs ts at g h = (put_holds n P a ts _ h (b.clocked a.0 (thread_at ts a) _ (g.0 (thread_at ts a).clock at) (h.1 a.0)), g.1)

  -- one after the other
  touched_holds : (B : Clock → Type 0) (xs : List Touch) (ts : List Thread) → B (thread_at ts a).clock → Brings B C a xs → Hold n P ts → Hold n P (touched a xs ts)
  touched_holds B [] ts at g h = h
  touched_holds B (x ∷ xs) ts at g h =
      let r = touch_holds B x xs ts at g h in touched_holds C xs (touch a x ts) (b.clock a.0 (thread_at (touch a x ts) a) (r.0.1 a.0)) r.1 r.0

  -- so every effect
  pub effect_holds : (B : Clock → Type 0) (c : Call) (o : ObjectId) (e : Entry) (ts : List Thread) → B (thread_at ts a).clock
      → Brings B C a (doing c a o (thread_at ts a).clock e).touches → Hold n P ts → Hold n P (effect c a o e ts).threads
  unfolding effect
  effect_holds B c o e ts at g h = touched_holds B (doing c a o (thread_at ts a).clock e).touches ts at g h

any_brings : (a : ThreadId) (xs : List Touch) → Brings Any Any a xs
any_brings a [] = tt
any_brings a (loads c ∷ xs) = (tt, any_brings a xs)
any_brings a (passes c o ∷ xs) = any_brings a xs
any_brings a (unparks t ∷ xs) = any_brings a xs
any_brings a (raises ∷ xs) = (λ c p. tt, any_brings a xs)

pub effect-any : (n : ℕ) (P : ℕ → Thread → Type 0) → Bears Any P → (c : Call) (a : ThreadId) (o : ObjectId) (e : Entry) (ts : List Thread) → Hold n P ts → Hold n P (effect c a o e ts).threads
effect-any n P b c a o e ts h = effect_holds n Any P b a Any c o e ts tt (any_brings a (doing c a o (thread_at ts a).clock e).touches) h

-- an effect leaves its thread's position
pub keeps_position : (c : Call) (t : ThreadId) (o : ObjectId) (e : Entry) (ts : List Thread) → (thread_at (effect c t o e ts).threads t).position ≡ (thread_at ts t).position
unfolding effect
keeps_position c t o e ts = touched-read t (λ x. x.position) (λ x d. refl) (doing c t o (thread_at ts t).clock e).touches ts

-- the answer that an operation leaves changes the last answer alone
pub answering_by : (P : Thread → Type 0) (n : Option ℕ) (x : Thread) → ((m : ℕ) → P (with_answer x m)) → P (answering n x)
answering_by P None x f = f x.last_answer
answering_by P (Some m) x f = f m
