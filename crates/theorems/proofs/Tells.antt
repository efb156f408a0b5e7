-- What the check after a turn tells of threads and objects: who has ended, who is runnable, the lowest thread that has not ended, the first object that leaks. The words are in specs/Tells.antt.
use Rattle.std.specs.Prelude.{◌≡◌, refl, Bool, true, false, ◌&&◌, ◌||◌, List, [], ◌∷◌, ℕ, zero, suc, ◌<◌, eqb, get_or}
use Rattle.std.proofs.Common.{sym, ◌∙◌, ap, arith, eqb-true}
use Rattle.std.proofs.lemmas.Bool.{false≢true, eqb-false}
use Rattle.rules.specs.declared.object.Kind.{Kind}
use Rattle.rules.specs.declared.object.Kind.TheVariants as kind
use Rattle.rules.specs.declared.object.Entry.{Entry}
use Rattle.rules.specs.declared.thread.State.{State}
use Rattle.rules.specs.declared.thread.State.TheVariants as state
use Rattle.rules.specs.declared.thread.Thread.{Thread}
use Rattle.rules.specs.declared.answer.Answer.{Answer}
use Rattle.rules.specs.declared.answer.Answer.TheVariants as answer
use Rattle.rules.specs.Ground.{absent, is_ended, is_runnable}
use Rattle.rules.specs.Object.{new_entry, leaks}
use Rattle.rules.proofs.TableLaws.{by_test}
use Rattle.rules.specs.Turn.{all_ended, any_runnable, leak_check, stuck}
use Rattle.theorems.proofs.Named.{both}
use Rattle.theorems.specs.Tells.{Leaks, Empty, Full, At, LeakTells, Lowest}

-- a count that is tested
zero_is : (n : ℕ) → elim (eqb n 0) [ true ↦ false | false ↦ true ] ≡ false → n ≡ 0
zero_is n e = go (eqb n 0) refl e
  where
    go : (b : Bool) → eqb n 0 ≡ b → elim b [ true ↦ false | false ↦ true ] ≡ false → n ≡ 0
    go true q f = eqb-true n 0 q
    go false q f = absurd (false≢true (sym f))

some_is : (n : ℕ) → elim (eqb n 0) [ true ↦ false | false ↦ true ] ≡ true → 0 < n
some_is n e = go (eqb n 0) refl e
  where
    go : (b : Bool) → eqb n 0 ≡ b → elim b [ true ↦ false | false ↦ true ] ≡ true → 0 < n
    go true q f = absurd (false≢true f)
    go false q f = omega (arith, eqb-false n 0 q)

pub empty_is : (k : Kind) (e : Entry) → leaks k e ≡ false → Empty k e
empty_is kind.Mutex e h = tt
empty_is kind.RwLock e h = tt
empty_is kind.Condvar e h = tt
empty_is kind.Notify e h = tt
empty_is kind.Channel e h = zero_is e.channel.msg_cnt h
empty_is kind.Arc e h = zero_is e.arc.ref_cnt h
empty_is kind.Cell e h = tt
empty_is kind.Nothing e h = tt

pub full_is : (k : Kind) (e : Entry) → leaks k e ≡ true → Full k e
full_is kind.Mutex e h = absurd (false≢true h)
full_is kind.RwLock e h = absurd (false≢true h)
full_is kind.Condvar e h = absurd (false≢true h)
full_is kind.Notify e h = absurd (false≢true h)
full_is kind.Channel e h = some_is e.channel.msg_cnt h
full_is kind.Arc e h = some_is e.arc.ref_cnt h
full_is kind.Cell e h = absurd (false≢true h)
full_is kind.Nothing e h = absurd (false≢true h)

-- of an object that does not leak, and those after it
later : (k : ℕ) (e : Entry) (es : List Entry) → Leaks e ≡ false → (a : Answer) → LeakTells (suc k) es a → LeakTells k (e ∷ es) a
later k e es z answer.Clean h = first
  where
    first : (i : ℕ) → Leaks (At (e ∷ es) i) ≡ false
    first zero = z
    first (suc i) = h i
later k e es z (answer.Leak o) h = (suc h.0, omega (arith, h.1), h.2, before)
  where
    before : (j : ℕ) → j < suc h.0 → Leaks (At (e ∷ es) j) ≡ false
    before zero l = z
    before (suc j) l = h.3 j (omega (arith, l))
later k e es z (answer.Race s x) h = h
later k e es z (answer.Deadlock s) h = h
later k e es z (answer.Misuse s) h = h
later k e es z (answer.NoRoom s) h = h
later k e es z answer.More h = h
later k e es z answer.NoLaterList h = h
later k e es z (answer.ListWritten n) h = h
later k e es z (answer.BadRecord n) h = h
later k e es z (answer.TooMany n) h = h
later k e es z (answer.BadObject n) h = h
later k e es z (answer.NotAllowed n) h = h
later k e es z (answer.Surplus n) h = h
later k e es z (answer.TooShort n) h = h
later k e es z answer.NotComplete h = h

pub leak_tells : (k : ℕ) (es : List Entry) → LeakTells k es (leak_check k es)
unfolding leak_check new_entry
leak_tells k [] = λ i. refl
leak_tells k (e ∷ es) =
    by_test (LeakTells k (e ∷ es)) (leaks e.kind e) (λ z. (0, omega arith, z, λ j l. absurd (omega (arith, l)))) (λ z. later k e es z (leak_check (suc k) es) (leak_tells (suc k) es))

-- neither half of an or
or_neither : (a b : Bool) → (a || b) ≡ false → (a ≡ false) × (b ≡ false)
or_neither true b e = absurd (false≢true (sym e))
or_neither false b e = (refl, e)

-- all have ended; a thread that is not there has
ended_is : (s : State) → is_ended s ≡ true → s ≡ state.Ended
ended_is state.Runnable e = absurd (false≢true e)
ended_is state.Unparked e = absurd (false≢true e)
ended_is state.Blocked e = absurd (false≢true e)
ended_is state.Ended e = refl

pub all_ended_lem : (ts : List Thread) → all_ended ts ≡ true → (k : ℕ) → (get_or ts k absent).state ≡ state.Ended
unfolding all_ended
all_ended_lem [] e k = refl
all_ended_lem (t ∷ ts) e zero = ended_is t.state (both (is_ended t.state) (all_ended ts) e).0
all_ended_lem (t ∷ ts) e (suc k) = all_ended_lem ts (both (is_ended t.state) (all_ended ts) e).1 k

-- nobody is runnable
pub none_runnable : (ts : List Thread) → any_runnable ts ≡ false → (k : ℕ) → is_runnable (get_or ts k absent).state ≡ false
unfolding any_runnable
none_runnable [] e k = refl
none_runnable (t ∷ ts) e zero = (or_neither (is_runnable t.state) (any_runnable ts) e).0
none_runnable (t ∷ ts) e (suc k) = none_runnable ts (or_neither (is_runnable t.state) (any_runnable ts) e).1 k

pub stuck_tells : (k : ℕ) (ts : List Thread) → all_ended ts ≡ false → Lowest k ts (stuck k ts)
unfolding all_ended stuck
stuck_tells k [] e = absurd (false≢true (sym e))
stuck_tells k (t ∷ ts) e =
    by_test (Lowest k (t ∷ ts)) (is_ended t.state) (λ z. next z (stuck_tells (suc k) ts (others z))) (λ z. (0, omega arith, z, refl, refl, λ j l. absurd (omega (arith, l))))
  where
    others : is_ended t.state ≡ true → all_ended ts ≡ false
    others z = ap (λ (b : Bool). b && all_ended ts) (sym z) ∙ e

    next : is_ended t.state ≡ true → Lowest (suc k) ts (stuck (suc k) ts) → Lowest k (t ∷ ts) (stuck (suc k) ts)
    next z h = (suc h.0, omega (arith, h.1), h.2, h.3, h.4, before)
      where
        before : (j : ℕ) → j < suc h.0 → (get_or (t ∷ ts) j absent).state ≡ state.Ended
        before zero l = ended_is t.state z
        before (suc j) l = h.5 j (omega (arith, l))
