-- What an operation does to the threads is a list of touches. One law of them: what each touch keeps of every thread, every effect keeps. The laws are in proofs/Touches.antt.
use Rattle.std.specs.Prelude.{◌≡◌, true, false, List, [], ◌∷◌, ℕ, length}
use Rattle.clocks.specs.Clock.{join_of, inc_of}
use Rattle.clocks.specs.declared.clock.Clock.{Clock}
use Rattle.clocks.specs.declared.thread.ThreadId.{ThreadId}
use Rattle.rules.specs.declared.object.ObjectId.{ObjectId}
use Rattle.rules.specs.declared.thread.State.{State}
use Rattle.rules.specs.declared.thread.Thread.{Thread}
use Rattle.rules.specs.Ground.{with_state, with_clock, absent, unpark_state, is_ended, is_on, Touch, loads, passes, unparks, raises}
use Rattle.theorems.specs.All.{All}

-- n threads, with `P` of each by its number
abbrev pub Hold : ℕ → (ℕ → Thread → Type 0) → List Thread → Type 0
Hold n P ts = (length ts ≡ n) × All P absent ts

-- What a `P` must bear: any clock with `C` for the thread's own, which has it too, an unpark, and being blocked or runnable when announced.
pub record Bears (C : Clock → Type 0) (P : ℕ → Thread → Type 0) : Type 0 where
  pub join : (c d : Clock) → C c → C d → C (join_of c d)
  pub clock : (k : ℕ) (x : Thread) → P k x → C x.clock
  pub clocked : (k : ℕ) (x : Thread) (c : Clock) → C c → P k x → P k (with_clock x c)
  pub unparked : (k : ℕ) (x : Thread) → P k x → P k (with_state x (unpark_state x.state))
  pub stands : (k : ℕ) (x : Thread) (o : ObjectId) (s : State) → is_on o x.phase ≡ true → is_ended s ≡ false → P k x → P k (with_state x s)

-- What touches of thread a bring: a clock that is loaded has `C`, and so has the own clock when it rises, from one with `B` at first and `C` later.
abbrev pub Brings : (Clock → Type 0) → (Clock → Type 0) → ThreadId → List Touch → Type 0
Brings B C a [] = Unit {0}
Brings B C a (loads c ∷ xs) = C c × Brings C C a xs
Brings B C a (passes change o ∷ xs) = Brings C C a xs
Brings B C a (unparks t ∷ xs) = Brings C C a xs
Brings B C a (raises ∷ xs) = ((c : Clock) → B c → C (inc_of c a)) × Brings C C a xs

-- nothing is asked of clocks
abbrev pub Any : Clock → Type 0
Any c = Unit {0}
