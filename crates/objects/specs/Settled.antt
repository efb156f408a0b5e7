-- What an operation leaves where its object and the threads are lent: one that fails leaves both as they were.
use Rattle.std.specs.Prelude.{◌≡◌, refl, List, ℕ, Option, Result, Ok, Err}
use Rattle.rules.specs.declared.object.Effect.{Effect as Done}
use Rattle.rules.specs.declared.object.Entry.{Entry}
use Rattle.rules.specs.declared.object.Failure.{Failure}
use Rattle.rules.specs.declared.thread.Thread.{Thread}
use Rattle.rules.specs.Effect.{Effect}
use Rattle.rules.specs.Ground.{Ending, Left, outcome}

-- the thread's answer or its failure, the object and the threads
pub record Settled : Type 0 where
  pub answer : Result (Option ℕ) Failure
  pub entry : Entry
  pub threads : List Thread

abbrev pub settled : Effect → Entry → List Thread → Settled
settled r e ts =
    elim r.ending
    [ Ok ok ↦ record { answer = Ok r.answer; entry = r.entry; threads = r.threads } | Err f ↦ record { answer = Err f; entry = e; threads = ts } ]

-- the same of the state of the object's kind
pub record Put (S : Type 0) : Type 0 where
  pub answer : Result (Option ℕ) Failure
  pub state : S
  pub threads : List Thread

abbrev pub put : {S : Type 0} → Result (Done S) Failure → S → List Thread → Put S
put (Ok d) s ts = record { answer = Ok d.answer; state = d.state; threads = d.threads }
put (Err f) s ts = record { answer = Err f; state = s; threads = ts }

-- the effect on an object, around the state of its kind
abbrev pub around : {S : Type 0} → (S → Entry) → Left S → Effect
around within l = record { ending = l.ending; answer = l.answer; entry = within l.state; threads = l.threads }

abbrev pub in_entry : {S : Type 0} → (S → Entry) → Put S → Settled
in_entry within p = record { answer = p.answer; entry = within p.state; threads = p.threads }

module _ {S : Type 0} (within : S → Entry) (l : Left S) (s : S) (ts : List Thread) where
  abbrev ending_as : Ending → Left S
  ending_as x = record { ending = x; answer = l.answer; state = l.state; threads = l.threads }

  by_ending : (x : Ending) → in_entry within (put (outcome (ending_as x)) s ts) ≡ settled (around within (ending_as x)) (within s) ts
  by_ending (Ok ok) = refl
  by_ending (Err f) = refl

  pub put_settled : in_entry within (put (outcome l) s ts) ≡ settled (around within l) (within s) ts
  put_settled = by_ending l.ending
