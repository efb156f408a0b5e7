-- The last answer: at most 192. Only strong_count leaves more than 1, and it sees what its own operation, not yet done, did not add. The laws are in proofs/Answers.antt.
use Rattle.std.specs.Prelude.{List, ℕ, ◌≤◌}
use Rattle.clocks.specs.Clock.{max_threads}
use Rattle.rules.specs.declared.thread.Thread.{Thread}
use Rattle.theorems.specs.Touches.{Hold}

-- the bound
abbrev pub most_answer : ℕ
most_answer = 192

-- each thread's
abbrev pub Said : ℕ → Thread → Type 0
Said k x = x.last_answer ≤ most_answer

pub record AllSaid (ts : List Thread) : Type 0 where
  pub hold : Hold max_threads Said ts
