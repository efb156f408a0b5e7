-- What the contracts of `case` cite.
use Rattle.std.specs.Prelude.{ℕ, ◌+◌, ◌-◌, ◌≡◌, Bool, true, false, cond, Option, None, Some, List, [], ◌∷◌, ◌==◌, eqb, ltb, length, take, drop}
use Rattle.std.specs.List.{position_or_len}
use Rattle.rules.specs.declared.answer.Numbers.{Numbers}
use Rattle.rules.specs.Answer.{numbers_of}
use Rattle.rules.specs.Judge.{Given, judge_of}
use Rattle.rules.specs.Walk.{first_of, next_of}
use Rattle.vectors.specs.Text.{number_of}
use Rattle.vectors.specs.declared.case.Call.{Call}
use Rattle.vectors.specs.declared.case.Call.TheVariants.{Judge, First, Next}

-- a text that gave m is the number n
abbrev pub is_number : Option ℕ → ℕ → Bool
is_number (Some m) n = eqb m n
is_number None n = false

-- where the word that begins at `from` ends: at the next space, or with the text
unfoldable pub word_end : List ℕ → ℕ → ℕ
word_end text from = from + position_or_len (λ b. b == 32) (drop from text)

-- the words from `from` on are these numbers, with one space between two, and nothing else
unfoldable pub answer_from : List ℕ → ℕ → List ℕ → Bool
answer_from text from [] = ltb (length text) from
answer_from text from (n ∷ ns) =
    cond (ltb (length text) from) false
    (cond (is_number (number_of (take (word_end text from - from) (drop from text))) n) (answer_from text (word_end text from + 1) ns) false)

-- the numbers in the order in which a line has them
abbrev pub in_order : Numbers → List ℕ
in_order n = n.number ∷ n.place ∷ n.thread ∷ n.position ∷ n.object ∷ n.other ∷ []

-- what a call gives
abbrev pub given_of : Call → List ℕ → List ℕ → List ℕ → Given
given_of Judge table list buffer = judge_of table list buffer
given_of First table list buffer = first_of table buffer
given_of Next table list buffer = next_of table list buffer

-- on this buffer the call gives the answer that the text tells, and leaves what is told
pub record Agreed (call : Call) (table list buffer answer told : List ℕ) : Type 0 where
  pub numbers : answer_from answer 0 (in_order (numbers_of (given_of call table list buffer).answer)) ≡ true
  pub bytes : (given_of call table list buffer).buffer ≡ told
