-- What `list_runs` writes: a line for each run that a walker meets.
use Rattle.std.specs.Prelude.{◌≡◌, ⊤, Option, None, Some, List, [], ◌∷◌, ◌++◌, ℕ, zero, suc, take}
use Rattle.std.specs.Fmt.{decimal}
use Rattle.rules.specs.Answer.{numbers_of}
use Rattle.rules.specs.Walk.{decision_text}
use Rattle.rules.specs.declared.answer.Answer.{Answer}
use Rattle.walker.specs.declared.Walker.{Walker}
use Rattle.walker.specs.Walking.{advanced}
use Rattle.listing.specs.Line.{number_digit}

-- the number of a run's verdict, or of its refusal, if it has ended
abbrev pub verdict_number : Option Answer → Option ℕ
verdict_number None = None
verdict_number (Some a) = Some (numbers_of a).number

-- the line of a run that ends so
abbrev pub end_line : Option Answer → List ℕ → List ℕ
end_line a l = number_digit (verdict_number a) ∷ decision_text l

-- the lines of the runs from a walker on, n at most
unfoldable pub lines : ℕ → Option Walker → List ℕ
lines zero o = []
lines (suc n) None = []
lines (suc n) (Some w) = end_line w.path.verdict (take w.path.at w.path.list) ++ lines n (advanced w)

-- where the written bytes are known: what is written and what still waits are, one after the other, what was written and what waited
abbrev pub Moves : Option (List ℕ) → List ℕ → Option (List ℕ) → List ℕ → Type 0
Moves None waited new waits = ⊤
Moves (Some xs) waited None waits = ⊥
Moves (Some xs) waited (Some ys) waits = ys ++ waits ≡ xs ++ waited

-- a refusal as it is printed
abbrev pub refusal : ℕ → ℕ → List ℕ
refusal number place = 114 ∷ 101 ∷ 102 ∷ 117 ∷ 115 ∷ 101 ∷ 100 ∷ 32 ∷ decimal number ++ 32 ∷ 97 ∷ 116 ∷ 32 ∷ decimal place ++ 10 ∷ []
