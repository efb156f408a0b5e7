-- Demand 3, of the calls, for a table that is accepted and with no other premise: "first", and then "next" on each list that was got, gives all complete
-- lists, each once, in rising order, and then 7. Each call has a buffer of its own, of 582 bytes or more and whatever is in it.
--     Walked             ls is what the calls give until 7, whoever answers them
-- The laws are in proofs/Walked.antt.
use Rattle.std.specs.Prelude.{◌≡◌, ℕ, suc, length, take}
use mathlib.Core.List.{List, [], ◌∷◌}
use Rattle.rules.specs.declared.answer.Answer.TheVariants.{NoLaterList, ListWritten}
use Rattle.rules.specs.Answer.{numbers_of}
use Rattle.rules.specs.Judge.{Given}
use Rattle.rules.specs.Cases.{Calls}

-- a call hands the list l over: its answer tells the length, and l is the buffer's first bytes
abbrev pub Handed : Given → List ℕ → Type 0
Handed g l = (g.answer ≡ ListWritten (length l)) × (take (length l) g.buffer ≡ l)

-- the lists that the calls give from one call's result on; the next call has the k-th buffer, and is asked about the list just handed over
abbrev pub Onward : Calls → List ℕ → (ℕ → List ℕ) → ℕ → Given → List (List ℕ) → Type 0
Onward c bs buffers k g [] = g.answer ≡ NoLaterList
Onward c bs buffers k g (l ∷ ls) = Handed g l × Onward c bs buffers (suc k) (c.next bs l (buffers k)) ls

abbrev pub Walked : Calls → List ℕ → (ℕ → List ℕ) → List (List ℕ) → Type 0
Walked c bs buffers ls = Onward c bs buffers 1 (c.first bs (buffers 0)) ls

abbrev pub number : Given → ℕ
number g = (numbers_of g.answer).number
