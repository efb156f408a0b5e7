-- The length of the objects' records is the sum of theirs.
use Rattle.std.specs.Prelude.{◌≡◌, refl, List, [], ◌∷◌, ◌+◌, sum_by}
use Rattle.std.proofs.Common.{sym, ◌∙◌, ap}
use Rattle.std.proofs.lemmas.List.Sums.{sum_by-cons}
use Rattle.rules.specs.declared.table.Made.{Made}
use Rattle.rules.specs.Sheet.{objects_length, record_length}

pub length_sum : (ms : List Made) → objects_length ms ≡ sum_by (λ m. record_length m.kind) ms
unfolding objects_length
length_sum [] = refl
length_sum (m ∷ ms) = ap (λ n. record_length m.kind + n) (length_sum ms) ∙ sym (sum_by-cons (λ (x : Made). record_length x.kind) m ms)
