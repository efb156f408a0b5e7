-- `skeldurn_first` meets its contract: the answer in one word, and its buffer.
use mathlib.Core.Path.{◌≡◌, sym, ◌∙◌, ap, subst}
use Prim.Native.Nat.{◌≤◌}
use native.Mathlib.Omega.{arith}
use Rattle.rules.specs.declared.answer.Numbers.{Numbers}
use Rattle.rules.specs.Limits.{max_sheet}
use Rattle.rules.specs.Answer.{numbers_of}
use Rattle.rules.specs.Judge.{Given}
use Rattle.rules.specs.Walk.{first_of}
use Rattle.theorems.proofs.Places.{first-place}
use Rattle.word.specs.Word.{Fits, told}
use borrow.Author.Rules.{rules}
use Rattle.skeldurn.proofs.skeldurn_first.Goals as goal

pub returns : goal.returns
returns c =
    let a = c.args in
    let j = c.first-smallest.ensures in
    let n : Numbers = c.numbers.result in
    let same : n ≡ numbers_of (first_of a.table.now a.list.now).answer = c.numbers.ensures ∙ ap (λ (g : Given). numbers_of g.answer) j in
    let small : n.place ≤ max_sheet = subst (λ (m : Numbers). m.place ≤ max_sheet) (sym same) (first-place a.table.now a.list.now) in
    let fits : Fits n = record { number = search rules; place = omega (arith, small); thread = search rules; position = search rules; object = search rules } in
    let word = told n fits _ same _ c.word.ensures in
    record { value = word.0; result_value = word.1; list_after = ap (λ (g : Given). g.buffer) j }
