-- `skeldurn_next` meets its contract: the answer in one word, and its buffer.
use mathlib.Core.Path.{◌≡◌, sym, ◌∙◌, ap, subst}
use Prim.Native.Nat.{◌≤◌}
use native.Mathlib.Omega.{arith}
use Rattle.rules.specs.declared.answer.Numbers.{Numbers}
use Rattle.rules.specs.Limits.{max_sheet}
use Rattle.rules.specs.Answer.{numbers_of}
use Rattle.rules.specs.Judge.{Given}
use Rattle.rules.specs.Walk.{next_of}
use Rattle.theorems.proofs.Places.{next_place}
use Rattle.word.specs.Word.{Fits, told}
use borrow.Author.Rules.{rules}
use Rattle.skeldurn.proofs.skeldurn_next.Goals as goal

pub returns : goal.returns
returns c =
    let a = c.args in
    let j = c.next-later.ensures in
    let n : Numbers = c.numbers.result in
    let same : n ≡ numbers_of (next_of a.table.now a.list.now a.out.now).answer = c.numbers.ensures ∙ ap (λ (g : Given). numbers_of g.answer) j in
    let small : n.place ≤ max_sheet = subst (λ (m : Numbers). m.place ≤ max_sheet) (sym same) (next_place a.table.now a.list.now a.out.now) in
    let fits : Fits n = record { number = search rules; place = omega (arith, small); thread = search rules; position = search rules; object = search rules } in
    let word = told n fits _ same _ c.word.ensures in
    record { value = word.0; result_value = word.1; out_after = ap (λ (g : Given). g.buffer) j }
