-- `judged` meets its contract: the room for the sheet, the run, and what it shows.
use Rattle.std.proofs.Common.{◌≡◌, ◌∙◌, ap, sym, arith, length, ◌≤◌, ◌<◌, ℕ, Result}
use Rattle.rules.specs.declared.answer.Answer.{Answer}
use Rattle.rules.specs.declared.answer.Answer.TheVariants.{TooShort}
use Rattle.rules.specs.Judge.{untouched}
use Rattle.rules.specs.Sheet.{sheet_length}
use Rattle.turns_run.specs.declared.Ran.{Ran}
use Rattle.turns_run.specs.declared.Refusal.{Refusal}
use Rattle.turns.specs.Start.{showing, judged_short, judged_ran}
use Rattle.turns.proofs.judged.Goals as goal

pub returns-then-sheet-needed : goal.returns-then-sheet-needed
returns-then-sheet-needed c =
    let a = c.args in
    let needed : c.sheet_length-needed.result ≡ sheet_length a.table = c.sheet_length-needed.ensures in
    let short : length a.sheet.now < sheet_length a.table = omega (arith, needed, c.if-sheet-needed.true) in
    ap (λ (n : ℕ). untouched (TooShort n) a.sheet.now) needed ∙ judged_short a.table a.list.now a.sheet.now short

pub returns-in-Ok : goal.returns-in-Ok
returns-in-Ok c =
    let a = c.args in
    let needed : c.sheet_length-needed.result ≡ sheet_length a.table = c.sheet_length-needed.ensures in
    let room : sheet_length a.table ≤ length a.sheet.now = omega (arith, needed, c.if-sheet-needed.false) in
    (λ i. record { answer = c.unwrap_or.ensures i; buffer = c.write_sheet.ensures i })
    ∙ ap (λ (r : Result Ran Refusal). showing a.table r a.sheet.now) (sym c.in-Ok.is)
    ∙ judged_ran a.table a.list.now a.sheet.now room c.start.result c.start.ensures c.run.result c.run.ensures

pub returns-in-Err : goal.returns-in-Err
returns-in-Err c =
    let a = c.args in
    let needed : c.sheet_length-needed.result ≡ sheet_length a.table = c.sheet_length-needed.ensures in
    let room : sheet_length a.table ≤ length a.sheet.now = omega (arith, needed, c.if-sheet-needed.false) in
    ap (λ (x : Answer). untouched x a.sheet.now) c.into.ensures
    ∙ ap (λ (r : Result Ran Refusal). showing a.table r a.sheet.now) (sym c.in-Err.is)
    ∙ judged_ran a.table a.list.now a.sheet.now room c.start.result c.start.ensures c.run.result c.run.ensures
