-- A refused table's answer, or the judgement of the table.
use Rattle.std.proofs.Common.{sym, ◌∙◌, ap}
use Rattle.rules.specs.Table.{Read}
use Rattle.rules.specs.Judge.{judge_of, judge_table}
use Rattle.turns.proofs.judge.Goals as goal

pub returns-in-Ok : goal.returns-in-Ok
unfolding judge_of
returns-in-Ok c = c.judged.ensures ∙ sym (ap (λ (r : Read). judge_table r c.args.list.now c.args.sheet.now) (sym c.read_table.ensures ∙ c.in-Ok.is))

pub returns-in-Err : goal.returns-in-Err
unfolding judge_of judge_table
returns-in-Err c = sym (ap (λ (r : Read). judge_table r c.args.list.now c.args.sheet.now) (sym c.read_table.ensures ∙ c.in-Err.is))
