use Rattle.std.proofs.Common.{◌≡◌, sym, ◌∙◌, ap, rules, arith, Option, Ok, ◌+◌, get_or}
use Rattle.rules.specs.declared.table.Record.{Record}
use Rattle.rules.specs.Table.{body_length, empty_table, one_record}
use Rattle.rules.proofs.TableLaws.{reading-start, reading_end, reading-stops, reading-goes, body_small}
use Rattle.turns_table.proofs.read_table.Goals as goal

pub loop-at-init : goal.loop-at-init
unfolding empty_table
loop-at-init c = rw c.empty_table-table.ensures (reading-start _, search rules)

pub returns-in_default : goal.returns-in_default
unfolding one_record
returns-in_default c =
    let bad = ap (λ (x : Option Record). one_record c.loop-at.at c.loop-at.table x Ok) (sym c.read_record.ensures ∙ c.in_default.is) in
    sym (reading-stops c.args.bytes.now c.loop-at.at c.loop-at.table c.loop-at.invariant.0 c.loop-at-test.true _ bad)

pub returns-in_err-add : goal.returns-in_err-add
returns-in_err-add c =
    let one = ap (λ (x : Option Record). one_record c.loop-at.at c.loop-at.table x Ok) (sym c.read_record.ensures ∙ c.in-Some.is) in
    let stops = reading-stops c.args.bytes.now c.loop-at.at c.loop-at.table c.loop-at.invariant.0 c.loop-at-test.true _ (one ∙ sym (c.in_err-add.ensures {u = tt}).read) in
    rw stops (search rules)

pub overflow_add-at : goal.overflow_add-at
overflow_add-at c = omega (arith, c.body_length.ensures, body_small (get_or c.args.bytes.now c.loop-at.at 0))

pub overflow_add-at-in-loop-at : goal.overflow_add-at-in-loop-at
overflow_add-at-in-loop-at c = omega (arith, c.body_length.ensures, body_small (get_or c.args.bytes.now c.loop-at.at 0), c.well_formed, c.loop-at-test.true)

pub loop-at-preserved : goal.loop-at-preserved
loop-at-preserved c =
    let at = c.loop-at.at in
    let one = ap (λ (x : Option Record). one_record at c.loop-at.table x Ok) (sym c.read_record.ensures ∙ c.in-Some.is) in
    let past : at + (1 + c.body_length.result) ≡ at + 1 + body_length (get_or c.args.bytes.now at 0) = omega (arith, c.body_length.ensures) in
    (rw past (reading-goes c.args.bytes.now at c.loop-at.table c.loop-at.invariant.0 c.loop-at-test.true _ (one ∙ sym (c.in_ok-add.ensures {u = tt}).read)), (c.in_ok-add.ensures {u = tt}).few)

pub returns : goal.returns
returns c =
    c.at_end.ensures ∙ sym (reading_end c.args.bytes.now c.loop-at.at c.loop-at.table c.loop-at.invariant.0 (omega (arith, c.loop-at-test.false)))
