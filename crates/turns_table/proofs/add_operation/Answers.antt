use Rattle.std.proofs.Common.{sym, ◌∙◌, lt-ltb, ne_eqb}
use Rattle.rules.specs.Table.{operation_record, with_op}
use Rattle.turns_table.proofs.add_operation.Goals as goal

pub returns-clause-read : goal.returns-clause-read
unfolding operation_record with_op
returns-clause-read c =
    let fine = sym c.objects_fine.ensures ∙ c.if-not-objects_fine.false in
    rw (operation_record, ne_eqb _ _ c.if-table-eq0.false, lt-ltb _ _ c.if-count.false, fine)
