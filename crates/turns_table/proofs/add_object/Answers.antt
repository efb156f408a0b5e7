use Rattle.std.proofs.Common.{lt-ltb, eq-eqb}
use Rattle.rules.specs.Table.{object_record, with_object}
use Rattle.turns_table.proofs.add_object.Goals as goal

pub returns-clause-read : goal.returns-clause-read
unfolding object_record with_object
returns-clause-read c = rw (object_record, eq-eqb _ _ c.if-table-ne0.false, lt-ltb _ _ c.if-table.false)
