-- A record as the code takes it, into a table that is lent.
use Rattle.std.specs.Prelude.{Result, Ok, Err}
use Rattle.rules.specs.declared.table.Table.{Table}
use Rattle.rules.specs.declared.answer.Answer.{Answer}
use Rattle.rules.specs.Table.{Read}

-- what reading has come to: the table, unless the record is refused
abbrev pub taken : Table → Result (Unit {0}) Answer → Read
taken t (Ok ok) = Ok t
taken t (Err a) = Err a
