-- A refused table's answer, or the first list of the table.
use Rattle.std.proofs.Common.{sym, ◌∙◌, ap}
use Rattle.rules.specs.Table.{Read}
use Rattle.rules.specs.Walk.{first_of, first_table}
use Rattle.walk.specs.Handed.{started}
use Rattle.walk.proofs.first.Goals as goal

pub first_of-requires : goal.first_of-requires
first_of-requires c = started c.args.table.now _ (sym c.read_table.ensures ∙ c.in-Ok.is)

pub returns-in-Ok : goal.returns-in-Ok
unfolding first_of
returns-in-Ok c = c.first_of.ensures ∙ sym (ap (λ (r : Read). first_table r c.args.list.now) (sym c.read_table.ensures ∙ c.in-Ok.is))

pub returns-in-Err : goal.returns-in-Err
unfolding first_of first_table
returns-in-Err c = sym (ap (λ (r : Read). first_table r c.args.list.now) (sym c.read_table.ensures ∙ c.in-Err.is))
