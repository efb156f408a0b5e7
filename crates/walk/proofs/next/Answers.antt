-- A refused table's answer, or what the table's next list comes to.
use Rattle.std.proofs.Common.{sym, ◌∙◌, ap}
use Rattle.rules.specs.Table.{Read}
use Rattle.rules.specs.Walk.{next_of, next_table}
use Rattle.walk.specs.Handed.{started}
use Rattle.walk.proofs.next.Goals as goal

pub next_of-requires : goal.next_of-requires
next_of-requires c = started c.args.table.now _ (sym c.read_table.ensures ∙ c.in-Ok.is)

pub returns-in-Ok : goal.returns-in-Ok
unfolding next_of
returns-in-Ok c = c.next_of.ensures ∙ sym (ap (λ (r : Read). next_table r c.args.list.now c.args.out.now) (sym c.read_table.ensures ∙ c.in-Ok.is))

pub returns-in-Err : goal.returns-in-Err
unfolding next_of next_table
returns-in-Err c = sym (ap (λ (r : Read). next_table r c.args.list.now c.args.out.now) (sym c.read_table.ensures ∙ c.in-Err.is))
