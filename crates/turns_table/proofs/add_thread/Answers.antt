use Rattle.std.proofs.Common.{lt-ltb}
use Rattle.rules.specs.Table.{thread_record, with_thread}
use Rattle.turns_table.proofs.add_thread.Goals as goal

pub returns-clause-read : goal.returns-clause-read
unfolding thread_record with_thread
returns-clause-read c = rw (thread_record, lt-ltb _ _ c.if-table.false)
