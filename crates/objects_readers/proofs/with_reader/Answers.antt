-- A bit that is not in the mask fits beside it.
use mathlib.Core.Path.{sym, ◌∙◌}
use native.Mathlib.Omega.{arith}
use Rattle.rules.proofs.RwLockLaws.{entered_fits}
use Rattle.objects_readers.proofs.with_reader.Goals as goal

pub overflow_add-result : goal.overflow_add-result
overflow_add-result c =
    let a = c.args in
    let new = sym c.is_reader.ensures ∙ c.if-is_reader.false in
    omega (arith, c.reader_bit.ensures, entered_fits 1024 a.readers a.id (omega arith) new)
