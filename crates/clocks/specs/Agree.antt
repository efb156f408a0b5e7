-- A promise that is an equation with a definition leaves one result: any two that it allows agree.
use Rattle.std.specs.Prelude.{◌≡◌}
use Rattle.std.proofs.Common.{sym, ◌∙◌}

pub agree : {A : Type 0} {r s x : A} → r ≡ x → s ≡ x → r ≡ s
agree p q = p ∙ sym q
