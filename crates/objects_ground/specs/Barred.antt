-- What an acquire does where it takes nothing.
use Rattle.std.specs.Prelude.{[], ℕ, Option, Result, Ok, Err}
use Rattle.rules.specs.declared.object.Failure.{Failure}
use Rattle.rules.specs.Ground.{Does, does, fails}

-- it leaves an answer, or it fails; the object and the threads stay
abbrev pub barring : {S : Type 0} → Result (Option ℕ) Failure → S → Does S
barring (Ok n) s = does n s []
barring (Err f) s = fails (Err f) s
