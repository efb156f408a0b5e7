-- An access by its tests: misuse, a race, and neither.
use Rattle.std.specs.Prelude.{◌≡◌, None, Err, Bool, true, false, List}
use Rattle.rules.specs.declared.object.Failure.TheVariants.{Misuse}
use Rattle.rules.specs.declared.cell.State.{State}
use Rattle.rules.specs.Ground.{Touch, Ending, is_fine, does, fails}
use Rattle.rules.specs.Cell.{accessing}

module _ (misuse : Bool) (track : Ending) (s next : State) (xs : List Touch) where
  pub accessing_misused : misuse ≡ true → accessing misuse track s next xs ≡ fails (Err Misuse) s
  unfolding accessing
  accessing_misused e = rw (accessing, e)

  pub accessing_raced : misuse ≡ false → is_fine track ≡ false → accessing misuse track s next xs ≡ fails track s
  unfolding accessing
  accessing_raced e f = rw (accessing, e, f)

  pub accessing_went : misuse ≡ false → is_fine track ≡ true → accessing misuse track s next xs ≡ does None next xs
  unfolding accessing
  accessing_went e f = rw (accessing, e, f)
