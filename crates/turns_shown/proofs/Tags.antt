-- A state's number, as `as` gives it, is its byte.
use Rattle.std.specs.Prelude.{◌≡◌, refl}
use Rattle.rules.specs.contracts.thread.State.{the_type}
use Rattle.rules.specs.declared.thread.State.{State}
use Rattle.rules.specs.declared.thread.State.TheVariants.{Runnable, Unparked, Blocked, Ended}
use Rattle.rules.specs.Sheet.{state_byte}
use denote.Enum.Declared.{tag_of}

pub state_tag : (s : State) → tag_of the_type s ≡ state_byte s
unfolding state_byte
state_tag Runnable = refl
state_tag Unparked = refl
state_tag Blocked = refl
state_tag Ended = refl
