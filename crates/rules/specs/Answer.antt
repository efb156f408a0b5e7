-- Document 01, "Numbers given back": each answer's number, place, thread, position, object, other.
use Rattle.std.specs.Prelude.{ℕ}
use Rattle.rules.specs.declared.answer.Answer.{Answer}
use Rattle.rules.specs.declared.answer.Answer.TheVariants.{Clean, Race, Deadlock, Leak, Misuse, NoRoom, More, NoLaterList, ListWritten, BadRecord, TooMany, BadObject, NotAllowed, Surplus, TooShort, NotComplete}
use Rattle.rules.specs.declared.answer.Numbers.{Numbers}
use Rattle.rules.specs.declared.answer.Spot.{Spot}

-- "255 where unused; place 0 where unused"
abbrev pub only : ℕ → Numbers
only n = record { number = n; place = 0; thread = 255; position = 255; object = 255; other = 255 }

abbrev pub at_place : ℕ → ℕ → Numbers
at_place n p = record { number = n; place = p; thread = 255; position = 255; object = 255; other = 255 }

abbrev pub at_spot : ℕ → Spot → ℕ → Numbers
at_spot n s other = record { number = n; place = 0; thread = s.thread.0; position = s.position; object = s.object.0; other = other }

unfoldable pub numbers_of : Answer → Numbers
numbers_of Clean = only 0
numbers_of (Race s other) = at_spot 1 s other.0
numbers_of (Deadlock s) = at_spot 2 s 255
numbers_of (Leak o) = record { number = 3; place = 0; thread = 255; position = 255; object = o.0; other = 255 }
numbers_of (Misuse s) = at_spot 4 s 255
numbers_of (NoRoom s) = at_spot 5 s 255
numbers_of More = only 6
numbers_of NoLaterList = only 7
numbers_of (ListWritten n) = at_place 8 n
numbers_of (BadRecord p) = at_place 20 p
numbers_of (TooMany p) = at_place 21 p
numbers_of (BadObject p) = at_place 22 p
numbers_of (NotAllowed p) = at_place 23 p
numbers_of (Surplus p) = at_place 24 p
numbers_of (TooShort n) = at_place 25 n
numbers_of NotComplete = only 26
