-- Document 01, step 8, `cell.rs`.
use Rattle.std.specs.Prelude.{Bool, true, false, not, ◌||◌, List, [], ◌∷◌, ℕ, ◌-◌, eqb, Option, Some, None, Err, Ok}
use Rattle.clocks.specs.Clock.{zero_clock, risen, join_of, inc_of, ahead_of}
use Rattle.clocks.specs.declared.clock.Clock.{Clock}
use Rattle.clocks.specs.declared.clock.Ahead.{Ahead}
use Rattle.clocks.specs.declared.thread.ThreadId.{ThreadId}
use Rattle.rules.specs.declared.object.Failure.TheVariants.{Misuse, Race}
use Rattle.rules.specs.declared.cell.Call.{Call}
use Rattle.rules.specs.declared.cell.Call.TheVariants.{StartRead, EndRead, StartWrite, EndWrite}
use Rattle.rules.specs.declared.cell.State.{State}
use Rattle.rules.specs.declared.thread.Thread.{Thread}
use Rattle.rules.specs.Ground.{thread_at, Touch, raises, is_fine, Ending, Does, does, fails, Left, left}

abbrev pub new : State
new = record { is_reading = 0; is_writing = false; read_access = zero_clock; write_access = zero_clock }

abbrev pub is_reading : State → Bool
is_reading s = not (eqb s.is_reading 0)

-- "44 is misuse while writing; 46 while reading or writing; 45 needs a read and no write; 47 a write and no read."
abbrev pub is_misuse : Call → State → Bool
is_misuse StartRead s = s.is_writing
is_misuse EndRead s = not (is_reading s) || s.is_writing
is_misuse StartWrite s = is_reading s || s.is_writing
is_misuse EndWrite s = not s.is_writing || is_reading s

-- "Otherwise race; other is the lowest thread ahead."
abbrev pub racing : Option Ahead → Ending
racing None = Ok tt
racing (Some a) = Err (Race a.lowest)

-- the first of two checks that fails
unfoldable pub first_race : Ending → Ending → Ending
first_race first second = elim (is_fine first) [ true ↦ second | false ↦ first ]

-- "read steps need the write clock at most the thread's, .. write steps check the write clock, then the read clock"; "Ends are checked again."
unfoldable pub track_read : Clock → State → Ending
track_read c s = racing (ahead_of c s.write_access)

unfoldable pub track_write : Clock → State → Ending
track_write c s = first_race (racing (ahead_of c s.write_access)) (racing (ahead_of c s.read_access))

-- "and join the read clock"; "and join the write clock"
abbrev pub read : ℕ → Clock → State → State
read n c s = record { is_reading = n; is_writing = s.is_writing; read_access = join_of s.read_access c; write_access = s.write_access }

abbrev pub written : Bool → Clock → State → State
written b c s = record { is_reading = s.is_reading; is_writing = b; read_access = s.read_access; write_access = join_of s.write_access c }

-- an access: misuse is told before the clocks are compared, and one that fails leaves all as it was
unfoldable pub accessing : Bool → Ending → State → State → List Touch → Does State
accessing misuse track s next xs = elim misuse [ true ↦ fails (Err Misuse) s | false ↦ elim (is_fine track) [ true ↦ does None next xs | false ↦ fails track s ] ]

-- what an operation does; `by` is the active thread's clock. "Before start_read and start_write the active thread's own count rises by one."
unfoldable pub doing : Call → ThreadId → Clock → State → Does State
doing StartRead active by s =
    let c = inc_of by active in
    accessing (is_misuse StartRead s) (track_read c s) s (read (risen 65535 s.is_reading) c s) (raises ∷ [])
doing EndRead active by s = accessing (is_misuse EndRead s) (track_read by s) s (read (s.is_reading - 1) by s) []
doing StartWrite active by s =
    let c = inc_of by active in
    accessing (is_misuse StartWrite s) (track_write c s) s (written true c s) (raises ∷ [])
doing EndWrite active by s = accessing (is_misuse EndWrite s) (track_write by s) s (written false by s) []

-- the effect: what it does, with its touches done
unfoldable pub effect : Call → ThreadId → State → List Thread → Left State
effect c active s ts = left active (doing c active (thread_at ts active).clock s) ts
