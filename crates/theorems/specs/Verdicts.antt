-- What a verdict tells of the world that it shows. Clean: all have ended and every Arc and Channel count is 0. Leak: all have ended, and the object is the
-- first whose count is not 0. Deadlock: the thread is the lowest that has not ended, and nobody is runnable. Race, misuse, no room: the position is the thread's. The laws are in proofs/Verdicts.antt.
use Rattle.std.specs.Prelude.{◌≡◌, false, ◌<◌}
use Rattle.clocks.specs.declared.thread.ThreadId.{ThreadId}
use Rattle.lists.specs.Judge.{Judged, not_allowed, surplus, unfinished, verdict}
use Rattle.rules.specs.declared.object.ObjectId.{ObjectId}
use Rattle.rules.specs.declared.thread.State.TheVariants as state
use Rattle.rules.specs.declared.answer.Answer.{Answer}
use Rattle.rules.specs.declared.answer.Answer.TheVariants as answer
use Rattle.rules.specs.declared.answer.Spot.{Spot}
use Rattle.rules.specs.declared.world.World.{World}
use Rattle.rules.specs.Ground.{is_ended, is_runnable}
use Rattle.rules.specs.Turn.{thread_in, entry_in, announced_object}
use Rattle.rules.specs.Judge.{Verdict}
use Rattle.theorems.specs.Tells.{Empty, Full}

-- the counts of Arcs and Channels
abbrev pub EmptyAt : World → ObjectId → Type 0
EmptyAt w o = Empty (entry_in w o).kind (entry_in w o)

-- all have ended
abbrev pub AllEnded : World → Type 0
AllEnded w = (t : ThreadId) → (thread_in w t).state ≡ state.Ended

-- the place of a failing step
abbrev pub Stood : Spot → World → Type 0
Stood s w = s.position ≡ (thread_in w s.thread).position

-- what each verdict tells; the other answers are none
abbrev pub Means : Answer → World → Type 0
Means answer.Clean w = AllEnded w × ((o : ObjectId) → EmptyAt w o)
Means (answer.Race s x) w = Stood s w
Means (answer.Deadlock s) w = (is_ended (thread_in w s.thread).state ≡ false) × Stood s w × (s.object ≡ announced_object (thread_in w s.thread).phase)
    × ((t : ThreadId) → t.0 < s.thread.0 → (thread_in w t).state ≡ state.Ended) × ((t : ThreadId) → is_runnable (thread_in w t).state ≡ false)
Means (answer.Leak o) w = AllEnded w × Full (entry_in w o).kind (entry_in w o) × ((p : ObjectId) → p.0 < o.0 → EmptyAt w p)
Means (answer.Misuse s) w = Stood s w
Means (answer.NoRoom s) w = Stood s w
Means answer.More w = ⊥
Means answer.NoLaterList w = ⊥
Means (answer.ListWritten n) w = ⊥
Means (answer.BadRecord n) w = ⊥
Means (answer.TooMany n) w = ⊥
Means (answer.BadObject n) w = ⊥
Means (answer.NotAllowed n) w = ⊥
Means (answer.Surplus n) w = ⊥
Means (answer.TooShort n) w = ⊥
Means answer.NotComplete w = ⊥

-- the judgement of a list
abbrev pub Judges : Judged World Verdict → Type 0
Judges (not_allowed i) = Unit {0}
Judges (surplus i) = Unit {0}
Judges (unfinished w) = Unit {0}
Judges (verdict v) = Means v.answer v.world
