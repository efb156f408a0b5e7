-- The lists of threads, of objects and of a clock's places keep their lengths. So a thread that acts is there, and its place of every clock is. The laws are in proofs/Range.antt.
use Rattle.std.specs.Prelude.{◌≡◌, List, ℕ, ◌<◌, length}
use Rattle.clocks.specs.Clock.{max_threads}
use Rattle.clocks.specs.declared.clock.Clock.{Clock}
use Rattle.clocks.specs.declared.thread.ThreadId.{ThreadId}
use Rattle.rules.specs.declared.object.Entry.{Entry}
use Rattle.rules.specs.declared.thread.Phase.{Phase}
use Rattle.rules.specs.declared.thread.Thread.{Thread}
use Rattle.rules.specs.declared.table.Call.{Call}
use Rattle.rules.specs.declared.world.World.{World}
use Rattle.rules.specs.Limits.{max_objects}
use Rattle.rules.specs.Ground.{thread_at}
use Rattle.theorems.specs.Steady.{Steady}
use Rattle.theorems.specs.Kept.{Object}

-- all places are there
abbrev pub Full : Clock → Type 0
Full c = length c.counts ≡ max_threads

-- nothing is asked of positions and phases here
abbrev pub any : ℕ → ℕ → Phase → Type 0
any j q f = Unit {0}

-- all threads and objects of a world are there, their clocks full
abbrev pub Lengths : World → Type 0
Lengths w = Steady Full Full any (λ es. length es ≡ max_objects) w.threads w.objects

-- the thread that acts is there, and so are all places of its clocks and of the object's
abbrev pub There : ThreadId → Call → Entry → List Thread → Type 0
There t c e ts = (t.0 < max_threads) × (length ts ≡ max_threads) × Full (thread_at ts t).clock × Full (thread_at ts t).dependence × Object Full Full e
