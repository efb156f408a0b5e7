-- Who holds a mutex and who writes is one of the table's threads; a mask of readers is never 0, and has no bit of another thread. The laws are in proofs/Holders.antt.
use Rattle.std.specs.Prelude.{ℕ, ◌^◌, ◌<◌, None, Option, Some}
use Rattle.clocks.specs.declared.thread.ThreadId.{ThreadId}
use Rattle.rules.specs.declared.object.Entry.{Entry}
use Rattle.rules.specs.declared.rwlock.Locked.{Locked}
use Rattle.rules.specs.declared.rwlock.Locked.TheVariants as locked

-- a mutex, in a table of n threads
abbrev pub Holding : ℕ → Option ThreadId → Type 0
Holding n None = Unit {0}
Holding n (Some t) = t.0 < n

-- a RwLock: a mask below 2 ^ n has bits of the first n threads only
abbrev pub Reading : ℕ → Option Locked → Type 0
Reading n None = Unit {0}
Reading n (Some (locked.Read mask)) = (0 < mask) × (mask < 2 ^ n)
Reading n (Some (locked.Write t)) = t.0 < n

abbrev pub Holders : ℕ → Entry → Type 0
Holders n e = Holding n e.mutex.lock × Reading n e.rwlock.lock
