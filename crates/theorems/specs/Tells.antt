-- What the check after a turn tells of threads and objects: who has ended, who is runnable, the lowest thread that has not ended, the first object that leaks. The laws are in proofs/Tells.antt.
use Rattle.std.specs.Prelude.{◌≡◌, Bool, true, false, List, ℕ, ◌+◌, ◌<◌, get_or}
use Rattle.rules.specs.declared.object.Kind.{Kind}
use Rattle.rules.specs.declared.object.Kind.TheVariants as kind
use Rattle.rules.specs.declared.object.Entry.{Entry}
use Rattle.rules.specs.declared.thread.State.TheVariants as state
use Rattle.rules.specs.declared.thread.Thread.{Thread}
use Rattle.rules.specs.declared.answer.Answer.{Answer}
use Rattle.rules.specs.declared.answer.Answer.TheVariants as answer
use Rattle.rules.specs.declared.answer.Spot.{Spot}
use Rattle.rules.specs.Ground.{absent, is_ended}
use Rattle.rules.specs.Object.{new_entry, no_object, leaks}
use Rattle.rules.specs.Turn.{announced_object}

-- an object leaks
abbrev pub Leaks : Entry → Bool
Leaks e = leaks e.kind e

-- the count of an Arc or a Channel is 0, or it is not
abbrev pub Empty : Kind → Entry → Type 0
Empty kind.Mutex e = Unit {0}
Empty kind.RwLock e = Unit {0}
Empty kind.Condvar e = Unit {0}
Empty kind.Notify e = Unit {0}
Empty kind.Channel e = e.channel.msg_cnt ≡ 0
Empty kind.Arc e = e.arc.ref_cnt ≡ 0
Empty kind.Cell e = Unit {0}
Empty kind.Nothing e = Unit {0}

abbrev pub Full : Kind → Entry → Type 0
Full kind.Mutex e = ⊥
Full kind.RwLock e = ⊥
Full kind.Condvar e = ⊥
Full kind.Notify e = ⊥
Full kind.Channel e = 0 < e.channel.msg_cnt
Full kind.Arc e = 0 < e.arc.ref_cnt
Full kind.Cell e = ⊥
Full kind.Nothing e = ⊥

-- an object of a list, from the number k on
abbrev pub At : List Entry → ℕ → Entry
At es i = get_or es i (new_entry no_object)

-- what the leak check tells of the objects from the number k on
abbrev pub LeakTells : ℕ → List Entry → Answer → Type 0
LeakTells k es answer.Clean = (i : ℕ) → Leaks (At es i) ≡ false
LeakTells k es (answer.Leak o) = (i : ℕ) × (o.0 ≡ k + i) × (Leaks (At es i) ≡ true) × ((j : ℕ) → j < i → Leaks (At es j) ≡ false)
LeakTells k es (answer.Race s x) = ⊥
LeakTells k es (answer.Deadlock s) = ⊥
LeakTells k es (answer.Misuse s) = ⊥
LeakTells k es (answer.NoRoom s) = ⊥
LeakTells k es answer.More = ⊥
LeakTells k es answer.NoLaterList = ⊥
LeakTells k es (answer.ListWritten n) = ⊥
LeakTells k es (answer.BadRecord n) = ⊥
LeakTells k es (answer.TooMany n) = ⊥
LeakTells k es (answer.BadObject n) = ⊥
LeakTells k es (answer.NotAllowed n) = ⊥
LeakTells k es (answer.Surplus n) = ⊥
LeakTells k es (answer.TooShort n) = ⊥
LeakTells k es answer.NotComplete = ⊥

-- the lowest that has not ended, from the number k on
abbrev pub Lowest : ℕ → List Thread → Spot → Type 0
Lowest k ts s = (i : ℕ) × (s.thread.0 ≡ k + i) × (is_ended (get_or ts i absent).state ≡ false) × (s.position ≡ (get_or ts i absent).position) × (s.object ≡ announced_object (get_or ts i absent).phase)
    × ((j : ℕ) → j < i → (get_or ts j absent).state ≡ state.Ended)
