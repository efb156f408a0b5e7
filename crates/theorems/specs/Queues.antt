-- The queues of waiters and of messages: their lengths, counts at most these, who waits is one of the table's threads, and what is past the count. The laws are in proofs/Queues.antt.
use Rattle.std.specs.Prelude.{◌≡◌, ℕ, ◌≤◌, ◌<◌, length, get_or}
use Rattle.clocks.specs.Clock.{zero_clock}
use Rattle.rules.specs.declared.object.Entry.{Entry}
use Rattle.rules.specs.declared.condvar.State.{State as CondvarState}
use Rattle.rules.specs.declared.mpsc.State.{State as ChannelState}
use Rattle.rules.specs.Limits.{max_messages, max_waiters}
use Rattle.rules.specs.Condvar as condvar

-- a condvar's waiters: below the count a thread of the table, past it "FF filled"
pub record Waiting (n : ℕ) (s : CondvarState) : Type 0 where
  pub long : length s.waiters ≡ max_waiters
  pub most : s.count ≤ max_waiters
  pub who : (k : ℕ) → k < s.count → (get_or s.waiters k condvar.nobody).0 < n
  pub filled : (k : ℕ) → s.count ≤ k → (get_or s.waiters k condvar.nobody).0 ≡ 255

-- a channel's messages: past the count "zero filled"
pub record Passing (s : ChannelState) : Type 0 where
  pub long : length s.receiver_synchronize ≡ max_messages
  pub most : s.msg_cnt ≤ max_messages
  pub filled : (k : ℕ) → s.msg_cnt ≤ k → get_or s.receiver_synchronize k zero_clock ≡ zero_clock

-- those of an object, in a table of n threads
abbrev pub Queues : ℕ → Entry → Type 0
Queues n e = Waiting n e.condvar × Passing e.channel
