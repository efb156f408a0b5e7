-- Document 01, step 4, `mpsc.rs`.
use Rattle.std.specs.Prelude.{Bool, true, false, List, [], ◌∷◌, ◌++◌, ℕ, ◌+◌, ◌-◌, eqb, ltb, get_or, set, drop, replicate, None, Err}
use Rattle.clocks.specs.Clock.{zero_clock}
use Rattle.clocks.specs.declared.clock.Clock.{Clock}
use Rattle.clocks.specs.declared.thread.ThreadId.{ThreadId}
use Rattle.rules.specs.Limits.{max_messages}
use Rattle.rules.specs.declared.access.Access.{Access}
use Rattle.rules.specs.declared.object.ObjectId.{ObjectId}
use Rattle.rules.specs.declared.object.Failure.TheVariants.{Misuse, NoRoom}
use Rattle.rules.specs.declared.mpsc.Call.{Call}
use Rattle.rules.specs.declared.mpsc.Call.TheVariants.{Send, Recv}
use Rattle.rules.specs.declared.mpsc.Action.{Action}
use Rattle.rules.specs.declared.mpsc.Action.TheVariants.{MsgSend, MsgRecv}
use Rattle.rules.specs.declared.mpsc.State.{State}
use Rattle.rules.specs.declared.thread.Thread.{Thread}
use Rattle.rules.specs.declared.thread.Change.TheVariants.{Wake, BlockReceivers}
use Rattle.rules.specs.Ground.{no_access, thread_at, stored, loads, passes, Does, does, fails, Left, left}

abbrev pub new : State
new = record {
  msg_cnt = 0;
  last_send_access = no_access;
  last_recv_access = no_access;
  sender_synchronize = zero_clock;
  receiver_synchronize = replicate max_messages zero_clock;
}

abbrev pub is_empty : State → Bool
is_empty s = eqb s.msg_cnt 0

-- a leak: the "message count not 0"
abbrev pub leaks : State → Bool
leaks s = elim (is_empty s) [ true ↦ false | false ↦ true ]

-- the action as which an operation is announced
abbrev pub action_of : Call → Action
action_of Send = MsgSend
action_of Recv = MsgRecv

-- "recv blocks at its announcement if the count is 0"
abbrev pub is_disabled : Call → State → Bool
is_disabled Send s = false
is_disabled Recv s = is_empty s

-- "Channel: the last of the same action."
abbrev pub last_dependent_access : Action → State → Access
last_dependent_access MsgSend s = s.last_send_access
last_dependent_access MsgRecv s = s.last_recv_access

abbrev pub with_accesses : State → Access → Access → State
with_accesses s send recv = record {
  msg_cnt = s.msg_cnt;
  last_send_access = send;
  last_recv_access = recv;
  sender_synchronize = s.sender_synchronize;
  receiver_synchronize = s.receiver_synchronize;
}

abbrev pub set_last_access : Action → Access → State → State
set_last_access MsgSend a s = with_accesses s a s.last_recv_access
set_last_access MsgRecv a s = with_accesses s s.last_send_access a

-- the channel with `count` messages, the sender clock and the messages' clocks
abbrev pub with_messages : State → ℕ → Clock → List Clock → State
with_messages s count sender messages = record {
  msg_cnt = count;
  last_send_access = s.last_send_access;
  last_recv_access = s.last_recv_access;
  sender_synchronize = sender;
  receiver_synchronize = messages;
}

-- "send stores to the sender clock and queues a copy; all others announced on it are woken only when the count becomes 1"
abbrev pub sending : ObjectId → Clock → State → Does State
sending o sender s =
    does None (with_messages s (s.msg_cnt + 1) sender (set s.receiver_synchronize s.msg_cnt sender))
    (elim (eqb s.msg_cnt 0) [ true ↦ passes Wake o ∷ [] | false ↦ [] ])

-- "its effect removes and loads the oldest copy and blocks other announced receivers only at 0"
abbrev pub receiving : ObjectId → State → Does State
receiving o s =
    does None (with_messages s (s.msg_cnt - 1) s.sender_synchronize (drop 1 s.receiver_synchronize ++ zero_clock ∷ []))
    (loads (get_or s.receiver_synchronize 0 zero_clock) ∷ elim (eqb s.msg_cnt 1) [ true ↦ passes BlockReceivers o ∷ [] | false ↦ [] ])

-- what an operation does; `by` is the active thread's clock. "At most .. 16 messages a channel": a 17th finds no room
unfoldable pub doing : Call → ObjectId → Clock → State → Does State
doing Send o by s = elim (ltb s.msg_cnt max_messages) [ true ↦ sending o (stored by s.sender_synchronize) s | false ↦ fails (Err NoRoom) s ]
doing Recv o by s = elim (is_empty s) [ true ↦ fails (Err Misuse) s | false ↦ receiving o s ]

-- the effect: what it does, with its touches done
unfoldable pub effect : Call → ThreadId → ObjectId → State → List Thread → Left State
effect c active o s ts = left active (doing c o (thread_at ts active).clock s) ts
