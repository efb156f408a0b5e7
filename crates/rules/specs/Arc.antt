-- Document 01, step 5, `arc.rs`.
use Rattle.std.specs.Prelude.{Bool, true, false, List, [], ◌∷◌, ℕ, ◌-◌, eqb, None, Some, Err, Option}
use Rattle.clocks.specs.Clock.{zero_clock, risen}
use Rattle.clocks.specs.declared.clock.Clock.{Clock}
use Rattle.clocks.specs.declared.thread.ThreadId.{ThreadId}
use Rattle.rules.specs.declared.access.Access.{Access}
use Rattle.rules.specs.declared.object.Failure.TheVariants.{Misuse}
use Rattle.rules.specs.declared.arc.Call.{Call}
use Rattle.rules.specs.declared.arc.Call.TheVariants as call
use Rattle.rules.specs.declared.arc.Action.{Action}
use Rattle.rules.specs.declared.arc.Action.TheVariants.{RefInc, RefDec, Inspect}
use Rattle.rules.specs.declared.arc.RefModify.{RefModify}
use Rattle.rules.specs.declared.arc.RefModify.TheVariants as modify
use Rattle.rules.specs.declared.arc.State.{State}
use Rattle.rules.specs.declared.thread.Thread.{Thread}
use Rattle.rules.specs.Ground.{flag, no_access, thread_at, stored, loads, Does, does, fails, Left, left}

-- "starts at 1"
abbrev pub new : State
new = record {
  ref_cnt = 1;
  synchronize = zero_clock;
  last_ref_inc = no_access;
  last_ref_dec = no_access;
  last_ref_inspect = no_access;
  last_ref_modification = None;
}

-- a leak: the "Arc count .. not 0"
abbrev pub leaks : State → Bool
leaks s = elim (eqb s.ref_cnt 0) [ true ↦ false | false ↦ true ]

-- the action as which an operation is announced: "RefDec, as which get_mut counts"
abbrev pub action_of : Call → Action
action_of call.RefInc = RefInc
action_of call.RefDec = RefDec
action_of call.GetMut = RefDec
action_of call.StrongCount = Inspect

abbrev pub last_modification : Option RefModify → State → Access
last_modification None s = no_access
last_modification (Some modify.RefInc) s = s.last_ref_inc
last_modification (Some modify.RefDec) s = s.last_ref_dec

-- "RefInc: the last Inspect only. RefDec, as which get_mut counts: the last RefDec. Inspect: the last modification."
abbrev pub last_dependent_access : Action → State → Access
last_dependent_access RefInc s = s.last_ref_inspect
last_dependent_access RefDec s = s.last_ref_dec
last_dependent_access Inspect s = last_modification s.last_ref_modification s

abbrev pub with_accesses : State → Access → Access → Access → Option RefModify → State
with_accesses s inc dec inspect m = record {
  ref_cnt = s.ref_cnt;
  synchronize = s.synchronize;
  last_ref_inc = inc;
  last_ref_dec = dec;
  last_ref_inspect = inspect;
  last_ref_modification = m;
}

abbrev pub set_last_access : Action → Access → State → State
set_last_access RefInc a s = with_accesses s a s.last_ref_dec s.last_ref_inspect (Some modify.RefInc)
set_last_access RefDec a s = with_accesses s s.last_ref_inc a s.last_ref_inspect (Some modify.RefDec)
set_last_access Inspect a s = with_accesses s s.last_ref_inc s.last_ref_dec a s.last_ref_modification

abbrev pub with_count : State → ℕ → Clock → State
with_count s n c = record {
  ref_cnt = n;
  synchronize = c;
  last_ref_inc = s.last_ref_inc;
  last_ref_dec = s.last_ref_dec;
  last_ref_inspect = s.last_ref_inspect;
  last_ref_modification = s.last_ref_modification;
}

-- "decrement, store, and load at 0"; the answer is 1 "if the count is now 0"
abbrev pub dropping : Clock → State → Does State
dropping c s =
    does (Some (flag (eqb s.ref_cnt 1))) (with_count s (s.ref_cnt - 1) c) (elim (eqb s.ref_cnt 1) [ true ↦ loads c ∷ [] | false ↦ [] ])

-- "get_mut and strong_count load"
abbrev pub inspecting : ℕ → State → Does State
inspecting n s = does (Some n) s (loads s.synchronize ∷ [])

-- what an operation does; `by` is the active thread's clock. "ref_inc works at 0 too. ref_dec at 0 is misuse .. get_mut and strong_count ..; misuse at 0."
-- get_mut answers 1 "if it is 1", strong_count "the count"
unfoldable pub doing : Call → Clock → State → Does State
doing call.RefInc by s = does None (with_count s (risen 65535 s.ref_cnt) s.synchronize) []
doing call.RefDec by s = elim (eqb s.ref_cnt 0) [ true ↦ fails (Err Misuse) s | false ↦ dropping (stored by s.synchronize) s ]
doing call.GetMut by s = elim (eqb s.ref_cnt 0) [ true ↦ fails (Err Misuse) s | false ↦ inspecting (flag (eqb s.ref_cnt 1)) s ]
doing call.StrongCount by s = elim (eqb s.ref_cnt 0) [ true ↦ fails (Err Misuse) s | false ↦ inspecting s.ref_cnt s ]

-- the effect: what it does, with its touches done
unfoldable pub effect : Call → ThreadId → State → List Thread → Left State
effect c active s ts = left active (doing c (thread_at ts active).clock s) ts
