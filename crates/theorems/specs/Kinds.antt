-- An object keeps the kind that the table gave it, and what is announced, waited for, retaken or asked is on an object of its kind. The laws are in proofs/KindLaws.antt.
use Rattle.std.specs.Prelude.{◌≡◌, true, List, ℕ, get_or, None, Option, Some}
use Rattle.clocks.specs.declared.thread.ThreadId.{ThreadId}
use Rattle.rules.specs.declared.object.Entry.{Entry}
use Rattle.rules.specs.declared.object.Kind.TheVariants as kind
use Rattle.rules.specs.declared.notify.Call.TheVariants as notify-call
use Rattle.rules.specs.declared.thread.Phase.{Phase}
use Rattle.rules.specs.declared.thread.Phase.TheVariants.{Nothing, Announced, Parked, Retaking}
use Rattle.rules.specs.declared.thread.Thread.{Thread}
use Rattle.rules.specs.declared.table.Call.{Call}
use Rattle.rules.specs.declared.table.Call.TheVariants.{Notify}
use Rattle.rules.specs.declared.table.Made.{Made}
use Rattle.rules.specs.declared.table.Op.{Op}
use Rattle.rules.specs.declared.table.Table.{Table}
use Rattle.rules.specs.declared.world.World.{World}
use Rattle.rules.specs.Object.{no_object}
use Rattle.rules.specs.Notify as notify
use Rattle.rules.specs.Table.{no_op, kind_of}
use Rattle.rules.specs.Effect.{wait_of}
use Rattle.rules.specs.Turn.{entry_in, mutex_of, ops_left}

-- the kind that the table gave
abbrev pub KindOf : List Made → ℕ → Entry → Type 0
KindOf ms k e = e.kind ≡ (get_or ms k no_object).kind

-- the kinds of what a phase names
abbrev pub KindIn : Phase → List Op → World → Type 0
KindIn Nothing ops w = Unit {0}
KindIn (Announced p) ops w = (entry_in w p.obj).kind ≡ kind_of (get_or ops 0 no_op).call
KindIn Parked ops w = (entry_in w (mutex_of (wait_of (get_or ops 0 no_op).call))).kind ≡ kind.Mutex
KindIn (Retaking p) ops w = (entry_in w p.obj).kind ≡ kind.Mutex

-- who is asked stands before a Notify wait that may wake spuriously
abbrev pub AskedWait : Table → Option ThreadId → World → Type 0
AskedWait table None w = Unit {0}
AskedWait table (Some t) w =
    let op : Op = get_or (ops_left table w t) 0 no_op in (op.call ≡ Notify notify-call.Wait) × ((entry_in w op.object).kind ≡ kind.Notify) × (notify.might_spur (entry_in w op.object).notify ≡ true)

-- before an effect: the object is of the operation's kind
abbrev pub OfKind : ThreadId → Call → Entry → List Thread → Type 0
OfKind t c e ts = e.kind ≡ kind_of c
