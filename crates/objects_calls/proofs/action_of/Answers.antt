-- `action_of` meets its contract: its action, a kind at a time.
use mathlib.Core.Path.{ap}
use Rattle.rules.specs.declared.object.Action.TheVariants.{Arc, Channel, RwLock}
use Rattle.objects_calls.proofs.action_of.Goals as goal

pub returns-in-Mutex : goal.returns-in-Mutex
returns-in-Mutex c = rw c.in-Mutex.is

pub returns-in-RwLock : goal.returns-in-RwLock
returns-in-RwLock c = rw c.in-RwLock.is (ap RwLock c.action_of.ensures)

pub returns-in-Condvar : goal.returns-in-Condvar
returns-in-Condvar c = rw c.in-Condvar.is

pub returns-in-Notify : goal.returns-in-Notify
returns-in-Notify c = rw c.in-Notify.is

pub returns-in-Channel : goal.returns-in-Channel
returns-in-Channel c = rw c.in-Channel.is (ap Channel c.action_of-in-Channel.ensures)

pub returns-in-Arc : goal.returns-in-Arc
returns-in-Arc c = rw c.in-Arc.is (ap Arc c.action_of-in-Arc.ensures)

pub returns-in-Cell : goal.returns-in-Cell
returns-in-Cell c = rw c.in-Cell.is
