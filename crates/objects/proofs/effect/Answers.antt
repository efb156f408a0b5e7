use Rattle.std.proofs.Common.{sym, ◌∙◌, ap}
use Rattle.rules.specs.Effect.{effect, doing}
use Rattle.rules.specs.Object.{put_mutex, put_rw_lock, put_condvar, put_notify, put_channel, put_arc, put_cell}
use Rattle.rules.specs.declared.table.Call.{Call}
use Rattle.rules.specs.Mutex as mutex
use Rattle.rules.specs.RwLock as rwlock
use Rattle.rules.specs.Mpsc as mpsc
use Rattle.rules.specs.Arc as arc
use Rattle.rules.specs.Notify as notify
use Rattle.rules.specs.Condvar as condvar
use Rattle.rules.specs.Cell as cell
use Rattle.objects.specs.Settled.{put, in_entry, put_settled, settled}
use Rattle.objects.proofs.effect.Goals as goal

pub returns-in-Mutex : goal.returns-in-Mutex
unfolding effect doing mutex.effect
returns-in-Mutex c =
    let a = c.args in
    let e = a.e.now in
    let ts = a.threads.now in
    ap (in_entry (put_mutex e)) (c.settle.ensures ∙ ap (λ d. put d e.mutex ts) c.effect-done.ensures)
    ∙ put_settled (put_mutex e) (mutex.effect c.in-Mutex.c a.active a.object e.mutex ts) e.mutex ts
    ∙ sym (ap (λ (k : Call). settled (effect k a.active a.object e ts) e ts) c.in-Mutex.is)

pub returns-in-RwLock : goal.returns-in-RwLock
unfolding effect doing rwlock.effect
returns-in-RwLock c =
    let a = c.args in
    let e = a.e.now in
    let ts = a.threads.now in
    ap (in_entry (put_rw_lock e)) (c.settle-in-RwLock.ensures ∙ ap (λ d. put d e.rwlock ts) c.effect-done-in-RwLock.ensures)
    ∙ put_settled (put_rw_lock e) (rwlock.effect c.in-RwLock.c a.active a.object e.rwlock ts) e.rwlock ts
    ∙ sym (ap (λ (k : Call). settled (effect k a.active a.object e ts) e ts) c.in-RwLock.is)

pub returns-in-Condvar : goal.returns-in-Condvar
unfolding effect doing condvar.effect
returns-in-Condvar c =
    let a = c.args in
    let e = a.e.now in
    let ts = a.threads.now in
    ap (in_entry (put_condvar e)) (c.settle-in-Condvar.ensures ∙ ap (λ d. put d e.condvar ts) c.effect-done-in-Condvar.ensures)
    ∙ put_settled (put_condvar e) (condvar.effect c.in-Condvar.c a.active e.condvar ts) e.condvar ts
    ∙ sym (ap (λ (k : Call). settled (effect k a.active a.object e ts) e ts) c.in-Condvar.is)

pub returns-in-Notify : goal.returns-in-Notify
unfolding effect doing notify.effect
returns-in-Notify c =
    let a = c.args in
    let e = a.e.now in
    let ts = a.threads.now in
    ap (in_entry (put_notify e)) (c.settle-in-Notify.ensures ∙ ap (λ d. put d e.notify ts) c.effect-done-in-Notify.ensures)
    ∙ put_settled (put_notify e) (notify.effect c.in-Notify.c a.active a.object e.notify ts) e.notify ts
    ∙ sym (ap (λ (k : Call). settled (effect k a.active a.object e ts) e ts) c.in-Notify.is)

pub returns-in-Channel : goal.returns-in-Channel
unfolding effect doing mpsc.effect
returns-in-Channel c =
    let a = c.args in
    let e = a.e.now in
    let ts = a.threads.now in
    ap (in_entry (put_channel e)) (c.settle-in-Channel.ensures ∙ ap (λ d. put d e.channel ts) c.effect-done-in-Channel.ensures)
    ∙ put_settled (put_channel e) (mpsc.effect c.in-Channel.c a.active a.object e.channel ts) e.channel ts
    ∙ sym (ap (λ (k : Call). settled (effect k a.active a.object e ts) e ts) c.in-Channel.is)

pub returns-in-Arc : goal.returns-in-Arc
unfolding effect doing arc.effect
returns-in-Arc c =
    let a = c.args in
    let e = a.e.now in
    let ts = a.threads.now in
    ap (in_entry (put_arc e)) (c.settle-in-Arc.ensures ∙ ap (λ d. put d e.arc ts) c.effect-done-in-Arc.ensures)
    ∙ put_settled (put_arc e) (arc.effect c.in-Arc.c a.active e.arc ts) e.arc ts
    ∙ sym (ap (λ (k : Call). settled (effect k a.active a.object e ts) e ts) c.in-Arc.is)

pub returns-in-Cell : goal.returns-in-Cell
unfolding effect doing cell.effect
returns-in-Cell c =
    let a = c.args in
    let e = a.e.now in
    let ts = a.threads.now in
    ap (in_entry (put_cell e)) (c.settle-in-Cell.ensures ∙ ap (λ d. put d e.cell ts) c.effect-done-in-Cell.ensures)
    ∙ put_settled (put_cell e) (cell.effect c.in-Cell.c a.active e.cell ts) e.cell ts
    ∙ sym (ap (λ (k : Call). settled (effect k a.active a.object e ts) e ts) c.in-Cell.is)
