-- A turn writes the next byte, and after the last turn all are written.
use Rattle.std.proofs.Common.{◌<◌, take, [], ◌∷◌, get_or, length, zero-add, length-take-le, arith}
use Rattle.std.proofs.lemmas.List.{take_all, take_more}
use Rattle.clocks.specs.Lists.{sets_then}
use Rattle.turns_shown.proofs.ArrayU8Shown.show.Goals as goal

pub loop-i-preserved : goal.loop-i-preserved
loop-i-preserved g c =
    let bs = c.args.self.now in
    let l = c.loop-i in
    let here : l.i < length bs = omega arith in
    rw (take_more bs l.i 0 here) (sets_then c.args.out.now 0 (take l.i bs) (get_or bs l.i 0 ∷ []) l.i (length-take-le l.i bs (omega arith)) l.invariant (rw zero-add c.put.ensures))

pub returns : goal.returns
returns g c = rw (take_all c.loop-i.i c.args.self.now (omega arith)) at c.loop-i.invariant
