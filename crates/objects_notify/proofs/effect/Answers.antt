-- `effect` meets its contract: a wait's effect is the same whatever its object.
use Rattle.objects_notify.proofs.effect.Goals as goal

pub returns-in-Wait : goal.returns-in-Wait
returns-in-Wait c = rw c.in-Wait.is (c.wait.ensures c.args.object)
