-- What came is the front of what was to be read.
use Rattle.std.proofs.Common.{◌≡◌, length, arith}
use Rattle.listing.proofs.Pending.{front_read}
use Rattle.listing.proofs.read_input.Goals as goal

pub returns-clause-front : goal.returns-clause-front
returns-clause-front g c h =
    let long : length c.fill.new.table ≡ 2048 = omega (arith, h, c.fill.auto.table) in
    front_read _ _ c.fill.new.table c.in_ok-n.n c.min.result (omega (arith, c.min.ensures, c.in_ok-n.ensures.bound, long)) c.in_ok-n.ensures.bound long c.in_ok-n.ensures.bytes c.in_ok-n.ensures.end
