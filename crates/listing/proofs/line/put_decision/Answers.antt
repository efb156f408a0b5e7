-- The three bytes of a decision.
use Rattle.std.proofs.Common.{rules}
use Rattle.listing.proofs.LineLaws.{decision_is}
use Rattle.listing.proofs.line.put_decision.Goals as goal

pub returns : goal.returns
returns c =
    let a = c.args in
    decision_is a.out.now _ _ _ a.at a.d c.hex_digit.result c.hex_digit-2.result (search rules) c.hex_digit.ensures c.hex_digit-2.ensures c.put.ensures c.put-2.ensures c.put-3.ensures
