-- What the check leaves of `of_room`.
use Rattle.std.proofs.Common.{ap, arith, le-ltb, length, cond, Some, None}
use Rattle.paper.specs.Answers.{bad_room}
use Rattle.scan.specs.Listing.{met_positions}
use Rattle.marks.specs.Scanning.{met_few}
use Rattle.marks.proofs.listing.of_room.Goals as goal

-- no more are due than there are
pub returns-then-count-lent : goal.returns-then-count-lent
returns-then-count-lent c =
    let a = c.args in
    let k = length (met_positions a.table.cells.now a.table.descriptor a.frame.window) in
    ap (λ b. cond b (Some (bad_room k a.lent)) None) (le-ltb a.lent k (omega (arith, met_few a.table.cells.now a.table.descriptor a.frame.window, c.count.ensures.0, c.if-count-lent.true)))
