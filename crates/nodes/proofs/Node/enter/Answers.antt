-- What the check leaves of `enter`.
use Rattle.std.proofs.Common.{sym}
use Rattle.std.proofs.lemmas.Result.{err_from_is_err_and}
use Rattle.nodes.specs.Nodes.{turn_bad, turn_out, turn_in, turn_cut, turn_spoiled, turn_below}
use Rattle.nodes.proofs.Node.enter.Goals as goal

pub returns-in_err-ends : goal.returns-in_err-ends
returns-in_err-ends c =
    let p = err_from_is_err_and c.from_residual.result c.from_residual.ensures.1 in
    rw p.1 (turn_bad _ _ _ _ _ _ _ c.in_err-ends.ensures)

pub returns-in_err-walked-in-In : goal.returns-in_err-walked-in-In
returns-in_err-walked-in-In c =
    let p = err_from_is_err_and c.from_residual-in_err-walked-in-In.result c.from_residual-in_err-walked-in-In.ensures.1 in
    rw p.1 (turn_cut _ _ _ _ _ _ _ _ c.in_ok-ends.ensures c.in-In.is _ _ (rw c.seen-seen.ensures at c.in_err-walked-in-In.ensures))

pub returns-in_err-count-in-Across : goal.returns-in_err-count-in-Across
returns-in_err-count-in-Across c =
    let p = err_from_is_err_and c.from_residual-in_err-count-in-Across.result c.from_residual-in_err-count-in-Across.ensures.1 in
    rw p.1 (turn_spoiled _ _ _ _ _ _ _ _ c.in_ok-ends.ensures c.in-Across.is _ (sym c.in_err-count-in-Across.ensures))

pub returns-in-Out : goal.returns-in-Out
returns-in-Out c = rw c.seen-seen.ensures (turn_out _ _ _ _ _ _ _ _ c.in_ok-ends.ensures c.in-Out.is)

pub returns-in_ok-walked-in-In : goal.returns-in_ok-walked-in-In
returns-in_ok-walked-in-In c =
    turn_in _ _ _ _ _ _ _ _ c.in_ok-ends.ensures c.in-In.is _ _ (rw c.seen-seen.ensures at c.in_ok-walked-in-In.ensures)

pub returns-in_ok-count-in-Across : goal.returns-in_ok-count-in-Across
returns-in_ok-count-in-Across c =
    rw c.seen-seen.ensures (turn_below _ _ _ _ _ _ _ _ c.in_ok-ends.ensures c.in-Across.is _ (sym c.in_ok-count-in-Across.ensures))
