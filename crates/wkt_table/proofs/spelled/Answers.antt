-- What the check leaves of `spelled`: each way out stands in the order, and an answer 0 is read back.
use Rattle.std.proofs.Common.{arith}
use Rattle.std.proofs.lemmas.Result.{err_from_is_err_and}
use Rattle.wkt_table.specs.Writing.{by_table, by_far, by_room, by_text}
use Rattle.wkt_table.proofs.spelled.Goals as goal

pub returns-in_err-table-clause-given : goal.returns-in_err-table-clause-given
returns-in_err-table-clause-given c =
    let p = err_from_is_err_and c.from_residual.result c.from_residual.ensures.1 in
    rw (p.1, p.2) (by_table c.args.cells.now c.args.descriptor c.args.text.now c.in_err-table.ensures.decided.0)

pub returns-in_err-of_coordinates-clause-given : goal.returns-in_err-of_coordinates-clause-given
returns-in_err-of_coordinates-clause-given c =
    let p = err_from_is_err_and c.from_residual-in_err-of_coordinates.result c.from_residual-in_err-of_coordinates.ensures.1 in
    let t = c.in_ok-table.ensures.table in
    rw (p.1, p.2) (by_far c.args.cells.now c.args.descriptor c.args.text.now c.in_ok-table.ensures.decided (rw (t.0, t.1) at c.in_err-of_coordinates.ensures.0))

pub returns-then-text-width-clause-given : goal.returns-then-text-width-clause-given
returns-then-text-width-clause-given c =
    let t = c.in_ok-table.ensures.table in
    by_room c.args.cells.now c.args.descriptor c.args.text.now c.in_ok-table.ensures.decided (rw (t.0, t.1) at c.in_ok-of_coordinates.ensures)
    (omega (arith, rw (t.0, t.1) at c.text_width-width.ensures.0, c.if-text-width.true))

pub returns-clause-given : goal.returns-clause-given
returns-clause-given c =
    let t = c.in_ok-table.ensures.table in
    let q = rw (t.0, t.1) at c.put_text-count.ensures in
    rw (c.done.ensures, q.ends)
    (by_text c.args.cells.now c.args.descriptor c.args.text.now c.in_ok-table.ensures.decided (rw (t.0, t.1) at c.in_ok-of_coordinates.ensures)
    (omega (arith, rw (t.0, t.1) at c.text_width-width.ensures.0, c.if-text-width.false)) q.wrote)
