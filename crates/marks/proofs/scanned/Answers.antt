-- What the check leaves of `scanned`: each way out stands in the order.
use Rattle.std.proofs.lemmas.Result.{err_from_is_err_and}
use Rattle.paper.specs.Answers.{bad_window}
use Rattle.refusals.specs.Orders.{none_first}
use Rattle.marks.specs.Scanning.{ready}
use Rattle.marks.proofs.Scanning.{by_table, by_window, by_far, by_room, by_listing}
use Rattle.marks.proofs.scanned.Goals as goal

pub returns-in_err-table-clause-given : goal.returns-in_err-table-clause-given
returns-in_err-table-clause-given c =
    let p = err_from_is_err_and c.from_residual.result c.from_residual.ensures.1 in
    rw (p.1, p.2) (by_table c.args.cells.now c.args.descriptor c.args.window c.args.numbers.now c.in_err-table.ensures.decided.0)

pub returns-in_err-frame-clause-given : goal.returns-in_err-frame-clause-given
returns-in_err-frame-clause-given c =
    let p = err_from_is_err_and c.from_residual-in_err-frame.result c.from_residual-in_err-frame.ensures.1 in
    rw (p.1, p.2) (by_window c.args.cells.now c.args.descriptor c.args.window c.args.numbers.now c.in_ok-table.ensures.decided c.in_err-frame.ensures.decided.0)

pub returns-in_err-of_coordinates-clause-given : goal.returns-in_err-of_coordinates-clause-given
returns-in_err-of_coordinates-clause-given c =
    let p = err_from_is_err_and c.from_residual-in_err-of_coordinates.result c.from_residual-in_err-of_coordinates.ensures.1 in
    let t = c.in_ok-table.ensures.table in
    rw (p.1, p.2)
    (by_far c.args.cells.now c.args.descriptor c.args.window c.args.numbers.now c.in_ok-table.ensures.decided (none_first (bad_window c.args.window) c.in_ok-frame.ensures.decided)
    (rw (t.0, t.1) at c.in_err-of_coordinates.ensures.0))

pub of_room-requires : goal.of_room-requires
of_room-requires c =
    let t = c.in_ok-table.ensures.table in
    rw (t.0, t.1) (ready c.args.cells.now c.args.descriptor c.in_ok-table.ensures.decided (rw (t.0, t.1) at c.in_ok-of_coordinates.ensures))

pub returns-in_err-of_room-clause-given : goal.returns-in_err-of_room-clause-given
returns-in_err-of_room-clause-given c =
    let p = err_from_is_err_and c.from_residual-in_err-of_room.result c.from_residual-in_err-of_room.ensures.1 in
    let t = c.in_ok-table.ensures.table in
    rw (p.1, p.2)
    (by_room c.args.cells.now c.args.descriptor c.args.window c.args.numbers.now c.in_ok-table.ensures.decided (none_first (bad_window c.args.window) c.in_ok-frame.ensures.decided)
    (rw (t.0, t.1) at c.in_ok-of_coordinates.ensures) (rw (t.0, t.1, c.in_ok-frame.ensures.frame) at c.in_err-of_room.ensures.0))

pub list-count-requires : goal.list-count-requires
list-count-requires c =
    let t = c.in_ok-table.ensures.table in
    rw (t.0, t.1) (ready c.args.cells.now c.args.descriptor c.in_ok-table.ensures.decided (rw (t.0, t.1) at c.in_ok-of_coordinates.ensures))

pub returns-clause-given : goal.returns-clause-given
returns-clause-given c =
    let t = c.in_ok-table.ensures.table in
    let f = c.in_ok-frame.ensures in
    let l = rw (t.0, t.1, f.frame) at c.list-count.ensures in
    rw c.done.ensures
    (by_listing c.args.cells.now c.args.descriptor c.args.window c.args.numbers.now c.in_ok-table.ensures.decided (none_first (bad_window c.args.window) f.decided)
    (rw (t.0, t.1) at c.in_ok-of_coordinates.ensures) (rw (t.0, t.1, f.frame) at c.in_ok-of_room.ensures) l.0 l.2)
