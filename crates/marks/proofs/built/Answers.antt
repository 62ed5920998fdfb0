-- What the check leaves of `built`: each way out stands in the order.
use Rattle.std.proofs.Common.{ap, ◌∙◌, arith}
use Rattle.std.proofs.lemmas.Result.{err_from_is_err_and}
use Rattle.paper.specs.Words.{W}
use Rattle.refusals.specs.Orders.{table_pass}
use Rattle.marks.specs.Building.{by_table, by_room, by_straight, by_building}
use Rattle.marks.proofs.built.Goals as goal

pub returns-in_err-table-clause-given : goal.returns-in_err-table-clause-given
returns-in_err-table-clause-given c =
    let p = err_from_is_err_and c.from_residual.result c.from_residual.ensures.1 in
    rw (p.1, p.2) (by_table c.args.cells.now c.args.descriptor c.args.index.now c.in_err-table.ensures.decided.0)

pub returns-then-index-words-clause-given : goal.returns-then-index-words-clause-given
returns-then-index-words-clause-given c =
    let w = c.words-words.ensures.0 ∙ ap W (rw c.in_ok-table.ensures.table.1 at c.count-n.ensures.0) in
    by_room c.args.cells.now c.args.descriptor c.args.index.now c.in_ok-table.ensures.decided (omega (arith, w, c.if-index-words.true))

pub returns-in_err-marks-clause-given : goal.returns-in_err-marks-clause-given
returns-in_err-marks-clause-given c =
    let p = err_from_is_err_and c.from_residual-in_err-marks.result c.from_residual-in_err-marks.ensures.1 in
    let t = c.in_ok-table.ensures.table in
    let w = c.words-words.ensures.0 ∙ ap W (rw t.1 at c.count-n.ensures.0) in
    rw (p.1, p.2)
    (by_straight c.args.cells.now c.args.descriptor c.args.index.now c.in_ok-table.ensures.decided (omega (arith, w, c.if-index-words.false)) (rw (t.0, t.1) at c.in_err-marks.ensures.decided.0))

pub build_words-requires : goal.build_words-requires
build_words-requires c =
    let a = c.args in
    let t = c.in_ok-table.ensures.table in
    let w = c.words-words.ensures.0 ∙ ap W (rw t.1 at c.count-n.ensures.0) in
    let m = c.in_ok-marks.ensures.marks in
    record {
      lower = rw (m.1, t.1) (table_pass a.cells.now a.descriptor c.in_ok-table.ensures.decided).lower;
      room = rw (m.1, t.1) (omega (arith, w, c.if-index-words.false));
    }

pub returns-clause-given : goal.returns-clause-given
returns-clause-given c =
    let t = c.in_ok-table.ensures.table in
    let m = c.in_ok-marks.ensures.marks in
    let w = c.words-words.ensures.0 ∙ ap W (rw t.1 at c.count-n.ensures.0) in
    rw (c.done.ensures, w)
    (by_building c.args.cells.now c.args.descriptor c.args.index.now c.in_ok-table.ensures.decided (omega (arith, w, c.if-index-words.false))
    (rw (t.0, t.1) at c.in_ok-marks.ensures.decided) (rw (m.0, m.1, t.0, t.1) at c.build_words.ensures))
