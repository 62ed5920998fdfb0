-- What the check leaves of `lines_width`.
use Rattle.std.proofs.Common.{◌≡◌, sym, ap, ◌∙◌, arith}
use Rattle.paper.specs.Descriptor.{size_of}
use Rattle.wkt_write.specs.Spelling.{lines_length, firsts_zero, firsts_next, firsts_all}
use Rattle.wkt_write.proofs.lines_width.Goals as goal

pub loop-i-init : goal.loop-i-init
loop-i-init c = (omega arith, sym (firsts_zero c.args.table.descriptor c.args.table.cells.now))

pub loop-i-preserved : goal.loop-i-preserved
loop-i-preserved c =
    let t = c.args.table in
    let l = c.loop-i in
    let width = rw c.segment.ensures at c.line_width.ensures in
    (omega (arith, width.1, l.invariant.0), omega (arith, width.0, l.invariant.1, firsts_next t.descriptor t.cells.now l.i))

pub returns : goal.returns
returns c =
    let t = c.args.table in
    let l = c.loop-i in
    let e : l.i ≡ size_of t.descriptor = omega (arith, c.loop-i-test.false, l.auto.i-end, c.count-i-end.ensures.0) in
    (l.invariant.1 ∙ ap lines_length (firsts_all t.descriptor t.cells.now e), omega (arith, l.invariant.0, l.auto.i-end, c.count-i-end.ensures.1))
