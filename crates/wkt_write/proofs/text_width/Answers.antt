-- What the check leaves of `text_width`.
use Rattle.std.proofs.Common.{◌≡◌, ℕ, ◌<◌, sym, ap, ◌∙◌, arith, length}
use Rattle.paper.specs.Descriptor.{segments_of}
use Rattle.paper.specs.Wkt.{text_of}
use Rattle.wkt_write.specs.Spelling.{segments_length, text_length, empty_length, empty_table}
use Rattle.wkt_write.proofs.text_width.Goals as goal

above : {n : ℕ} → (n ≡ 0 → ⊥) → 0 < n
above h = omega arith

pub returns-then-count-eq0 : goal.returns-then-count-eq0
returns-then-count-eq0 c =
    let e = empty_table c.args.table.descriptor c.args.table.cells.now (sym c.if-count-eq0.true ∙ c.count.ensures.0) in
    (sym (ap (λ l. length (text_of l)) e ∙ empty_length), omega arith)

pub returns : goal.returns
returns c =
    let segments = segments_of c.args.table.descriptor c.args.table.cells.now in
    let some : 0 < length segments = omega (arith, segments_length c.args.table.descriptor c.args.table.cells.now c.count.ensures.0, above c.if-count-eq0.false) in
    (omega (arith, c.lines_width.ensures.0, text_length segments some), omega (arith, c.lines_width.ensures.1))
