-- What the check leaves of `index`.
use Rattle.std.specs.Prelude.{pos, length}
use Rattle.std.specs.Int.{w64}
use Rattle.std.proofs.Common.{arith, SFits}
use Rattle.std.proofs.lemmas.Int.{to_z-of_z}
use Rattle.whole.specs.Whole.{fits_by}
use Rattle.table.specs.Rows.{cell_asks, cell_low, index_is, index_fits, index_back}
use Rattle.table.proofs.Table.index.Goals as goal

pub cell-requires : goal.cell-requires
cell-requires c =
    let t = c.args.self in
    let n = length t.cells.now in
    let f : SFits w64 (pos n) = fits_by w64 (pos n) (omega arith) in
    cell_asks n t.descriptor c.args.i c.args.j f c.requires.0 c.requires.1 t.held

pub overflow_cast-result : goal.overflow_cast-result
overflow_cast-result c =
    let t = c.args.self in
    let n = length t.cells.now in
    let f : SFits w64 (pos n) = fits_by w64 (pos n) (omega arith) in
    let asks = cell_asks n t.descriptor c.args.i c.args.j f c.requires.0 c.requires.1 t.held in
    rw (to_z-of_z w64 c.cell.result c.cell.ensures.fits, c.cell.ensures.value) (index_fits _ (cell_low n t.descriptor c.args.i c.args.j f c.requires.0 c.requires.1 t.held) asks.3)

pub returns : goal.returns
returns c =
    let t = c.args.self in
    let n = length t.cells.now in
    let f : SFits w64 (pos n) = fits_by w64 (pos n) (omega arith) in
    let e = index_back _ (cell_low n t.descriptor c.args.i c.args.j f c.requires.0 c.requires.1 t.held) in
    let p = index_is n t.descriptor c.args.i c.args.j f c.requires.0 c.requires.1 t.held _ e in
    rw (to_z-of_z w64 c.cell.result c.cell.ensures.fits, c.cell.ensures.value) (e, p.1, p.0)
