-- What the check leaves of `cell_answer`.
use Rattle.std.proofs.Common.{◌≡◌, ◌<◌, ap, ap₂, ◌∙◌, arith, false, true, w64}
use Rattle.std.proofs.Common.{rules, SFits}
use Rattle.std.proofs.lemmas.Int.{to_z-of_z}
use Rattle.std.proofs.lemmas.Result.{err_from_is_err_and}
use Rattle.lists.specs.Plain.{to_nat}
use Rattle.paper.specs.Descriptor.{cell_of}
use Rattle.paper.specs.Answers.{bad_place}
use Rattle.table.specs.Cells.{Held}
use Rattle.table.specs.Address.{inside_fits}
use Rattle.table.specs.Rows.{held_size, held_strides, held_cell}
use Rattle.refusals.specs.Orders.{held}
use Rattle.hosts.specs.Answered.{cell_refused, cell_11, cell_0, place_of, placed}
use Rattle.hosts.proofs.cell_answer.Goals as goal

pub returns-in_err-of_cells : goal.returns-in_err-of_cells
returns-in_err-of_cells c =
    let a = c.args in
    let p = err_from_is_err_and c.from_residual.result c.from_residual.ensures.1 in
    rw (p.1, p.2) (cell_refused a.length a.descriptor a.position a.coordinate (rw (to_z-of_z w64 a.length c.ranges.length) at c.in_err-of_cells.ensures.0))

pub returns-then-bad_place : goal.returns-then-bad_place
returns-then-bad_place c =
    let a = c.args in
    let f : SFits w64 a.descriptor.extent = search rules in
    let h = held a.length a.descriptor (rw (to_z-of_z w64 a.length c.ranges.length) at c.in_ok-of_cells.ensures) in
    cell_11 a.length a.descriptor a.position a.coordinate h (placed a.descriptor.extent a.position a.coordinate f c.ranges.position c.ranges.coordinate c.bad_place.ensures c.if-bad_place.true)

pub index-requires : goal.index-requires
index-requires c =
    let a = c.args in
    let f : SFits w64 a.descriptor.extent = search rules in
    let q = placed a.descriptor.extent a.position a.coordinate f c.ranges.position c.ranges.coordinate c.bad_place.ensures c.if-bad_place.false in
    rw (to_z-of_z w64 a.position c.ranges.position) (place_of a.descriptor.extent a.position a.coordinate q).0.0

pub index-requires-2 : goal.index-requires-2
index-requires-2 c =
    let a = c.args in
    let f : SFits w64 a.descriptor.extent = search rules in
    let q = placed a.descriptor.extent a.position a.coordinate f c.ranges.position c.ranges.coordinate c.bad_place.ensures c.if-bad_place.false in
    rw (to_z-of_z w64 a.coordinate c.ranges.coordinate) (place_of a.descriptor.extent a.position a.coordinate q).1.0

pub cell-requires : goal.cell-requires
cell-requires c =
    let a = c.args in
    let n = a.descriptor.extent in
    let f : SFits w64 n = search rules in
    let h = held a.length a.descriptor (rw (to_z-of_z w64 a.length c.ranges.length) at c.in_ok-of_cells.ensures) in
    let p = place_of n a.position a.coordinate (placed n a.position a.coordinate f c.ranges.position c.ranges.coordinate c.bad_place.ensures c.if-bad_place.false) in
    let row : c.index.result ≡ to_nat a.position = ap to_nat (c.index.ensures ∙ to_z-of_z w64 a.position c.ranges.position) in
    let column : c.index-2.result ≡ to_nat a.coordinate = ap to_nat (c.index-2.ensures ∙ to_z-of_z w64 a.coordinate c.ranges.coordinate) in
    let i : c.index.result < to_nat n = rw row p.0.1 in
    let j : c.index-2.result < 4 = rw column p.1.1 in (
      omega (arith, i, held_size a.length a.descriptor h),
      j,
      held_strides a.length a.descriptor h,
      inside_fits a.length (cell_of a.descriptor c.index.result c.index-2.result) c.ranges.length (held_cell a.length a.descriptor h c.index.result c.index-2.result i j),
    )

pub returns : goal.returns
returns c =
    let a = c.args in
    let f : SFits w64 a.descriptor.extent = search rules in
    let h = held a.length a.descriptor (rw (to_z-of_z w64 a.length c.ranges.length) at c.in_ok-of_cells.ensures) in
    let row : c.index.result ≡ to_nat a.position = ap to_nat (c.index.ensures ∙ to_z-of_z w64 a.position c.ranges.position) in
    let column : c.index-2.result ≡ to_nat a.coordinate = ap to_nat (c.index-2.ensures ∙ to_z-of_z w64 a.coordinate c.ranges.coordinate) in
    cell_0 a.length a.descriptor a.position a.coordinate h (placed a.descriptor.extent a.position a.coordinate f c.ranges.position c.ranges.coordinate c.bad_place.ensures c.if-bad_place.false)
    (to_z-of_z w64 c.cell.result c.cell.ensures.fits ∙ c.cell.ensures.value ∙ ap₂ (cell_of a.descriptor) row column)
