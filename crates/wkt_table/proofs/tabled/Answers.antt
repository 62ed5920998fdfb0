-- What the check leaves of `tabled`: each way out stands in the order 13, 3, 5, 7.
use Rattle.std.proofs.Common.{sym, ap, ◌∙◌, w64}
use Rattle.std.proofs.lemmas.Int.{to_z-of_z}
use Rattle.paper.specs.Answers.{bad_extent}
use Rattle.wkt_table.specs.Reading.{by_text, by_extent, by_far, by_room, by_fill, fill_room}
use Rattle.wkt_table.proofs.tabled.Goals as goal

pub returns-in-Err-clause-read : goal.returns-in-Err-clause-read
returns-in-Err-clause-read c = by_text c.args.text.now c.args.cells.now c.in-Err.place c.in-Err.ensures

pub returns-then-bad_extent-clause-read : goal.returns-then-bad_extent-clause-read
returns-then-bad_extent-clause-read c =
    let lines = ap (λ z. (bad_extent z).given) (sym (to_z-of_z w64 c.count.result c.count.ensures.fits ∙ c.count.ensures.value)) ∙ sym c.bad_extent.ensures in
    by_extent c.args.text.now c.args.cells.now c.in-Ok.tally c.in-Ok.ensures (lines ∙ c.if-bad_extent.true)

pub returns-then-far-clause-read : goal.returns-then-far-clause-read
returns-then-far-clause-read c =
    let lines = ap (λ z. (bad_extent z).given) (sym (to_z-of_z w64 c.count.result c.count.ensures.fits ∙ c.count.ensures.value)) ∙ sym c.bad_extent.ensures in
    by_far c.args.text.now c.args.cells.now c.in-Ok.tally c.in-Ok.ensures (lines ∙ c.if-bad_extent.false) c.if-far.true

pub returns-then-cells-tally-clause-read : goal.returns-then-cells-tally-clause-read
returns-then-cells-tally-clause-read c =
    let lines = ap (λ z. (bad_extent z).given) (sym (to_z-of_z w64 c.count.result c.count.ensures.fits ∙ c.count.ensures.value)) ∙ sym c.bad_extent.ensures in
    by_room c.args.text.now c.args.cells.now c.in-Ok.tally c.in-Ok.ensures (lines ∙ c.if-bad_extent.false) c.if-far.false c.if-cells-tally.true

pub returns-clause-read : goal.returns-clause-read
returns-clause-read c =
    let lines = ap (λ z. (bad_extent z).given) (sym (to_z-of_z w64 c.count.result c.count.ensures.fits ∙ c.count.ensures.value)) ∙ sym c.bad_extent.ensures in
    rw c.done.ensures (by_fill c.args.text.now c.args.cells.now c.in-Ok.tally c.in-Ok.ensures (lines ∙ c.if-bad_extent.false) c.if-far.false c.if-cells-tally.false c.fill.ensures)
