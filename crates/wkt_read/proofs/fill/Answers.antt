-- What the check leaves of `fill`.
use Rattle.std.proofs.Common.{rules, w32, refl, sym, ap, ◌∙◌}
use Rattle.std.proofs.lemmas.Int.{to_z-of_z}
use Rattle.wkt_read.specs.declared.Reader.{Reader}
use Rattle.wkt_read.specs.Tally.{ends_number}
use Rattle.wkt_read.specs.Passes.{reader_start, filling_start, reader_bound, filling_skip, filling_room, filling_write}
use Rattle.wkt_read.proofs.fill.Goals as goal
use Rattle.wkt_read.proofs.fill.Goals.{then-ends_number, else-ends_number}

pub loop-b-init : goal.loop-b-init
loop-b-init c = filling_start c.args.text.now c.args.cells.now (reader_start c.default-reader.ensures)

pub after-next-requires : goal.after-next-requires
after-next-requires c = reader_bound c.args.text.now c.loop-b.b-index c.loop-b.invariant.reader

pub bounds-cells-count : goal.bounds-cells-count
bounds-cells-count c = filling_room c.requires.1 c.loop-b.invariant c.loop-b-test.true refl c.after-next.ensures (sym c.ends_number.ensures ∙ c.if-ends_number.true)

pub loop-b-preserved : goal.loop-b-preserved
loop-b-preserved c =
    let l = c.loop-b in
    elim c.if-ends_number.branch [
      | then-ends_number w ↦ filling_write c.requires.1 l.invariant c.loop-b-test.true refl (w.reader-is ∙ c.after-next.ensures) (ap (λ (x : Reader). ends_number l.reader x.state) w.reader-is ∙ sym c.ends_number.ensures ∙ w.if-ends_number.true) w.count-is w.cells-is (to_z-of_z w32 w.number.result (search rules) ∙ w.number.ensures)
      | else-ends_number w ↦ filling_skip c.requires.1 l.invariant c.loop-b-test.true refl (w.reader-is ∙ c.after-next.ensures) (ap (λ (x : Reader). ends_number l.reader x.state) w.reader-is ∙ sym c.ends_number.ensures ∙ w.if-ends_number.false) w.count-is w.cells-is
    ]
