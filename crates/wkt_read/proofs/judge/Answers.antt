-- What the check leaves of `judge`.
use Rattle.std.proofs.Common.{refl, sym, arith, ◌∙◌}
use Rattle.wkt_read.specs.Passes.{reader_start, tally_start, judging_start, reader_bound, tally_bound, judging_step, judged_failed, judged_short}
use Rattle.wkt_read.proofs.judge.Goals as goal

pub loop-place-init : goal.loop-place-init
loop-place-init c = judging_start c.args.text.now (reader_start c.default-reader.ensures) (tally_start c.default-tally.ensures)

pub after-next-requires : goal.after-next-requires
after-next-requires c = reader_bound c.args.text.now c.loop-place.place c.loop-place.invariant.reader

pub returns-then-failed : goal.returns-then-failed
returns-then-failed c = judged_failed c.loop-place.invariant c.loop-place-test.true refl c.after-next.ensures (sym c.failed.ensures ∙ c.if-failed.true)

pub after-tally-requires : goal.after-tally-requires
after-tally-requires c =
    let b = tally_bound c.loop-place.invariant in
    (b.0, omega (arith, b.1, c.loop-place-test.true))

pub loop-place-preserved : goal.loop-place-preserved
loop-place-preserved c = judging_step c.loop-place.invariant c.loop-place-test.true refl c.after-next.ensures (sym c.failed.ensures ∙ c.if-failed.false) c.after-tally.ensures

pub returns-else-ended : goal.returns-else-ended
returns-else-ended c = judged_short c.loop-place.invariant (omega arith) (sym c.ended.ensures ∙ c.if-ended.false)
