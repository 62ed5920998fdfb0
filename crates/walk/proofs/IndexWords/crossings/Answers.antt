-- What the check leaves of `crossings`.
use Rattle.std.proofs.Common.{add-one}
use Rattle.walk.specs.Whole.{crossing_end, crossing_step, crossing_cut}
use Rattle.walk.proofs.IndexWords.crossings.Goals as goal

pub loop-axis-preserved : goal.loop-axis-preserved
loop-axis-preserved c =
    let a = rw (c.band_of-band.ensures, c.along-size.ensures, c.index-index.ensures.words, c.index-index.ensures.n, c.index-index.ensures.lower) at (c.walk.ensures c.args.window) in
    rw (add-one, c.along-size.ensures) (crossing_step _ _ _ _ _ _ _ _ c.loop-axis.invariant c.loop-axis-test.true _ _ a _ c.in_ok-tally.was)

pub returns-in_err-tally : goal.returns-in_err-tally
returns-in_err-tally c =
    let a = rw (c.band_of-band.ensures, c.along-size.ensures, c.index-index.ensures.words, c.index-index.ensures.n, c.index-index.ensures.lower) at (c.walk.ensures c.args.window) in
    crossing_cut _ _ _ _ _ _ _ _ c.loop-axis.invariant c.loop-axis-test.true _ _ a _ c.in_err-tally.was _ c.from_residual.ensures.0

pub returns : goal.returns
returns c = crossing_end _ _ _ _ _ _ _ _ c.loop-axis.invariant c.loop-axis-test.false
