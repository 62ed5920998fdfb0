-- What the check leaves of `enter`.
use Rattle.blocks.specs.Blocks.{block_spoiled, block_cut, block_next}
use Rattle.blocks.proofs.Block.enter.Goals as goal

pub returns-in_err-sizes : goal.returns-in_err-sizes
returns-in_err-sizes c = block_spoiled _ _ _ _ _ c.requires.inside.0 _ _ c.in_err-sizes.ensures _ c.from_residual.ensures.0

pub returns-in_err-walked : goal.returns-in_err-walked
returns-in_err-walked c =
    let q = rw (c.queue-queue.ensures, c.seen-seen.ensures) at c.walk.ensures in
    block_cut _ _ _ _ _ c.requires.inside.0 _ _ _ c.in_ok-sizes.ensures _ c.end-end.ensures _ _ q _ c.in_err-walked.was _ c.from_residual-in_err-walked.ensures.0

pub returns : goal.returns
returns c =
    let q = rw (c.queue-queue.ensures, c.seen-seen.ensures) at c.walk.ensures in
    rw (c.some.ensures, c.below.ensures) (block_next _ _ _ _ _ c.requires.inside.0 _ _ _ c.in_ok-sizes.ensures _ c.end-end.ensures _ _ q _ c.in_ok-walked.was)
