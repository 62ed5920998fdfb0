-- What the check leaves of `walk`.
use Rattle.blocks.specs.Blocks.{chain_start, chain_end, chain_cut, chain_step, chain_less}
use Rattle.blocks.proofs.Block.walk.Goals as goal

pub loop-next-init : goal.loop-next-init
loop-next-init c = chain_start _ _ _ _ _ _ _ _ c.some-next.ensures c.requires.inside c.requires.few

pub loop-next-smaller : goal.loop-next-smaller
loop-next-smaller c = chain_less _ _ _ _ _ _ _ _ _ _ c.loop-next.invariant _ c.in-Some.is _ _ c.enter.ensures _ c.in_ok-step.was

pub loop-next-preserved : goal.loop-next-preserved
loop-next-preserved c = chain_step _ _ _ _ _ _ _ _ _ _ c.loop-next.invariant _ c.in-Some.is _ _ c.enter.ensures _ c.in_ok-step.was

pub returns-in_err-step : goal.returns-in_err-step
returns-in_err-step c = chain_cut _ _ _ _ _ _ _ _ _ _ c.loop-next.invariant _ c.in-Some.is _ _ c.enter.ensures _ c.in_err-step.was _ c.from_residual.ensures.0

pub returns : goal.returns
returns c = chain_end _ _ _ _ _ _ _ _ _ _ c.loop-next.invariant c.in_default.is
