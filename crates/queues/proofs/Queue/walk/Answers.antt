-- What the check leaves of `walk`.
use Rattle.queues.specs.Stacks.{stack_start, stack_end, stack_cut, stack_step, stack_less}
use Rattle.queues.proofs.Queue.walk.Goals as goal

pub loop-next-init : goal.loop-next-init
loop-next-init c = stack_start _ _ _ _ _ _ _ _ _ _ c.clear.ensures c.if_due-next.ensures c.requires.inside c.requires.few

pub loop-next-smaller : goal.loop-next-smaller
loop-next-smaller c = stack_less _ _ _ _ _ _ _ _ _ _ _ _ c.loop-next.invariant _ c.in-Some.is _ _ c.enter.ensures _ c.in_ok-head.was _ _ c.go_on-next.ensures

pub loop-next-preserved : goal.loop-next-preserved
loop-next-preserved c = stack_step _ _ _ _ _ _ _ _ _ _ _ _ c.loop-next.invariant _ c.in-Some.is _ _ c.enter.ensures _ c.in_ok-head.was _ _ c.go_on-next.ensures

pub returns-in_err-head : goal.returns-in_err-head
returns-in_err-head c = stack_cut _ _ _ _ _ _ _ _ _ _ _ _ c.loop-next.invariant _ c.in-Some.is _ _ c.enter.ensures _ c.in_err-head.was _ c.from_residual.ensures.0

pub returns : goal.returns
returns c = stack_end _ _ _ _ _ _ _ _ _ _ _ _ c.loop-next.invariant c.in_default.is
