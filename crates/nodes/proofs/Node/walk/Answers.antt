-- What the check leaves of `walk`.
use Rattle.std.proofs.lemmas.Result.{err_from_is_err_and}
use Rattle.nodes.specs.Stacks.{stack_start, stack_cut, stack_next, stack_push}
use Rattle.nodes.proofs.Node.walk.Goals as goal

pub loop-next-init : goal.loop-next-init
loop-next-init c = stack_start _ _ _ _ _ _ _ c.requires.deep _ c.new-pending.ensures

pub returns-in_err-turn : goal.returns-in_err-turn
returns-in_err-turn c =
    let p = err_from_is_err_and c.from_residual.result c.from_residual.ensures.1 in
    rw p.1 (stack_cut _ _ _ _ _ _ _ _ _ _ _ (rw c.in-Some.is at c.loop-next.invariant) _ _ c.in_err-turn.ensures)

pub loop-next-preserved-in-Some-left : goal.loop-next-preserved-in-Some-left
loop-next-preserved-in-Some-left c =
    rw (c.push.ensures.items, c.right.ensures, c.left.ensures)
    (stack_push _ _ _ _ _ _ _ _ _ _ _ (rw c.in-Some.is at c.loop-next.invariant) _ _ c.in_ok-turn.ensures _ c.in-Some-left.is)

pub loop-next-preserved : goal.loop-next-preserved
loop-next-preserved c =
    stack_next _ _ _ _ _ _ _ _ _ _ _ (rw c.in-Some.is at c.loop-next.invariant) _ _ c.in_ok-turn.ensures c.in-None.is _ _ c.pop-next.ensures.items c.pop-next.ensures.variant
