-- The loop of `walk`.
use Rattle.nodes.specs.Stacks.{Walking, work}
use Rattle.nodes.proofs.Node.walk.Given as goal

abbrev pub invariant-loop-next : goal.invariant-loop-next
invariant-loop-next l =
    Walking l.index.words.now l.index.n l.index.lower l.window l.fn.self l.initial.tally l.initial.numbers l.pending.items l.next l.tally l.numbers

abbrev pub decreases-loop-next : goal.decreases-loop-next
decreases-loop-next l = work l.pending.items l.next
