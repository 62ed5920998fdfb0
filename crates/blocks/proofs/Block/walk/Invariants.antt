-- The loops of `walk`.
use Rattle.blocks.specs.Blocks.{Chain, size_of}
use Rattle.blocks.proofs.Block.walk.Given as goal

abbrev pub invariant-loop-next : goal.invariant-loop-next
invariant-loop-next l = Chain l.index.words.now l.index.n l.band l.index.lower l.fn.self l.initial.tally l.initial.numbers l.next l.tally l.numbers

abbrev pub decreases-loop-next : goal.decreases-loop-next
decreases-loop-next l = size_of l.next
