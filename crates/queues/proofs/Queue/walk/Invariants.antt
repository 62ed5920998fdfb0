-- The loops of `walk`.
use Rattle.std.proofs.Common.{◌+◌}
use Rattle.queues.specs.Stacks.{Stacked, total}
use Rattle.queues.specs.Queues.{size_of}
use Rattle.queues.proofs.Queue.walk.Given as goal

abbrev pub invariant-loop-next : goal.invariant-loop-next
invariant-loop-next l =
    Stacked l.index.words.now l.index.n l.band l.end l.index.lower l.fn.self l.initial.tally l.initial.numbers l.pending.items l.next l.tally l.numbers

abbrev pub decreases-loop-next : goal.decreases-loop-next
decreases-loop-next l = size_of l.next + total l.pending.items
