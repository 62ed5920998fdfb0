-- The loop of `search`.
use Rattle.std.proofs.Common.{◌-◌}
use Rattle.slots.specs.Search.{Seeking}
use Rattle.slots.proofs.search.Given as goal

abbrev pub invariant-loop-lo : goal.invariant-loop-lo
invariant-loop-lo l = Seeking l.index.words.now l.index.n l.window l.initial.tally l.lo l.hi l.tally

abbrev pub decreases-loop-lo : goal.decreases-loop-lo
decreases-loop-lo l = l.hi - l.lo
