-- The loop of `slots`.
use Rattle.slots.specs.Slots.{Row}
use Rattle.slots.proofs.slots.Given as goal

abbrev pub invariant-loop-at : goal.invariant-loop-at
invariant-loop-at l =
    Row l.index.words.now l.index.n l.index.lower l.window l.fn.count l.fn.at0 l.initial.tally l.initial.numbers l.at l.tally l.numbers
