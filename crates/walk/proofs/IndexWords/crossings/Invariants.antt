-- The loops of `crossings`.
use Rattle.walk.specs.Whole.{Crossing}
use Rattle.walk.proofs.IndexWords.crossings.Given as goal

abbrev pub invariant-loop-axis : goal.invariant-loop-axis
invariant-loop-axis l = Crossing l.self.words.now l.window l.fn.tally l.fn.numbers l.axis-index l.at l.tally l.numbers
