-- The loop of `feed`: what was owed for the chunk so far was printed, the rest is owed still, and the desk's memory is that which was lent.
use Rattle.std.proofs.Common.{◌-◌, length}
use Rattle.lines.specs.States.{SameLoans}
use Rattle.lines.specs.Reading.{Turned}
use Rattle.lines.proofs.Reader.feed.Given as goal

abbrev pub invariant-loop-state : goal.invariant-loop-state
invariant-loop-state l = record {
  turned : Turned l.fn.self l.chunk l.initial.desk l.initial.out l.reader l.desk l.out;
  lent : SameLoans l.initial.desk l.desk;
}

abbrev pub decreases-loop-state : goal.decreases-loop-state
decreases-loop-state l = length l.chunk - l.reader.at
