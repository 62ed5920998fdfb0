-- The loop of `judge`.
use Rattle.wkt_read.specs.Passes.{Judging}
use Rattle.wkt_read.proofs.judge.Given as goal

abbrev pub invariant-loop-place : goal.invariant-loop-place
invariant-loop-place l = Judging l.text l.reader l.tally l.place
