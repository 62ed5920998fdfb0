-- The loop of `fill`.
use Rattle.wkt_read.specs.Passes.{Filling}
use Rattle.wkt_read.proofs.fill.Given as goal

abbrev pub invariant-loop-b : goal.invariant-loop-b
invariant-loop-b l = Filling l.text l.initial.cells l.reader l.count l.b-index l.cells
