-- The loop of `push_further`.
use Rattle.std.proofs.Common.{drop}
use Rattle.paper.specs.Descriptor.{segments_of}
use Rattle.paper.specs.Wkt.{further_text}
use Rattle.wkt_write.specs.Todo.{Due}
use Rattle.wkt_write.proofs.push_further.Given as goal

abbrev pub invariant-loop-i : goal.invariant-loop-i
invariant-loop-i l =
    let segments = segments_of l.table.descriptor l.table.cells.now in
    Due (further_text (drop 1 segments)) (further_text (drop l.i segments)) l.initial.output l.output
