-- The loop of `lines_width`.
use Rattle.std.proofs.Common.{◌≡◌, ◌*◌, ◌≤◌}
use Rattle.wkt_write.specs.Spelling.{lines_length, firsts}
use Rattle.wkt_write.proofs.lines_width.Given as goal

abbrev pub invariant-loop-i : goal.invariant-loop-i
invariant-loop-i l = (l.sum ≤ 92 * l.i) × (l.sum ≡ lines_length (firsts l.table.descriptor l.table.cells.now l.i))
