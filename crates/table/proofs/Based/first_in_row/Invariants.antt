-- The loop of `first_in_row`.
use Rattle.std.specs.Prelude.{◌≡◌, false, ℕ, ◌<◌}
use Rattle.paper.specs.Descriptor.{outside, cell_of}
use Rattle.table.proofs.Based.first_in_row.Given as goal

abbrev pub invariant-loop-j : goal.invariant-loop-j
invariant-loop-j l = (k : ℕ) → k < l.j → outside l.self.len (cell_of l.self.descriptor l.i k) ≡ false
