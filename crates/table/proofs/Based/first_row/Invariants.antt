-- The loop of `first_row`.
use Rattle.std.specs.Prelude.{◌≡◌, false, ℕ, ◌<◌}
use Rattle.table.specs.Cells.{row_outside}
use Rattle.table.proofs.Based.first_row.Given as goal

abbrev pub invariant-loop-i : goal.invariant-loop-i
invariant-loop-i l = (k : ℕ) → k < l.i → row_outside l.self.len l.self.descriptor k ≡ false
