-- The loop of `first_fault`: so far, for every test that the fault's answers are.
use Rattle.std.specs.Prelude.{◌≡◌, Bool, false, ℕ, ◌<◌}
use Rattle.paper.specs.Descriptor.{segment_of}
use Rattle.table.specs.Cells.{Tells}
use Rattle.table.proofs.Table.first_fault.Given as goal

abbrev pub invariant-loop-i : goal.invariant-loop-i
invariant-loop-i g l =
    (q : _ → Bool) → Tells (goal.F-post g l.fault) l.self.descriptor l.self.cells.now q
    → (k : ℕ) → k < l.i → q (segment_of l.self.descriptor l.self.cells.now k) ≡ false
