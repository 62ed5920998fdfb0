-- The loop of `any_fault`: so far, for every test that the fault's answers are.
use Rattle.std.specs.Prelude.{◌≡◌, Bool}
use Rattle.lists.specs.Plain.{any, positions}
use Rattle.paper.specs.Descriptor.{segment_of}
use Rattle.table.specs.Cells.{Tells}
use Rattle.table.proofs.Table.any_fault.Given as goal

abbrev pub invariant-loop-i : goal.invariant-loop-i
invariant-loop-i g l =
    (q : _ → Bool) → Tells (goal.F-post g l.fault) l.self.descriptor l.self.cells.now q
    → l.bad ≡ any (λ p. q (segment_of l.self.descriptor l.self.cells.now p)) (positions l.i)
