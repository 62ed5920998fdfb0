-- The loop of `both_sides`.
use Rattle.std.specs.Prelude.{◌≡◌, pos}
use Rattle.std.specs.Int.Signed.{le_z}
use Rattle.lists.specs.Plain.{any, positions}
use Rattle.meeting.specs.Sides.{weight_at}
use Rattle.meeting.proofs.both_sides.Given as goal

abbrev pub invariant-loop-corner : goal.invariant-loop-corner
invariant-loop-corner l =
    (l.above ≡ any (λ i. le_z (pos 0) (weight_at l.segment l.corner-items i)) (positions l.corner-index))
    × (l.below ≡ any (λ i. le_z (weight_at l.segment l.corner-items i) (pos 0)) (positions l.corner-index))
