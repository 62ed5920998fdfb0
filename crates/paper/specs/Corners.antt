-- A test of meeting: the boxes overlap on both axes, and the window's four corners, weighed against the segment's line, are not all on one side
-- (document 01, "Meeting": "the scan weighs the window's four corners"). It is no part of the meaning: Meeting is. That it decides Meeting where
-- a ≤ b and c ≤ d is proved elsewhere; here it lets antt compute a scan.
use Rattle.std.specs.Prelude.{Bool, ◌&&◌, ◌||◌, List, [], ◌∷◌, ℤ, pos, ◌-ℤ◌, ◌*ℤ◌}
use Rattle.std.specs.Int.Signed.{le_z}
use Rattle.lists.specs.Plain.{any}
use Rattle.paper.specs.declared.Segment.{Segment}
use Rattle.paper.specs.declared.Window.{Window}

abbrev pub overlaps : (lo hi u1 u2 : ℤ) → Bool
overlaps lo hi u1 u2 = (le_z lo u1 || le_z lo u2) && (le_z u1 hi || le_z u2 hi)

abbrev pub weight : Segment → (x y : ℤ) → ℤ
weight s x y = (s.x2 -ℤ s.x1) *ℤ (y -ℤ s.y1) -ℤ (s.y2 -ℤ s.y1) *ℤ (x -ℤ s.x1)

-- low-left, low-right, high-left, high-right
abbrev pub weights : Window → Segment → List ℤ
weights w s = weight s w.a w.c ∷ weight s w.b w.c ∷ weight s w.a w.d ∷ weight s w.b w.d ∷ []

abbrev pub weighed : Window → Segment → Bool
weighed w s =
    overlaps w.a w.b s.x1 s.x2 && (overlaps w.c w.d s.y1 s.y2
    && (any (λ z. le_z (pos 0) z) (weights w s) && any (λ z. le_z z (pos 0)) (weights w s)))
