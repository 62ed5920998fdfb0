-- The corners weighed one after another, and the whole test: the box, then the sides.
use Rattle.std.specs.Prelude.{◌≡◌, refl, Bool, true, false, ◌&&◌, List, [], ◌↔◌, ℕ, ℤ, pos, get_or}
use Rattle.std.proofs.Common.{sym, ◌∙◌}
use Rattle.std.specs.Int.Signed.{le_z}
use Rattle.lists.specs.Plain.{any, positions}
use Rattle.lists.specs.Tests.{clash}
use Rattle.paper.specs.Meeting.{Meets}
use Rattle.paper.specs.Corners.{overlaps, weight, weights, weighed}
use Rattle.paper.specs.declared.Segment.{Segment}
use Rattle.paper.specs.declared.Window.{Window}
use Rattle.meeting.specs.Bounds.{Framed, corners}
use Rattle.meeting.specs.Decides.{decides}

-- the weight of point k
abbrev pub weight_at : Segment → List (List ℤ) → ℕ → ℤ
weight_at s points k = weight s (get_or (get_or points k []) 0 (pos 0)) (get_or (get_or points k []) 1 (pos 0))

-- the first n points are not all strictly on one side
abbrev pub both_sides : Segment → List (List ℤ) → ℕ → Bool
both_sides s points n = any (λ k. le_z (pos 0) (weight_at s points k)) (positions n) && any (λ k. le_z (weight_at s points k) (pos 0)) (positions n)

sides_are : (w : Window) (s : Segment) → both_sides s (corners w.a w.b w.c w.d) 4 ≡ (any (λ z. le_z (pos 0) z) (weights w s) && any (λ z. le_z z (pos 0)) (weights w s))
unfolding any positions
sides_are w s = refl

-- ---- the whole test
box_taken : (p q s : Bool) → (p && q) ≡ true → s ≡ (p && (q && s))
box_taken true true s e = refl
box_taken true false s e = clash (sym e)
box_taken false q s e = clash (sym e)

box_left : (p q s : Bool) → (p && q) ≡ false → false ≡ (p && (q && s))
box_left true true s e = clash e
box_left true false s e = refl
box_left false q s e = refl

module _ (s : Segment) (w : Window) (frame : Framed w) where
  says : {r : Bool} → r ≡ weighed w s → (r ≡ weighed w s) × ((r ≡ true) ↔ Meets s w)
  says e = let k = decides w s frame.across frame.along in (e, (λ t. k.0 (sym e ∙ t), λ m. e ∙ k.1 m))

  abbrev box : Bool
  box = overlaps w.a w.b s.x1 s.x2 && overlaps w.c w.d s.y1 s.y2

  abbrev sides : Bool
  sides = any (λ z. le_z (pos 0) z) (weights w s) && any (λ z. le_z z (pos 0)) (weights w s)

  pub met_by : {r : Bool} → box ≡ true → r ≡ both_sides s (corners w.a w.b w.c w.d) 4 → (r ≡ weighed w s) × ((r ≡ true) ↔ Meets s w)
  met_by h e = says (e ∙ sides_are w s ∙ box_taken (overlaps w.a w.b s.x1 s.x2) (overlaps w.c w.d s.y1 s.y2) sides h)

  pub not_met : {r : Bool} → r ≡ box → r ≡ false → (r ≡ weighed w s) × ((r ≡ true) ↔ Meets s w)
  not_met e h = says (h ∙ box_left (overlaps w.a w.b s.x1 s.x2) (overlaps w.c w.d s.y1 s.y2) sides (sym e ∙ h))
