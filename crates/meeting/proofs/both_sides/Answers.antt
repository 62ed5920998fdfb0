-- What the check leaves of `both_sides`.
use Rattle.std.specs.Prelude.{◌≡◌, Bool, ◌&&◌, ◌||◌, ℕ, pos}
use Rattle.std.specs.Int.{w64}
use Rattle.std.specs.Int.Signed.{le_z}
use Rattle.std.proofs.Common.{sym, ap, ap₂, ◌∙◌, arith}
use Rattle.std.proofs.lemmas.Int.{to_z-of_z}
use Rattle.lists.specs.Choosing.{any_zero, any_next}
use Rattle.paper.specs.Corners.{weight}
use Rattle.meeting.specs.Bounds.{R, clean}
use Rattle.meeting.specs.Sides.{weight_at, both_sides}
use Rattle.meeting.proofs.both_sides.Goals as goal

pub loop-corner-init : goal.loop-corner-init
loop-corner-init c = (sym (any_zero _), sym (any_zero _))

pub loop-corner-preserved : goal.loop-corner-preserved
loop-corner-preserved c =
    let a = c.args in
    let k = c.loop-corner.corner-index in
    let inv = c.loop-corner.invariant in
    let w : R c.weight-side.result ≡ weight_at a.segment a.corners k =
    to_z-of_z w64 c.weight-side.result (record { sfits = c.weight-side.type_inv }) ∙ c.weight-side.ensures ∙ ap₂ (weight a.segment) (clean (c.requires.1.x k)) (clean (c.requires.1.y k)) in
    let up : ℕ → Bool = λ i. le_z (pos 0) (weight_at a.segment a.corners i) in
    let down : ℕ → Bool = λ i. le_z (weight_at a.segment a.corners i) (pos 0) in (
      ap₂ (λ x y. x || y) inv.0 (ap (λ z. le_z (pos 0) z) w) ∙ sym (any_next up k),
      ap₂ (λ x y. x || y) inv.1 (ap (λ z. le_z z (pos 0)) w) ∙ sym (any_next down k),
    )

pub returns : goal.returns
returns c =
    let a = c.args in
    let inv = c.loop-corner.invariant in
    let e : c.loop-corner.corner-index ≡ 4 = omega arith in
    ap₂ (λ x y. x && y) inv.0 inv.1 ∙ ap (both_sides a.segment a.corners) e
