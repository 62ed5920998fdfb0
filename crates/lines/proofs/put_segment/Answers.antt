-- What the check leaves of `put_segment`.
use Rattle.std.proofs.Common.{◌≡◌, ℤ, ◌∙◌, rules}
use Rattle.std.proofs.lemmas.Int.{to_z-of_z}
use mir.Syntax.{w32, w64}
use mir.Val.{SFits, to_z, of_z}
use Rattle.lines.specs.Filling.{put_four}
use Rattle.lines.proofs.put_segment.Goals as goal

-- what a cell holds after a coordinate was narrowed
stored : (r z : ℤ) → r ≡ to_z w64 (of_z w64 z) → SFits w32 r → SFits w64 z → to_z w32 (of_z w32 r) ≡ z
stored r z e f g = to_z-of_z w32 r f ∙ e ∙ to_z-of_z w64 z g

pub returns : goal.returns
returns c =
    let x = c.args.s in
    let v₁ = stored c.narrow.result x.x1 c.narrow.ensures.value c.narrow.ensures.fits (search rules) in
    let v₂ = stored c.narrow-2.result x.y1 c.narrow-2.ensures.value c.narrow-2.ensures.fits (search rules) in
    let v₃ = stored c.narrow-3.result x.x2 c.narrow-3.ensures.value c.narrow-3.ensures.fits (search rules) in
    let v₄ = stored c.narrow-4.result x.y2 c.narrow-4.ensures.value c.narrow-4.ensures.fits (search rules) in
    rw (v₁, v₂, v₃, v₄) (put_four c.args.at x.x1 x.y1 x.x2 x.y2 c.args.cells.now c.requires.0)
