-- What the check leaves of `weight`.
use mir.Syntax.{w64}
use Rattle.whole.specs.Whole.{Ex, ◌⊖◌, ◌⊗◌}
use Rattle.whole.specs.Fits.{asks, plain}
use lib.IntN.{ℤ}
use Rattle.paper.specs.declared.Segment.{Segment}
use Rattle.meeting.specs.Bounds.{small, Near, Small}
use Rattle.meeting.proofs.weight.Goals as goal

-- the four differences and the two products, as terms whose bounds are known
module _ {s : Segment} {x y : ℤ} (near : Near s × Small x × Small y) where
  abbrev right : Ex
  right = small near.0.x2 ⊖ small near.0.x1

  abbrev high : Ex
  high = small near.2 ⊖ small near.0.y1

  abbrev rise : Ex
  rise = small near.0.y2 ⊖ small near.0.y1

  abbrev wide : Ex
  wide = small near.1 ⊖ small near.0.x1

pub overflow_mul-result : goal.overflow_mul-result
overflow_mul-result c = let s = c.requires in asks w64 (right s ⊗ high s) tt

pub overflow_mul-result-2 : goal.overflow_mul-result-2
overflow_mul-result-2 c = let s = c.requires in asks w64 (rise s ⊗ wide s) tt

pub overflow_sub-result-5 : goal.overflow_sub-result-5
overflow_sub-result-5 c = let s = c.requires in asks w64 (right s ⊗ high s ⊖ rise s ⊗ wide s) tt

pub returns : goal.returns
returns c = let s = c.requires in plain w64 (right s ⊗ high s ⊖ rise s ⊗ wide s) tt
