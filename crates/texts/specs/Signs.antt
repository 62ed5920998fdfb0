-- A number by its sign and its size.
use Rattle.std.specs.Prelude.{◌≡◌, refl, true, false, ◌∷◌, ℤ, pos, negsuc}
use Rattle.std.proofs.Math.IntN.{nat_abs}
use Rattle.std.specs.Int.Signed.{lt_z}
use Rattle.paper.specs.Lines.{minus, decimal}
use Rattle.whole.specs.Whole.{whole, is_lt}
use Rattle.texts.specs.Digits.{digits_of}

pub decimal_below : (z : ℤ) → lt_z z (pos 0) ≡ true → decimal z ≡ minus ∷ digits_of (nat_abs z)
decimal_below (pos n) t = absurd (omega (whole, is_lt (pos n) (pos 0) t))
decimal_below (negsuc n) t = refl

pub decimal_above : (z : ℤ) → lt_z z (pos 0) ≡ false → decimal z ≡ digits_of (nat_abs z)
decimal_above (pos n) t = refl
decimal_above (negsuc n) t = let e : true ≡ false = t in cc
