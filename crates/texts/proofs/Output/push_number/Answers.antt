-- What the check leaves of `push_number`.
use Rattle.std.proofs.Common.{◌≡◌, ◌∷◌, ℕ, ℤ, pos, true, false, length, sym, ap, ◌∙◌, arith}
use Rattle.std.proofs.Math.IntN.{nat_abs}
use Rattle.std.proofs.lemmas.Int.{to_z-of_z}
use Rattle.std.specs.Int.Signed.{lt_z}
use mir.Syntax.{w64}
use mir.Val.{SFits, to_z, of_z}
use Rattle.paper.specs.Lines.{minus, decimal}
use Rattle.texts.specs.Digits.{digits_of}
use Rattle.texts.specs.Signs.{decimal_below, decimal_above}
use Rattle.texts.specs.Written.{wrote_length, wrote_join}
use Rattle.texts.proofs.Output.push_number.Goals as goal
use Rattle.texts.proofs.Output.push_number.Goals.{then-z-lt0, else-z-lt0}

-- a number's text, by its size as the code has it
module _ (z : ℤ) (f : SFits w64 z) {size : ℕ} (s : size ≡ nat_abs (to_z w64 (of_z w64 z))) where
  size_is : nat_abs z ≡ size
  size_is = sym (s ∙ ap nat_abs (to_z-of_z w64 z f))

  below : lt_z (to_z w64 (of_z w64 z)) (pos 0) ≡ true → decimal z ≡ minus ∷ digits_of size
  below t = let e = to_z-of_z w64 z f in decimal_below z (rw e at t) ∙ ap (λ n. minus ∷ digits_of n) size_is

  above : lt_z (to_z w64 (of_z w64 z)) (pos 0) ≡ false → decimal z ≡ digits_of size
  above t = let e = to_z-of_z w64 z f in decimal_above z (rw e at t) ∙ ap digits_of size_is

pub push_digits-requires : goal.push_digits-requires
push_digits-requires c =
    let s = c.unsigned_abs-size.ensures.value in
    elim c.if-z-lt0.branch [
      | then-z-lt0 w ↦ rw w.self-is (omega (arith, ap length (below c.args.z c.ranges.z s w.if-z-lt0.true), wrote_length w.push.ensures))
      | else-z-lt0 w ↦ rw w.self-is (omega (arith, ap length (above c.args.z c.ranges.z s w.if-z-lt0.false)))
    ]

pub returns : goal.returns
returns c =
    let s = c.unsigned_abs-size.ensures.value in
    elim c.if-z-lt0.branch [
      | then-z-lt0 w ↦ rw (below c.args.z c.ranges.z s w.if-z-lt0.true) (wrote_join w.push.ensures (rw w.self-is at c.push_digits.ensures))
      | else-z-lt0 w ↦ rw (above c.args.z c.ranges.z s w.if-z-lt0.false) (rw w.self-is at c.push_digits.ensures)
    ]
