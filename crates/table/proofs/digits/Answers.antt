-- What the check leaves of `digits`.
use Rattle.std.specs.Prelude.{◌≡◌, ℕ, zero, suc, ◌+◌, ◌-◌, ◌*◌, ◌^◌, ◌<◌, ◌≤◌}
use Rattle.std.specs.Int.Count.{leading_unique}
use Rattle.std.proofs.Common.{refl, arith}
use Rattle.std.proofs.Math.Decide.{dec_lt}
use Rattle.std.proofs.Math.Nat.{two-pow-succ}
use Rattle.lists.specs.Plain.{digits}
use Rattle.lists.specs.Digits.{digits_bound, digits_least}
use Rattle.table.proofs.digits.Goals as goal

-- a number is not below half the power that its digits reach
reached : (n : ℕ) → 2 ^ digits n ≤ 2 * n + 1
reached n = go (digits n) refl
  where
    go : (l : ℕ) → digits n ≡ l → 2 ^ l ≤ 2 * n + 1
    go zero e = omega arith
    go (suc k) e = half (dec_lt n (2 ^ k))
      where
        half : Dec (n < 2 ^ k) → 2 ^ suc k ≤ 2 * n + 1
        half (yes h) = absurd (omega (arith, e, digits_least n k h))
        half (no h) = omega (arith, two-pow-succ k, h)

pub returns : goal.returns
returns c =
    let n = c.args.n in
    let most = digits_least n 64 (omega arith) in
    omega (arith, most, leading_unique 64 n (64 - digits n) (digits n) (omega (arith, most)) (digits_bound n) (reached n))
