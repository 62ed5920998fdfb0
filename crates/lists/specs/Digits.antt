-- The count of binary digits (Plain's `digits`): n < 2 ^ digits n, and no smaller power will do; digits of a half.
-- Use: `digits_bound`, `digits_least` for depths and bounds; `digits_step` for a loop that halves until 0 is left. Assumes nothing.
use Rattle.std.specs.Prelude.{◌≡◌, refl, ℕ, zero, suc, ◌/◌, ◌^◌, ◌≤◌, ◌<◌}
use Rattle.std.proofs.Common.{ap, arith}
use Rattle.std.proofs.Math.Nat.{two-pow-succ}
use Rattle.lists.specs.Plain.{digits_to, digits}

-- any bound that is at least the number gives the same
digits_enough : (f g n : ℕ) → n ≤ f → n ≤ g → digits_to f n ≡ digits_to g n
unfolding digits_to
digits_enough zero zero n h k = refl
digits_enough zero (suc g) zero h k = refl
digits_enough zero (suc g) (suc n) h k = absurd (omega arith)
digits_enough (suc f) zero zero h k = refl
digits_enough (suc f) zero (suc n) h k = absurd (omega arith)
digits_enough (suc f) (suc g) zero h k = refl
digits_enough (suc f) (suc g) (suc n) h k = ap suc (digits_enough f g (suc n / 2) (omega arith) (omega arith))

-- one digit more than the half has
pub digits_step : (n : ℕ) → 0 < n → digits n ≡ suc (digits (n / 2))
unfolding digits_to
digits_step zero h = absurd (omega arith)
digits_step (suc n) h = ap suc (digits_enough n (suc n / 2) (suc n / 2) (omega arith) (omega arith))

pub digits_zero : digits 0 ≡ 0
unfolding digits_to
digits_zero = refl

bound_to : (d n : ℕ) → n ≤ d → n < 2 ^ digits_to d n
unfolding digits_to
bound_to zero zero h = omega arith
bound_to zero (suc n) h = omega arith
bound_to (suc d) zero h = omega arith
bound_to (suc d) (suc n) h = omega (arith, bound_to d (suc n / 2) (omega arith), two-pow-succ (digits_to d (suc n / 2)))

least_to : (d n h : ℕ) → n < 2 ^ h → digits_to d n ≤ h
unfolding digits_to
least_to zero n h e = omega arith
least_to (suc d) zero h e = omega arith
least_to (suc d) (suc n) zero e = omega arith
least_to (suc d) (suc n) (suc h) e = omega (arith, least_to d (suc n / 2) h (omega (arith, two-pow-succ h)))

-- n has at most h digits exactly when it is below 2 ^ h
pub digits_bound : (n : ℕ) → n < 2 ^ digits n
digits_bound n = bound_to n n (omega arith)

pub digits_least : (n h : ℕ) → n < 2 ^ h → digits n ≤ h
digits_least n h e = least_to n n h e

-- more has no fewer digits
pub digits_mono : (m n : ℕ) → m ≤ n → digits m ≤ digits n
digits_mono m n h = digits_least m (digits n) (omega (arith, digits_bound n))
