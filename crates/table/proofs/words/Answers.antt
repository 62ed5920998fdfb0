-- What the check leaves of `words`.
use mathlib.Core.Path.{ap}
use Prim.Native.Nat.{◌+◌, ◌-◌, ◌*◌, ◌≤◌}
use native.Mathlib.Omega.{arith}
use native.Mathlib.Nat.{mul-le-mul}
use Rattle.lists.specs.Digits.{digits_least}
use Rattle.table.proofs.words.Goals as goal

few : (c : goal.After-digits-levels) → c.digits-levels.result ≤ 12
few c = let s = c in rw c.digits-levels.ensures (digits_least (s.args.n - 1) 12 (omega (arith, s.requires)))

most : (c : goal.After-digits-levels) → c.args.n * (c.digits-levels.result + 1) ≤ 4096 * 13
most c = let l : c.digits-levels.result + 1 ≤ 13 = omega (arith, few c) in mul-le-mul c.requires l

pub overflow_add-levels : goal.overflow_add-levels
overflow_add-levels c = omega (arith, few c)

pub overflow_mul-result-3 : goal.overflow_mul-result-3
overflow_mul-result-3 c = omega (arith, most c)

pub overflow_add-result-2 : goal.overflow_add-result-2
overflow_add-result-2 c = omega (arith, most c)

pub overflow_add-result-3 : goal.overflow_add-result-3
overflow_add-result-3 c = omega (arith, most c)

pub returns : goal.returns
returns c = (ap (λ l. 4 + 4 * c.args.n + 2 * c.args.n * (l + 1) + 8 * c.args.n) c.digits-levels.ensures, omega (arith, most c))
