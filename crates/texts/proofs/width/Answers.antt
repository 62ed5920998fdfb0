-- What the check leaves of `width`.
use native.Mathlib.Omega.{arith}
use Rattle.texts.specs.Digits.{count_one, count_more, count_le}
use Rattle.texts.proofs.width.Goals as goal

pub overflow_add-k : goal.overflow_add-k
overflow_add-k c =
    let n = c.args.n in
    let fits = c.ranges.n in
    omega (arith, count_le 19 n (omega arith), count_more c.loop-v.v c.loop-v-test.true)

pub loop-v-preserved : goal.loop-v-preserved
loop-v-preserved c = (omega arith, omega (arith, count_more c.loop-v.v c.loop-v-test.true))

pub returns : goal.returns
returns c = omega (arith, count_one c.loop-v.v c.loop-v-test.false)
