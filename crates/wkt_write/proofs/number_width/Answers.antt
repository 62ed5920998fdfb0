-- What the check leaves of `number_width`.
use Rattle.std.proofs.Common.{◌≡◌, ◌+◌, length, rules, w64, arith}
use Rattle.std.proofs.lemmas.Int.{to_z-of_z}
use Rattle.paper.specs.Lines.{decimal}
use Rattle.texts.specs.Digits.{count_le}
use Rattle.texts.specs.Signs.{decimal_below, decimal_above}
use Rattle.wkt_write.proofs.number_width.Goals as goal

pub overflow_add-result : goal.overflow_add-result
overflow_add-result c = omega (arith, c.width-digits.ensures, count_le 19 c.unsigned_abs.result (search rules))

pub returns-then-z-lt0 : goal.returns-then-z-lt0
returns-then-z-lt0 c =
    let f = to_z-of_z w64 c.args.z c.ranges.z in
    let e = decimal_below c.args.z (rw f at c.if-z-lt0.true) in
    let n = rw f at c.unsigned_abs.ensures.value in
    let q : c.width-digits.result + 1 ≡ length (decimal c.args.z) = rw (e, ← n) (omega (arith, c.width-digits.ensures)) in
    let l = count_le 19 c.unsigned_abs.result (search rules) in
    (q, omega (arith, c.width-digits.ensures, l))

pub returns-else-z-lt0 : goal.returns-else-z-lt0
returns-else-z-lt0 c =
    let f = to_z-of_z w64 c.args.z c.ranges.z in
    let e = decimal_above c.args.z (rw f at c.if-z-lt0.false) in
    let n = rw f at c.unsigned_abs.ensures.value in
    let q : c.width-digits.result ≡ length (decimal c.args.z) = rw (e, ← n) c.width-digits.ensures in
    let l = count_le 19 c.unsigned_abs.result (search rules) in
    (q, omega (arith, c.width-digits.ensures, l))
