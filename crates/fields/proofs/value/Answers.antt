-- What the check leaves of `value`.
use Rattle.std.proofs.Common.{◌+◌, ◌*◌, drop, sym, ap, ◌∙◌, arith}
use Rattle.paper.specs.Lines.{value_from}
use Rattle.fields.specs.Numbers.{pow10_most, value_more, value_end, bound_more}
use Rattle.fields.proofs.value.Goals as goal

pub overflow_mul-v : goal.overflow_mul-v
overflow_mul-v c = let l = c.loop-b in omega (arith, l.invariant.small, pow10_most l.b-index (omega arith))

pub loop-b-preserved : goal.loop-b-preserved
loop-b-preserved c =
    let l = c.loop-b in
    let f = c.args.digits.now in
    let e = c.from.ensures ∙ c.saturating_sub.ensures in
    record {
      rest = ap (λ x. value_from (10 * l.v + x) (drop (l.b-index + 1) f)) e ∙ value_more f l.b-index l.v c.loop-b-test.true ∙ l.invariant.rest;
      small = bound_more l.b-index l.v c.from.result (omega (arith, e, c.type_inv.digits l.b-index)) l.invariant.small;
    }

pub returns : goal.returns
returns c =
    let l = c.loop-b in
    (sym (value_end c.args.digits.now l.b-index l.v c.loop-b-test.false) ∙ l.invariant.rest, omega (arith, l.invariant.small, pow10_most l.b-index (omega arith)))
