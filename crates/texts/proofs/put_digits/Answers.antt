-- What the check leaves of `put_digits`.
use Rattle.std.proofs.Common.{◌≡◌, ◌++◌, ◌-◌, suc, length, drop, sym, ap, ◌∙◌, subst, arith, drop_of_length-le, append-nil, length-set}
use Rattle.texts.specs.Digits.{digits_of, due, due_all, due_places, due_next}
use Rattle.texts.proofs.put_digits.Goals as goal

pub loop-i-init : goal.loop-i-init
loop-i-init c =
    let a = c.args in
    let e = due_all (length a.bytes.now) a.n c.requires in
    record {
      within = omega arith;
      places = ap length e ∙ sym c.requires;
      digits = ap (λ l. due (length a.bytes.now) a.n ++ l) (drop_of_length-le a.bytes.now (omega arith)) ∙ append-nil (due (length a.bytes.now) a.n) ∙ e;
    }

pub loop-i-preserved : goal.loop-i-preserved
loop-i-preserved c =
    let l = c.loop-i in
    let e : l.i ≡ suc (l.i - 1) = omega arith in
    let p = subst (λ i. length (due i l.v) ≡ i) e l.invariant.places in
    record {
      within = omega (arith, length-set l.bytes (l.i - 1) c.digit.result);
      places = due_places (l.i - 1) l.v p;
      digits = due_next (l.i - 1) l.v c.digit.result l.bytes (omega arith) p c.digit.ensures ∙ subst (λ i. due i l.v ++ drop i l.bytes ≡ digits_of c.args.n) e l.invariant.digits;
    }

pub returns : goal.returns
returns c =
    let l = c.loop-i in
    let e : l.i ≡ 0 = omega arith in
    subst (λ i. due i l.v ++ drop i l.bytes ≡ digits_of c.args.n) e l.invariant.digits
