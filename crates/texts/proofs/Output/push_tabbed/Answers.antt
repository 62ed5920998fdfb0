-- What the check leaves of `push_tabbed`.
use Rattle.std.proofs.Common.{◌≡◌, ◌∷◌, ◌≤◌, ℤ, pos, length, take, get_or, sym, ap, ◌∙◌, subst, rules, arith, length-take-le, take_all}
use Rattle.std.proofs.lemmas.Int.{to_z-of_z}
use mir.Syntax.{w32, w64}
use mir.Val.{SFits, to_z, of_z}
use Rattle.paper.specs.Lines.{tab, decimal, tabbed}
use Rattle.texts.specs.Written.{Wrote, wrote_none, wrote_length, wrote_join}
use Rattle.texts.specs.Printed.{no_fields, fields_next, fields_end, field_le, take_least}
use Rattle.texts.proofs.Output.push_tabbed.Goals as goal

pub loop-number-init : goal.loop-number-init
loop-number-init c =
    let o = c.args.self.now in
    record { most = omega arith; fields = subst (λ t. Wrote t o o) (sym no_fields) (wrote_none (omega arith)) }

-- a number as it was read and widened
read : (z r : ℤ) → r ≡ to_z w32 (of_z w32 z) → SFits w32 z → SFits w64 r → to_z w64 (of_z w64 r) ≡ z
read z r e f g = to_z-of_z w64 r g ∙ e ∙ to_z-of_z w32 z f

short : (z r : ℤ) → to_z w64 (of_z w64 r) ≡ z → SFits w64 r → length (tab ∷ decimal z) ≤ 21
short z r e g = subst (λ x. length (tab ∷ decimal x) ≤ 21) (sym (to_z-of_z w64 r g) ∙ e) (field_le r g.sfits)

pub push_field-requires : goal.push_field-requires
push_field-requires c =
    let l = c.loop-number in
    let z = get_or (take c.min-n.result c.args.numbers.now) l.number-index (pos 0) in
    let e = read z c.from.result c.from.ensures (search rules) (search rules) in
    let s = short z c.from.result e (search rules) in
    rw e (omega (arith, l.invariant, s, wrote_length l.invariant.fields, length-take-le c.min-n.result c.args.numbers.now (omega arith)))

pub loop-number-preserved : goal.loop-number-preserved
loop-number-preserved c =
    let l = c.loop-number in
    let z = get_or (take c.min-n.result c.args.numbers.now) l.number-index (pos 0) in
    let e = read z c.from.result c.from.ensures (search rules) (search rules) in
    let s = short z c.from.result e (search rules) in
    let w = rw e at c.push_field.ensures in
    record {
      most = omega (arith, l.invariant, w.ends, s);
      fields = subst (λ t. Wrote t c.args.self.now c.push_field.new.self) (sym (fields_next (take c.min-n.result c.args.numbers.now) l.number-index c.loop-number-test.true)) (wrote_join l.invariant.fields w);
    }

pub push-requires : goal.push-requires
push-requires c =
    let l = c.loop-number in
    omega (arith, l.invariant, wrote_length l.invariant.fields, length-take-le c.min-n.result c.args.numbers.now (omega arith))

pub returns : goal.returns
returns c =
    let a = c.args in
    let l = c.loop-number in
    let xs = take c.min-n.result a.numbers.now in
    let e = take_all l.number-index xs c.loop-number-test.false ∙ ap (λ n. take n a.numbers.now) c.min-n.ensures ∙ take_least a.count a.numbers.now in
    subst (λ t. Wrote t a.self.now c.push.new.self) (fields_end (take l.number-index xs) ∙ ap tabbed e) (wrote_join l.invariant.fields c.push.ensures)
