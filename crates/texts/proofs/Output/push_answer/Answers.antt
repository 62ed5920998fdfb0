-- What the check leaves of `push_answer`.
use Rattle.std.proofs.Common.{◌∷◌, ◌≤◌, ℤ, rules, arith, ap, length, take, ◌∙◌, subst}
use Rattle.std.proofs.lemmas.Int.{to_z-of_z}
use mir.Syntax.{w64}
use mir.Val.{SFits, to_z, of_z}
use Rattle.lists.specs.Plain.{to_nat}
use Rattle.paper.specs.Lines.{tab, decimal, tabbed}
use Rattle.texts.specs.Written.{Wrote, wrote_length}
use Rattle.texts.specs.Printed.{field_le, wrote_answer}
use Rattle.texts.proofs.Output.push_answer.Goals as goal

-- a field of the reply, as the code holds it
short : (z : ℤ) → SFits w64 z → length (tab ∷ decimal (to_z w64 (of_z w64 z))) ≤ 21
short z f = let e = to_z-of_z w64 z f in rw e (field_le z f.sfits)

pub push_field-requires : goal.push_field-requires
push_field-requires c =
    let r = c.args.reply in
    omega (arith, wrote_length c.push.ensures, short r.count (search rules), short r.visits (search rules))

pub push_field-requires-2 : goal.push_field-requires-2
push_field-requires-2 c =
    let r = c.args.reply in
    omega (arith, wrote_length c.push.ensures, wrote_length c.push_field.ensures, short r.count (search rules), short r.visits (search rules))

pub push_tabbed-requires : goal.push_tabbed-requires
push_tabbed-requires c =
    let r = c.args.reply in
    omega (arith, wrote_length c.push.ensures, wrote_length c.push_field.ensures, wrote_length c.push_field-2.ensures, short r.count (search rules), short r.visits (search rules))

pub returns : goal.returns
returns c =
    let r = c.args.reply in
    let e = to_z-of_z w64 r.count (search rules) in
    let d = to_z-of_z w64 r.visits (search rules) in
    let n = c.size-count.ensures ∙ ap to_nat e in
    wrote_answer (r, c.args.numbers.now) c.push.ensures
    (subst (λ z. Wrote (tab ∷ decimal z) c.push.new.self c.push_field.new.self) e c.push_field.ensures)
    (subst (λ z. Wrote (tab ∷ decimal z) c.push_field.new.self c.push_field-2.new.self) d c.push_field-2.ensures)
    (subst (λ n. Wrote (tabbed (take n c.args.numbers.now)) c.push_field-2.new.self c.push_tabbed.new.self) n c.push_tabbed.ensures)
