-- What the check leaves of `by_letter`.
use Rattle.std.proofs.Common.{rules, pos, get_or, sym, ap, ◌∙◌}
use Rattle.std.proofs.lemmas.Int.{to_z-of_z}
use mir.Syntax.{w64}
use Rattle.paper.specs.Lines.{form_of}
use Rattle.fields.specs.Forms.{numbers_from, form_S, form_W}
use Rattle.fields.proofs.by_letter.Goals as goal

pub returns-in_ok-x1-in-83 : goal.returns-in_ok-x1-in-83
returns-in_ok-x1-in-83 c =
    let zs = c.in_ok-x1-in-83.field-0 in
    let n = numbers_from c.args.f.now 2 in
    let e₀ = to_z-of_z w64 (get_or zs 0 (pos 0)) (search rules) in
    let e₁ = to_z-of_z w64 (get_or zs 1 (pos 0)) (search rules) in
    let e₂ = to_z-of_z w64 (get_or zs 2 (pos 0)) (search rules) in
    let e₃ = to_z-of_z w64 (get_or zs 3 (pos 0)) (search rules) in
    rw (e₀, e₁, e₂, e₃) (form_S n zs c.in_ok-x1-in-83.ensures ∙ ap (λ b. form_of b n) (sym c.in-83.is))

pub returns-in_ok-a-in-87 : goal.returns-in_ok-a-in-87
returns-in_ok-a-in-87 c =
    let zs = c.in_ok-a-in-87.field-0 in
    let n = numbers_from c.args.f.now 2 in
    let e₀ = to_z-of_z w64 (get_or zs 0 (pos 0)) (search rules) in
    let e₁ = to_z-of_z w64 (get_or zs 1 (pos 0)) (search rules) in
    let e₂ = to_z-of_z w64 (get_or zs 2 (pos 0)) (search rules) in
    let e₃ = to_z-of_z w64 (get_or zs 3 (pos 0)) (search rules) in
    rw (e₀, e₁, e₂, e₃) (form_W n zs c.in_ok-a-in-87.ensures ∙ ap (λ b. form_of b n) (sym c.in-87.is))
