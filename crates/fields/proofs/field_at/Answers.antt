-- What the check leaves of `field_at`.
use Rattle.std.proofs.Common.{rules}
use Rattle.std.proofs.lemmas.Int.{to_z-of_z}
use mir.Syntax.{w64}
use Rattle.fields.specs.Forms.{no_field, no_number, a_number}
use Rattle.fields.proofs.field_at.Goals as goal

pub returns-then-f-a : goal.returns-then-f-a
returns-then-f-a c = no_field c.args.f.now c.if-f-a.true

pub returns-in_err-z : goal.returns-in_err-z
returns-in_err-z c = rw c.from_residual.ensures (no_number c.args.f.now c.if-f-a.false c.end_of-e.ensures c.in_err-z.ensures)

pub returns : goal.returns
returns c =
    let z = to_z-of_z w64 c.in_ok-z.z (search rules) in
    rw z (a_number c.args.f.now c.if-f-a.false c.end_of-e.ensures c.in_ok-z.ensures)
