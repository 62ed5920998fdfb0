-- What the check leaves of `first_outside`.
use Rattle.std.specs.Prelude.{Some, None}
use Rattle.std.specs.Int.{w64}
use Rattle.std.proofs.Common.{sym, ◌∙◌, arith}
use Rattle.std.proofs.lemmas.Int.{to_z-of_z}
use Rattle.lists.specs.Tests.{clash}
use Rattle.lists.specs.Choosing.{any_none}
use Rattle.table.specs.Rows.{first_cell, base_outside}
use Rattle.table.proofs.first_outside.Goals as goal

pub returns-then-n-eq0-clause-answer : goal.returns-then-n-eq0-clause-answer
returns-then-n-eq0-clause-answer c = let a = c.args in first_cell a.len a.descriptor _ None c.count-n.ensures.0 (λ i h. absurd (omega (arith, h)))

pub returns-then-bad_base-clause-answer : goal.returns-then-bad_base-clause-answer
returns-then-bad_base-clause-answer c =
    let a = c.args in
    let e = rw (to_z-of_z w64 a.len c.ranges.len) at (sym c.bad_base.ensures ∙ c.if-bad_base.true) in
    first_cell a.len a.descriptor _ (Some (record { position = 0; coordinate = 0 })) c.count-n.ensures.0 (base_outside a.len a.descriptor c.count-n.result (omega arith) e)

pub returns-in_err-position-clause-answer : goal.returns-in_err-position-clause-answer
returns-in_err-position-clause-answer c =
    let a = c.args in
    rw c.from_residual.ensures (first_cell a.len a.descriptor _ None c.count-n.ensures.0 (rw (to_z-of_z w64 a.len c.ranges.len) at c.in_err-position.ensures))

-- in a row that has a cell outside the table one is found
pub returns-in_err-coordinate-clause-answer : goal.returns-in_err-coordinate-clause-answer
returns-in_err-coordinate-clause-answer c = clash (sym c.in_ok-position.ensures.2 ∙ any_none _ 4 c.in_err-coordinate.ensures)

pub returns-clause-answer : goal.returns-clause-answer
returns-clause-answer c =
    let a = c.args in
    let e = to_z-of_z w64 a.len c.ranges.len in
    let p = rw e at c.in_ok-position.ensures in
    let q = rw e at c.in_ok-coordinate.ensures in
    let placed = first_cell a.len a.descriptor _ (Some (record { position = c.in_ok-position.position; coordinate = c.in_ok-coordinate.coordinate })) c.count-n.ensures.0 (p.0, p.1, q.0, q.1, q.2) in
    grind (arith, placed)
