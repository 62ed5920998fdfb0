-- What the check leaves of `step`.
use Rattle.std.proofs.Common.{sym, subst, arith, Ok}
use Rattle.fields.specs.Forms.{shown_line}
use Rattle.lines.specs.declared.State.TheVariants.{Filling}
use Rattle.lines.specs.States.{Stepped}
use Rattle.lines.specs.Steps.{opened_step}
use Rattle.lines.proofs.State.step.Goals as goal

pub returns-in_ok-table-in-Start-clause-stepped : goal.returns-in_ok-table-in-Start-clause-stepped
returns-in_ok-table-in-Start-clause-stepped c =
    let a = c.args in
    let d = a.desk.now in
    subst (λ x. Stepped x (shown_line a.line) d.cells.now a.out.now (Ok (Filling c.in_ok-table-in-Start.table)) d.cells.now d.index.now a.out.now) (sym c.in-Start.is)
    (opened_step d.cells.now d.index.now a.out.now (shown_line a.line) (Ok c.in_ok-table-in-Start.table) (omega (arith, c.requires.0)) c.in_ok-table-in-Start.ensures)
