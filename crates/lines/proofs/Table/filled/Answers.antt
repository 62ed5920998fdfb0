-- What the check leaves of `filled`.
use Rattle.std.proofs.Common.{sym, ap, ◌∙◌, subst, arith, Ok, Err}
use Rattle.std.proofs.lemmas.Result.{err_from_is_err_and}
use Rattle.fields.specs.Forms.{shown_line}
use Rattle.paper.specs.Results.{built}
use Rattle.lines.specs.declared.Fault.TheVariants.{Form, Window}
use Rattle.lines.specs.declared.State.TheVariants.{Filling, Asking}
use Rattle.lines.specs.States.{Stepped}
use Rattle.lines.specs.Steps.{added_step, T_twice, other_filled, first_bad, first_good}
use Rattle.lines.proofs.Tags.{no_segment_window}
use Rattle.lines.proofs.Table.filled.Goals as goal

pub returns-in_err-grown-clause-stepped : goal.returns-in_err-grown-clause-stepped
returns-in_err-grown-clause-stepped c =
    let a = c.args in
    let p = err_from_is_err_and c.from_residual.result c.from_residual.ensures.1 in
    let f = c.in_err-grown.field-0.0 in
    rw (p.1, p.2)
    (subst (λ l. Stepped (Filling a.self) l a.desk.now.cells.now a.out.now (Err f) c.added.new.cells a.desk.now.index.now a.out.now) (sym (ap shown_line c.in-Segment.is))
    (added_step a.self a.desk.now.cells.now a.desk.now.index.now a.out.now c.in-Segment.s (Err f) c.added.new.cells (omega (arith, c.requires.0)) c.in_err-grown.ensures))

pub returns-in-Segment-clause-stepped : goal.returns-in-Segment-clause-stepped
returns-in-Segment-clause-stepped c =
    let a = c.args in
    subst (λ l. Stepped (Filling a.self) l a.desk.now.cells.now a.out.now (Ok (Filling c.in_ok-grown.grown)) c.added.new.cells a.desk.now.index.now a.out.now) (sym (ap shown_line c.in-Segment.is))
    (added_step a.self a.desk.now.cells.now a.desk.now.index.now a.out.now c.in-Segment.s (Ok c.in_ok-grown.grown) c.added.new.cells (omega (arith, c.requires.0)) c.in_ok-grown.ensures)

pub returns-in_default-line-clause-stepped : goal.returns-in_default-line-clause-stepped
returns-in_default-line-clause-stepped c =
    let a = c.args in
    no_segment_window (λ l. Stepped (Filling a.self) l a.desk.now.cells.now a.out.now (Err Form) a.desk.now.cells.now a.desk.now.index.now a.out.now) a.line c.in_default.not-Segment c.in_default-line.not-Window
    (T_twice a.self a.desk.now.cells.now a.desk.now.index.now a.out.now) (other_filled a.self a.desk.now.cells.now a.desk.now.index.now a.out.now)

pub returns-then-bad_window-clause-stepped : goal.returns-then-bad_window-clause-stepped
returns-then-bad_window-clause-stepped c =
    let a = c.args in
    subst (λ l. Stepped (Filling a.self) l a.desk.now.cells.now a.out.now (Err Window) a.desk.now.cells.now a.desk.now.index.now a.out.now) (sym (ap shown_line c.in-Window.is))
    (first_bad a.self a.desk.now.cells.now a.desk.now.index.now a.out.now c.in-Window.w (sym c.bad_window.ensures ∙ c.if-bad_window.true))

pub returns-clause-stepped : goal.returns-clause-stepped
returns-clause-stepped c =
    let a = c.args in
    let b = c.build in
    let r = c.answer in
    let long = a.desk.now.lengths.table in
    let wide = a.desk.now.lengths.words in
    subst (λ l. Stepped (Filling a.self) l a.desk.now.cells.now a.out.now (Ok (Asking a.self)) a.desk.now.cells.now b.new.index r.new.out) (sym (ap shown_line c.in-Window.is))
    (first_good a.self a.desk.now.cells.now a.desk.now.index.now a.out.now c.in-Window.w c.requires.1 long wide (sym c.bad_window.ensures ∙ c.if-bad_window.false)
    (b.ensures.index_after ∙ ap (λ d. built a.desk.now.cells.now d a.desk.now.index.now) c.descriptor.ensures) r.ensures)
