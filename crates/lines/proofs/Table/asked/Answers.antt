-- What the check leaves of `asked`.
use Rattle.std.proofs.Common.{sym, ap, ◌∙◌, subst, Ok, Err}
use Rattle.fields.specs.Forms.{shown_line}
use Rattle.lines.specs.declared.Fault.TheVariants.{Form, Window}
use Rattle.lines.specs.States.{Asked}
use Rattle.lines.specs.Steps.{T_late, S_late, other_late, W_bad, W_good}
use Rattle.lines.proofs.Tags.{no_window}
use Rattle.lines.proofs.Table.asked.Goals as goal

pub returns-in_default : goal.returns-in_default
returns-in_default c =
    let a = c.args in
    no_window (λ l. Asked a.self l a.index.now a.out.now (Err Form) a.out.now) a.line c.in_default.not-Window
    (T_late a.self a.index.now a.out.now) (S_late a.self a.index.now a.out.now) (other_late a.self a.index.now a.out.now)

pub returns-then-bad_window : goal.returns-then-bad_window
returns-then-bad_window c =
    let a = c.args in
    subst (λ l. Asked a.self l a.index.now a.out.now (Err Window) a.out.now) (sym (ap shown_line c.in-Window.is))
    (W_bad a.self a.index.now a.out.now c.in-Window.w (sym c.bad_window.ensures ∙ c.if-bad_window.true))

pub returns : goal.returns
returns c =
    let a = c.args in
    subst (λ l. Asked a.self l a.index.now a.out.now (Ok tt) c.answer.new.out) (sym (ap shown_line c.in-Window.is))
    (W_good a.self a.index.now a.out.now c.in-Window.w (sym c.bad_window.ensures ∙ c.if-bad_window.false) c.answer.ensures)
