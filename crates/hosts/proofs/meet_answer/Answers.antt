-- What the check leaves of `meet_answer`.
use Rattle.std.proofs.Common.{rules, refl, sym, ◌∙◌, w64}
use Rattle.std.proofs.lemmas.Int.{to_z-of_z}
use Rattle.std.proofs.lemmas.Result.{err_from_is_err_and}
use Rattle.paper.specs.Answers.{bad_window}
use Rattle.refusals.specs.Orders.{none_first}
use Rattle.hosts.specs.Answered.{meet_8, meet_5, meet_0, one_or_none}
use Rattle.hosts.proofs.meet_answer.Goals as goal

pub returns-in_err-frame : goal.returns-in_err-frame
returns-in_err-frame c =
    let p = err_from_is_err_and c.from_residual.result c.from_residual.ensures.1 in
    rw (p.1, p.2) (meet_8 c.args.segment c.args.window c.in_err-frame.ensures.decided.0 refl)

pub returns-then-far_off : goal.returns-then-far_off
returns-then-far_off c =
    let a = c.args in
    meet_5 a.segment a.window (none_first (bad_window a.window) c.in_ok-frame.ensures.decided) (sym c.far_off.ensures ∙ c.if-far_off.true) refl

pub returns : goal.returns
returns c =
    let a = c.args in
    meet_0 a.segment a.window (none_first (bad_window a.window) c.in_ok-frame.ensures.decided) (sym c.far_off.ensures ∙ c.if-far_off.false) (search (rules, rw c.in_ok-frame.ensures.frame at c.meets.ensures.0)) (to_z-of_z w64 c.from.result (record { sfits = c.from.type_inv }) ∙ c.from.ensures ∙ one_or_none _)
