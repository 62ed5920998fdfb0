-- What the check leaves of `first_bad`.
use Rattle.std.proofs.Common.{sym, ap, ◌∙◌}
use borrow.Author.Count.{below_more}
use Rattle.paper.specs.Answers.{bad_window}
use Rattle.windows.proofs.Windows.first_bad.Goals as goal

pub loop-i-preserved : goal.loop-i-preserved
loop-i-preserved c = below_more _ _ c.loop-i.invariant (ap (λ w. (bad_window w).given) (sym c.at.ensures) ∙ sym c.bad_window.ensures ∙ c.if-bad_window.false)
