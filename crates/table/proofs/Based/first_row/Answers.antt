-- What the check leaves of `first_row`.
use Rattle.std.proofs.Common.{sym, ◌∙◌, arith, below_more}
use Rattle.lists.specs.Choosing.{none_at}
use Rattle.table.specs.Segments.{found_any}
use Rattle.table.proofs.Based.first_row.Goals as goal

pub returns-then-not-any_outside : goal.returns-then-not-any_outside
returns-then-not-any_outside c = λ p h. none_at _ c.args.n p (sym c.any_outside.ensures ∙ c.if-not-any_outside.true) h

pub returns-then-is_some : goal.returns-then-is_some
returns-then-is_some c = (omega arith, c.loop-i.invariant, sym (found_any _ 4 _ c.first_in_row.ensures) ∙ sym c.is_some.ensures ∙ c.if-is_some.true)

pub loop-i-preserved : goal.loop-i-preserved
loop-i-preserved c = below_more _ _ c.loop-i.invariant (sym (found_any _ 4 _ c.first_in_row.ensures) ∙ sym c.is_some.ensures ∙ c.if-is_some.false)
