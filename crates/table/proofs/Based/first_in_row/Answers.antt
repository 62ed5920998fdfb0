-- What the check leaves of `first_in_row`.
use Rattle.std.proofs.Common.{sym, ◌∙◌, below_more}
use Rattle.table.proofs.Based.first_in_row.Goals as goal

pub loop-j-preserved : goal.loop-j-preserved
loop-j-preserved c = below_more _ _ c.loop-j.invariant (sym c.outside.ensures ∙ c.if-outside.false)
