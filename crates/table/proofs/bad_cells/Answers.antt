-- What the check leaves of `bad_cells`.
use Rattle.std.specs.Int.{w64}
use Rattle.std.proofs.Common.{sym, ap, ◌∙◌}
use Rattle.std.proofs.lemmas.Int.{to_z-of_z}
use Rattle.paper.specs.Answers.{Answer}
use Rattle.table.specs.Rows.{given_is}
use Rattle.table.proofs.bad_cells.Goals as goal

pub returns : goal.returns
returns c =
    c.is_some.ensures ∙ given_is c.first_outside.result
    ∙ ap (λ (a : Answer). a.given) (sym (rw (to_z-of_z w64 c.args.len c.ranges.len) at c.first_outside.ensures.answer))
