-- What the check leaves of `of_table`.
use Rattle.std.specs.Prelude.{pos, length}
use Rattle.std.specs.Int.{w64}
use Rattle.std.proofs.Common.{arith, SFits}
use Rattle.std.proofs.lemmas.Int.{to_z-of_z}
use Rattle.whole.specs.Whole.{fits_by}
use Rattle.refusals.specs.Orders.{held}
use Rattle.refusals.proofs.of_table.Goals as goal

pub invariant_of-result : goal.invariant_of-result
invariant_of-result c =
    let n = length c.args.cells.now in
    let f : SFits w64 (pos n) = fits_by w64 (pos n) (omega arith) in
    record { held = held _ c.args.descriptor (rw (to_z-of_z w64 (pos n) f) at c.in_ok-of_cells.ensures) }
