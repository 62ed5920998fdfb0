-- What the check leaves of `any_beyond`.
use Rattle.std.specs.Prelude.{Bool, ℕ, not, ◌||◌, pos, get_or}
use Rattle.std.specs.Int.{w32}
use Rattle.std.proofs.Common.{rules, sym, ap₂, ◌∙◌, SFits}
use Rattle.std.proofs.lemmas.Int.{to_z-of_z}
use Rattle.lists.specs.Choosing.{any_zero, any_next}
use Rattle.paper.specs.Limits.{coordinate_fits}
use Rattle.table.proofs.any_beyond.Goals as goal

pub loop-coordinate-init : goal.loop-coordinate-init
loop-coordinate-init c = sym (any_zero _)

pub loop-coordinate-preserved : goal.loop-coordinate-preserved
loop-coordinate-preserved c =
    let k = c.loop-coordinate.coordinate-index in
    let q : ℕ → Bool = λ k. not (coordinate_fits (get_or c.args.cells.now k (pos 0))) in
    let f : SFits w32 (get_or c.args.cells.now k (pos 0)) = search rules in
    let s = rw (to_z-of_z w32 _ f) at c.beyond-bad.ensures in
    ap₂ (λ x y. x || y) c.loop-coordinate.invariant s ∙ sym (any_next q k)
