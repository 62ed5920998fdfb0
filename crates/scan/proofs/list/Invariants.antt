-- The loop of `list`.
use Rattle.std.specs.Prelude.{◌≡◌, length}
use Rattle.lists.specs.Filling.{filled}
use Rattle.scan.specs.Listing.{chosen, listed}
use Rattle.scan.proofs.list.Given as goal

abbrev pub invariant-loop-i : goal.invariant-loop-i
invariant-loop-i l =
    let t = l.table in
    (l.k ≡ length (chosen t.cells.now t.descriptor l.frame.window l.i)) × (l.numbers ≡ filled (listed t.cells.now t.descriptor l.frame.window l.i) l.initial.numbers)
