-- The loop of `any_beyond`.
use Rattle.std.specs.Prelude.{◌≡◌, not, pos, get_or}
use Rattle.lists.specs.Plain.{any, positions}
use Rattle.paper.specs.Limits.{coordinate_fits}
use Rattle.table.proofs.any_beyond.Given as goal

abbrev pub invariant-loop-coordinate : goal.invariant-loop-coordinate
invariant-loop-coordinate l = l.bad ≡ any (λ k. not (coordinate_fits (get_or l.cells k (pos 0)))) (positions l.coordinate-index)
