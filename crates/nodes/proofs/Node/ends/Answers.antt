-- What the check leaves of `ends`.
use Rattle.std.proofs.Common.{arith, sym}
use Rattle.std.proofs.lemmas.Int.{to_z-of_z}
use Rattle.nodes.specs.Ends.{ends_right, ends_cut_left, ends_cut_right, ends_in}
use Rattle.nodes.proofs.Node.ends.Goals as goal

pub returns-then-window-first_x : goal.returns-then-window-first_x
returns-then-window-first_x c =
    ends_right _ _ _ _ _ _ (sym c.in_ok-first.ensures.value) _ (sym c.in_ok-last.ensures.value) (grind (arith, to_z-of_z)) (grind (arith, to_z-of_z))

pub returns-then-first_x-window : goal.returns-then-first_x-window
returns-then-first_x-window c =
    ends_cut_left _ _ _ _ _ _ (sym c.in_ok-first.ensures.value) _ (sym c.in_ok-last.ensures.value) (grind (arith, to_z-of_z)) (grind (arith, to_z-of_z)) (omega arith) (grind (arith, to_z-of_z))

pub returns-then-window-last_x : goal.returns-then-window-last_x
returns-then-window-last_x c =
    ends_cut_right _ _ _ _ _ _ (sym c.in_ok-first.ensures.value) _ (sym c.in_ok-last.ensures.value) (grind (arith, to_z-of_z)) (grind (arith, to_z-of_z)) (grind (arith, to_z-of_z)) (omega arith) (grind (arith, to_z-of_z))

pub returns : goal.returns
returns c =
    ends_in _ _ _ _ _ _ (sym c.in_ok-first.ensures.value) _ (sym c.in_ok-last.ensures.value) (grind (arith, to_z-of_z)) (grind (arith, to_z-of_z)) (grind (arith, to_z-of_z)) (grind (arith, to_z-of_z))
