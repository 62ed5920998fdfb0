-- The loops of `width`.
use mathlib.Core.Path.{◌≡◌}
use Prim.Native.Nat.{◌+◌, ◌≤◌}
use lib.ListN.{length}
use Rattle.texts.specs.Digits.{digits_of}
use Rattle.texts.proofs.width.Given as goal

abbrev pub invariant-loop-v : goal.invariant-loop-v
invariant-loop-v l = (l.v ≤ l.n) × (l.k + length (digits_of l.v) ≡ length (digits_of l.n) + 1)

abbrev pub decreases-loop-v : goal.decreases-loop-v
decreases-loop-v l = l.v
