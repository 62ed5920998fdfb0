-- The loop of `first_bad`.
use Rattle.std.proofs.Common.{◌≡◌, false, ℕ, ◌<◌}
use Rattle.paper.specs.Answers.{bad_window}
use Rattle.paper.specs.Windows.{window_at}
use Rattle.windows.proofs.Windows.first_bad.Given as goal

abbrev pub invariant-loop-i : goal.invariant-loop-i
invariant-loop-i l = (k : ℕ) → k < l.i → (bad_window (window_at l.self.edges.now k)).given ≡ false
