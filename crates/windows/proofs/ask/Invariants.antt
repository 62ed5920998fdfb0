-- The loop of `ask`.
use Rattle.std.proofs.Common.{◌≡◌, false, ℕ, ◌<◌, length}
use Rattle.paper.specs.Orders.{is_stopped}
use Rattle.paper.specs.Walk.{walk_of}
use Rattle.paper.specs.Windows.{window_at}
use Rattle.windows.specs.Asking.{first_windows, Answers}
use Rattle.windows.proofs.ask.Given as goal

abbrev pub invariant-loop-i : goal.invariant-loop-i
invariant-loop-i l =
    ((k : ℕ) → k < l.i → is_stopped (walk_of l.index.words.now (window_at l.windows.edges.now k)) ≡ false)
    × Answers l.index.words.now (first_windows l.windows.edges.now l.i) l.initial.counts l.initial.room l.all.listed l.all.visits l.counts l.room
    × (length l.counts ≡ length l.initial.counts) × (length l.room ≡ length l.initial.room)
