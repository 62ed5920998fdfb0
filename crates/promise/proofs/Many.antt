-- Many windows of one index.
use Rattle.std.specs.Prelude.{◌≡◌, ℕ}
use Rattle.std.proofs.Math.Path.{ap}
use Rattle.std.proofs.Math.Bool.{false}
use mathlib.Core.List.{List}
use Rattle.std.proofs.Math.IntN.{ℤ}
use Rattle.lists.specs.Choosing.{chosen_none}
use Rattle.paper.specs.Answers.{answer_at}
use Rattle.paper.specs.Windows.{window_count, window_at}
use Rattle.paper.specs.Orders.{bad_walks, is_stopped}
use Rattle.paper.specs.Walk.{walk_of}
use Rattle.paper.specs.Demands.{IndexOf}
use Rattle.paper.specs.declared.Segment.{Segment}
use Rattle.promise.proofs.Index.{index_walks}

-- no walk of an index is spoiled
pub walks_end : (first : ℤ) (segments : List Segment) (ws edges : List ℤ) → IndexOf first segments ws → (bad_walks ws edges).given ≡ false
walks_end first segments ws edges index =
    ap (λ (ps : List ℕ). (answer_at 10 ps).given)
    (chosen_none (λ i. is_stopped (walk_of ws (window_at edges i))) (window_count edges) (λ p h. ap is_stopped (index_walks first segments (window_at edges p) ws index).ends))
