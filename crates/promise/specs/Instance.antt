-- The theorems at one table, so that nobody need take it on trust that they speak of something: four segments, one of them turned, two of them equal,
-- two that cross. The builder accepts the table, and the walk that the theorems speak of is computed beside them.
use Rattle.std.specs.Prelude.{◌≡◌, refl, List, [], ◌∷◌, ◌++◌, ℕ, ℤ, pos}
use Rattle.std.proofs.Common.{arith}
use Rattle.lists.specs.Plain.{digits_to, positions, filter, count, any, last, joined, insert, sort}
use Rattle.paper.specs.Words.{nodes, level_words, levels_words, queue_words_to, block_words_to, index_words}
use Rattle.paper.specs.Walk.{search_to, slots_walk, node_at, node_walk, queue_at, queue_walk_to, block_at, block_walk_to, walk, step, run, walked, walk_of}
use Rattle.paper.specs.Demands.{Straight, most_visits}
use Rattle.paper.specs.declared.Segment.{Segment}
use Rattle.paper.specs.declared.Window.{Window}

abbrev segment : (x1 y1 x2 y2 : ℕ) → Segment
segment x1 y1 x2 y2 = record { x1 = pos x1; y1 = pos y1; x2 = pos x2; y2 = pos y2 }

-- positions 0 to 3: a turned horizontal, a vertical that crosses it, the same horizontal as it stands, a point inside the window
abbrev pub segments : List Segment
segments = segment 6 2 0 2 ∷ segment 4 0 4 5 ∷ segment 0 2 6 2 ∷ segment 5 3 5 3 ∷ []

abbrev pub window : Window
window = record { a = pos 3; b = pos 5; c = pos 1; d = pos 3 }

abbrev pub words : List ℤ
words = index_words (pos 1) segments ++ []

pub accepted : Straight segments
unfolding filter positions
accepted = record { size = omega arith; coordinates = refl; straight = refl }

-- the point by its low end, then the two horizontals, then the vertical; 14 visits, of which demand 3 allows 91
pub computed : walk_of words window ≡ walked (3 ∷ 0 ∷ 2 ∷ 1 ∷ []) 14
unfolding digits_to positions filter count any last joined insert sort nodes level_words levels_words queue_words_to block_words_to index_words search_to slots_walk node_at node_walk queue_at queue_walk_to block_at block_walk_to walk step run walk_of
computed = refl

pub allowed : most_visits 4 4 ≡ 91
unfolding digits_to
allowed = refl
