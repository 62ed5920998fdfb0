-- Document 01, "Answer numbers": what each answer is given for, and the orders.
use Rattle.std.specs.Prelude.{Bool, true, false, not, ◌&&◌, ◌||◌, cond, List, [], ◌∷◌, ℕ, ◌*◌, ℤ, pos, eqb, ltb, length}
use Rattle.std.specs.Int.Signed.{le_z, lt_z}
use Rattle.lists.specs.Plain.{same, within, filter, positions}
use Rattle.paper.specs.Limits.{most_windows, extent_fits, lower_fits, stride_fits, coordinate_fits}
use Rattle.paper.specs.Descriptor.{outside_cells, at}
use Rattle.paper.specs.Windows.{window_count, windows_where}
use Rattle.paper.specs.declared.Descriptor.{Descriptor}
use Rattle.paper.specs.declared.Segment.{Segment}
use Rattle.paper.specs.declared.Window.{Window}
use Rattle.paper.specs.declared.Reply.{Reply}

-- an answer of the table: whether it is given, and the count and the position that it returns; 0 unless named
pub record Answer : Type 0 where
  pub number : ℕ
  pub given : Bool
  pub count : ℕ
  pub position : ℕ

abbrev pub answer : ℕ → Bool → Answer
answer number given = record { number = number; given = given; count = 0; position = 0 }

-- given where there is such a position; the first is returned
abbrev pub answer_at : ℕ → List ℕ → Answer
answer_at number [] = answer number false
answer_at number (p ∷ ps) = record { number = number; given = true; count = 0; position = p }

-- given where there is such a cell; of the first its position is returned, and its coordinate as count
abbrev pub answer_at_cell : ℕ → List (ℕ × ℕ) → Answer
answer_at_cell number [] = answer number false
answer_at_cell number (p ∷ ps) = record { number = number; given = true; count = p.1; position = p.0 }

-- the positions whose segment passes a test, ascending
abbrev pub positions_of : (Segment → Bool) → List Segment → List ℕ
positions_of q segments = filter (λ p. q (at segments p)) (positions (length segments))

-- ---- given exactly when

-- 1: kind is not 1 to 3
abbrev pub bad_kind : ℤ → Answer
bad_kind kind = answer 1 (not (within (pos 1) (pos 3) kind))

-- 2: lower bound beyond its limits, or kind 3 and not 0
abbrev pub bad_lower : ℤ → ℤ → Answer
bad_lower kind lower = answer 2 (not (lower_fits lower) || (same kind (pos 3) && not (same lower (pos 0))))

-- 3: n beyond its limits
abbrev pub bad_extent : ℤ → Answer
bad_extent n = answer 3 (not (extent_fits n))

-- 4: a stride beyond its limits. Document 01 gave 4 for an addressed cell outside the table too; request E1 gives 12 for that
abbrev pub bad_strides : Descriptor → Answer
bad_strides d = answer 4 (not (stride_fits d.segment_stride) || not (stride_fits d.coordinate_stride))

-- 12 (request E1): an addressed cell outside the table; the smallest such position returned, and its smallest such coordinate as count
abbrev pub bad_cells : ℤ → Descriptor → Answer
bad_cells len d = answer_at_cell 12 (outside_cells len d)

-- 5: a coordinate beyond its limits; first such position returned
abbrev pub far_off : Segment → Bool
far_off s = not (coordinate_fits s.x1 && coordinate_fits s.y1 && coordinate_fits s.x2 && coordinate_fits s.y2)

abbrev pub bad_coordinate : List Segment → Answer
bad_coordinate segments = answer_at 5 (positions_of far_off segments)

-- 6: builder only: a segment neither horizontal nor vertical; first such position returned
abbrev pub slanted : Segment → Bool
slanted s = not (same s.y1 s.y2) && not (same s.x1 s.x2)

abbrev pub bad_slant : List Segment → Answer
bad_slant segments = answer_at 6 (positions_of slanted segments)

-- 7: index buffer below W(n) words; what is asked and what is lent
abbrev pub bad_buffer : ℕ → ℕ → Answer
bad_buffer asked lent = answer 7 (ltb lent asked)

-- 7: number buffer below the k numbers due, and k returned as count. Document 01 said 'below n cells'; request E2 has it so
abbrev pub bad_room : ℕ → ℕ → Answer
bad_room due lent = record { number = 7; given = ltb lent due; count = due; position = 0 }

-- 8: a > b, c > d, or an edge beyond its limits
abbrev pub bad_window : Window → Answer
bad_window w =
    answer 8
    (lt_z w.b w.a || lt_z w.d w.c
    || not (coordinate_fits w.a && coordinate_fits w.b && coordinate_fits w.c && coordinate_fits w.d))

-- 8 of many windows (request E5): the first bad one returned as position
abbrev pub bad_windows : List ℤ → Answer
bad_windows edges = answer_at 8 (windows_where (λ w. (bad_window w).given) edges)

-- 9 and 10 are in Orders, above the words and the walk that they speak of

-- 11: C only: position not in 0 to n − 1, or coordinate not in 0 to 3
abbrev pub bad_place : ℤ → ℤ → ℤ → Answer
bad_place n i j = answer 11 (lt_z i (pos 0) || le_z n i || not (within (pos 0) (pos 3) j))

-- 14 (request E5): a slice not of whole windows, over 64 of them, or fewer count cells than windows
abbrev pub bad_slice : List ℤ → ℕ → Answer
bad_slice edges lent = answer 14 (not (eqb (4 * window_count edges) (length edges)) || ltb most_windows (window_count edges) || ltb lent (window_count edges))

-- ---- an order is a list: the first that is given decides; where none is, the call is done
abbrev pub judged {ℓ} : {A : Type ℓ} → List Answer → (Answer → A) → A → A
judged [] refuse done = done
judged (x ∷ xs) refuse done = cond x.given (refuse x) (judged xs refuse done)

-- a refusal's reply
abbrev pub refused : Answer → Reply
refused x = record { number = pos x.number; count = pos x.count; visits = pos 0; position = pos x.position }

-- on success position is 0
abbrev pub done : ℕ → ℕ → Reply
done count visits = record { number = pos 0; count = pos count; visits = pos visits; position = pos 0 }
