-- Document 01, "Answer numbers": answers 9 and 10, and the orders. An order is a list, and stands here only.
use Rattle.std.specs.Prelude.{Bool, true, false, not, ◌||◌, List, [], ◌∷◌, map, ℕ, ltb, ℤ, pos, ◌+ℤ◌, length}
use Rattle.std.specs.Int.Signed.{lt_z}
use Rattle.lists.specs.Plain.{same, sum}
use Rattle.paper.specs.Limits.{extent_fits, lower_fits}
use Rattle.paper.specs.Descriptor.{size_of, segments_of}
use Rattle.paper.specs.Answers.{Answer, answer, answer_at, positions_of, bad_kind, bad_lower, bad_extent, bad_strides, bad_cells, bad_coordinate, bad_slant, bad_buffer, bad_room, bad_window, bad_windows, bad_place, bad_slice}
use Rattle.paper.specs.Windows.{windows_of, windows_where}
use Rattle.paper.specs.Words.{W}
use Rattle.paper.specs.Walk.{word, extent_in, size_in, Walked, walked, stopped, walk_of}
use Rattle.paper.specs.declared.Descriptor.{Descriptor}
use Rattle.paper.specs.declared.Segment.{Segment}
use Rattle.paper.specs.declared.Window.{Window}

-- 9: index below 4 words; its n or lower bound beyond limits; either count negative, or the two not adding to n; fewer than W(n) words
abbrev pub bad_index : List ℤ → Answer
bad_index ws =
    answer 9
    (ltb (length ws) 4
    || not (extent_fits (extent_in ws)) || not (lower_fits (word ws 1))
    || lt_z (word ws 2) (pos 0) || lt_z (word ws 3) (pos 0) || not (same (word ws 2 +ℤ word ws 3) (extent_in ws))
    || ltb (length ws) (W (size_in ws)))

-- 10: the walk reads a spoiled word
abbrev pub is_stopped : Walked → Bool
is_stopped (walked ps v) = false
is_stopped stopped = true

abbrev pub bad_walk : Walked → Answer
bad_walk r = answer 10 (is_stopped r)

-- how many numbers a walk that has ended makes due
abbrev pub due_by : Walked → ℕ
due_by (walked ps v) = length ps
due_by stopped = 0

-- 10 of many windows (request E5): the first whose walk is spoiled returned as position
abbrev pub bad_walks : List ℤ → List ℤ → Answer
bad_walks ws edges = answer_at 10 (windows_where (λ w. is_stopped (walk_of ws w)) edges)

-- how many numbers the walks of many windows make due together
abbrev pub due_to_all : List ℤ → List Window → ℕ
due_to_all ws windows = sum (map (λ w. due_by (walk_of ws w)) windows)

-- ---- the orders. Request E1: 12 stands directly after 4. Request E2: in scan and query 7 comes last

-- builder: 1, 2, 3, 4, 12, 7, 5, 6
abbrev pub builder_order : List ℤ → Descriptor → List ℤ → List Answer
builder_order table d index =
    bad_kind d.kind
    ∷ bad_lower d.kind d.lower
    ∷ bad_extent d.extent
    ∷ bad_strides d
    ∷ bad_cells (pos (length table)) d
    ∷ bad_buffer (W (size_of d)) (length index)
    ∷ bad_coordinate (segments_of d table)
    ∷ bad_slant (segments_of d table)
    ∷ []

-- scan, by a test of meeting: 1, 2, 3, 4, 12, 8, 5, 7
abbrev pub scan_order : (Segment → Bool) → List ℤ → Descriptor → Window → List ℤ → List Answer
scan_order meets table d w numbers =
    bad_kind d.kind
    ∷ bad_lower d.kind d.lower
    ∷ bad_extent d.extent
    ∷ bad_strides d
    ∷ bad_cells (pos (length table)) d
    ∷ bad_window w
    ∷ bad_coordinate (segments_of d table)
    ∷ bad_room (length (positions_of meets (segments_of d table))) (length numbers)
    ∷ []

-- query: 9, 8, 10, 7
abbrev pub query_order : List ℤ → Window → List ℤ → List Answer
query_order ws w numbers =
    bad_index ws ∷ bad_window w ∷ bad_walk (walk_of ws w) ∷ bad_room (due_by (walk_of ws w)) (length numbers) ∷ []

-- many windows (request E5): 9, 14, 8, 10, 7
abbrev pub many_order : List ℤ → (edges counts numbers : List ℤ) → List Answer
many_order ws edges counts numbers =
    bad_index ws
    ∷ bad_slice edges (length counts)
    ∷ bad_windows edges
    ∷ bad_walks ws edges
    ∷ bad_room (due_to_all ws (windows_of edges)) (length numbers)
    ∷ []

-- C hosts. The cell of a position and coordinate: 3, 4, 12, 11
abbrev pub cell_order : ℤ → Descriptor → ℤ → ℤ → List Answer
cell_order len d i j = bad_extent d.extent ∷ bad_strides d ∷ bad_cells len d ∷ bad_place d.extent i j ∷ []

-- W(n): 3
abbrev pub words_order : ℤ → List Answer
words_order n = bad_extent n ∷ []

-- whether one segment meets one window: 8, 5
abbrev pub meet_order : Segment → Window → List Answer
meet_order s w = bad_window w ∷ bad_coordinate (s ∷ []) ∷ []
