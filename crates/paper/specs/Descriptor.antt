-- Document 01, "Descriptor and numbers".
use Rattle.std.specs.Prelude.{Bool, ◌||◌, cond, List, map, ℕ, ℤ, pos, ◌+ℤ◌, ◌*ℤ◌, get_or}
use Rattle.std.specs.Int.Signed.{le_z, lt_z}
use Rattle.lists.specs.Plain.{same, to_nat, positions, filter, joined}
use Rattle.paper.specs.declared.Descriptor.{Descriptor}
use Rattle.paper.specs.declared.Segment.{Segment}

-- the cell of coordinate j (0 to 3, for x1 y1 x2 y2) of position i
abbrev pub cell_of : Descriptor → ℕ → ℕ → ℤ
cell_of d i j = d.base +ℤ pos i *ℤ d.segment_stride +ℤ pos j *ℤ d.coordinate_stride

-- n; a negative extent addresses no cell
abbrev pub size_of : Descriptor → ℕ
size_of d = to_nat d.extent

-- position and coordinate of the cells that a descriptor addresses, by position and then by coordinate
unfoldable pub addressed : Descriptor → List (ℕ × ℕ)
addressed d = joined (map (λ i. map (λ j. (i, j)) (positions 4)) (positions (size_of d)))

-- a table of len cells does not hold cell z; a length below 0 holds none
abbrev pub outside : ℤ → ℤ → Bool
outside len z = lt_z z (pos 0) || le_z len z

-- the addressed cells that a table of len cells does not hold
abbrev pub outside_cells : ℤ → Descriptor → List (ℕ × ℕ)
outside_cells len d = filter (λ p. outside len (cell_of d p.0 p.1)) (addressed d)

-- the number of position 0 of a table of a kind and a lower bound: the lower bound, but for kind 3, whose descriptor carries 0, it is 1, since an
-- assumed-shape dummy counts from 1 (request E4; document 01 said lower bound + i for every kind)
abbrev pub first_number : ℤ → ℤ → ℤ
first_number kind lower = cond (same kind (pos 3)) (pos 1) lower

-- the number of position i
abbrev pub number_of : ℤ → ℕ → ℤ
number_of first i = first +ℤ pos i

-- the segments of a table, in the order of their positions
abbrev pub segment_of : Descriptor → List ℤ → ℕ → Segment
segment_of d table i = record {
  x1 = get_or table (to_nat (cell_of d i 0)) (pos 0);
  y1 = get_or table (to_nat (cell_of d i 1)) (pos 0);
  x2 = get_or table (to_nat (cell_of d i 2)) (pos 0);
  y2 = get_or table (to_nat (cell_of d i 3)) (pos 0);
}

unfoldable pub segments_of : Descriptor → List ℤ → List Segment
segments_of d table = map (segment_of d table) (positions (size_of d))

-- the segment at a position
abbrev pub at : List Segment → ℕ → Segment
at segments p = get_or segments p (record { x1 = pos 0; y1 = pos 0; x2 = pos 0; y2 = pos 0 })
