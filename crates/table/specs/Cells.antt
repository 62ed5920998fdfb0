-- What the functions over a table ask of their callers and say to them, beside the words of `paper`.
use Rattle.std.specs.Prelude.{◌≡◌, Bool, true, false, cond, List, ℕ, ◌<◌, ℤ, pos, ◌+ℤ◌, ◌*ℤ◌, ltb, Option, Some, None}
use Rattle.std.specs.Int.Signed.{lt_z}
use Rattle.lists.specs.Plain.{any, positions}
use Rattle.paper.specs.Descriptor.{cell_of, outside, size_of, segment_of}
use Rattle.paper.specs.Answers.{Answer, answer, bad_extent, bad_strides, bad_cells}
use Rattle.paper.specs.declared.Descriptor.{Descriptor}
use Rattle.paper.specs.declared.Segment.{Segment}
use Rattle.table.specs.declared.Place.{Place}

-- how far from the base coordinate j of position i stands
abbrev pub offset_of : Descriptor → ℕ → ℕ → ℤ
offset_of d i j = pos i *ℤ d.segment_stride +ℤ pos j *ℤ d.coordinate_stride

-- strides within their limits, and a base that is a cell of the table
pub record Based (len : ℤ) (d : Descriptor) : Type 0 where
  pub strides : (bad_strides d).given ≡ false
  pub base : outside len d.base ≡ false

-- position i has a cell outside the table
abbrev pub row_outside : ℤ → Descriptor → ℕ → Bool
row_outside len d i = any (λ j. outside len (cell_of d i j)) (positions 4)

-- a table of len cells that refusals 3, 4 and 12 pass
pub record Held (len : ℤ) (d : Descriptor) : Type 0 where
  pub extent : (bad_extent d.extent).given ≡ false
  pub strides : (bad_strides d).given ≡ false
  pub cells : (bad_cells len d).given ≡ false

-- where the cells of a stride begin, of 0 to last
abbrev pub low_end : ℤ → ℕ → ℕ
low_end stride last = cond (lt_z stride (pos 0)) last 0

-- what calls may answer of a table's segments is what the test q says of them
abbrev pub Tells : (Segment → Bool → Type 0) → Descriptor → List ℤ → (Segment → Bool) → Type 0
Tells answers d cells q = (p : ℕ) → p < size_of d → (b : Bool) → answers (segment_of d cells p) b → b ≡ q (segment_of d cells p)

-- the first of n positions that q holds of, if there is one
abbrev pub Found : (ℕ → Bool) → ℕ → Option ℕ → Type 0
Found q n None = (p : ℕ) → p < n → q p ≡ false
Found q n (Some r) = (r < n) × ((p : ℕ) → p < r → q p ≡ false) × (q r ≡ true)

-- an answer that is given where r is below n, for position r
abbrev pub found_at : ℕ → ℕ → ℕ → Answer
found_at number n r = cond (ltb r n) (record { number = number; given = true; count = 0; position = r }) (answer number false)

-- answer 12, given where a cell was found, for its position and coordinate
abbrev pub outside_at : Option Place → Answer
outside_at None = answer 12 false
outside_at (Some r) = record { number = 12; given = true; count = r.coordinate; position = r.position }

-- an answer that is given where a position was found, for that position
abbrev pub sought : ℕ → Option ℕ → Answer
sought number None = answer number false
sought number (Some p) = record { number = number; given = true; count = 0; position = p }
