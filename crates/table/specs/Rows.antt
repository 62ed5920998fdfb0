-- Answer 12, row by row: the cells of a table that is not refused, the ends of the rows that decide it, and the first cell outside.
use Rattle.std.specs.Prelude.{◌≡◌, refl, Bool, true, false, not, ◌&&◌, ◌||◌, List, [], ◌∷◌, map, ℕ, ◌+◌, ◌≤◌, ◌<◌, ℤ, pos, negsuc, neg_ℤ, ◌+ℤ◌, ◌*ℤ◌, ◌≤ℤ◌, ◌<ℤ◌, nat_abs, Option, Some, None, is_some}
use Rattle.std.proofs.Common.{T, sym, ◌∙◌, subst, arith, below_none, SFits, Fits}
use Rattle.std.proofs.Math.Path.{ap}
use Rattle.std.proofs.Math.Bool.{cond}
use Rattle.std.proofs.lemmas.Bool.{not-false}
use Rattle.std.specs.Int.{w64}
use lib.Signed.{non_neg}
use Rattle.whole.specs.Whole.{#, ◌⊕◌, ◌⊗◌, of, whole}
use Rattle.lists.specs.Plain.{same, any, filter, joined, positions, to_nat}
use Rattle.lists.specs.Tests.{cases, or_false, within_true}
use Rattle.lists.specs.Filters.{filter_map}
use Rattle.lists.specs.Choosing.{any_joined, any_map, any_none, any_some, none_at, chosen_none, filter_first, parts_none, parts_first}
use Rattle.paper.specs.Limits.{extent_fits, lower_fits}
use Rattle.paper.specs.Descriptor.{first_number, cell_of, size_of, addressed, outside}
use Rattle.paper.specs.Answers.{answer_at_cell, bad_lower, bad_extent, bad_strides, bad_cells}
use Rattle.paper.specs.declared.Descriptor.{Descriptor}
use Rattle.table.specs.declared.Place.{Place}
use Rattle.table.specs.Cells.{row_outside, Held, outside_at}
use Rattle.table.specs.Address.{along, inside_of, inside_fits}

-- ---- answer 12 by rows
-- given exactly where a cell was found
pub given_is : (r : Option Place) → is_some r ≡ (outside_at r).given
given_is None = refl
given_is (Some r) = refl

-- whether a cell, by its position and coordinate, is outside
abbrev is_outside : ℤ → Descriptor → ℕ × ℕ → Bool
is_outside len d p = outside len (cell_of d p.0 p.1)

-- the cells of a position
abbrev row : ℕ → List (ℕ × ℕ)
row i = map (λ j. (i, j)) (positions 4)

any_same : (f g : ℕ → Bool) (n : ℕ) → ((k : ℕ) → f k ≡ g k) → any f (positions n) ≡ any g (positions n)
any_same f g n h = ap (λ (q : ℕ → Bool). any q (positions n)) (λ i k. h k i)

given_any : (number : ℕ) (q : ℕ × ℕ → Bool) (ps : List (ℕ × ℕ)) → (answer_at_cell number (filter q ps)).given ≡ any q ps
unfolding filter any
given_any number q [] = refl
given_any number q (p ∷ ps) = go (q p) (given_any number q ps)
  where
    go : (b : Bool) → (answer_at_cell number (filter q ps)).given ≡ any q ps → (answer_at_cell number (cond b (p ∷ filter q ps) (filter q ps))).given ≡ (b || any q ps)
    go true e = refl
    go false e = e

pub cells_are_is : (len : ℤ) (d : Descriptor) → (bad_cells len d).given ≡ any (row_outside len d) (positions (size_of d))
unfolding addressed
cells_are_is len d =
    given_any 12 (is_outside len d) (addressed d)
    ∙ any_joined (is_outside len d) (map row (positions (size_of d)))
    ∙ any_map (any (is_outside len d)) row (positions (size_of d))
    ∙ any_same (λ i. any (is_outside len d) (row i)) (row_outside len d) (size_of d) (λ i. any_map (is_outside len d) (λ j. (i, j)) (positions 4))

-- the first cell outside, by the first row that has one and the first in that row
module _ (len : ℤ) (d : Descriptor) where
  row_of : (i : ℕ) → filter (is_outside len d) (row i) ≡ map (λ j. (i, j)) (filter (λ j. outside len (cell_of d i j)) (positions 4))
  row_of i = filter_map (λ j. (i, j)) (is_outside len d) (positions 4)

  -- the first of the cells of n rows, if there is one
  abbrev pub FirstCell : ℕ → Option Place → Type 0
  FirstCell n None = (i : ℕ) → i < n → row_outside len d i ≡ false
  FirstCell n (Some r) =
      (r.position < n) × ((i : ℕ) → i < r.position → row_outside len d i ≡ false) × (r.coordinate < 4)
      × ((j : ℕ) → j < r.coordinate → outside len (cell_of d r.position j) ≡ false) × (outside len (cell_of d r.position r.coordinate) ≡ true)

  row_none : (i : ℕ) → row_outside len d i ≡ false → filter (is_outside len d) (row i) ≡ []
  row_none i h =
      row_of i ∙ ap (map (λ j. (i, j))) (chosen_none (λ j. outside len (cell_of d i j)) 4 (λ j l. none_at (λ j. outside len (cell_of d i j)) 4 j h l))

  -- by the rows one after another, up to the first that has one
  pub first_cell : (n : ℕ) (r : Option Place) → n ≡ size_of d → FirstCell n r → bad_cells len d ≡ outside_at r
  unfolding addressed
  first_cell n r e f = ap (λ m. answer_at_cell 12 (filter (is_outside len d) (joined (map row (positions m))))) (sym e) ∙ go r f
    where
      go : (r : Option Place) → FirstCell n r → answer_at_cell 12 (filter (is_outside len d) (joined (map row (positions n)))) ≡ outside_at r
      go None none = ap (answer_at_cell 12) (parts_none (is_outside len d) row n (λ i h. row_none i (none i h)))
      go (Some r) (h, before, within, none, here) =
          let i = r.position in
          let j = r.coordinate in
          let t = filter_first (λ j. outside len (cell_of d i j)) 4 j within none here in
          let u = parts_first (is_outside len d) row n i h (λ k l. row_none k (before k l)) (i, j) (map (λ k. (i, k)) t.0) (row_of i ∙ ap (map (λ k. (i, k))) t.1) in
          ap (answer_at_cell 12) u.1

row_some : (len : ℤ) (d : Descriptor) (n i j : ℕ) → i < n → j < 4 → outside len (cell_of d i j) ≡ true → any (row_outside len d) (positions n) ≡ true
row_some len d n i j h g e = any_some (row_outside len d) n i h (any_some (λ j. outside len (cell_of d i j)) 4 j g e)

-- ---- a first number where 2 is not given
pub first_bounds : (kind lower : ℤ) → (bad_lower kind lower).given ≡ false → (neg_ℤ (pos 1000000) ≤ℤ first_number kind lower) × (first_number kind lower ≤ℤ pos 1000000)
first_bounds kind lower e =
    within_true (neg_ℤ (pos 1000000)) (pos 1000000) (first_number kind lower)
    (cases (λ z. lower_fits z ≡ true) (same kind (pos 3)) (pos 1) lower (λ t. refl)
    (λ t. not-false (lower_fits lower) (or_false (not (lower_fits lower)) (same kind (pos 3) && not (same lower (pos 0))) e).0))

-- ---- a table that 3, 4 and 12 pass
pub extent_of : (n : ℤ) → (bad_extent n).given ≡ false → (pos 0 ≤ℤ n) × (pos (to_nat n) ≡ n) × (to_nat n ≤ 4096)
extent_of n e = let p = within_true (pos 0) (pos 4096) n (not-false (extent_fits n) e) in go n p.0 p.1
  where
    go : (n : ℤ) → pos 0 ≤ℤ n → n ≤ℤ pos 4096 → (pos 0 ≤ℤ n) × (pos (to_nat n) ≡ n) × (to_nat n ≤ 4096)
    go (pos k) h g = (h, refl, omega whole)
    go (negsuc k) h g = absurd h.le

module _ (len : ℤ) (d : Descriptor) (h : Held len d) where
  pub held_size : size_of d ≤ 4096
  held_size = (extent_of d.extent h.extent).2

  pub held_strides : (bad_strides d).given ≡ false
  held_strides = h.strides

  pub held_cell : (i j : ℕ) → i < size_of d → j < 4 → outside len (cell_of d i j) ≡ false
  held_cell i j l g = none_at (λ j. outside len (cell_of d i j)) 4 j (none_at (row_outside len d) (size_of d) i (sym (cells_are_is len d) ∙ h.cells) l) g

-- a number that is not negative, as an index
pub index_fits : (z : ℤ) → pos 0 ≤ℤ z → SFits w64 z → T (non_neg z) × Fits w64 (nat_abs z)
index_fits (pos k) h f = (tt, record { fits = omega (arith, f.sfits) })
index_fits (negsuc k) h f = absurd h.le

pub index_back : (z : ℤ) → pos 0 ≤ℤ z → pos (nat_abs z) ≡ z
index_back (pos k) h = refl
index_back (negsuc k) h = absurd h.le

-- one cell of a table of n cells, and the index that it becomes
module _ (n : ℕ) (d : Descriptor) (i j : ℕ) (f : SFits w64 (pos n)) (l : i < size_of d) (g : j < 4) (h : Held (pos n) d) where
  pub cell_asks : (i < 4096) × (j < 4) × ((bad_strides d).given ≡ false) × SFits w64 (cell_of d i j)
  cell_asks = (omega (arith, held_size (pos n) d h), g, held_strides (pos n) d h, inside_fits (pos n) (cell_of d i j) f (held_cell (pos n) d h i j l g))

  pub cell_low : pos 0 ≤ℤ cell_of d i j
  cell_low = (inside_of (pos n) (cell_of d i j) (held_cell (pos n) d h i j l g)).0

  pub index_is : (k : ℕ) → pos k ≡ cell_of d i j → (k < n) × (k ≡ to_nat (cell_of d i j))
  index_is k e = (under (inside_of (pos n) (cell_of d i j) (held_cell (pos n) d h i j l g)).1, ap to_nat e)
    where
      under : cell_of d i j <ℤ pos n → k < n
      under m = omega (whole, subst (λ (z : ℤ). z <ℤ pos n) (sym e) m)

-- ---- the ends of the first row and of the last
module _ (len : ℤ) (d : Descriptor) where
  start : (i : ℕ) → cell_of d i 0 ≡ d.base +ℤ pos i *ℤ d.segment_stride
  start i = let b = d.base in let s = d.segment_stride in let t = d.coordinate_stride in
      omega (whole, of (# b ⊕ # (pos i) ⊗ # s ⊕ # (pos 0) ⊗ # t), of (# b ⊕ # (pos i) ⊗ # s))

  top : (j : ℕ) → cell_of d 0 j ≡ d.base +ℤ pos j *ℤ d.coordinate_stride
  top j = let b = d.base in let s = d.segment_stride in let t = d.coordinate_stride in
      omega (whole, of (# b ⊕ # (pos 0) ⊗ # s ⊕ # (pos j) ⊗ # t), of (# b ⊕ # (pos j) ⊗ # t))

  turned : (i j : ℕ) → d.base +ℤ pos j *ℤ d.coordinate_stride +ℤ pos i *ℤ d.segment_stride ≡ cell_of d i j
  turned i j = let b = d.base in let s = d.segment_stride in let t = d.coordinate_stride in
      omega (whole, of (# b ⊕ # (pos i) ⊗ # s ⊕ # (pos j) ⊗ # t), of (# b ⊕ # (pos j) ⊗ # t ⊕ # (pos i) ⊗ # s))

  -- the base, the end of the first row, and both ends of the row m are cells of the table
  pub between_ends : (m : ℕ) → outside len d.base ≡ false → outside len (cell_of d 0 3) ≡ false → outside len (cell_of d m 0) ≡ false → outside len (cell_of d m 3) ≡ false
      → (i j : ℕ) → i ≤ m → j ≤ 3 → outside len (cell_of d i j) ≡ false
  between_ends m b e f g i j h k =
      let s = d.segment_stride in let t = d.coordinate_stride in
      let left = along len d.base s i m h b (ap (outside len) (sym (start m)) ∙ f) in
      let right = along len (d.base +ℤ pos 3 *ℤ t) s i m h (ap (outside len) (sym (top 3)) ∙ e) (ap (outside len) (turned m 3) ∙ g) in
      along len (d.base +ℤ pos i *ℤ s) t j 3 k left (ap (outside len) (sym (turned i 3)) ∙ right)

  pub ends_decide : (n m : ℕ) → n ≡ m + 1 → outside len d.base ≡ false
      → (outside len (cell_of d 0 3) || outside len (cell_of d m 0) || outside len (cell_of d m 3)) ≡ any (row_outside len d) (positions n)
  ends_decide n m q b = go (outside len (cell_of d 0 3)) (outside len (cell_of d m 0)) (outside len (cell_of d m 3)) refl refl refl
    where
      some : (i j : ℕ) → i < n → j < 4 → outside len (cell_of d i j) ≡ true → true ≡ any (row_outside len d) (positions n)
      some i j h g e = sym (row_some len d n i j h g e)

      go : (x y z : Bool) → outside len (cell_of d 0 3) ≡ x → outside len (cell_of d m 0) ≡ y → outside len (cell_of d m 3) ≡ z → (x || y || z) ≡ any (row_outside len d) (positions n)
      go true y z e f g = some 0 3 (omega arith) (omega arith) e
      go false true z e f g = some m 0 (omega arith) (omega arith) f
      go false false true e f g = some m 3 (omega arith) (omega arith) g
      go false false false e f g =
          sym (any_none (row_outside len d) n (λ i h. any_none (λ j. outside len (cell_of d i j)) 4 (λ j k. between_ends m b e f g i j (omega arith) (omega arith))))

  -- a base outside the table is the first cell of all
  pub base_outside : (n : ℕ) → 0 < n → outside len d.base ≡ true → FirstCell len d n (Some (record { position = 0; coordinate = 0 }))
  base_outside n h e = (h, below_none _, omega arith, below_none _, ap (outside len) origin ∙ e)
    where
      origin : cell_of d 0 0 ≡ d.base
      origin = let b = d.base in omega (whole, of (# b ⊕ # (pos 0) ⊗ # d.segment_stride ⊕ # (pos 0) ⊗ # d.coordinate_stride))
