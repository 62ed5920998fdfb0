-- The arithmetic of a cell's address: it never wraps, and what stands between the ends of the rows stands between them.
use Rattle.std.specs.Prelude.{◌≡◌, true, false, not, ◌||◌, ℕ, ◌+◌, ◌^◌, ◌≤◌, ◌<◌, ℤ, pos, negsuc, neg_ℤ, ◌+ℤ◌, ◌-ℤ◌, ◌*ℤ◌, ◌≤ℤ◌, ◌<ℤ◌}
use Rattle.std.proofs.Common.{sym, ap₂, ◌∙◌, subst, ⊎_elim, arith, SFits, to_z, of_z}
use Rattle.std.proofs.lemmas.Bool.{not-false}
use Rattle.std.specs.Int.Signed.{le_z, lt_z}
use Rattle.std.specs.Int.{w64}
use Rattle.std.proofs.lemmas.Int.{to_z-of_z}
use Rattle.whole.specs.Whole.{P, N, Ex, #, within, ◌⊕◌, ◌⊖◌, ◌⊗◌, of, whole, steps, times, apart, sized}
use Rattle.whole.specs.Fits.{between, near, fits, asks, plain}
use Rattle.whole.specs.Order.{lt_same, le_same, lt_z_false, le_z_false, false_lt_z, false_le_z, le_or_le}
use Rattle.lists.specs.Tests.{or_false, within_true}
use Rattle.paper.specs.Limits.{stride_fits}
use Rattle.paper.specs.Descriptor.{cell_of, outside}
use Rattle.paper.specs.declared.Descriptor.{Descriptor}
use Rattle.paper.specs.Answers.{bad_strides}
use Rattle.table.specs.Cells.{offset_of}

-- a number that went through the machine's bits
abbrev pub R : ℤ → ℤ
R z = to_z w64 (of_z w64 z)

-- ---- a stride within its limits, and a small number, as terms whose bounds are known
abbrev stride : (z : ℤ) → stride_fits z ≡ true → Ex
stride z e = let p = within_true (neg_ℤ (pos 1048576)) (pos 1048576) z e in between 1048576 p.0 p.1

abbrev small : (n most : ℕ) → n ≤ most → Ex
small n most h = within (pos n) most (omega arith)

strides_fit : (d : Descriptor) → (bad_strides d).given ≡ false → (stride_fits d.segment_stride ≡ true) × (stride_fits d.coordinate_stride ≡ true)
strides_fit d e =
    let p = or_false (not (stride_fits d.segment_stride)) (not (stride_fits d.coordinate_stride)) e in
    (not-false (stride_fits d.segment_stride) p.0, not-false (stride_fits d.coordinate_stride) p.1)

-- ---- the offset, as the code has it; m and n are i and j read as signed numbers
module _ (d : Descriptor) (i j : ℕ) (a : (i < 4096) × (j < 4) × ((bad_strides d).given ≡ false)) where
  abbrev row_term : Ex
  row_term = small i 4096 (omega arith) ⊗ stride d.segment_stride (strides_fit d a.2).0

  abbrev column_term : Ex
  column_term = small j 4 (omega arith) ⊗ stride d.coordinate_stride (strides_fit d a.2).1

  pub sum_fits : {m n : ℤ} → m ≡ pos i → n ≡ pos j → SFits w64 (R (R m *ℤ R d.segment_stride) +ℤ R (R n *ℤ R d.coordinate_stride))
  sum_fits e f = rw (e, f) (asks w64 (row_term ⊕ column_term) tt)

  pub sum_is : {m n : ℤ} → m ≡ pos i → n ≡ pos j → R (R (R m *ℤ R d.segment_stride) +ℤ R (R n *ℤ R d.coordinate_stride)) ≡ offset_of d i j
  sum_is e f = rw (e, f) (plain w64 (row_term ⊕ column_term) tt)

  pub offset_size : P (offset_of d i j) + N (offset_of d i j) ≤ 4299161600
  offset_size = near (row_term ⊕ column_term)

-- the base and how far from it
pub cell_is : (d : Descriptor) (i j : ℕ) → d.base +ℤ offset_of d i j ≡ cell_of d i j
cell_is d i j = grouped d.base (pos i *ℤ d.segment_stride) (pos j *ℤ d.coordinate_stride)
  where
    grouped : (a b c : ℤ) → a +ℤ (b +ℤ c) ≡ a +ℤ b +ℤ c
    grouped a b c = omega (whole, of (# a ⊕ (# b ⊕ # c)), of (# a ⊕ # b ⊕ # c))

-- ---- a cell of the table
pub inside_of : (len z : ℤ) → outside len z ≡ false → (pos 0 ≤ℤ z) × (z <ℤ len)
inside_of len z e = let p = or_false (lt_z z (pos 0)) (le_z len z) e in (lt_z_false p.0, le_z_false p.1)

pub inside_by : (len z : ℤ) → pos 0 ≤ℤ z → z <ℤ len → outside len z ≡ false
inside_by len z h k = ap₂ (λ x y. x || y) (false_lt_z h) (false_le_z k)

pub inside_fits : (len z : ℤ) → SFits w64 len → outside len z ≡ false → SFits w64 z
inside_fits len z f e = let p = inside_of len z e in let h = p.0 in let k = p.1 in omega (whole, sized w64 len f)

below_top : (z : ℤ) → SFits w64 z → P z < 2 ^ 63
below_top (pos n) f = omega (arith, f.sfits)
below_top (negsuc n) f = omega arith

-- ---- a cell against the table, compared without a sum that could wrap
pub outside_by : (len b o : ℤ) → (lt_z b (pos 0 -ℤ o) || le_z (len -ℤ b) o) ≡ outside len (b +ℤ o)
outside_by len b o =
    ap₂ (λ x y. x || y)
    (lt_same b (pos 0 -ℤ o) (b +ℤ o) (pos 0) (λ h. omega (whole, of (# (pos 0) ⊖ # o), of (# b ⊕ # o))) (λ h. omega (whole, of (# (pos 0) ⊖ # o), of (# b ⊕ # o))))
    (le_same (len -ℤ b) o len (b +ℤ o) (λ h. omega (whole, of (# len ⊖ # b), of (# b ⊕ # o))) (λ h. omega (whole, of (# len ⊖ # b), of (# b ⊕ # o))))

module _ (len b o : ℤ) (f : SFits w64 len) (e : outside len b ≡ false) (small : P o + N o ≤ 4299161600) where
  o_fits : SFits w64 o
  o_fits = fits w64 (within o 4299161600 small) tt

  b_fits : SFits w64 b
  b_fits = inside_fits len b f e

  pub low_fits : SFits w64 (pos 0 -ℤ R o)
  low_fits = rw (to_z-of_z w64 o o_fits) (fits w64 (# (pos 0) ⊖ within o 4299161600 small) tt)

  pub room_fits : SFits w64 (R len -ℤ R b)
  room_fits =
      let p = inside_of len b e in let h = p.0 in let k = p.1 in
      rw (to_z-of_z w64 len f, to_z-of_z w64 b b_fits) (omega (steps, sized w64 len f, below_top len f, apart len))

  pub test_is : (lt_z (R b) (R (pos 0 -ℤ R o)) || le_z (R (R len -ℤ R b)) (R o)) ≡ outside len (b +ℤ o)
  test_is = rw (to_z-of_z w64 _ low_fits, to_z-of_z w64 _ room_fits, to_z-of_z w64 len f, to_z-of_z w64 b b_fits, to_z-of_z w64 o o_fits) (outside_by len b o)

-- the base and how far from it, where the cell fits
module _ {b o z : ℤ} (f : SFits w64 b) (g : SFits w64 o) (e : b +ℤ o ≡ z) (h : SFits w64 z) where
  added : R b +ℤ R o ≡ z
  added = ap₂ (λ x y. x +ℤ y) (to_z-of_z w64 b f) (to_z-of_z w64 o g) ∙ e

  pub cell_fits : SFits w64 (R b +ℤ R o)
  cell_fits = subst (SFits w64) (sym added) h

  pub cell_back : R (R b +ℤ R o) ≡ z
  cell_back = to_z-of_z w64 _ cell_fits ∙ added

-- ---- monotony: on a line of steps, what stands between two cells of the table is a cell of the table
pub along : (len b s : ℤ) (i m : ℕ) → i ≤ m → outside len b ≡ false → outside len (b +ℤ pos m *ℤ s) ≡ false → outside len (b +ℤ pos i *ℤ s) ≡ false
along len b s i m h e f =
    let p = inside_of len b e in
    let q = inside_of len (b +ℤ pos m *ℤ s) f in
    ⊎_elim (λ k. rising p.0 q.1 k) (λ k. falling p.1 q.0 k) (le_or_le (pos 0) s)
  where
    rising : pos 0 ≤ℤ b → (b +ℤ pos m *ℤ s) <ℤ len → pos 0 ≤ℤ s → outside len (b +ℤ pos i *ℤ s) ≡ false
    rising l k z =
        inside_by len (b +ℤ pos i *ℤ s)
        (omega (whole, of (# b ⊕ # (pos i) ⊗ # s), times {a = pos 0} {b = pos i} {c = pos 0} {d = s} (omega whole) z))
        (omega (whole, of (# b ⊕ # (pos i) ⊗ # s), of (# b ⊕ # (pos m) ⊗ # s), times {a = pos i} {b = pos m} {c = pos 0} {d = s} (omega whole) z))

    falling : b <ℤ len → pos 0 ≤ℤ (b +ℤ pos m *ℤ s) → s ≤ℤ pos 0 → outside len (b +ℤ pos i *ℤ s) ≡ false
    falling k l z =
        inside_by len (b +ℤ pos i *ℤ s)
        (omega (whole, of (# b ⊕ # (pos i) ⊗ # s), of (# b ⊕ # (pos m) ⊗ # s), times {a = pos i} {b = pos m} {c = s} {d = pos 0} (omega whole) z))
        (omega (whole, of (# b ⊕ # (pos i) ⊗ # s), times {a = pos 0} {b = pos i} {c = s} {d = pos 0} (omega whole) z))
