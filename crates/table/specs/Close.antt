-- The first and the last cell that a table addresses, and what the cells between them say of its segments.
use Rattle.std.specs.Prelude.{◌≡◌, refl, Bool, true, false, not, ◌&&◌, cond, List, ℕ, ◌+◌, ◌-◌, ◌≤◌, ◌<◌, ℤ, pos, negsuc, ◌+ℤ◌, ◌*ℤ◌, get_or, take, drop, length, ◌≤ℤ◌}
use Rattle.std.proofs.Common.{sym, ap, ap₂, ◌∙◌, subst, arith}
use Rattle.std.proofs.lemmas.Bool.{not-false}
use Rattle.std.proofs.lemmas.List.{get_or-take, get_or-drop, length-take-le, length-drop}
use Rattle.std.specs.Int.Signed.{lt_z}
use Rattle.whole.specs.Whole.{#, ◌⊕◌, ◌⊗◌, of, whole, times}
use Rattle.lists.specs.Plain.{any, positions, to_nat}
use Rattle.lists.specs.Choosing.{any_none, none_at}
use Rattle.paper.specs.Limits.{coordinate_fits}
use Rattle.paper.specs.Descriptor.{cell_of, segment_of}
use Rattle.paper.specs.Answers.{far_off}
use Rattle.paper.specs.declared.Descriptor.{Descriptor}
use Rattle.table.specs.Cells.{low_end}

pub low_end_within : (s : ℤ) (m : ℕ) → low_end s m ≤ m
low_end_within s m = go (lt_z s (pos 0))
  where
    go : (b : Bool) → cond b m 0 ≤ m
    go true = omega arith
    go false = omega arith

-- on a line of steps from 0 to m, each step lies between those at its two ends
module _ (s : ℤ) (i m : ℕ) (h : i ≤ m) where
  pub from_low : (pos (low_end s m) *ℤ s) ≤ℤ (pos i *ℤ s)
  from_low = go (lt_z s (pos 0)) refl
    where
      go : (b : Bool) → lt_z s (pos 0) ≡ b → (pos (cond b m 0) *ℤ s) ≤ℤ (pos i *ℤ s)
      go true e = omega (whole, of (# (pos m) ⊗ # s), of (# (pos i) ⊗ # s), times {a = pos i} {b = pos m} {c = s} {d = pos 0} (omega whole) (omega whole))
      go false e = omega (whole, of (# (pos 0) ⊗ # s), of (# (pos i) ⊗ # s), times {a = pos 0} {b = pos i} {c = pos 0} {d = s} (omega whole) (omega whole))

  pub to_high : (pos i *ℤ s) ≤ℤ (pos (m - low_end s m) *ℤ s)
  to_high = go (lt_z s (pos 0)) refl
    where
      none : pos (m - m) ≡ pos 0
      none = ap pos (omega arith)

      all : pos (m - 0) ≡ pos m
      all = ap pos (omega arith)

      go : (b : Bool) → lt_z s (pos 0) ≡ b → (pos i *ℤ s) ≤ℤ (pos (m - cond b m 0) *ℤ s)
      go true e = rw none (omega (whole, of (# (pos 0) ⊗ # s), of (# (pos i) ⊗ # s), times {a = pos 0} {b = pos i} {c = s} {d = pos 0} (omega whole) (omega whole)))
      go false e = rw all (omega (whole, of (# (pos m) ⊗ # s), of (# (pos i) ⊗ # s), times {a = pos i} {b = pos m} {c = pos 0} {d = s} (omega whole) (omega whole)))

sums : (z a b c d : ℤ) → a ≤ℤ b → c ≤ℤ d → (z +ℤ a +ℤ c) ≤ℤ (z +ℤ b +ℤ d)
sums z a b c d h g = omega (whole, of (# z ⊕ # a ⊕ # c), of (# z ⊕ # b ⊕ # d))

module _ (d : Descriptor) (m : ℕ) where
  abbrev pub low_cell : ℤ
  low_cell = cell_of d (low_end d.segment_stride m) (low_end d.coordinate_stride 3)

  abbrev pub high_cell : ℤ
  high_cell = cell_of d (m - low_end d.segment_stride m) (3 - low_end d.coordinate_stride 3)

  module _ (i j : ℕ) (h : i ≤ m) (g : j ≤ 3) where
    above_low : low_cell ≤ℤ cell_of d i j
    above_low = sums d.base _ _ _ _ (from_low d.segment_stride i m h) (from_low d.coordinate_stride j 3 g)

    below_high : cell_of d i j ≤ℤ high_cell
    below_high = sums d.base _ _ _ _ (to_high d.segment_stride i m h) (to_high d.coordinate_stride j 3 g)

  -- the first cell and the last, as indexes
  module _ {first end : ℕ} (e : pos first ≡ low_cell) (f : pos end ≡ high_cell) where
    pub in_order : first ≤ end
    in_order =
        let k = subst (λ z. z ≤ℤ high_cell) (sym e) (below_high (low_end d.segment_stride m) (low_end d.coordinate_stride 3) (low_end_within d.segment_stride m) (low_end_within d.coordinate_stride 3)) in
        let l : pos first ≤ℤ pos end = subst (λ z. pos first ≤ℤ z) (sym f) k in
        omega (whole, l)

    module _ (i j : ℕ) (h : i ≤ m) (g : j ≤ 3) where
      between : (first ≤ to_nat (cell_of d i j)) × (to_nat (cell_of d i j) ≤ end)
      between = go (cell_of d i j) (subst (λ z. z ≤ℤ cell_of d i j) (sym e) (above_low i j h g)) (subst (λ z. cell_of d i j ≤ℤ z) (sym f) (below_high i j h g))
        where
          go : (z : ℤ) → pos first ≤ℤ z → z ≤ℤ pos end → (first ≤ to_nat z) × (to_nat z ≤ end)
          go (pos k) h g = (omega whole, omega whole)
          go (negsuc k) h g = absurd h.le

    -- no cell between them is beyond the limits, so no coordinate is
    module _ (table : List ℤ) where
      pub none_far : {n : ℕ} → n ≡ m + 1 → any (λ k. not (coordinate_fits (get_or table (first + k) (pos 0)))) (positions (end - first + 1)) ≡ false
          → any (λ p. far_off (segment_of d table p)) (positions n) ≡ false
      none_far {n} q none = any_none (λ p. far_off (segment_of d table p)) n near
        where
          and : Bool → Bool → Bool
          and a b = a && b

          cell : (i j : ℕ) → i ≤ m → j ≤ 3 → coordinate_fits (get_or table (to_nat (cell_of d i j)) (pos 0)) ≡ true
          cell i j h g =
              let b = between i j h g in
              let k : ℕ = to_nat (cell_of d i j) - first in
              let s : first + k ≡ to_nat (cell_of d i j) = omega arith in
              ap (λ a. coordinate_fits (get_or table a (pos 0))) (sym s)
              ∙ not-false _ (none_at (λ k. not (coordinate_fits (get_or table (first + k) (pos 0)))) (end - first + 1) k none (omega arith))

          near : (p : ℕ) → p < n → far_off (segment_of d table p) ≡ false
          near p h =
              let l : p ≤ m = omega arith in
              ap not (ap₂ and (ap₂ and (ap₂ and (cell p 0 l (omega arith)) (cell p 1 l (omega arith))) (cell p 2 l (omega arith))) (cell p 3 l (omega arith)))

      -- the same of the slice that holds these cells and no others
      pub none_far_in_slice : {n w : ℕ} → n ≡ m + 1 → w ≡ end - first + 1 → end < length table
          → any (λ k. not (coordinate_fits (get_or (take w (drop first table)) k (pos 0)))) (positions (length (take w (drop first table)))) ≡ false
          → any (λ p. far_off (segment_of d table p)) (positions n) ≡ false
      none_far_in_slice {n} {w} q u r none = none_far q (any_none (λ k. not (coordinate_fits (get_or table (first + k) (pos 0)))) (end - first + 1) fits)
        where
          fits : (k : ℕ) → k < end - first + 1 → not (coordinate_fits (get_or table (first + k) (pos 0))) ≡ false
          fits k l =
              let b : k < w = omega arith in
              let o = length-take-le w (drop first table) (simp length-drop (omega (arith, in_order))) in
              ap (λ a. not (coordinate_fits a)) (sym (get_or-take w (drop first table) k (pos 0) b ∙ get_or-drop first table k (pos 0)))
              ∙ none_at (λ k. not (coordinate_fits (get_or (take w (drop first table)) k (pos 0)))) _ k none (omega (arith, o))
