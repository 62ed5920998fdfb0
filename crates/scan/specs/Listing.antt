-- What the scan lists, one position more at a time, and the number of a position as the code makes it.
use Rattle.std.specs.Prelude.{◌≡◌, Bool, true, false, cond, List, [], ◌∷◌, ◌++◌, map, ℕ, ◌+◌, ◌≤◌, ◌<◌, ℤ, pos, ◌+ℤ◌, length, set}
use Rattle.std.proofs.Common.{sym, ap, ◌∙◌, append-nil, arith, length-append, SFits, to_z, of_z}
use Rattle.std.proofs.lemmas.List.{map-append, length-map}
use Rattle.std.specs.Int.{w32, w64}
use Rattle.whole.specs.Whole.{Ex, within, ◌⊕◌}
use Rattle.whole.specs.Fits.{between, fits, asks, plain}
use Rattle.lists.specs.Plain.{filter, positions}
use Rattle.lists.specs.Choosing.{filter_zero, filter_next, chosen_length}
use Rattle.lists.specs.Filling.{filled, filled_none, filled_more}
use Rattle.paper.specs.Descriptor.{first_number, number_of, size_of, segment_of, segments_of}
use Rattle.paper.specs.Corners.{weighed}
use Rattle.paper.specs.Answers.{bad_lower, far_off, positions_of}
use Rattle.paper.specs.Results.{numbers_of}
use Rattle.paper.specs.declared.Descriptor.{Descriptor}
use Rattle.paper.specs.declared.Window.{Window}
use Rattle.table.specs.Rows.{first_bounds}
use Rattle.table.specs.Segments.{chosen_are}

-- what the listing asks of a table, beside what a `Table` is
pub record Ready (table : List ℤ) (d : Descriptor) : Type 0 where
  pub lower : (bad_lower d.kind d.lower).given ≡ false
  pub near : (p : ℕ) → p < size_of d → far_off (segment_of d table p) ≡ false

-- the positions of the segments that meet the window, and their numbers
abbrev pub met_positions : List ℤ → Descriptor → Window → List ℕ
met_positions table d w = positions_of (weighed w) (segments_of d table)

abbrev pub met_numbers : List ℤ → Descriptor → Window → List ℤ
met_numbers table d w = numbers_of (first_number d.kind d.lower) (met_positions table d w)

-- ---- of the first n positions
module _ (table : List ℤ) (d : Descriptor) (w : Window) where
  abbrev hit : ℕ → Bool
  hit p = weighed w (segment_of d table p)

  abbrev pub chosen : ℕ → List ℕ
  chosen n = filter hit (positions n)

  abbrev pub listed : ℕ → List ℤ
  listed n = numbers_of (first_number d.kind d.lower) (chosen n)

  pub all_chosen : chosen (size_of d) ≡ met_positions table d w
  all_chosen = sym (chosen_are d table (weighed w))

  pub length_chosen : (n : ℕ) → length (chosen n) ≤ n
  length_chosen n = chosen_length hit n

  length_listed : (n : ℕ) → length (listed n) ≡ length (chosen n)
  length_listed n = length-map (chosen n) (number_of (first_number d.kind d.lower))

  pub none_count : 0 ≡ length (chosen 0)
  none_count = ap length (sym (filter_zero hit))

  pub none_cells : (cells : List ℤ) → cells ≡ filled (listed 0) cells
  none_cells cells = sym (ap (λ ps. filled (numbers_of (first_number d.kind d.lower) ps) cells) (filter_zero hit) ∙ filled_none cells)

  -- one turn: position i is kept where it is hit
  pub count_more : (i k : ℕ) (b : Bool) → k ≡ length (chosen i) → b ≡ weighed w (segment_of d table i) → cond b (k + 1) k ≡ length (chosen (i + 1))
  count_more i k b e f = rw (filter_next hit i, ← f, e) (go b)
    where
      go : (b : Bool) → cond b (length (chosen i) + 1) (length (chosen i)) ≡ length (chosen i ++ cond b (i ∷ []) [])
      go true = sym (length-append (chosen i) (i ∷ []))
      go false = ap length (sym (append-nil (chosen i)))

  pub cells_more : (i k : ℕ) (cells : List ℤ) (b : Bool) {now : List ℤ} {z : ℤ} → k ≡ length (chosen i) → b ≡ weighed w (segment_of d table i)
      → now ≡ filled (listed i) cells → z ≡ number_of (first_number d.kind d.lower) i → cond b (set now k z) now ≡ filled (listed (i + 1)) cells
  cells_more i k cells b {now} {z} e f g h = rw (filter_next hit i, ← f, g, h, e ∙ sym (length_listed i)) (go b)
    where
      go : (b : Bool) → cond b (set (filled (listed i) cells) (length (listed i)) (number_of (first_number d.kind d.lower) i)) (filled (listed i) cells)
          ≡ filled (map (number_of (first_number d.kind d.lower)) (chosen i ++ cond b (i ∷ []) [])) cells
      go true =
          filled_more (listed i) (number_of (first_number d.kind d.lower) i) cells
          ∙ ap (λ l. filled l cells) (sym (map-append (number_of (first_number d.kind d.lower)) (chosen i) (i ∷ [])))
      go false = ap (λ l. filled (numbers_of (first_number d.kind d.lower) l) cells) (sym (append-nil (chosen i)))

-- ---- the number of position i; m is the first number and k is i as the code has them
module _ (d : Descriptor) (i : ℕ) (l : i < 4096) (h : (bad_lower d.kind d.lower).given ≡ false) {m k : ℤ} (e : m ≡ first_number d.kind d.lower) (f : k ≡ pos i) where
  abbrev term : Ex
  term = let b = first_bounds d.kind d.lower h in between {z = first_number d.kind d.lower} 1000000 b.0 b.1 ⊕ within (pos i) 4096 (omega arith)

  pub sum_fits : SFits w64 (to_z w64 (of_z w64 m) +ℤ to_z w64 (of_z w64 k))
  sum_fits = rw (e, f) (asks w64 term tt)

  pub sum_is : to_z w64 (of_z w64 (to_z w64 (of_z w64 m) +ℤ to_z w64 (of_z w64 k))) ≡ number_of (first_number d.kind d.lower) i
  sum_is = rw (e, f) (plain w64 term tt)

  pub sum_narrow : SFits w32 (to_z w64 (of_z w64 (to_z w64 (of_z w64 m) +ℤ to_z w64 (of_z w64 k))))
  sum_narrow = rw sum_is (fits w32 term tt)
