-- The runs that the blocks are made of stand in the levels already: level 0 by (y, position), the last level by (x, y, position). Those of them that are horizontal, or
-- vertical, stand by near, and hold each position of `paper`'s list once.
-- Use: `level_zero`, `level_last` for the words; `across_stands`, `along_stands` for the orders; `across_words_is`, `along_words_is` for the blocks over them. Assumes nothing.
use Rattle.std.specs.Prelude.{◌≡◌, Bool, not, ◌&&◌, ltb, ℤ, replicate}
use Rattle.std.proofs.Common.{sym, ◌∙◌}
use Rattle.std.proofs.Math.Path.{ap}
use mathlib.Core.List.{List, ◌++◌, map}
use Prim.Native.Nat.{ℕ, zero, suc, ◌+◌, ◌-◌, ◌*◌, ◌≤◌}
use native.Mathlib.Omega.{arith}
use Rattle.std.proofs.Math.IntN.{pos}
use Rattle.std.proofs.Math.ListN.{length}
use Rattle.std.proofs.lemmas.List.{length-map, length-replicate}
use Rattle.lists.specs.Plain.{positions, filter, count, by, sort}
use Rattle.lists.specs.Orders.{ltb_linear, by_linear, by_key}
use Rattle.lists.specs.Every.{Sorted, sorted_map, sorted_filter}
use Rattle.lists.specs.Counting.{filter_count, filter_length, count_parts}
use Rattle.lists.specs.Positions.{positions_length}
use Rattle.lists.specs.Sorting.{sort_count, sort_length, sort_map, sort_sorted}
use Rattle.lists.specs.Digits.{digits_bound}
use Rattle.lists.specs.Parts.{win, win_front, win_back, win_all}
use Rattle.paper.specs.Descriptor.{at}
use Rattle.paper.specs.declared.Descriptor.{Descriptor}
use Rattle.paper.specs.declared.Segment.{Segment}
use Rattle.paper.specs.Words.{L, low_x, low_y, x_order, slots, levels_words, is_horizontal, horizontals, verticals, horizontal, vertical, block_words}
use Rattle.axes.specs.declared.Word.TheVariants.{X1, Y1}
use Rattle.records.specs.Records.{records_of, key_order}
use Rattle.records.specs.KeyOrders.{smallest_carried, one_key_carried, key_linear}
use Rattle.levels.specs.Raising.{raised, raised_counts, stack, raised_length, counts_length, stack_length}
use Rattle.levels.specs.Rows.{rows, along_here, sort_none, rows_length, rows_last, raised_rows}
use Rattle.levels.specs.Levels.{x_words, levels_are}
use Rattle.build_block.specs.Sides.{Tidy, Nearer}
use Rattle.build_block.specs.Blocks.{block_same}

module _ (d : Descriptor) (table : List ℤ) where
  abbrev rs : List Segment
  rs = records_of d table

  abbrev n : ℕ
  n = length rs

  abbrev order : List ℕ
  order = x_order rs

  abbrev low : ℕ → ℕ → Bool
  low = by (low_y rs) ltb

  abbrev key : ℤ → ℤ → Bool
  key = key_order table d Y1 Y1

  order_length : length order ≡ n
  order_length = sort_length (by (low_x rs) low) (positions n) ∙ positions_length n

  words_are : map pos order ≡ x_words d table
  words_are = sort_map pos (by (low_x rs) low) (key_order table d X1 Y1) (smallest_carried table d X1 Y1) (positions n)

  row_length : (e : ℕ) → length (map pos (rows low e order)) ≡ n
  row_length e = length-map (rows low e order) pos ∙ rows_length low e order ∙ order_length

  first_words : (e : ℕ) (cs : List ℤ) → length cs ≡ n → win 0 n (stack key e (map pos (rows low e order)) cs) ≡ map pos (rows low 0 order)
  unfolding stack
  first_words zero cs h = win_front 0 n (map pos (rows low 0 order)) cs (omega (arith, row_length 0)) ∙ win_all n (map pos (rows low 0 order)) (row_length 0)
  first_words (suc e) cs h =
      let ws = map pos (rows low (suc e) order) in
      let up = stack key e (raised key e ws) (raised_counts key e ws) in
      let counted : length (raised_counts key e ws) ≡ n = counts_length key e ws ∙ row_length (suc e) in
      let long : length up ≡ 2 * n * (e + 1) = stack_length key n e (raised key e ws) (raised_counts key e ws) (raised_length key e ws ∙ row_length (suc e)) counted in
      win_front 0 n up (ws ++ cs) (room e long)
      ∙ ap (λ w. win 0 n (stack key e w (raised_counts key e ws))) (raised_rows low key (one_key_carried table d Y1) (key_linear table d Y1 Y1) e order)
      ∙ first_words e (raised_counts key e ws) counted
    where
      room : (e : ℕ) {k : ℕ} → k ≡ 2 * n * (e + 1) → 0 + n ≤ k
      room e h = omega arith

  last_words : (e : ℕ) (ws cs : List ℤ) → length ws ≡ n → length cs ≡ n → win (2 * n * e) n (stack key e ws cs) ≡ ws
  unfolding stack
  last_words zero ws cs h k =
      let z : 2 * n * 0 ≡ 0 = omega arith in
      ap (λ i. win i n (ws ++ cs)) z ∙ win_front 0 n ws cs (omega arith) ∙ win_all n ws h
  last_words (suc e) ws cs h k =
      let up = stack key e (raised key e ws) (raised_counts key e ws) in
      let long : length up ≡ 2 * n * (e + 1) = stack_length key n e (raised key e ws) (raised_counts key e ws) (raised_length key e ws ∙ h) (counts_length key e ws ∙ h) in
      let i : 2 * n * suc e ≡ length up + 0 = omega (arith, long) in
      ap (λ j. win j n (up ++ (ws ++ cs))) i ∙ win_back 0 n up (ws ++ cs) ∙ win_front 0 n ws cs (omega arith) ∙ win_all n ws h

  abbrev deep : ℕ
  deep = L (n - 1)

  deepest : map pos (rows low deep order) ≡ x_words d table
  deepest = ap (map pos) (rows_last low deep order (omega (arith, order_length, digits_bound (n - 1)))) ∙ words_are

  x_long : length (x_words d table) ≡ n
  x_long = ap length (sym words_are) ∙ length-map order pos ∙ order_length

  abbrev none : List ℤ
  none = replicate n (pos 0)

  none_long : length none ≡ n
  none_long = length-replicate n (pos 0)

  pub levels_long : length (levels_words rs) ≡ 2 * n * (L (n - 1) + 1)
  levels_long = ap length (sym (levels_are d table)) ∙ stack_length key n deep (x_words d table) none x_long none_long

  -- by (y, position)
  pub level_zero : win 0 n (levels_words rs) ≡ map pos (slots rs (x_order rs))
  level_zero =
      ap (win 0 n) (sym (levels_are d table))
      ∙ ap (λ w. win 0 n (stack key deep w none)) (sym deepest)
      ∙ first_words deep none none_long
      ∙ ap (map pos) (along_here (sort low) (sort_none low) order)

  -- by (x, y, position)
  pub level_last : win (2 * n * L (n - 1)) n (levels_words rs) ≡ map pos (x_order rs)
  level_last =
      ap (win (2 * n * deep) n) (sym (levels_are d table)) ∙ last_words deep (x_words d table) none x_long none_long ∙ sym words_are

  -- ---- those of a level that are horizontal, and those that are vertical
  abbrev level : ℕ → Bool
  level p = is_horizontal (at rs p)

  abbrev pub across : List ℕ
  across = filter (λ p. is_horizontal (at rs p)) (x_order rs)

  abbrev pub along : List ℕ
  along = filter (λ p. not (is_horizontal (at rs p))) (slots rs (x_order rs))

  pub across_stands : Sorted (Nearer rs horizontal) across
  across_stands =
      sorted_filter level
      (sorted_map (λ x y h. by_key (low_x rs) low x y h)
      (sort_sorted (by (low_x rs) low) (by_linear (low_x rs) low (by_linear (low_y rs) ltb ltb_linear)).order (positions n)))

  pub along_stands : Sorted (Nearer rs vertical) along
  along_stands =
      sorted_filter (λ p. not (level p)) (sorted_map (λ x y h. by_key (low_y rs) ltb x y h) (sort_sorted low (by_linear (low_y rs) ltb ltb_linear).order order))

  order_count : (q : ℕ → Bool) → count q order ≡ count q (positions n)
  order_count q = sort_count (by (low_x rs) low) q (positions n)

  slots_count : (q : ℕ → Bool) → count q (slots rs order) ≡ count q (positions n)
  slots_count q = sort_count low q order ∙ order_count q

  pub across_words_is : Tidy rs horizontal → block_words rs horizontal across ≡ block_words rs horizontal (horizontals rs)
  across_words_is tidy =
      block_same rs horizontal tidy across (horizontals rs)
      (λ q. filter_count q level order ∙ order_count (λ p. q p && level p) ∙ sym (filter_count q level (positions n)))

  pub along_words_is : Tidy rs vertical → block_words rs vertical along ≡ block_words rs vertical (verticals rs)
  along_words_is tidy =
      block_same rs vertical tidy along (verticals rs)
      (λ q. filter_count q (λ p. not (level p)) (slots rs order) ∙ slots_count (λ p. q p && not (level p)) ∙ sym (filter_count q (λ p. not (level p)) (positions n)))

  pub across_length : length across ≡ length (horizontals rs)
  across_length = filter_length level order ∙ order_count level ∙ sym (filter_length level (positions n))

  pub along_length : length along ≡ length (verticals rs)
  along_length =
      filter_length (λ p. not (level p)) (slots rs order) ∙ slots_count (λ p. not (level p)) ∙ sym (filter_length (λ p. not (level p)) (positions n))

  -- each position is one or the other
  pub all_sorts : length (horizontals rs) + length (verticals rs) ≡ n
  all_sorts =
      omega (
        arith,
        filter_length level (positions n),
        filter_length (λ p. not (level p)) (positions n),
        count_parts level (positions n),
        positions_length n,
      )
