-- The two blocks of an index, from its levels: the runs gathered from the levels, each at the front of its block's words, then the blocks in the parts that are lent.
-- Use: `first_run`, `second_run` for what the block builder asks, `placed` for the whole. Assumes nothing.
use Rattle.std.specs.Prelude.{◌≡◌, Bool, not, List, ◌++◌, map, ℕ, ◌+◌, ◌-◌, ◌*◌, ◌/◌, ◌≤◌, ◌<◌, ℤ, pos, length, take, drop}
use Rattle.std.proofs.Common.{sym, ap, ap₂, ◌∙◌, arith, take-take, take_at, length-append, length-drop, length-take-le}
use Rattle.std.proofs.lemmas.List.{length-map}
use Rattle.lists.specs.Plain.{to_nat, filter}
use Rattle.lists.specs.Filters.{filter_map}
use Rattle.lists.specs.Parts.{win}
use Rattle.paper.specs.Descriptor.{size_of, at}
use Rattle.paper.specs.declared.Descriptor.{Descriptor}
use Rattle.paper.specs.declared.Segment.{Segment}
use Rattle.paper.specs.Results.{over}
use Rattle.paper.specs.Words.{L, x_order, slots, is_horizontal, horizontals, verticals, horizontal, vertical, levels_words, block_words}
use Rattle.axes.specs.declared.Axis as axes
use Rattle.axes.specs.declared.Axis.TheVariants.{Horizontal, Vertical}
use Rattle.records.specs.Records.{records_of}
use Rattle.records.specs.Reading.{records_length}
use Rattle.records.specs.declared.Straight.{Straight}
use Rattle.build_queue.specs.declared.Ends.{Ends}
use Rattle.build_queue.specs.Runs.{named, Stands, back_named, stands}
use Rattle.build_block.specs.Fronts.{front, front_is, fronted}
use Rattle.build_block.specs.Sides.{Tidy, Nearer}
use Rattle.build_block.specs.Straight.{level_tidy, upright_tidy}
use Rattle.builder.specs.LevelRuns as runs

-- whether the record of the position that a word stands for is horizontal
abbrev pub is_level : Descriptor → List ℤ → ℤ → Bool
is_level d table z = is_horizontal (at (records_of d table) (to_nat z))

abbrev pub is_upright : Descriptor → List ℤ → ℤ → Bool
is_upright d table z = not (is_horizontal (at (records_of d table) (to_nat z)))

-- whether it belongs to the block of an axis
abbrev along_axis : axes.Axis → Descriptor → List ℤ → ℤ → Bool
along_axis Horizontal = is_level
along_axis Vertical = is_upright

abbrev pub belongs : Ends → ℤ → Bool
belongs ends = along_axis ends.axis ends.marks.descriptor ends.marks.cells.now

-- the blocks' words, of a descriptor's table
abbrev pub blocks_of : Descriptor → List ℤ → List ℤ
blocks_of d table =
    block_words (records_of d table) horizontal (horizontals (records_of d table)) ++ block_words (records_of d table) vertical (verticals (records_of d table))

-- words with others over their front
over_long : (v xs : List ℤ) → length v ≤ length xs → length (over v xs) ≡ length xs
over_long v xs h = simp (length-append, length-drop) (omega arith)

over_front : (n : ℕ) (v xs : List ℤ) → length v ≡ n → win 0 n (over v xs) ≡ v
unfolding win
over_front n v xs h = take_at v _ n h

-- n positions of marks that may be read, their levels, and the room of their blocks
module _ (marks : Straight) (levels s₀ : List ℤ) (n : ℕ) (n_is : (n ≡ size_of marks.descriptor) × (n ≤ 4096))
    (given : (levels ≡ levels_words (records_of marks.descriptor marks.cells.now)) × (length s₀ ≡ 8 * size_of marks.descriptor)) where
  abbrev table : List ℤ
  table = marks.cells.now

  abbrev d : Descriptor
  d = marks.descriptor

  abbrev rs : List Segment
  rs = records_of d table

  level : Tidy rs horizontal
  level = level_tidy table d marks.readable

  upright : Tidy rs vertical
  upright = upright_tidy table d marks.readable

  size : length rs ≡ n
  size = records_length d table ∙ sym n_is.0

  long : length s₀ ≡ 8 * n
  long = omega (arith, given.1, n_is.0)

  abbrev A : List ℕ
  A = runs.across d table

  abbrev B : List ℕ
  B = runs.along d table

  abbrev last : ℕ
  last = length levels - 2 * n

  levels_long : length levels ≡ 2 * n * (L (n - 1) + 1)
  levels_long = ap length given.0 ∙ runs.levels_long d table ∙ ap (λ k. 2 * k * (L (k - 1) + 1)) size

  pub levels_room : 2 * n ≤ length levels
  levels_room = let e : 2 * n * (L (n - 1) + 1) ≡ 2 * n * L (n - 1) + 2 * n = omega arith in omega (arith, levels_long, e)

  -- the last level's positions, and those of level 0
  abbrev by_x : List ℤ
  by_x = take (last + n - last) (drop last levels)

  abbrev by_y : List ℤ
  by_y = take n levels

  by_x_is : by_x ≡ map pos (x_order rs)
  unfolding win
  by_x_is =
      let k : last + n - last ≡ n = omega arith in
      let e : 2 * n * (L (n - 1) + 1) ≡ 2 * n * L (n - 1) + 2 * n = omega arith in
      let l : last ≡ 2 * n * L (n - 1) = omega (arith, levels_long, e) in
      ap₂ (λ i j. take i (drop j levels)) k l
      ∙ ap (λ w. take n (drop (2 * n * L (n - 1)) w)) given.0
      ∙ ap (λ k. win (2 * k * L (k - 1)) k (levels_words rs)) (sym size)
      ∙ runs.level_last d table

  by_y_is : by_y ≡ map pos (slots rs (x_order rs))
  unfolding win
  by_y_is = ap (take n) given.0 ∙ ap (λ k. win 0 k (levels_words rs)) (sym size) ∙ runs.level_zero d table

  across_is : filter (is_level d table) by_x ≡ map pos A
  across_is = ap (filter (is_level d table)) by_x_is ∙ filter_map pos (is_level d table) (x_order rs)

  along_is : filter (is_upright d table) by_y ≡ map pos B
  along_is = ap (filter (is_upright d table)) by_y_is ∙ filter_map pos (is_upright d table) (slots rs (x_order rs))

  across_count : length (filter (is_level d table) by_x) ≡ length (horizontals rs)
  across_count = ap length across_is ∙ length-map A pos ∙ runs.across_length d table

  along_count : length (filter (is_upright d table) by_y) ≡ length (verticals rs)
  along_count = ap length along_is ∙ length-map B pos ∙ runs.along_length d table

  pub across_room : length (filter (is_level d table) by_x) ≤ length s₀
  across_room = omega (arith, across_count, runs.all_sorts d table, size, long)

  -- once the horizontals are gathered
  module _ (h : ℕ) (y₁ : List ℤ) (h-is : h ≡ length (filter (is_level d table) by_x)) (is₁ : y₁ ≡ over (filter (is_level d table) by_x) s₀) where
    pub h_size : h ≡ length (horizontals rs)
    h_size = h-is ∙ across_count

    v_size : n - h ≡ length (verticals rs)
    v_size = omega (arith, h_size, runs.all_sorts d table, size)

    h_most : h ≤ n
    h_most = omega (arith, h_size, runs.all_sorts d table, size)

    long₁ : length y₁ ≡ 8 * n
    long₁ = ap length is₁ ∙ over_long (filter (is_level d table) by_x) s₀ across_room ∙ long

    pub split_room : 8 * h ≤ length y₁
    split_room = omega (arith, h_most, long₁)

    -- and the words of the two blocks are parted
    module _ (first second : List ℤ) (first_is : first ≡ take (8 * h) y₁) (second_is : second ≡ drop (8 * h) y₁) where
      first_long : length first ≡ 8 * h
      first_long = ap length first_is ∙ length-take-le (8 * h) y₁ (omega (arith, long₁, h_most))

      second_long : length second ≡ 8 * (n - h)
      second_long = ap length second_is ∙ length-drop (8 * h) y₁ ∙ omega (arith, long₁, h_most)

      first_front : win 0 h first ≡ map pos A
      unfolding win
      first_front =
          ap (take h) first_is
          ∙ take-take h (8 * h) y₁ (omega arith)
          ∙ ap (take h) is₁
          ∙ over_front h (filter (is_level d table) by_x) s₀ (sym h-is)
          ∙ across_is

      pub first_run : (length first ≡ 8 * (length first / 8)) × (length first / 8 < 2147483648) × Stands (Nearer rs horizontal) (front first)
      first_run = fronted h first first_long (Nearer rs horizontal) (omega (arith, h_most, n_is.1)) (stands (Nearer rs horizontal) _ A first_front (runs.across_stands d table))

      pub along_room : length (filter (is_upright d table) by_y) ≤ length second
      along_room = omega (arith, along_count, v_size, second_long)

      -- and the verticals gathered
      module _ (z : List ℤ) (z-is : z ≡ over (filter (is_upright d table) by_y) second) where
        z_long : length z ≡ 8 * (n - h)
        z_long = ap length z-is ∙ over_long (filter (is_upright d table) by_y) second along_room ∙ second_long

        z_front : win 0 (n - h) z ≡ map pos B
        z_front = ap (win 0 (n - h)) z-is ∙ over_front (n - h) (filter (is_upright d table) by_y) second (along_count ∙ sym v_size) ∙ along_is

        pub second_run : (length z ≡ 8 * (length z / 8)) × (length z / 8 < 2147483648) × Stands (Nearer rs vertical) (front z)
        second_run = fronted (n - h) z z_long (Nearer rs vertical) (omega (arith, n_is.1)) (stands (Nearer rs vertical) _ B z_front (runs.along_stands d table))

        pub placed : (e₁ e₂ : List ℤ) → e₁ ≡ block_words rs horizontal (named (front first)) → e₂ ≡ block_words rs vertical (named (front z)) → e₁ ++ e₂ ≡ blocks_of d table
        placed e₁ e₂ f₁ f₂ =
            let a : named (front first) ≡ A = ap named (front_is h first first_long ∙ first_front) ∙ back_named A in
            let b : named (front z) ≡ B = ap named (front_is (n - h) z z_long ∙ z_front) ∙ back_named B in
            ap₂ (λ u v. u ++ v)
            (f₁ ∙ ap (block_words rs horizontal) a ∙ runs.across_words_is d table level)
            (f₂ ∙ ap (block_words rs vertical) b ∙ runs.along_words_is d table upright)
