-- What the builder asks of its caller, and the whole index from its parts: records, levels, blocks, and the header over the first four words. Assumes nothing.
use Rattle.std.specs.Prelude.{◌≡◌, false, ℕ, ◌+◌, ◌-◌, ◌*◌, ◌≤◌, ◌<◌, pos, take, drop}
use Rattle.std.proofs.Math.Path.{sym, ap}
use Rattle.std.proofs.Common.{ap₂, ◌∙◌, arith, take-append-drop, length-take-le, length-drop, append_assoc}
use Rattle.std.proofs.lemmas.List.{drop-drop}
use mathlib.Core.List.{List, [], ◌∷◌, ◌++◌, map}
use Rattle.std.proofs.Math.IntN.{ℤ}
use Rattle.std.proofs.Math.ListN.{length, length-append}
use borrow.Rule.Slice.PartMut.{put_mid}
use Rattle.lists.specs.Plain.{joined}
use Rattle.lists.specs.Parts.{win, put, length_put, win_front, win_put_at, put_swap, put_join, lent}
use Rattle.paper.specs.Descriptor.{size_of, segments_of}
use Rattle.paper.specs.Answers.{bad_lower}
use Rattle.paper.specs.declared.Descriptor.{Descriptor}
use Rattle.paper.specs.declared.Segment.{Segment}
use Rattle.paper.specs.Results.{over}
use Rattle.paper.specs.Words.{L, W, record_of, header_words, levels_words, horizontals, verticals, horizontal, vertical, block_words, index_words}
use Rattle.records.specs.Records.{records_of}
use Rattle.records.specs.Reading.{records_length}
use Rattle.records.specs.declared.Straight.{Straight}
use Rattle.levels.specs.RecordWords.{words_length}
use Rattle.build_block.specs.Straight.{level_tidy, upright_tidy}
use Rattle.build_block.specs.Blocks.{block_length}
use Rattle.builder.specs.LevelRuns.{levels_long, all_sorts}
use Rattle.builder.specs.Gathering.{put_front}
use Rattle.builder.specs.Placing.{blocks_of}

-- a lower bound that answer 2 passes, and a buffer that answer 7 passes
pub record Accepted (d : Descriptor) (index : List ℤ) : Type 0 where
  pub lower : (bad_lower d.kind d.lower).given ≡ false
  pub room : W (size_of d) ≤ length index

-- n positions of marks that may be read, of which the last level is `deep`, and a buffer
module _ (marks : Straight) (n deep : ℕ) (xs : List ℤ) (n_is : (n ≡ size_of marks.descriptor) × (n ≤ 4096)) (deep_is : deep ≡ L (n - 1)) (room : W (size_of marks.descriptor) ≤ length xs) where
  abbrev table : List ℤ
  table = marks.cells.now

  abbrev d : Descriptor
  d = marks.descriptor

  abbrev rs : List Segment
  rs = records_of d table

  abbrev R : List ℤ
  R = joined (map record_of rs)

  abbrev Lv : List ℤ
  Lv = levels_words rs

  abbrev levels : ℕ
  levels = 4 + 4 * n

  abbrev blocks : ℕ
  blocks = levels + 2 * n * deep + 2 * n

  size : length rs ≡ n
  size = records_length d table ∙ sym n_is.0

  R_long : length R ≡ 4 * n
  R_long = words_length rs ∙ ap (λ k. 4 * k) size

  Lv_long : length Lv ≡ 2 * n * deep + 2 * n
  Lv_long =
      let k : 2 * n * (deep + 1) ≡ 2 * n * deep + 2 * n = omega arith in
      levels_long d table ∙ ap₂ (λ k e. 2 * k * (e + 1)) size (ap (λ k. L (k - 1)) size ∙ sym deep_is) ∙ k

  both_long : length (block_words rs horizontal (horizontals rs)) + length (block_words rs vertical (verticals rs)) ≡ 8 * n
  both_long = omega (arith, block_length rs horizontal (level_tidy table d marks.readable) (horizontals rs), block_length rs vertical (upright_tidy table d marks.readable) (verticals rs), all_sorts d table, size)

  B_long : length (blocks_of d table) ≡ 8 * n
  B_long = length-append (block_words rs horizontal (horizontals rs)) (block_words rs vertical (verticals rs)) ∙ both_long

  pub fits : blocks + 8 * n ≤ length xs
  fits =
      let k : blocks + 8 * n ≡ levels + 2 * n * (deep + 1) + 8 * n = omega arith in
      let w : levels + 2 * n * (deep + 1) + 8 * n ≡ W (size_of d) = ap₂ (λ k e. 4 + 4 * k + 2 * k * (e + 1) + 8 * k) n_is.0 (deep_is ∙ ap (λ k. L (k - 1)) n_is.0) in
      omega (arith, room, k, w)

  -- once the records and the levels are written in the parts that were lent
  module _ (e₁ e₂ : List ℤ) (f₁ : e₁ ≡ R) (f₂ : e₂ ≡ Lv) where
    abbrev y₁ : List ℤ
    y₁ = put_mid 4 (levels - 4) xs e₁

    abbrev y₂ : List ℤ
    y₂ = put_mid levels (blocks - levels) y₁ e₂

    at₁ : y₁ ≡ put 4 R xs
    at₁ = ap (put_mid 4 (levels - 4) xs) f₁ ∙ lent 4 (levels - 4) xs R (omega (arith, R_long))

    long₁ : length y₁ ≡ length xs
    long₁ = ap length at₁ ∙ length_put 4 R xs (omega (arith, R_long, fits))

    over_records : y₂ ≡ put levels Lv y₁
    over_records = ap (put_mid levels (blocks - levels) y₁) f₂ ∙ lent levels (blocks - levels) y₁ Lv (omega (arith, Lv_long))

    at₂ : y₂ ≡ put 4 (R ++ Lv) xs
    at₂ =
        let e : levels ≡ 4 + length R = omega (arith, R_long) in
        over_records ∙ ap₂ (λ k t. put k Lv t) e at₁ ∙ put_join 4 R Lv xs (omega (arith, R_long, Lv_long, fits))

    RL_long : 4 + length (R ++ Lv) ≡ blocks
    RL_long = simp length-append (omega (arith, R_long, Lv_long))

    pub long₂ : length y₂ ≡ length xs
    long₂ = ap length at₂ ∙ length_put 4 (R ++ Lv) xs (omega (arith, RL_long, fits))

    -- and the buffer is parted before the blocks
    module _ (before after : List ℤ) (before_is : before ≡ take blocks y₂) (after_is : after ≡ drop blocks y₂) where
      before_long : length before ≡ blocks
      before_long = ap length before_is ∙ length-take-le blocks y₂ (omega (arith, long₂, fits))

      levels_there : take (length before - levels) (drop levels before) ≡ Lv
      unfolding win
      levels_there =
          let k : length before - levels ≡ 2 * n * deep + 2 * n = omega (arith, before_long) in
          ap₂ (λ i l. win levels i l) k before_is
          ∙ sym (win_front levels (2 * n * deep + 2 * n) (take blocks y₂) (drop blocks y₂) (omega (arith, length-take-le blocks y₂ (omega (arith, long₂, fits)))))
          ∙ ap (win levels (2 * n * deep + 2 * n)) (take-append-drop blocks y₂ ∙ over_records)
          ∙ win_put_at levels (2 * n * deep + 2 * n) Lv y₁ Lv_long (omega (arith, long₁, fits))

      blocks_room : length (take (8 * n) after) ≡ 8 * n
      blocks_room = length-take-le (8 * n) after (omega (arith, ap length after_is, length-drop blocks y₂, long₂, fits))

      pub lent_on : (take (length before - levels) (drop levels before) ≡ Lv) × (length (take (8 * n) after) ≡ 8 * size_of d)
      lent_on = (levels_there, omega (arith, blocks_room, n_is.0))

      -- and the blocks are written
      at₃ : before ++ (blocks_of d table ++ drop (8 * n) after) ≡ put 4 (R ++ (Lv ++ blocks_of d table)) xs
      unfolding put
      at₃ =
          let k : blocks + 8 * n ≡ blocks + length (blocks_of d table) = omega (arith, B_long) in
          ap₂ (λ u v. u ++ (blocks_of d table ++ drop (8 * n) v)) before_is after_is
          ∙ ap (λ l. take blocks y₂ ++ (blocks_of d table ++ l)) (drop-drop (8 * n) blocks y₂ ∙ ap (λ i. drop i y₂) k)
          ∙ ap₂ (λ i t. put i (blocks_of d table) t) (sym RL_long) at₂
          ∙ put_join 4 (R ++ Lv) (blocks_of d table) xs (omega (arith, RL_long, B_long, fits))
          ∙ ap (λ l. put 4 l xs) (append_assoc R Lv (blocks_of d table))

      module _ (h : ℕ) (e₃ : List ℤ) (h_is : h ≡ length (horizontals rs)) (f₃ : e₃ ≡ blocks_of d table) where
        abbrev y₃ : List ℤ
        y₃ = before ++ (e₃ ++ drop (8 * n) after)

        is₃ : y₃ ≡ put 4 (R ++ (Lv ++ blocks_of d table)) xs
        is₃ = ap (λ e. before ++ (e ++ drop (8 * n) after)) f₃ ∙ at₃

        pub counts : (h ≤ n) × (n - h ≡ length (verticals rs))
        counts = (omega (arith, h_is, all_sorts d table, size), omega (arith, h_is, all_sorts d table, size))

        long₃ : length y₃ ≡ length xs
        long₃ = ap length is₃ ∙ length_put 4 (R ++ (Lv ++ blocks_of d table)) xs (simp length-append (omega (arith, R_long, Lv_long, both_long, fits)))

        -- what the header asks
        pub header_room : (4 ≤ length y₃) × (n < 2147483648) × (h < 2147483648) × (n - h < 2147483648)
        header_room = (omega (arith, long₃, fits), omega (arith, n_is.1), omega (arith, counts, n_is.1), omega (arith, n_is.1))

        pub whole : (first : ℤ) (y : List ℤ) → y ≡ put 0 (pos n ∷ first ∷ pos h ∷ pos (n - h) ∷ []) y₃ → y ≡ over (index_words first (segments_of d table)) xs
        unfolding index_words
        whole first y is =
            let H : List ℤ = header_words first rs in
            let all : List ℤ = R ++ (Lv ++ blocks_of d table) in
            let k : length all ≡ blocks + 8 * n - 4 = simp length-append (omega (arith, R_long, Lv_long, both_long)) in
            is
            ∙ ap (λ m. put 0 (pos m ∷ first ∷ pos h ∷ pos (n - h) ∷ []) y₃) (sym size)
            ∙ ap₂ (λ i j. put 0 (pos (length rs) ∷ first ∷ pos i ∷ pos j ∷ []) y₃) h_is counts.1
            ∙ ap (put 0 H) is₃
            ∙ sym (put_swap 0 4 H all xs (omega arith) (omega (arith, k, fits)))
            ∙ put_join 0 H all xs (omega (arith, k, fits))
            ∙ put_front (H ++ all) xs
