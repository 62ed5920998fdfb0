-- A block's words from what stands in the parts that were lent: prepared, both queues built, both child blocks built.
-- Use: `prepared` joins a division and its spreading; `queued` is what the queues leave; `left_run`, `right_run` and `built` are for the child blocks. For every axis. Assumes nothing.
use Rattle.std.specs.Prelude.{◌≡◌, List, ◌++◌, map, ℕ, ◌+◌, ◌-◌, ◌*◌, ◌≤◌, ◌<◌, ℤ, pos, take, drop, replicate}
use Rattle.std.proofs.Common.{sym, ◌∙◌, arith}
use Rattle.std.proofs.Math.Path.{ap, ap₂}
use Rattle.std.proofs.Math.ListN.{length, length-map}
use borrow.Rule.Slice.PartMut.{put_mid}
use Rattle.lists.specs.Plain.{to_nat, sort}
use Rattle.lists.specs.Every.{Sorted, sorted_filter}
use Rattle.lists.specs.Sorting.{sort_count, sort_map, sort_sorted}
use Rattle.lists.specs.Parts.{win, put, length_win, length_put, win_add, win_all, win_put_at, win_put_left, win_put_right, lent}
use Rattle.paper.specs.declared.Segment.{Segment}
use Rattle.paper.specs.declared.Descriptor.{Descriptor}
use Rattle.paper.specs.Words.{Axis, End, horizontal, vertical, stays, lefts, rights, queue_words, block_words}
use Rattle.records.specs.Records.{records_of, key_order}
use Rattle.records.specs.KeyOrders.{one_key_carried}
use Rattle.axes.specs.declared.Axis as axes
use Rattle.axes.specs.declared.Axis.TheVariants.{Horizontal, Vertical}
use Rattle.axes.specs.declared.Word.TheVariants.{X1, Y1}
use Rattle.axes.specs.Axes.{level_of, axis_of}
use Rattle.build_queue.specs.Ends.{records_in, axis_in}
use Rattle.build_queue.specs.declared.Ends.{Ends}
use Rattle.build_queue.specs.Runs.{named, Stands, back_named, stands, part_front}
use Rattle.build_queue.specs.Queues.{lower, lower_linear, queue_length, queue_same}
use Rattle.build_queue.specs.Parting.{By}
use Rattle.build_block.specs.Sides.{Tidy, Nearer, centre_at}
use Rattle.build_block.specs.Blocks.{header, block_length, block_cons}
use Rattle.build_block.specs.Dividing.{Divided}
use Rattle.build_block.specs.Spreading.{Spread}
use Rattle.build_block.specs.declared.Division.{Division}

-- words of positions by (level, position)
abbrev pub by_level : Ends → List ℤ → List ℤ
by_level ends words = sort (key_order ends.marks.cells.now ends.marks.descriptor (level_of ends.axis) (level_of ends.axis)) words

by_level_is : (table : List ℤ) (d : Descriptor) (axis : axes.Axis) (qs : List ℕ)
    → sort (key_order table d (level_of axis) (level_of axis)) (map pos qs) ≡ map pos (sort (lower (records_of d table) (axis_of axis)) qs)
by_level_is table d Horizontal qs = sym (sort_map pos (lower (records_of d table) horizontal) (key_order table d Y1 Y1) (one_key_carried table d Y1) qs)
by_level_is table d Vertical qs = sym (sort_map pos (lower (records_of d table) vertical) (key_order table d X1 X1) (one_key_carried table d X1) qs)

module _ (rs : List Segment) (axis : Axis) where
  abbrev centred : (ℤ → List ℕ → List ℕ) → List ℕ → List ℕ
  centred side ps = side (centre_at rs axis ps) ps

  abbrev staying : List ℕ → List ℕ
  staying ps = centred (stays rs axis) ps

  abbrev leaving : List ℕ → List ℕ
  leaving ps = centred (lefts rs axis) ps

  abbrev passing : List ℕ → List ℕ
  passing ps = centred (rights rs axis) ps

  -- a block over ps but for its queues and child blocks, whose positions stand at the fronts of their words in ys
  pub record Prepared (ps : List ℕ) (ys : List ℤ) (r : Division) : Type 0 where
    pub stay : r.stay ≡ length (stays rs axis (centre_at rs axis ps) ps)
    pub left : r.cut - r.stay ≡ length (lefts rs axis (centre_at rs axis ps) ps)
    pub right : length ps - r.cut ≡ length (rights rs axis (centre_at rs axis ps) ps)
    pub some : 0 < r.stay
    pub least : r.stay ≤ r.cut
    pub most : r.cut ≤ length ps
    pub head : win 0 4 ys ≡ header (centre_at rs axis ps) r.stay (r.cut - r.stay) (length ps - r.cut)
    pub low : win 4 r.stay ys ≡ map pos (sort (lower rs axis) (stays rs axis (centre_at rs axis ps) ps))
    pub high : win (4 + 2 * r.stay) r.stay ys ≡ map pos (sort (lower rs axis) (stays rs axis (centre_at rs axis ps) ps))
    pub zeros : win (4 + 4 * r.stay) (8 * r.stay - (4 + 4 * r.stay)) ys ≡ replicate (8 * r.stay - (4 + 4 * r.stay)) (pos 0)
    pub lefts_in : win (8 * r.stay) (r.cut - r.stay) ys ≡ map pos (lefts rs axis (centre_at rs axis ps) ps)
    pub rights_in : win (8 * r.cut) (length ps - r.cut) ys ≡ map pos (rights rs axis (centre_at rs axis ps) ps)

  -- both queues built from the runs at the fronts of their words
  abbrev pub queued : ℕ → List ℤ → List ℤ
  queued a xs =
      put (4 + 2 * a) (queue_words rs axis End.high (named (win (4 + 2 * a) a xs))) (put 4 (queue_words rs axis End.low (named (win 4 a xs))) xs)

  pub queues_built : (a : ℕ) (xs e₁ e₂ : List ℤ) → 4 + 4 * a ≤ length xs
      → e₁ ≡ queue_words rs axis End.low (named (take a (take (4 + 2 * a - 4) (drop 4 xs))))
      → e₂ ≡ queue_words rs axis End.high (named (take a (take (4 + 4 * a - (4 + 2 * a)) (drop (4 + 2 * a) (put_mid 4 (4 + 2 * a - 4) xs e₁)))))
      → put_mid (4 + 2 * a) (4 + 4 * a - (4 + 2 * a)) (put_mid 4 (4 + 2 * a - 4) xs e₁) e₂ ≡ queued a xs
  unfolding win
  queues_built a xs e₁ e₂ room is₁ is₂ =
      let size : (i : ℕ) → i + a ≤ length xs → length (named (win i a xs)) ≡ a = λ i h. length-map (win i a xs) to_nat ∙ length_win i a xs h in
      let f₁ : e₁ ≡ queue_words rs axis End.low (named (win 4 a xs)) = is₁ ∙ ap (λ l. queue_words rs axis End.low (named l)) (part_front 4 a (4 + 2 * a - 4) xs (omega arith)) in
      let l₁ : length e₁ ≡ 2 * a = ap length f₁ ∙ queue_length rs axis End.low (named (win 4 a xs)) ∙ ap (λ i. 2 * i) (size 4 (omega arith)) in
      let b₁ : put_mid 4 (4 + 2 * a - 4) xs e₁ ≡ put 4 e₁ xs = lent 4 (4 + 2 * a - 4) xs e₁ (omega arith) in
      let w : win (4 + 2 * a) a (put_mid 4 (4 + 2 * a - 4) xs e₁) ≡ win (4 + 2 * a) a xs =
      ap (win (4 + 2 * a) a) b₁ ∙ win_put_right (4 + 2 * a) a 4 e₁ xs (omega arith) (omega arith) in
      let f₂ : e₂ ≡ queue_words rs axis End.high (named (win (4 + 2 * a) a xs)) =
      is₂ ∙ ap (λ l. queue_words rs axis End.high (named l)) (part_front (4 + 2 * a) a (4 + 4 * a - (4 + 2 * a)) _ (omega arith) ∙ w) in
      let l₂ : length e₂ ≡ 2 * a = ap length f₂ ∙ queue_length rs axis End.high (named (win (4 + 2 * a) a xs)) ∙ ap (λ i. 2 * i) (size (4 + 2 * a) (omega arith)) in
      lent (4 + 2 * a) (4 + 4 * a - (4 + 2 * a)) _ e₂ (omega arith) ∙ ap (put (4 + 2 * a) e₂) b₁ ∙ ap₂ (λ u v. put (4 + 2 * a) u (put 4 v xs)) f₂ f₁

  module _ (tidy : Tidy rs axis) (ps : List ℕ) (ys : List ℤ) (m : ℕ) (r : Division) (size : length ps ≡ m) (more : 0 < m) (same : length ys ≡ 8 * m)
      (order : Sorted (Nearer rs axis) ps) (P : Prepared ps ys r) where
    abbrev a : ℕ
    a = r.stay

    abbrev b : ℕ
    b = r.cut

    abbrev queue_of_is : End → List ℤ
    queue_of_is end = queue_words rs axis end (staying ps)

    -- a queue does not depend on the order of those that stay
    queue_is : (end : End) (words : List ℤ) → words ≡ map pos (sort (lower rs axis) (staying ps)) → queue_words rs axis end (named words) ≡ queue_of_is end
    queue_is end words e =
        ap (λ l. queue_words rs axis end (named l)) e
        ∙ ap (queue_words rs axis end) (back_named (sort (lower rs axis) (staying ps)))
        ∙ queue_same rs axis end (sort (lower rs axis) (staying ps)) (staying ps) (λ q. sort_count (lower rs axis) q (staying ps))

    pub queue_run : (words : List ℤ) → words ≡ map pos (sort (lower rs axis) (stays rs axis (centre_at rs axis ps) ps)) → Stands (By rs axis) words
    queue_run words e = stands (By rs axis) words (sort (lower rs axis) (staying ps)) e (sort_sorted (lower rs axis) (lower_linear rs axis).order (staying ps))

    queue_long : (end : End) → length (queue_of_is end) ≡ 2 * a
    queue_long end = queue_length rs axis end (staying ps) ∙ ap (λ n. 2 * n) (sym P.stay)

    pub sizes : (0 < a) × (a ≤ b) × (b ≤ m)
    sizes = (P.some, P.least, omega (arith, P.most))

    module _ (y₁ : List ℤ) (e₀ : y₁ ≡ queued a ys) where
      abbrev LQ : List ℤ
      LQ = queue_of_is End.low

      abbrev HQ : List ℤ
      HQ = queue_of_is End.high

      abbrev q₀ : List ℤ
      q₀ = put 4 LQ ys

      is₁ : y₁ ≡ put (4 + 2 * a) HQ q₀
      is₁ = e₀ ∙ ap₂ (λ u v. put (4 + 2 * a) u (put 4 v ys)) (queue_is End.high _ P.high) (queue_is End.low _ P.low)

      k₀ : length q₀ ≡ 8 * m
      k₀ = length_put 4 LQ ys (omega (arith, sizes, queue_long End.low)) ∙ same

      pub k₁ : length y₁ ≡ 8 * m
      k₁ = ap length is₁ ∙ length_put (4 + 2 * a) HQ q₀ (omega (arith, sizes, queue_long End.high, k₀)) ∙ k₀

      after : (i k : ℕ) → 4 + 4 * a ≤ i → win i k y₁ ≡ win i k ys
      after i k h =
          ap (win i k) is₁
          ∙ win_put_right i k (4 + 2 * a) HQ q₀ (omega (arith, queue_long End.high)) (omega (arith, sizes, queue_long End.high, k₀))
          ∙ win_put_right i k 4 LQ ys (omega (arith, queue_long End.low)) (omega (arith, sizes, queue_long End.low))

      left_front : win 0 (b - a) (take (8 * b - 8 * a) (drop (8 * a) y₁)) ≡ map pos (leaving ps)
      left_front =
          part_front (8 * a) (b - a) (8 * b - 8 * a) y₁ (omega (arith, sizes)) ∙ after (8 * a) (b - a) (omega (arith, sizes)) ∙ P.lefts_in

      pub left_run : Stands (Nearer rs axis) (win 0 (b - a) (take (8 * b - 8 * a) (drop (8 * a) y₁)))
      left_run = stands (Nearer rs axis) _ (leaving ps) left_front (sorted_filter _ order)

      module _ (e₁ : List ℤ) (f₁ : e₁ ≡ block_words rs axis (named (win 0 (b - a) (take (8 * b - 8 * a) (drop (8 * a) y₁))))) where
        g₁ : e₁ ≡ block_words rs axis (leaving ps)
        g₁ = f₁ ∙ ap (λ l. block_words rs axis (named l)) left_front ∙ ap (block_words rs axis) (back_named (leaving ps))

        m₁ : length e₁ ≡ 8 * (b - a)
        m₁ = ap length g₁ ∙ block_length rs axis tidy (leaving ps) ∙ ap (λ i. 8 * i) (sym P.left)

        abbrev y₂ : List ℤ
        y₂ = put_mid (8 * a) (8 * b - 8 * a) y₁ e₁

        is₂ : y₂ ≡ put (8 * a) e₁ y₁
        is₂ = lent (8 * a) (8 * b - 8 * a) y₁ e₁ (omega (arith, m₁, sizes))

        pub k₂ : length y₂ ≡ 8 * m
        k₂ = ap length is₂ ∙ length_put (8 * a) e₁ y₁ (omega (arith, m₁, sizes, k₁)) ∙ k₁

        right_front : win 0 (m - b) (take (length y₂ - 8 * b) (drop (8 * b) y₂)) ≡ map pos (passing ps)
        right_front =
            part_front (8 * b) (m - b) (length y₂ - 8 * b) y₂ (omega (arith, sizes, k₂))
            ∙ ap (win (8 * b) (m - b)) is₂
            ∙ win_put_right (8 * b) (m - b) (8 * a) e₁ y₁ (omega (arith, m₁, sizes)) (omega (arith, m₁, sizes, k₁))
            ∙ after (8 * b) (m - b) (omega (arith, sizes))
            ∙ ap (λ i. win (8 * b) (i - b) ys) (sym size)
            ∙ P.rights_in

        pub right_run : Stands (Nearer rs axis) (win 0 (m - b) (take (length y₂ - 8 * b) (drop (8 * b) y₂)))
        right_run = stands (Nearer rs axis) _ (passing ps) right_front (sorted_filter _ order)

        module _ (e₂ : List ℤ) (f₂ : e₂ ≡ block_words rs axis (named (win 0 (m - b) (take (length y₂ - 8 * b) (drop (8 * b) y₂))))) where
          g₂ : e₂ ≡ block_words rs axis (passing ps)
          g₂ = f₂ ∙ ap (λ l. block_words rs axis (named l)) right_front ∙ ap (block_words rs axis) (back_named (passing ps))

          m₂ : length e₂ ≡ 8 * (m - b)
          m₂ = ap length g₂ ∙ block_length rs axis tidy (passing ps) ∙ ap (λ i. 8 * i) (sym P.right ∙ ap (λ n. n - b) size)

          abbrev y₃ : List ℤ
          y₃ = put_mid (8 * b) (length y₂ - 8 * b) y₂ e₂

          is₃ : y₃ ≡ put (8 * b) e₂ y₂
          is₃ = lent (8 * b) (length y₂ - 8 * b) y₂ e₂ (omega (arith, m₂, sizes, k₂))

          k₃ : length y₃ ≡ 8 * m
          k₃ = ap length is₃ ∙ length_put (8 * b) e₂ y₂ (omega (arith, m₂, sizes, k₂)) ∙ k₂

          -- what lies before the left block is as the queues left it
          early : (i k : ℕ) → i + k ≤ 8 * a → win i k y₃ ≡ win i k (put (4 + 2 * a) HQ q₀)
          early i k h =
              ap (win i k) is₃
              ∙ win_put_left i k (8 * b) e₂ y₂ (omega (arith, sizes)) (omega (arith, sizes, k₂))
              ∙ ap (win i k) is₂
              ∙ win_put_left i k (8 * a) e₁ y₁ h (omega (arith, sizes, k₁))
              ∙ ap (win i k) is₁

          p₀ : win 0 4 y₃ ≡ header (centre_at rs axis ps) (length (staying ps)) (length (leaving ps)) (length (passing ps))
          p₀ =
              early 0 4 (omega (arith, sizes))
              ∙ win_put_left 0 4 (4 + 2 * a) HQ q₀ (omega arith) (omega (arith, sizes, k₀))
              ∙ win_put_left 0 4 4 LQ ys (omega arith) (omega arith)
              ∙ P.head
              ∙ ap (λ n. header (centre_at rs axis ps) n (b - a) (length ps - b)) P.stay
              ∙ ap₂ (header (centre_at rs axis ps) (length (staying ps))) P.left P.right

          p₁ : win 4 (2 * a) y₃ ≡ LQ
          p₁ =
              early 4 (2 * a) (omega (arith, sizes))
              ∙ win_put_left 4 (2 * a) (4 + 2 * a) HQ q₀ (omega arith) (omega (arith, sizes, k₀))
              ∙ win_put_at 4 (2 * a) LQ ys (queue_long End.low) (omega arith)

          p₂ : win (4 + 2 * a) (2 * a) y₃ ≡ HQ
          p₂ = early (4 + 2 * a) (2 * a) (omega (arith, sizes)) ∙ win_put_at (4 + 2 * a) (2 * a) HQ q₀ (queue_long End.high) (omega (arith, sizes, k₀))

          p₃ : win (4 + 4 * a) (4 * a - 4) y₃ ≡ replicate (4 * length (staying ps) - 4) (pos 0)
          p₃ =
              let u : 8 * a - (4 + 4 * a) ≡ 4 * a - 4 = omega (arith, sizes) in
              early (4 + 4 * a) (4 * a - 4) (omega (arith, sizes))
              ∙ sym (ap (win (4 + 4 * a) (4 * a - 4)) is₁)
              ∙ after (4 + 4 * a) (4 * a - 4) (omega arith)
              ∙ ap (λ i. win (4 + 4 * a) i ys) (sym u)
              ∙ P.zeros
              ∙ ap (λ i. replicate i (pos 0)) (u ∙ ap (λ i. 4 * i - 4) P.stay)

          p₄ : win (8 * a) (8 * (b - a)) y₃ ≡ e₁
          p₄ =
              ap (win (8 * a) (8 * (b - a))) is₃
              ∙ win_put_left (8 * a) (8 * (b - a)) (8 * b) e₂ y₂ (omega (arith, sizes)) (omega (arith, sizes, k₂))
              ∙ ap (win (8 * a) (8 * (b - a))) is₂
              ∙ win_put_at (8 * a) (8 * (b - a)) e₁ y₁ m₁ (omega (arith, sizes, k₁))

          p₅ : win (8 * b) (8 * (m - b)) y₃ ≡ e₂
          p₅ = ap (win (8 * b) (8 * (m - b))) is₃ ∙ win_put_at (8 * b) (8 * (m - b)) e₂ y₂ m₂ (omega (arith, sizes, k₂))

          pub built : y₃ ≡ block_words rs axis ps
          built =
              let s : 8 * m ≡ 4 + (2 * a + (2 * a + ((4 * a - 4) + (8 * (b - a) + 8 * (m - b))))) = omega (arith, sizes) in
              let t₂ : 4 + 2 * a + 2 * a ≡ 4 + 4 * a = omega arith in
              let t₃ : 4 + 4 * a + (4 * a - 4) ≡ 8 * a = omega (arith, sizes) in
              let t₄ : 8 * a + 8 * (b - a) ≡ 8 * b = omega (arith, sizes) in
              sym (win_all (8 * m) y₃ k₃)
              ∙ ap (λ i. win 0 i y₃) s
              ∙ win_add 0 4 (2 * a + (2 * a + ((4 * a - 4) + (8 * (b - a) + 8 * (m - b))))) y₃
              ∙ ap (λ l. win 0 4 y₃ ++ l) (win_add 4 (2 * a) (2 * a + ((4 * a - 4) + (8 * (b - a) + 8 * (m - b)))) y₃)
              ∙ ap (λ l. win 0 4 y₃ ++ (win 4 (2 * a) y₃ ++ l)) (win_add (4 + 2 * a) (2 * a) ((4 * a - 4) + (8 * (b - a) + 8 * (m - b))) y₃)
              ∙ ap (λ i. win 0 4 y₃ ++ (win 4 (2 * a) y₃ ++ (win (4 + 2 * a) (2 * a) y₃ ++ win i ((4 * a - 4) + (8 * (b - a) + 8 * (m - b))) y₃))) t₂
              ∙ ap (λ l. win 0 4 y₃ ++ (win 4 (2 * a) y₃ ++ (win (4 + 2 * a) (2 * a) y₃ ++ l)))
              (win_add (4 + 4 * a) (4 * a - 4) (8 * (b - a) + 8 * (m - b)) y₃ ∙ ap (λ i. win (4 + 4 * a) (4 * a - 4) y₃ ++ win i (8 * (b - a) + 8 * (m - b)) y₃) t₃)
              ∙ ap (λ l. win 0 4 y₃ ++ (win 4 (2 * a) y₃ ++ (win (4 + 2 * a) (2 * a) y₃ ++ (win (4 + 4 * a) (4 * a - 4) y₃ ++ l))))
              (win_add (8 * a) (8 * (b - a)) (8 * (m - b)) y₃ ∙ ap (λ i. win (8 * a) (8 * (b - a)) y₃ ++ win i (8 * (m - b)) y₃) t₄)
              ∙ rw (p₀, p₁, p₂, p₃, p₄, p₅, g₁, g₂) (sym (block_cons rs axis tidy ps (omega arith)))

-- a division and its spreading
pub prepared : (ends : Ends) (ps : List ℕ) (ys zs : List ℤ) (m : ℕ) (r : Division) → length ps ≡ m
    → Divided (records_in ends) (axis_in ends) ps ys r
    → Spread (by_level ends (win 0 r.stay ys)) r.centre m r.stay r.cut ys zs
    → Prepared (records_in ends) (axis_in ends) ps zs r
prepared ends ps ys zs m r size D S =
    let rs = records_in ends in
    let axis = axis_in ends in
    let is : by_level ends (win 0 r.stay ys) ≡ map pos (sort (lower rs axis) (stays rs axis (centre_at rs axis ps) ps)) =
    ap (by_level ends) D.stays_in ∙ by_level_is ends.marks.cells.now ends.marks.descriptor ends.axis (stays rs axis (centre_at rs axis ps) ps) in
    record {
      stay = D.stay;
      left = D.left;
      right = D.right;
      some = D.some;
      least = D.least;
      most = D.most;
      head = S.head ∙ ap₂ (λ z n. header z r.stay (r.cut - r.stay) (n - r.cut)) D.centre (sym size);
      low = S.low ∙ is;
      high = S.high ∙ is;
      zeros = S.zeros;
      lefts_in = S.rest (8 * r.stay) (r.cut - r.stay) (omega arith) ∙ D.lefts_in;
      rights_in = S.rest (8 * r.cut) (length ps - r.cut) (omega (arith, D.least)) ∙ D.rights_in;
    }
