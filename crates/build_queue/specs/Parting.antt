-- How a queue's words come about: one word taken to the front and the others sent left and right (`Arranged`), with the split beside it (`Headed`), then the two
-- queues built in the parts that are lent (`built`). `plain` words are those of positions.
-- Use: `headed` from what the search, the moves and the split leave; `first_run`, `second_run` and `built` for the two parts. For every axis and either end. Assumes nothing.
use Rattle.std.specs.Prelude.{◌≡◌, ℕ, suc, ◌+◌, ◌-◌, ◌*◌, ◌/◌, ◌<◌, T, ℤ, get_or, set, take, drop}
use Rattle.std.proofs.Common.{sym, ap₂, ◌∙◌, get_or-take, length-take-le}
use Rattle.std.proofs.Math.Path.{ap}
use mathlib.Core.List.{List, [], ◌∷◌, ◌++◌, map, map-append}
use native.Mathlib.Omega.{arith}
use Rattle.std.proofs.Math.IntN.{pos}
use Rattle.std.proofs.Math.ListN.{length}
use Rattle.std.proofs.lemmas.List.{length-map}
use borrow.Rule.Slice.PartMut.{put_mid}
use Rattle.lists.specs.Plain.{to_nat, half, first_half, second_half, sort}
use Rattle.lists.specs.Parts.{win, put, length_put, win_add, win_all, win_put_at, win_put_left, win_put_right, put_one, take_win, lent}
use Rattle.lists.specs.Maps.{map_take, map_drop, map_at}
use Rattle.lists.specs.Every.{Sorted, sorted_take, sorted_drop}
use Rattle.lists.specs.Orders.{up_to}
use Rattle.lists.specs.Halves.{first_length, second_length}
use Rattle.lists.specs.Sorting.{sort_sorted}
use Rattle.paper.specs.declared.Segment.{Segment}
use Rattle.paper.specs.Words.{Axis, End, taken_before, split_of, queue_words}
use Rattle.build_queue.specs.Runs.{named, Stands, back_named, stands}
use Rattle.build_queue.specs.Taking.{without, taken_first, others_stand}
use Rattle.build_queue.specs.Queues.{lower, lower_linear, taken_linear, first_of, rest_of, rest_length, queue_cons, queue_length}
use Rattle.build_queue.specs.Best.{Best}

-- ys has the word of xs at place b in front, and of the others among the first 1 + left + right the first `left` from place 2 on, the rest from place 2 + 2 · left on
pub record Arranged (xs ys : List ℤ) (b left right : ℕ) : Type 0 where
  pub taken : get_or ys 0 (pos 0) ≡ get_or xs b (pos 0)
  pub lefts : win 2 left ys ≡ take left (without b (take (1 + left + right) xs))
  pub rights : win (2 + 2 * left) right ys ≡ drop left (without b (take (1 + left + right) xs))

two : (ys : List ℤ) (m w : ℤ) → 1 < length ys → get_or ys 0 (pos 0) ≡ m → win 0 2 (set ys 1 w) ≡ m ∷ w ∷ []
unfolding win
two [] m w h e = absurd (omega arith)
two (y ∷ []) m w h e = absurd (omega arith)
two (y ∷ z ∷ zs) m w h e = ap (λ x. x ∷ w ∷ []) e

-- p comes no later than q by (level, position)
abbrev pub By : List Segment → Axis → ℕ → ℕ → Type 0
By rs axis p q = T (up_to (lower rs axis) p q)

module _ (rs : List Segment) (axis : Axis) (end : End) where
  -- the two words of a queue over ps, and its two runs, each at the front of its own queue's words
  pub record Headed (ps : List ℕ) (ys : List ℤ) : Type 0 where
    pub front : win 0 2 ys ≡ pos (first_of rs axis end ps) ∷ split_of rs axis (first_half (rest_of rs axis end ps)) ∷ []
    pub left : win 2 (length ps / 2) ys ≡ map pos (first_half (rest_of rs axis end ps))
    pub right : win (2 + 2 * (length ps / 2)) (length ps - 1 - length ps / 2) ys ≡ map pos (second_half (rest_of rs axis end ps))

  module _ (xs ys : List ℤ) (s b : ℕ) (w : ℤ) (some : 0 < s) (long : length xs ≡ 2 * s) (same : length ys ≡ 2 * s) (run : Stands (By rs axis) (take s xs)) where
    abbrev ps : List ℕ
    ps = named (take s xs)

    size : length ps ≡ s
    size = length-map (take s xs) to_nat ∙ length-take-le s xs (omega arith)

    module _ (best : Best rs axis end ps b) (arranged : Arranged xs ys b (s / 2) (s - 1 - s / 2)) (split : w ≡ split_of rs axis (named (win 2 (s / 2) ys))) where
      first_is : first_of rs axis end ps ≡ get_or ps b 0
      first_is = ap (λ l. get_or l 0 0) (taken_first (taken_before rs axis end) (taken_linear rs axis end) b 0 ps best.inside best.least)

      rest_is : rest_of rs axis end ps ≡ without b ps
      rest_is = others_stand (taken_before rs axis end) (taken_linear rs axis end) b 0 ps best.inside best.least (lower rs axis) (lower_linear rs axis) run.order

      half_is : half (length (rest_of rs axis end ps)) ≡ s / 2
      half_is = ap half (rest_length rs axis end ps ∙ ap (λ n. n - 1) size) ∙ omega arith

      words_are : without b (take s xs) ≡ map pos (without b ps)
      words_are =
          sym
          (map-append pos (take b ps) (drop (suc b) ps)
          ∙ ap₂ (λ u v. u ++ v) (map_take pos b ps ∙ ap (take b) run.plain) (map_drop pos (suc b) ps ∙ ap (drop (suc b)) run.plain))

      all_s : 1 + s / 2 + (s - 1 - s / 2) ≡ s
      all_s = omega arith

      lefts_are : win 2 (s / 2) ys ≡ map pos (first_half (rest_of rs axis end ps))
      lefts_are =
          arranged.lefts
          ∙ ap (λ n. take (s / 2) (without b (take n xs))) all_s
          ∙ ap (take (s / 2)) words_are
          ∙ sym (map_take pos (s / 2) (without b ps))
          ∙ ap₂ (λ n l. map pos (take n l)) (sym half_is) (sym rest_is)

      rights_are : win (2 + 2 * (s / 2)) (s - 1 - s / 2) ys ≡ map pos (second_half (rest_of rs axis end ps))
      rights_are =
          arranged.rights
          ∙ ap (λ n. drop (s / 2) (without b (take n xs))) all_s
          ∙ ap (drop (s / 2)) words_are
          ∙ sym (map_drop pos (s / 2) (without b ps))
          ∙ ap₂ (λ n l. map pos (drop n l)) (sym half_is) (sym rest_is)

      word_is : get_or xs b (pos 0) ≡ pos (first_of rs axis end ps)
      word_is =
          let h : b < s = omega (arith, best.inside, size) in
          sym (get_or-take s xs b (pos 0) h)
          ∙ ap (λ l. get_or l b (pos 0)) (sym run.plain)
          ∙ map_at pos ps b 0
          ∙ ap pos (sym first_is)

      pub headed : Headed ps (set ys 1 w)
      headed =
          let one : set ys 1 w ≡ put 1 (w ∷ []) ys = put_one 1 w ys (omega arith) in
          let split-is : w ≡ split_of rs axis (first_half (rest_of rs axis end ps)) =
          split ∙ ap (λ l. split_of rs axis (named l)) lefts_are ∙ ap (split_of rs axis) (back_named (first_half (rest_of rs axis end ps))) in
          record {
            front = two ys _ w (omega arith) (arranged.taken ∙ word_is) ∙ ap (λ z. pos (first_of rs axis end ps) ∷ z ∷ []) split-is;
            left = rw (size, one) (win_put_right 2 (s / 2) 1 (w ∷ []) ys (omega arith) (omega arith) ∙ lefts_are);
            right = rw (size, one) (win_put_right (2 + 2 * (s / 2)) (s - 1 - s / 2) 1 (w ∷ []) ys (omega arith) (omega arith) ∙ rights_are);
          }

  -- the two queues, each built in the part that was lent
  module _ (s : ℕ) (ps : List ℕ) (ys : List ℤ) (size : length ps ≡ s) (some : 0 < s) (same : length ys ≡ 2 * s) (hd : Headed ps ys) where
    abbrev l : ℕ
    l = s / 2

    abbrev m : ℕ
    m = 2 + 2 * (s / 2)

    abbrev r : ℕ
    r = s - 1 - s / 2

    abbrev L : List ℕ
    L = first_half (rest_of rs axis end ps)

    abbrev R : List ℕ
    R = second_half (rest_of rs axis end ps)

    sizes : (length L ≡ l) × (length R ≡ r)
    sizes =
        let n : length (rest_of rs axis end ps) ≡ s - 1 = rest_length rs axis end ps ∙ ap (λ k. k - 1) size in
        (omega (arith, n, first_length (rest_of rs axis end ps)), omega (arith, n, second_length (rest_of rs axis end ps)))

    rest_order : Sorted (By rs axis) (rest_of rs axis end ps)
    rest_order = sort_sorted (lower rs axis) (lower_linear rs axis).order (drop 1 (sort (taken_before rs axis end) ps))

    first : take l (take (m - 2) (drop 2 ys)) ≡ map pos L
    unfolding win
    first =
        let k : m - 2 ≡ l + l = omega arith in
        let h : win 2 l ys ≡ map pos L = ap (λ i. win 2 (i / 2) ys) (sym size) ∙ hd.left in
        rw k (take_win 2 l l ys (omega arith) ∙ h)

    pub first_run : Stands (By rs axis) (take l (take (m - 2) (drop 2 ys)))
    first_run = stands (By rs axis) _ L first (sorted_take (half (length (rest_of rs axis end ps))) rest_order)

    module _ (e₁ : List ℤ) (is₁ : e₁ ≡ queue_words rs axis end (named (take l (take (m - 2) (drop 2 ys))))) where
      left_words : e₁ ≡ queue_words rs axis end L
      left_words = is₁ ∙ ap (λ k. queue_words rs axis end (named k)) first ∙ ap (queue_words rs axis end) (back_named L)

      long₁ : length e₁ ≡ 2 * l
      long₁ = ap length left_words ∙ queue_length rs axis end L ∙ ap (λ i. 2 * i) sizes.0

      abbrev y₁ : List ℤ
      y₁ = put_mid 2 (m - 2) ys e₁

      back₁ : y₁ ≡ put 2 e₁ ys
      back₁ = lent 2 (m - 2) ys e₁ (omega (arith, long₁))

      pub as_long₁ : length y₁ ≡ 2 * s
      as_long₁ = ap length back₁ ∙ length_put 2 e₁ ys (omega (arith, long₁)) ∙ same

      second : take r (take (length y₁ - m) (drop m y₁)) ≡ map pos R
      unfolding win
      second =
          let k : length y₁ - m ≡ r + r = omega (arith, as_long₁) in
          let h : win m r ys ≡ map pos R = ap (λ i. win (2 + 2 * (i / 2)) (i - 1 - i / 2) ys) (sym size) ∙ hd.right in
          rw k
          (take_win m r r y₁ (omega (arith, as_long₁))
          ∙ ap (win m r) back₁
          ∙ win_put_right m r 2 e₁ ys (omega (arith, long₁)) (omega (arith, long₁))
          ∙ h)

      pub second_run : Stands (By rs axis) (take r (take (length y₁ - m) (drop m y₁)))
      second_run = stands (By rs axis) _ R second (sorted_drop (half (length (rest_of rs axis end ps))) rest_order)

      module _ (e₂ : List ℤ) (is₂ : e₂ ≡ queue_words rs axis end (named (take r (take (length y₁ - m) (drop m y₁))))) where
        right_words : e₂ ≡ queue_words rs axis end R
        right_words = is₂ ∙ ap (λ k. queue_words rs axis end (named k)) second ∙ ap (queue_words rs axis end) (back_named R)

        long₂ : length e₂ ≡ 2 * r
        long₂ = ap length right_words ∙ queue_length rs axis end R ∙ ap (λ i. 2 * i) sizes.1

        abbrev y₂ : List ℤ
        y₂ = put_mid m (length y₁ - m) y₁ e₂

        back₂ : y₂ ≡ put m e₂ y₁
        back₂ = lent m (length y₁ - m) y₁ e₂ (omega (arith, long₂, as_long₁))

        pub as_long₂ : length y₂ ≡ 2 * s
        as_long₂ = ap length back₂ ∙ length_put m e₂ y₁ (omega (arith, long₂, as_long₁)) ∙ as_long₁

        left_part : win 2 (2 * l) (put m e₂ y₁) ≡ e₁
        left_part =
            win_put_left 2 (2 * l) m e₂ y₁ (omega arith) (omega (arith, as_long₁))
            ∙ ap (win 2 (2 * l)) back₁
            ∙ win_put_at 2 (2 * l) e₁ ys long₁ (omega arith)

        front : win 0 2 (put m e₂ y₁) ≡ pos (first_of rs axis end ps) ∷ split_of rs axis L ∷ []
        front =
            win_put_left 0 2 m e₂ y₁ (omega arith) (omega (arith, as_long₁))
            ∙ ap (win 0 2) back₁
            ∙ win_put_left 0 2 2 e₁ ys (omega arith) (omega arith)
            ∙ hd.front

        pub built : y₂ ≡ queue_words rs axis end ps
        built =
            let k : 2 * s ≡ 2 + (2 * l + 2 * r) = omega arith in
            sym (win_all (2 * s) y₂ as_long₂)
            ∙ ap (λ i. win 0 i y₂) k
            ∙ ap (win 0 (2 + (2 * l + 2 * r))) back₂
            ∙ win_add 0 2 (2 * l + 2 * r) (put m e₂ y₁)
            ∙ ap (λ q. win 0 2 (put m e₂ y₁) ++ q) (win_add 2 (2 * l) (2 * r) (put m e₂ y₁))
            ∙ rw (front, left_part, win_put_at m (2 * r) e₂ y₁ long₂ (omega (arith, as_long₁)), left_words, right_words) (sym (queue_cons rs axis end ps (omega arith)))
