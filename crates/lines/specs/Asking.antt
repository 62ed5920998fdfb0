-- A W line: the builder refuses nothing that the T and S lines have passed, its words are those of the index, and an A line does not depend on what the
-- number cells held before.
use Rattle.std.specs.Prelude.{◌≡◌, true, false, not, ◌&&◌, ◌||◌, ℕ, ◌+◌, ◌-◌, ◌*◌, ◌≤◌, ◌<◌, ltb, pos, length, take, drop, replicate}
use Rattle.std.proofs.Math.Path.{refl}
use Rattle.std.proofs.Common.{sym, ap, ap₂, ◌∙◌, mul-le-mul, arith, length-append}
use Rattle.std.proofs.Math.Bool.{Bool, cond}
use mathlib.Core.List.{List, [], ◌∷◌, ◌++◌}
use Rattle.std.proofs.Math.Decide.{dec_lt}
use borrow.Author.Tests.{le-leb, lt-leb, le-ltb, ltb-true}
use Rattle.std.proofs.Math.IntN.{ℤ}
use Rattle.std.proofs.lemmas.List.{length-map, length-replicate}
use Rattle.std.proofs.Math.Seq.{take-append_seam}
use Rattle.lists.specs.Digits.{digits_least, digits_mono}
use Rattle.lists.specs.Choosing.{any_none, chosen_none}
use Rattle.paper.specs.Descriptor.{cell_of, segment_of, outside}
use Rattle.paper.specs.Answers.{answer_at, positions_of, bad_extent, bad_cells, bad_room, bad_window, far_off, slanted, refused, done}
use Rattle.paper.specs.Words.{L, D, W, index_words}
use Rattle.paper.specs.Walk.{Event, visit, due, spoiled, Walked, walked, stopped, word, size_in, step, run, walk, walk_of}
use Rattle.paper.specs.Orders.{bad_index, bad_walk, due_by}
use Rattle.paper.specs.Results.{Result, over, numbers_of, built, listing, queried}
use Rattle.paper.specs.Demands.{Straight}
use Rattle.paper.specs.Lines.{printed, tabbed, letter_A}
use Rattle.paper.specs.declared.Segment.{Segment}
use Rattle.paper.specs.declared.Window.{Window}
use Rattle.table.specs.Cells.{row_outside}
use Rattle.table.specs.Rows.{cells_are_is}
use Rattle.table.specs.Segments.{length_segments, chosen_are}
use Rattle.walk.specs.Header.{sound_index}
use Rattle.promise.specs.Index.{index_length}
use Rattle.lines.specs.States.{descriptor_of, first_of, segments_in, Fits}
use Rattle.lines.specs.declared.Table.{Table}

-- ---- more segments take more words
more_words : (m n : ℕ) → W m ≤ W n → m ≤ n
more_words m n h = go (dec_lt n m)
  where
    twice : (a b : ℕ) → 2 * a * b ≡ 2 * (a * b)
    twice a b = omega arith

    less : n < m → ⊥
    less l =
        let d : D n ≤ D m = omega (arith, digits_mono (n - 1) (m - 1) (omega arith)) in
        let k : n * D n ≤ m * D m = mul-le-mul (omega arith) d in
        omega (arith, h, l, twice n (D n), twice m (D m), k)

    go : Dec (n < m) → m ≤ n
    go (yes l) = absurd (less l)
    go (no l) = omega arith

-- ---- a walk lists at most n
few_step : (n : ℕ) (o : Walked) (e : Event) → due_by o ≤ n → due_by (step n o e) ≤ n
unfolding step
few_step n stopped e h = h
few_step n (walked ps v) (visit k i) h = h
few_step n (walked ps v) (due p) h = go (ltb (length ps) n) refl
  where
    go : (b : Bool) → ltb (length ps) n ≡ b → due_by (cond b (walked (ps ++ (p ∷ [])) v) stopped) ≤ n
    go true e = omega (arith, length-append ps (p ∷ []), ltb-true (length ps) n e)
    go false e = omega arith
few_step n (walked ps v) spoiled h = omega arith

few_run : (n : ℕ) (es : List Event) (o : Walked) → due_by o ≤ n → due_by (run n o es) ≤ n
unfolding run
few_run n [] o h = h
few_run n (e ∷ es) o h = few_run n es (step n o e) (few_step n o e h)

few_due_is : (ws : List ℤ) (w : Window) → due_by (walk_of ws w) ≤ size_in ws
unfolding walk_of
few_due_is ws w = few_run (size_in ws) (walk ws w) (walked [] 0) (omega arith)

-- ---- an A line over W(n) words into n cells, whatever stood in them: n cells hold all that is due
module _ (ws : List ℤ) (w : Window) (n : ℕ) (size : length ws ≡ W n) where
  within : (bad_index ws).given ≡ false → due_by (walk_of ws w) ≤ n
  within e = omega (arith, few_due_is ws w, more_words (size_in ws) n (omega (arith, size, (sound_index ws e).words)))

  same_print : (xs ys : List ℤ) → length xs ≡ n → length ys ≡ n → printed (queried ws w xs) ≡ printed (queried ws w ys)
  unfolding queried listing
  same_print xs ys ex ey = go (bad_index ws).given (bad_window w).given (bad_walk (walk_of ws w)).given within
    where
      answers : Bool → Bool → Bool → List ℤ → Result
      answers b c f cells =
          cond b (refused (bad_index ws), cells)
          (cond c (refused (bad_window w), cells)
          (cond f (refused (bad_walk (walk_of ws w)), cells)
          (cond (ltb (length cells) (due_by (walk_of ws w))) (refused (bad_room (due_by (walk_of ws w)) (length cells)), cells) (listing (word ws 1) cells (walk_of ws w)))))

      list : (r : Walked) → printed (listing (word ws 1) xs r) ≡ printed (listing (word ws 1) ys r)
      list (walked ps v) =
          ap (λ l. letter_A ∷ tabbed (pos (length ps) ∷ pos v ∷ l)) (front xs ∙ sym (front ys))
        where
          front : (cells : List ℤ) → take (length ps) (over (numbers_of (word ws 1) ps) cells) ≡ numbers_of (word ws 1) ps
          front cells =
              ap (λ n. take n (over (numbers_of (word ws 1) ps) cells)) (sym (length-map ps _))
              ∙ take-append_seam (numbers_of (word ws 1) ps) (drop (length (numbers_of (word ws 1) ps)) cells)
      list stopped = refl

      go : (b c f : Bool) → (b ≡ false → due_by (walk_of ws w) ≤ n) → printed (answers b c f xs) ≡ printed (answers b c f ys)
      go true c f h = refl
      go false true f h = refl
      go false false true h = refl
      go false false false h =
          rw (le-ltb (length xs) (due_by (walk_of ws w)) (omega (arith, ex, h refl)), le-ltb (length ys) (due_by (walk_of ws w)) (omega (arith, ey, h refl)))
          (list (walk_of ws w))

  pub printed_over : (cells : List ℤ) → length cells ≡ n → printed (queried ws w cells) ≡ printed (queried ws w (replicate n (pos 0)))
  printed_over cells e = same_print cells (replicate n (pos 0)) e (length-replicate n (pos 0))

-- ---- the words that at most 256 segments take
pub most_words : (n : ℕ) → n ≤ 256 → W n ≤ 7684
most_words n h =
    let d : L (n - 1) ≤ 8 = digits_least (n - 1) 8 (omega arith) in
    let l : D n ≤ 9 = omega arith in
    let m : n * D n ≤ 256 * 9 = mul-le-mul h l in
    omega (arith, twice n (D n), m)
  where
    twice : (a b : ℕ) → 2 * a * b ≡ 2 * (a * b)
    twice a b = omega arith

-- ---- what the lines have passed, the builder accepts
module _ (t : Table) (cells : List ℤ) (fit : Fits t cells) where
  none_given : (number : ℕ) (q : Segment → Bool) → ((p : ℕ) → p < t.size → q (segment_of (descriptor_of t) cells p) ≡ false) → (answer_at number (positions_of q (segments_in t cells))).given ≡ false
  none_given number q h =
      ap (λ ps. (answer_at number ps).given) (chosen_are (descriptor_of t) cells q ∙ chosen_none (λ p. q (segment_of (descriptor_of t) cells p)) t.size h)

  pub size_is : length (segments_in t cells) ≡ t.size
  size_is = length_segments (descriptor_of t) cells

  pub accepted : Straight (segments_in t cells)
  accepted = record {
    size = omega (arith, size_is, fit.size);
    coordinates = none_given 5 far_off fit.near;
    straight = none_given 6 slanted fit.straight;
  }

  -- as many words as the builder says
  pub words_are : length (index_words (first_of t) (segments_in t cells)) ≡ W t.size
  words_are = index_length (first_of t) (segments_in t cells) accepted ∙ ap W size_is

  extent_good : (bad_extent (pos t.size)).given ≡ false
  extent_good = ap₂ (λ a b. not (a && b)) (le-leb 0 t.size (omega arith)) (le-leb t.size 4096 (omega (arith, fit.size)))

  module _ (long : length cells ≡ 1024) where
    cell_inside : (p j : ℕ) → p < t.size → j < 4 → outside (pos (length cells)) (cell_of (descriptor_of t) p j) ≡ false
    cell_inside p j h k = ap₂ ◌||◌ (le-ltb (0 + p * 4 + j * 1) 0 (omega arith)) (lt-leb (length cells) (0 + p * 4 + j * 1) (omega (arith, fit.size)))

    cells_good : (bad_cells (pos (length cells)) (descriptor_of t)).given ≡ false
    cells_good =
        cells_are_is (pos (length cells)) (descriptor_of t)
        ∙ any_none (row_outside (pos (length cells)) (descriptor_of t)) t.size
        (λ p h. any_none (λ j. outside (pos (length cells)) (cell_of (descriptor_of t) p j)) 4 (λ j k. cell_inside p j h k))

    pub built_done : (index : List ℤ) → length index ≡ 7684 → built cells (descriptor_of t) index ≡ (done (W t.size) 0, over (index_words (first_of t) (segments_in t cells)) index)
    unfolding built
    built_done index l =
        rw (
          fit.kind,
          fit.lower,
          extent_good,
          cells_good,
          le-ltb (length index) (W t.size) (omega (arith, most_words t.size fit.size)),
          accepted.coordinates,
          accepted.straight,
        )
        refl

    -- the words that a query is asked over
    pub words_ready : (index : List ℤ) → take (W t.size) (over (index_words (first_of t) (segments_in t cells)) index) ≡ index_words (first_of t) (segments_in t cells)
    words_ready index =
        ap (λ n. take n (over (index_words (first_of t) (segments_in t cells)) index)) (sym words_are)
        ∙ take-append_seam (index_words (first_of t) (segments_in t cells)) (drop (length (index_words (first_of t) (segments_in t cells))) index)
