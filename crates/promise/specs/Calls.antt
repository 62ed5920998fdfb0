-- From positions to what a caller reads: the numbers in the cells (`once_numbers`), what a builder that is done has written (`build_done`), and the answer
-- of a query over an index (`query_done`).
-- Use: cite Demands. No definition of the words or the walk has to be opened for it.
use Rattle.std.specs.Prelude.{◌≡◌, List, [], ◌∷◌, map, Bool, ◌||◌, cond, ℕ, ◌+◌, ◌≤◌, ◌<◌, length, drop, ℤ, pos, negsuc, ◌+ℤ◌, T, eqb, ltb, leb}
use Rattle.std.proofs.Math.Path.{refl, ap₂}
use Rattle.std.proofs.Common.{sym, ap, ◌∙◌, subst, arith, length-append, take_at, eqb→eq, le→leb, leb→le}
use Rattle.std.proofs.Math.Bool.{true, false, not}
use Rattle.std.proofs.lemmas.List.{length-map}
use Rattle.std.specs.Int.Signed.{lt_z}
use Rattle.std.proofs.Math.Dec.{not_T, eqb_refl}
use borrow.Author.Tests.{le-ltb, lt-ltb}
use Rattle.whole.specs.Whole.{of, #, ◌⊕◌, whole}
use Rattle.lists.specs.Plain.{same, to_nat, count, positions}
use Rattle.lists.specs.Tests.{agree, is_true, snd_of, holds, clash, or_false, cases}
use Rattle.lists.specs.Orders.{same_equal, same_self}
use Rattle.lists.specs.Every.{All, all_map}
use Rattle.lists.specs.Counting.{count_map, count_none, each_counted}
use Rattle.lists.specs.Positions.{positions_length}
use Rattle.paper.specs.Descriptor.{outside_cells, size_of, first_number, number_of, segment_of, segments_of}
use Rattle.paper.specs.Limits.{most_segments, extent_fits, lower_fits}
use Rattle.paper.specs.Answers.{Answer, answer_at, answer_at_cell, positions_of, far_off, slanted, bad_kind, bad_lower, bad_extent, bad_strides, bad_cells, bad_buffer, bad_room, bad_coordinate, bad_slant, bad_window, judged, refused, done}
use Rattle.paper.specs.Words.{W, low_first, horizontals, verticals, index_words}
use Rattle.paper.specs.Walk.{word, extent_in, size_in, Walked, walked, stopped, walk_of}
use Rattle.paper.specs.Orders.{bad_index, is_stopped, builder_order, query_order}
use Rattle.paper.specs.Results.{Result, over, numbers_of, built, listing, queried}
use Rattle.paper.specs.declared.Reply.{Reply}
use Rattle.paper.specs.Demands.{ListsOnce, ListsNumbers, listed_by, Straight, IndexOf}
use Rattle.paper.specs.declared.Descriptor.{Descriptor}
use Rattle.paper.specs.declared.Segment.{Segment}
use Rattle.paper.specs.declared.Window.{Window}
use Rattle.promise.specs.Index.{placed, size_word_is, first_word, across_word, along_word, sides_length, index_length}

-- ---- numbers and positions

-- numbers are alike where their positions are
number_same : (first : ℤ) (p x : ℕ) → same (number_of first p) (number_of first x) ≡ eqb p x
number_same first p x =
    agree (same (number_of first p) (number_of first x)) (eqb p x)
    (λ t. subst (λ (k : ℕ). T (eqb p k)) (back (same_equal (number_of first p) (number_of first x) t)) (eqb_refl p))
    (λ t. subst (λ (k : ℕ). T (same (number_of first p) (number_of first k))) (eqb→eq p x t) (same_self (number_of first p)))
  where
    back : (first +ℤ pos p) ≡ (first +ℤ pos x) → p ≡ x
    back e = omega (whole, of (# first ⊕ # (pos p)), of (# first ⊕ # (pos x)))

pub once_numbers : (first : ℤ) (segments : List Segment) (w : Window) (ps : List ℕ) → ListsOnce segments w ps → ListsNumbers first segments w (numbers_of first ps)
once_numbers first segments w ps h = record {
  once = λ p l m.
      count_map (number_of first) (same (number_of first p)) ps
      ∙ ap (λ (q : ℕ → Bool). count q ps) (λ i x. number_same first p x i)
      ∙ h.once p l m;
  never = λ z f.
      count_map (number_of first) (same z) ps
      ∙ count_none (λ x. same z (number_of first x)) (all_map (λ x k.
      not_T (same z (number_of first x)) (λ t. listed x k (h.never x (λ l m. f x l m (same_equal z (number_of first x) t))))) (each_counted ps));
}
  where
    listed : (x : ℕ) → 1 ≤ count (eqb x) ps → count (eqb x) ps ≡ 0 → ⊥
    listed x k e = omega arith

-- the numbers that a call lists stand in its first cells
pub listed_numbers : (ns cells : List ℤ) (k v : ℕ) → length ns ≡ k → listed_by (done k v, over ns cells) ≡ ns
listed_numbers ns cells k v e = take_at ns (drop (length ns) cells) k e

-- the positions that a walk which has ended lists, and its visits
abbrev pub listed_in : Walked → List ℕ
listed_in (walked ps v) = ps
listed_in stopped = []

abbrev pub visits_in : Walked → ℕ
visits_in (walked ps v) = v
visits_in stopped = 0

-- ---- an order's outcome

-- where no answer is given the call is done
pub not_judged : {A : Type 0} (xs : List Answer) (refuse : Answer → A) (answer : A) → All (λ x. x.given ≡ false) xs → judged xs refuse answer ≡ answer
not_judged [] refuse answer All.none = refl
not_judged (x ∷ xs) refuse answer (All.also e h) = rw e (not_judged xs refuse answer h)

-- a reply with number 0 says that no answer was given
pub none_refused : {B : Type 0} {xs : List Answer} (kept : B) (answer : Reply × B) → All (λ x. 1 ≤ x.number) xs
    → (judged xs (λ x. (refused x, kept)) answer).0.number ≡ pos 0 → All (λ x. x.given ≡ false) xs
none_refused kept answer All.none e = All.none
none_refused kept answer (All.also {x = x} {l = xs} h k) e = go x.given refl (none_refused kept answer k) e
  where
    zero : (n : ℕ) → 1 ≤ n → pos n ≡ pos 0 → ⊥
    zero n h e = omega whole

    go : (b : Bool) → x.given ≡ b → ((judged xs (λ x. (refused x, kept)) answer).0.number ≡ pos 0 → All (λ x. x.given ≡ false) xs)
        → (cond b (refused x, kept) (judged xs (λ x. (refused x, kept)) answer)).0.number ≡ pos 0 → All (λ x. x.given ≡ false) (x ∷ xs)
    go true g f e = absurd (zero x.number h e)
    go false g f e = All.also g (f e)

-- ---- a builder that is done has written an index

pub number_at : (number : ℕ) (ps : List ℕ) → (answer_at number ps).number ≡ number
number_at number [] = refl
number_at number (p ∷ ps) = refl

pub number_at_cell : (number : ℕ) (ps : List (ℕ × ℕ)) → (answer_at_cell number ps).number ≡ number
number_at_cell number [] = refl
number_at_cell number (p ∷ ps) = refl

-- the tests that stand first in each order over a table, 1, 2, 3, 4, 12, have numbers, and so have the answers over its segments
pub table_numbered : (len : ℤ) (d : Descriptor) {rest : List Answer} → All (λ x. 1 ≤ x.number) rest
    → All (λ x. 1 ≤ x.number) (bad_kind d.kind ∷ bad_lower d.kind d.lower ∷ bad_extent d.extent ∷ bad_strides d ∷ bad_cells len d ∷ rest)
table_numbered len d h =
    All.also {x = bad_kind d.kind} (omega arith)
    (All.also {x = bad_lower d.kind d.lower} (omega arith)
    (All.also {x = bad_extent d.extent} (omega arith)
    (All.also {x = bad_strides d} (omega arith)
    (All.also {x = bad_cells len d} (rw (number_at_cell 12 (outside_cells len d)) (omega arith)) h))))

pub far_numbered : (segments : List Segment) → 1 ≤ (bad_coordinate segments).number
far_numbered segments = rw (number_at 5 (positions_of far_off segments)) (omega arith)

slant_numbered : (segments : List Segment) → 1 ≤ (bad_slant segments).number
slant_numbered segments = rw (number_at 6 (positions_of slanted segments)) (omega arith)

-- n within its limits, as the size of the table
size_fits : (z : ℤ) → extent_fits z ≡ true → to_nat z ≤ most_segments
size_fits (pos n) e = leb→le n most_segments (snd_of (leb 0 n) (leb n most_segments) (holds e))
size_fits (negsuc n) e = omega arith

module _ (table : List ℤ) (d : Descriptor) (index : List ℤ) where
  abbrev segments : List Segment
  segments = segments_of d table

  abbrev number : ℤ
  number = first_number d.kind d.lower

  abbrev answer : Result
  answer = (done (W (size_of d)) 0, over (index_words number segments) index)

  numbered : All (λ x. 1 ≤ x.number) (builder_order table d index)
  numbered =
      table_numbered (pos (length table)) d
      (All.also {x = bad_buffer (W (size_of d)) (length index)} (omega arith)
      (All.also {x = bad_coordinate segments} (far_numbered segments)
      (All.also {x = bad_slant segments} (slant_numbered segments) All.none)))

  -- what the builder has seen where it gives none of its answers
  pub record Accepts : Type 0 where
    pub lower : lower_fits number ≡ true
    pub straight : Straight segments

  accepts : All (λ x. x.given ≡ false) (builder_order table d index) → Accepts
  unfolding segments_of
  accepts (All.also kind (All.also lower (All.also extent (All.also strides (All.also cells (All.also buffer (All.also far (All.also slant All.none)))))))) = record {
    lower = cases (λ z. lower_fits z ≡ true) (same d.kind (pos 3)) (pos 1) d.lower (λ t. refl) (λ t. no_not (lower_fits d.lower) (or_false (not (lower_fits d.lower)) _ lower).0);
    straight = record {
      size = rw (length-map (positions (size_of d)) (segment_of d table), positions_length (size_of d)) (size_fits d.extent (no_not (extent_fits d.extent) extent));
      coordinates = far;
      straight = slant;
    };
  }
    where
      no_not : (b : Bool) → not b ≡ false → b ≡ true
      no_not true e = refl
      no_not false e = clash e

  pub build_accepts : (built table d index).0.number ≡ pos 0 → Accepts
  unfolding built
  build_accepts e = accepts (none_refused index answer numbered e)

  pub build_done : (built table d index).0.number ≡ pos 0 → built table d index ≡ answer
  unfolding built
  build_done e = not_judged (builder_order table d index) (λ x. (refused x, index)) answer (none_refused index answer numbered e)

-- ---- a query over an index is not refused

all_sound : (p q r s t u v : Bool) → p ≡ false → q ≡ true → r ≡ true → s ≡ false → t ≡ false → u ≡ true → v ≡ false → (p || not q || not r || s || t || not u || v) ≡ false
all_sound p q r s t u v e1 e2 e3 e4 e5 e6 e7 = rw (e1, e2, e3, e4, e5, e6, e7) refl

module _ (first : ℤ) (segments : List Segment) (ws : List ℤ) (index : IndexOf first segments ws) where
  abbrev n : ℕ
  n = length segments

  size_is : size_in ws ≡ n
  size_is = (placed first segments ws index).size ∙ length-map segments low_first

  words_enough : W n ≤ length ws
  words_enough =
      omega (
        arith,
        ap (λ (l : List ℤ). length l) index.words,
        length-append (index_words first segments) index.rest,
        index_length first segments index.accepted,
      )

  extent_fits_is : extent_fits (extent_in ws) ≡ true
  extent_fits_is =
      subst (λ (z : ℤ). extent_fits z ≡ true) (sym (size_word_is first segments ws index ∙ ap (λ (k : ℕ). pos k) (length-map segments low_first)))
      (rw (is_true (leb 0 n) (le→leb 0 n (omega arith)), is_true (leb n most_segments) (le→leb n most_segments index.accepted.size)) refl)

  counts_add : same (word ws 2 +ℤ word ws 3) (extent_in ws) ≡ true
  counts_add =
      let rs = map low_first segments in
      rw (across_word first segments ws index, along_word first segments ws index, size_word_is first segments ws index)
      (is_true _ (subst (λ (k : ℕ). T (same (pos (length (horizontals rs) + length (verticals rs))) (pos k))) (sides_length rs) (same_self (pos (length (horizontals rs) + length (verticals rs))))))

  pub index_sound : (bad_index ws).given ≡ false
  index_sound =
      all_sound (ltb (length ws) 4) (extent_fits (extent_in ws)) (lower_fits (word ws 1)) (lt_z (word ws 2) (pos 0)) (lt_z (word ws 3) (pos 0)) (same (word ws 2 +ℤ word ws 3) (extent_in ws))
      (ltb (length ws) (W (size_in ws)))
      (le-ltb (length ws) 4 (omega (arith, words_enough)))
      extent_fits_is
      (ap lower_fits (first_word first segments ws index) ∙ index.numbered)
      (rw (across_word first segments ws index) (le-ltb (length (horizontals (map low_first segments))) 0 (omega arith)))
      (rw (along_word first segments ws index) (le-ltb (length (verticals (map low_first segments))) 0 (omega arith)))
      counts_add
      (rw size_is (le-ltb (length ws) (W n) words_enough))

  module _ (w : Window) (numbers : List ℤ) (good : (bad_window w).given ≡ false) (ps : List ℕ) (v : ℕ) (e : walk_of ws w ≡ walked ps v) where
    -- where the numbers fit
    pub query_done : length ps ≤ length numbers → queried ws w numbers ≡ (done (length ps) v, over (numbers_of first ps) numbers)
    unfolding queried listing
    query_done room =
        not_judged (query_order ws w numbers) (λ x. (refused x, numbers)) (listing (word ws 1) numbers (walk_of ws w))
        (All.also index_sound (All.also good (All.also (ap is_stopped e) (All.also (rw e (le-ltb (length numbers) (length ps) room)) All.none))))
        ∙ ap₂ (λ (z : ℤ) (r : Walked). listing z numbers r) (first_word first segments ws index) e

    -- where they do not
    pub query_short : length numbers < length ps → queried ws w numbers ≡ (refused (bad_room (length ps) (length numbers)), numbers)
    unfolding queried listing
    query_short h = rw (index_sound, good, e, lt-ltb (length numbers) (length ps) h) refl
