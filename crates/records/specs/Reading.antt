-- Laws of reading: the record of a position, and which of its ends' coordinates a word of it is.
-- Use: `record_at_is` for a position of the table, `record_none` beyond it; `word_is` for the two cells that are enough. Assumes nothing.
use Rattle.std.specs.Prelude.{◌≡◌, refl, Bool, true, false, not, ◌&&◌, ◌||◌, cond, List, [], ◌∷◌, map, ◌⊎◌, ℕ, ◌+◌, ◌≤◌, ◌<◌, ℤ, pos, length, get_or}
use Rattle.std.proofs.Common.{sym, ap, ap₂, ◌∙◌, inl, inr, arith}
use Rattle.std.proofs.lemmas.Simd.{map-map}
use Rattle.std.proofs.lemmas.List.{length-map}
use Rattle.std.proofs.Math.ListN.{get_or-eq_default}
use Rattle.std.specs.Int.Signed.{le_z, lt_z}
use Rattle.lists.specs.Plain.{to_nat, positions, same}
use Rattle.lists.specs.Tests.{by_test, clash, is_true, holds}
use Rattle.lists.specs.Orders.{lt_z_not, same_equal, same_self, le_self, ℤ_order}
use Rattle.lists.specs.Positions.{positions_length}
use Rattle.lists.specs.Choosing.{at_map, none_chosen}
use Rattle.paper.specs.Limits.{most_segments}
use Rattle.paper.specs.Descriptor.{cell_of, size_of, segment_of, segments_of, at}
use Rattle.paper.specs.Answers.{answer_at, positions_of, slanted}
use Rattle.paper.specs.Words.{turned, low_first}
use Rattle.paper.specs.declared.Descriptor.{Descriptor}
use Rattle.paper.specs.declared.Segment.{Segment}
use Rattle.axes.specs.Axes.{coordinate_of}
use Rattle.axes.specs.declared.Word.{Word}
use Rattle.axes.specs.declared.Word.TheVariants.{X1, Y1, X2, Y2}
use Rattle.table.specs.Rows.{held_size}
use Rattle.table.specs.Segments.{chosen_are}
use Rattle.records.specs.Records.{records_of, word_at, Readable}

-- ---- the record of a position

-- the records, position by position
pub records_are : (d : Descriptor) (table : List ℤ) → records_of d table ≡ map (λ i. low_first (segment_of d table i)) (positions (size_of d))
unfolding segments_of
records_are d table = map-map low_first (segment_of d table) (positions (size_of d))

pub records_length : (d : Descriptor) (table : List ℤ) → length (records_of d table) ≡ size_of d
records_length d table = ap length (records_are d table) ∙ length-map (positions (size_of d)) _ ∙ positions_length (size_of d)

pub record_at_is : (d : Descriptor) (table : List ℤ) (i : ℕ) → i < size_of d → at (records_of d table) i ≡ low_first (segment_of d table i)
record_at_is d table i h = ap (λ l. at l i) (records_are d table) ∙ at_map (λ k. low_first (segment_of d table k)) _ (size_of d) i h

no_word : (word : Word) → pos 0 ≡ coordinate_of word (record { x1 = pos 0; y1 = pos 0; x2 = pos 0; y2 = pos 0 })
no_word X1 = refl
no_word Y1 = refl
no_word X2 = refl
no_word Y2 = refl

-- beyond the table every word is 0
pub record_none : (table : List ℤ) (d : Descriptor) (z : ℤ) (word : Word) → size_of d ≤ to_nat z → pos 0 ≡ word_at table d z word
unfolding word_at
record_none table d z word h =
    no_word word ∙ ap (coordinate_of word) (sym (get_or-eq_default (records_of d table) _ (omega (arith, records_length d table))))

-- a word that stands for position i
pub word_of : (table : List ℤ) (d : Descriptor) (i : ℕ) (z : ℤ) (word : Word) → i ≡ to_nat z → word_at table d (pos i) word ≡ word_at table d z word
unfolding word_at
word_of table d i z word e = ap (λ k. coordinate_of word (at (records_of d table) k)) e

-- ---- the low end of a straight segment has both smaller coordinates

-- 0 for x, 1 for y
abbrev pub column_of : Word → ℕ
column_of X1 = 0
column_of Y1 = 1
column_of X2 = 0
column_of Y2 = 1

-- of the two ends' coordinates the smaller for the words of the low end, otherwise the greater
abbrev pub end_of : Word → ℤ → ℤ → ℤ
end_of X1 a b = cond (lt_z b a) b a
end_of Y1 a b = cond (lt_z b a) b a
end_of X2 a b = cond (lt_z b a) a b
end_of Y2 a b = cond (lt_z b a) a b

-- the coordinates of the two ends that a word is one of
abbrev column : Word → Segment → ℤ
column X1 s = s.x1
column Y1 s = s.y1
column X2 s = s.x1
column Y2 s = s.y1

abbrev far_column : Word → Segment → ℤ
far_column X1 s = s.x2
far_column Y1 s = s.y2
far_column X2 s = s.x2
far_column Y2 s = s.y2

abbrev turns : Segment → Bool
turns s = lt_z s.x2 s.x1 || (same s.x2 s.x1 && lt_z s.y2 s.y1)

less_self : (z : ℤ) → lt_z z z ≡ false
less_self z = lt_z_not z z ∙ ap not (is_true (le_z z z) (le_self le_z ℤ_order z))

straight_cases : {X : Type 0} (s : Segment) → slanted s ≡ false → (s.y1 ≡ s.y2 → X) → (s.x1 ≡ s.x2 → X) → X
straight_cases s h f g =
    by_test (same s.y1 s.y2) (λ e. f (same_equal s.y1 s.y2 (holds e))) (λ e.
    by_test (same s.x1 s.x2) (λ k. g (same_equal s.x1 s.x2 (holds k))) (λ k.
    clash (sym (ap₂ (λ p q. not p && not q) e k) ∙ h)))

-- turned, or alike: what is picked by the turn is picked by the coordinate
alike : {A : Type 0} {t u : Bool} (a b : A) → (t ≡ u) ⊎ (a ≡ b) → cond t a b ≡ cond u a b
alike a b (inl e) = ap (λ c. cond c a b) e
alike {t = t} {u = u} a b (inr e) = flat t a b e ∙ sym (flat u a b e)
  where
    flat : {A : Type 0} (t : Bool) (a b : A) → a ≡ b → cond t a b ≡ b
    flat true a b e = e
    flat false a b e = refl

module _ (s : Segment) (h : slanted s ≡ false) where
  turn_x : (turns s ≡ lt_z s.x2 s.x1) ⊎ (s.x2 ≡ s.x1)
  turn_x = straight_cases s h (λ e. inl (level (lt_z s.x2 s.x1) (same s.x2 s.x1) (ap (λ y. lt_z s.y2 y) e ∙ less_self s.y2))) (λ e. inr (sym e))
    where
      level : (p q : Bool) {r : Bool} → r ≡ false → (p || (q && r)) ≡ p
      level true q e = refl
      level false true e = e
      level false false e = refl

  turn_y : (turns s ≡ lt_z s.y2 s.y1) ⊎ (s.y2 ≡ s.y1)
  turn_y =
      straight_cases s h (λ e. inr (sym e)) (λ e.
      inl (ap₂ (λ p q. p || (q && lt_z s.y2 s.y1)) (ap (λ x. lt_z s.x2 x) e ∙ less_self s.x2) (ap (λ x. same s.x2 x) e ∙ is_true (same s.x2 s.x2) (same_self s.x2))))

  pick : {A : Type 0} (f : Segment → A) (t : Bool) → f (cond t (turned s) s) ≡ cond t (f (turned s)) (f s)
  pick f true = refl
  pick f false = refl

  turned_round : {P : Type 0} {a b : ℤ} → P ⊎ (a ≡ b) → P ⊎ (b ≡ a)
  turned_round (inl p) = inl p
  turned_round (inr e) = inr (sym e)

  -- a word of the record of a straight segment, from one coordinate of each of its ends
  pub straight_word : (word : Word) → end_of word (column word s) (far_column word s) ≡ coordinate_of word (low_first s)
  straight_word X1 = sym (pick (λ r. r.x1) (turns s) ∙ alike s.x2 s.x1 turn_x)
  straight_word Y1 = sym (pick (λ r. r.y1) (turns s) ∙ alike s.y2 s.y1 turn_y)
  straight_word X2 = sym (pick (λ r. r.x2) (turns s) ∙ alike s.x1 s.x2 (turned_round turn_x))
  straight_word Y2 = sym (pick (λ r. r.y2) (turns s) ∙ alike s.y1 s.y2 (turned_round turn_y))

-- the cells of a record's word: the coordinates of both ends as they stand in the table
pub word_is : (table : List ℤ) (d : Descriptor) (i : ℕ) (word : Word) → i < size_of d → slanted (segment_of d table i) ≡ false
    → end_of word (get_or table (to_nat (cell_of d i (column_of word))) (pos 0)) (get_or table (to_nat (cell_of d i (column_of word + 2))) (pos 0)) ≡ word_at table d (pos i) word
unfolding word_at
word_is table d i word h k =
    cells word
    ∙ straight_word (segment_of d table i) k word
    ∙ ap (coordinate_of word) (sym (record_at_is d table i h))
  where
    cells : (word : Word) → end_of word (get_or table (to_nat (cell_of d i (column_of word))) (pos 0)) (get_or table (to_nat (cell_of d i (column_of word + 2))) (pos 0))
        ≡ end_of word (column word (segment_of d table i)) (far_column word (segment_of d table i))
    cells X1 = refl
    cells Y1 = refl
    cells X2 = refl
    cells Y2 = refl

-- ---- a table that may be read
no_answer : (number : ℕ) (ps : List ℕ) → (answer_at number ps).given ≡ false → ps ≡ []
no_answer number [] h = refl
no_answer number (p ∷ ps) h = clash h

module _ (table : List ℤ) (d : Descriptor) (r : Readable table d) where
  pub straight_at : (i : ℕ) → i < size_of d → slanted (segment_of d table i) ≡ false
  straight_at i h =
      none_chosen (λ p. slanted (segment_of d table p)) (size_of d) i
      (sym (chosen_are d table slanted) ∙ no_answer 6 (positions_of slanted (segments_of d table)) r.straight) h

  pub size_most : size_of d ≤ most_segments
  size_most = held_size (pos (length table)) d r.held
