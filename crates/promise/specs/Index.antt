-- Words that are an index of segments: their parts stand at their places (`placed`), so the walk over them is known (`index_walks`, for any edges of the
-- window); and from the groups to demand 2 (`groups_once`, where the edges are in order).
-- Use: cite Demands, which puts these together.
use Rattle.std.specs.Prelude.{◌≡◌, refl, Bool, false, not, ℕ, zero, suc, ◌+◌, ◌*◌, ◌≤◌, ◌<◌, length, ℤ, pos, T, ltb}
use Rattle.std.proofs.Math.Path.{sym, subst}
use Rattle.std.proofs.Common.{ap, arith, length-append, ltb→lt, nltb→le}
use mathlib.Core.List.{List, [], ◌∷◌, ◌++◌, map}
use Rattle.std.proofs.lemmas.List.{length-map}
use Rattle.lists.specs.Plain.{to_nat, positions, joined}
use Rattle.lists.specs.Tests.{by_test, holds, fails}
use Rattle.lists.specs.Counting.{count_parts, filter_length}
use Rattle.lists.specs.Positions.{positions_length}
use Rattle.lists.specs.Choosing.{none_chosen}
use Rattle.paper.specs.Descriptor.{at}
use Rattle.paper.specs.Answers.{positions_of, answer_at, slanted, bad_slant}
use Rattle.paper.specs.Words.{W, records_at, levels_at, blocks_at, low_first, is_horizontal, horizontals, verticals, record_of, levels_words, horizontal, vertical, block_words, header_words, index_words}
use Rattle.paper.specs.Walk.{word, Walked, walked}
use Rattle.paper.specs.Demands.{Straight, IndexOf, most_visits, InGroups}
use Rattle.paper.specs.declared.Segment.{Segment}
use Rattle.paper.specs.declared.Window.{Window}
use Rattle.promise.specs.Places.{At, at_append, at_self}
use Rattle.promise.specs.Nodes.{levels_length}
use Rattle.promise.specs.Block.{block_length}
use Rattle.promise.specs.Groups.{Rises, low_rises}
use Rattle.promise.specs.Whole.{Placed}

-- ---- segments and their records
pub at_low : (segments : List Segment) (p : ℕ) → at (map low_first segments) p ≡ low_first (at segments p)
at_low [] p = refl
at_low (s ∷ segments) zero = refl
at_low (s ∷ segments) (suc p) = at_low segments p

-- what stands past the end reads as the point (0, 0)
past_end : (segments : List Segment) (p : ℕ) → length segments ≤ p → T (not (slanted (at segments p)))
past_end [] p h = tt
past_end (s ∷ segments) zero h = absurd (omega arith)
past_end (s ∷ segments) (suc p) h = past_end segments p (omega arith)

pub none_given : (number : ℕ) (ps : List ℕ) → (answer_at number ps).given ≡ false → ps ≡ []
none_given number [] e = refl
none_given number (p ∷ ps) e = absurd (subst T e tt)

not_slanted : (segments : List Segment) → (bad_slant segments).given ≡ false → (p : ℕ) → T (not (slanted (at segments p)))
not_slanted segments e p =
    let n = length segments in
    let q : ℕ → Bool = λ x. slanted (at segments x) in
    by_test (ltb p n)
    (λ t. subst (λ b. T (not b)) (sym (none_chosen q n p (none_given 6 (positions_of slanted segments) e) (ltb→lt p n (holds t)))) tt)
    (λ t. past_end segments p (nltb→le p n (fails t)))

pub rises : (segments : List Segment) → Straight segments → (p : ℕ) → Rises (at (map low_first segments) p)
rises segments s p = subst Rises (sym (at_low segments p)) (low_rises (at segments p) (not_slanted segments s.straight p))

-- ---- the parts of an index at their places

segment_eq : {a b c d : ℤ} (s : Segment) → a ≡ s.x1 → b ≡ s.y1 → c ≡ s.x2 → d ≡ s.y2 → record { x1 = a; y1 = b; x2 = c; y2 = d } ≡ s
segment_eq s ea eb ec ed = λ i. record { x1 = ea i; y1 = eb i; x2 = ec i; y2 = ed i }

abbrev record_from : List ℤ → ℕ → Segment
record_from ws i = record { x1 = word ws i; y1 = word ws (i + 1); x2 = word ws (i + 2); y2 = word ws (i + 3) }

records_read : (ws : List ℤ) (rs : List Segment) (i p : ℕ) → p < length rs → At ws i (joined (map record_of rs)) → record_from ws (i + 4 * p) ≡ at rs p
unfolding joined
records_read ws [] i p h a = absurd (omega arith)
records_read ws (s ∷ rs) i zero h a =
    let e0 : i ≡ i + 4 * 0 = omega arith in
    let e1 : suc i ≡ i + 4 * 0 + 1 = omega arith in
    let e2 : suc (suc i) ≡ i + 4 * 0 + 2 = omega arith in
    let e3 : suc (suc (suc i)) ≡ i + 4 * 0 + 3 = omega arith in
    segment_eq s
    (subst (λ (j : ℕ). word ws j ≡ s.x1) e0 a.0)
    (subst (λ (j : ℕ). word ws j ≡ s.y1) e1 a.1.0)
    (subst (λ (j : ℕ). word ws j ≡ s.x2) e2 a.1.1.0)
    (subst (λ (j : ℕ). word ws j ≡ s.y2) e3 a.1.1.1.0)
records_read ws (s ∷ rs) i (suc p) h a =
    let e : suc (suc (suc (suc i))) + 4 * p ≡ i + 4 * suc p = omega arith in
    subst (λ (j : ℕ). record_from ws j ≡ at rs p) e (records_read ws rs (suc (suc (suc (suc i)))) p (omega arith) a.1.1.1.1)

records_length : (rs : List Segment) → length (joined (map record_of rs)) ≡ 4 * length rs
unfolding joined
records_length [] = refl
records_length (s ∷ rs) = omega (arith, records_length rs)

-- each is horizontal or not
pub sides_length : (rs : List Segment) → length (horizontals rs) + length (verticals rs) ≡ length rs
sides_length rs =
    let flat : ℕ → Bool = λ p. is_horizontal (at rs p) in
    omega (
      arith,
      filter_length flat (positions (length rs)),
      filter_length (λ p. not (flat p)) (positions (length rs)),
      count_parts flat (positions (length rs)),
      positions_length (length rs),
    )

module _ (first : ℤ) (segments : List Segment) (ws : List ℤ) (index : IndexOf first segments ws) where
  abbrev rs : List Segment
  rs = map low_first segments

  abbrev n : ℕ
  n = length rs

  abbrev hs : List ℕ
  hs = horizontals rs

  abbrev records : List ℤ
  records = joined (map record_of rs)

  abbrev across_words : List ℤ
  across_words = block_words rs horizontal hs

  abbrev along_words : List ℤ
  along_words = block_words rs vertical (verticals rs)

  rise : (p : ℕ) → Rises (at rs p)
  rise = rises segments index.accepted

  all_at : At ws 0 (header_words first rs ++ (records ++ (levels_words rs ++ (across_words ++ along_words))))
  unfolding index_words
  all_at = subst (λ (l : List ℤ). At l 0 (index_words first segments)) (sym index.words) (at_self (index_words first segments) index.rest)

  -- the header
  pub size_word_is : word ws 0 ≡ pos n
  size_word_is = all_at.0

  pub first_word : word ws 1 ≡ first
  first_word = all_at.1.0

  pub across_word : word ws 2 ≡ pos (length hs)
  across_word = all_at.1.1.0

  pub along_word : word ws 3 ≡ pos (length (verticals rs))
  along_word = all_at.1.1.1.0

  records_at_is : At ws records_at records × At ws (records_at + length records) (levels_words rs ++ (across_words ++ along_words))
  records_at_is = at_append ws 4 records (levels_words rs ++ (across_words ++ along_words)) all_at.1.1.1.1

  levels_at_is : At ws (levels_at n) (levels_words rs) × At ws (levels_at n + length (levels_words rs)) (across_words ++ along_words)
  levels_at_is =
      at_append ws (levels_at n) (levels_words rs) (across_words ++ along_words)
      (subst (λ (k : ℕ). At ws (records_at + k) (levels_words rs ++ (across_words ++ along_words))) (records_length rs) records_at_is.1)

  blocks_at_is : At ws (blocks_at n) across_words × At ws (blocks_at n + length across_words) along_words
  blocks_at_is = at_append ws (blocks_at n) across_words along_words (subst (λ (k : ℕ). At ws (levels_at n + k) (across_words ++ along_words)) (levels_length rs) levels_at_is.1)

  pub placed : Placed rs ws
  placed = record {
    size = ap to_nat size_word_is;
    acrosses = ap to_nat across_word;
    alongs = ap to_nat along_word;
    reads = λ p h. records_read ws rs records_at p h records_at_is.0;
    levels = levels_at_is.0;
    across_block = blocks_at_is.0;
    along_block = subst (λ (k : ℕ). At ws (blocks_at n + k) along_words) (block_length rs horizontal (λ p. (rise p).across) (length hs) hs (omega arith)) blocks_at_is.1;
  }

-- the words of an index are W(n)
pub index_length : (first : ℤ) (segments : List Segment) → Straight segments → length (index_words first segments) ≡ W (length segments)
unfolding index_words
index_length first segments s =
    let rs = map low_first segments in
    let n = length rs in
    let hs = horizontals rs in
    let vs = verticals rs in
    let records = joined (map record_of rs) in
    let across = block_words rs horizontal hs in
    let along = block_words rs vertical vs in
    let size : n ≡ length segments = length-map segments low_first in
    subst (λ (k : ℕ). suc (suc (suc (suc (length (records ++ (levels_words rs ++ (across ++ along))))))) ≡ W k) size
    (omega (
      arith,
      length-append records (levels_words rs ++ (across ++ along)),
      length-append (levels_words rs) (across ++ along),
      length-append across along,
      records_length rs,
      levels_length rs,
      block_length rs horizontal (λ p. (rises segments s p).across) (length hs) hs (omega arith),
      block_length rs vertical (λ p. (rises segments s p).along) (length vs) vs (omega arith),
      sides_length rs,
    ))

-- ---- the walk over an index, for any edges: it ends, it lists the groups in order, and its visits are bounded
pub record Walks (segments : List Segment) (w : Window) (r : Walked) : Type 0 where
  pub listed : List ℕ
  pub visits : ℕ
  pub ends : r ≡ walked listed visits
  pub groups : InGroups segments w listed
  pub few : visits ≤ most_visits (length segments) (length listed)
  pub within : length listed ≤ length segments
