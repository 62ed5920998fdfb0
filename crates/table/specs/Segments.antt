-- A table's segments by their positions, and the first that has a fault as an answer.
use Rattle.std.specs.Prelude.{◌≡◌, Bool, true, false, cond, List, ℕ, ◌<◌, ℤ, length, Option, Some, None, is_some, IfSome}
use Rattle.std.proofs.Common.{sym, ap, ◌∙◌, arith, lt-ltb, le-ltb}
use Rattle.std.proofs.Math.Decide.{dec_lt}
use Rattle.std.proofs.Math.IntN.{pos}
use Rattle.std.proofs.Math.ListN.{length-map}
use Rattle.lists.specs.Plain.{any, positions, filter}
use Rattle.lists.specs.Positions.{positions_length}
use Rattle.lists.specs.Choosing.{First, any_none, any_some, at_map, chosen_same, chosen_none, filter_first}
use Rattle.paper.specs.Descriptor.{size_of, segment_of, segments_of, at}
use Rattle.paper.specs.Answers.{answer, answer_at, positions_of}
use Rattle.paper.specs.declared.Descriptor.{Descriptor}
use Rattle.paper.specs.declared.Segment.{Segment}
use Rattle.table.specs.Cells.{Found, found_at, sought}

-- ---- a search from the front
module _ (q : ℕ → Bool) (n : ℕ) where
  -- it ends with a position exactly where some position passes
  pub found_any : (r : Option ℕ) → Found q n r → is_some r ≡ any q (positions n)
  found_any None none = sym (any_none q n none)
  found_any (Some r) (h, before, here) = sym (any_some q n r h here)

  pub found_within : (r : Option ℕ) → Found q n r → IfSome r (λ p. p < n)
  found_within None none = tt
  found_within (Some r) (h, before, here) = h

-- an answer that is sought over positions, by the first that has the fault, or n
pub found_first : (number : ℕ) (f : ℕ → Bool) (n r : ℕ) → First f n r → answer_at number (filter f (positions n)) ≡ found_at number n r
found_first number f n r s = go (dec_lt r n)
  where
    go : Dec (r < n) → answer_at number (filter f (positions n)) ≡ found_at number n r
    go (yes l) =
        let t = filter_first f n r l s.before (s.here l) in
        ap (answer_at number) t.1 ∙ ap (λ b. cond b (record { number = number; given = true; count = 0; position = r }) (answer number false)) (sym (lt-ltb r n l))
    go (no l) =
        ap (answer_at number) (chosen_none f n (λ p h. s.before p (omega arith)))
        ∙ ap (λ b. cond b (record { number = number; given = true; count = 0; position = r }) (answer number false)) (sym (le-ltb r n (omega arith)))

-- an answer that is sought over positions, by the first that has the fault
pub sought_first : (number : ℕ) (f : ℕ → Bool) (n : ℕ) (r : Option ℕ) → Found f n r → answer_at number (filter f (positions n)) ≡ sought number r
sought_first number f n None none = ap (answer_at number) (chosen_none f n none)
sought_first number f n (Some r) (h, before, here) = ap (answer_at number) (filter_first f n r h before here).1

module _ (d : Descriptor) (table : List ℤ) where
  pub length_segments : length (segments_of d table) ≡ size_of d
  unfolding segments_of
  length_segments = length-map (positions (size_of d)) (segment_of d table) ∙ positions_length (size_of d)

  pub at_segment : (p : ℕ) → p < size_of d → at (segments_of d table) p ≡ segment_of d table p
  unfolding segments_of
  at_segment p h = at_map (segment_of d table) (record { x1 = pos 0; y1 = pos 0; x2 = pos 0; y2 = pos 0 }) (size_of d) p h

  -- the positions of the segments that pass a test
  pub chosen_are : (q : Segment → Bool) → positions_of q (segments_of d table) ≡ filter (λ p. q (segment_of d table p)) (positions (size_of d))
  chosen_are q =
      ap (λ n. filter (λ p. q (at (segments_of d table) p)) (positions n)) length_segments
      ∙ chosen_same (λ p. q (at (segments_of d table) p)) (λ p. q (segment_of d table p)) (size_of d) (λ p h. ap q (at_segment p h))

  -- an answer that is sought over the whole table, by the first position that has the fault
  pub first_answer : (number : ℕ) (q : Segment → Bool) (r : Option ℕ) → Found (λ p. q (segment_of d table p)) (size_of d) r
      → answer_at number (positions_of q (segments_of d table)) ≡ sought number r
  first_answer number q r found = ap (answer_at number) (chosen_are q) ∙ sought_first number (λ p. q (segment_of d table p)) (size_of d) r found
