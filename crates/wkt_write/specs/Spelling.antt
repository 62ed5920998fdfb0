-- The one spelling, line by line: its length, and what is still due from the i-th line on.
use Rattle.std.specs.Prelude.{◌≡◌, refl, List, [], ◌∷◌, ◌++◌, map, ℕ, suc, ◌+◌, ◌≤◌, ◌<◌, ℤ, pos, length, drop}
use Rattle.std.proofs.Common.{sym, ap, ◌∙◌, arith, add-one, length-append, drop_of_length-le, drop-cons}
use Rattle.std.proofs.lemmas.List.{map-append}
use Rattle.std.proofs.Common.{w64, SFits, to_z, of_z}
use Rattle.std.proofs.lemmas.Int.{to_z-of_z}
use Rattle.lists.specs.Plain.{positions}
use Rattle.paper.specs.Descriptor.{size_of, segment_of, segments_of}
use Rattle.paper.specs.Lines.{decimal, bytes}
use Rattle.paper.specs.Wkt.{space, opening, closing, comma, line_text, further_text, body_text, text_of}
use Rattle.paper.specs.declared.Descriptor.{Descriptor}
use Rattle.paper.specs.declared.Segment.{Segment}
use Rattle.table.specs.Segments.{length_segments, at_segment}

-- ---- the words
abbrev pub name : List ℕ
name = 77 ∷ 85 ∷ 76 ∷ 84 ∷ 73 ∷ 76 ∷ 73 ∷ 78 ∷ 69 ∷ 83 ∷ 84 ∷ 82 ∷ 73 ∷ 78 ∷ 71 ∷ 32 ∷ []

pub name_bytes : bytes "MULTILINESTRING " ≡ name
unfolding bytes
name_bytes = refl

abbrev pub empty : List ℕ
empty = 69 ∷ 77 ∷ 80 ∷ 84 ∷ 89 ∷ []

pub empty_bytes : bytes "EMPTY" ≡ empty
unfolding bytes
empty_bytes = refl

-- ---- lengths

-- a coordinate as the code passes it
pub passed_length : (z : ℤ) → SFits w64 z → length (decimal (to_z w64 (of_z w64 z))) ≡ length (decimal z)
passed_length z f = ap (λ x. length (decimal x)) (to_z-of_z w64 z f)

pub line_length : (s : Segment) → length (line_text s) ≡ 6 + (length (decimal s.x1) + (length (decimal s.y1) + (length (decimal s.x2) + length (decimal s.y2))))
line_length s = go (decimal s.x1) (decimal s.y1) (decimal s.x2) (decimal s.y2)
  where
    go : (a b c e : List ℕ) → length (opening ∷ ((a ++ (space ∷ b)) ++ (comma ∷ space ∷ ((c ++ (space ∷ e)) ++ (closing ∷ []))))) ≡ 6 + (length a + (length b + (length c + length e)))
    go a b c e =
        omega (
          arith,
          length-append (a ++ (space ∷ b)) (comma ∷ space ∷ ((c ++ (space ∷ e)) ++ (closing ∷ []))),
          length-append a (space ∷ b),
          length-append (c ++ (space ∷ e)) (closing ∷ []),
          length-append c (space ∷ e),
        )

-- each line with two bytes more
unfoldable pub lines_length : List Segment → ℕ
lines_length [] = 0
lines_length (s ∷ ss) = length (line_text s) + 2 + lines_length ss

lines_snoc : (ss : List Segment) (s : Segment) → lines_length (ss ++ (s ∷ [])) ≡ lines_length ss + (length (line_text s) + 2)
unfolding lines_length
lines_snoc [] s = omega arith
lines_snoc (x ∷ ss) s = omega (arith, lines_snoc ss s)

further_length : (ss : List Segment) → length (further_text ss) ≡ lines_length ss + 1
unfolding further_text lines_length
further_length [] = refl
further_length (s ∷ ss) = omega (arith, length-append (line_text s) (further_text ss), further_length ss)

pub text_length : (ss : List Segment) → 0 < length ss → length (text_of ss) ≡ 16 + lines_length ss
unfolding bytes lines_length
text_length [] h = absurd (omega arith)
text_length (s ∷ ss) h = omega (arith, length-append (line_text s) (further_text ss), further_length ss)

pub empty_length : length (text_of []) ≡ 21
unfolding bytes
empty_length = refl

-- the lines of the first i positions
abbrev pub firsts : Descriptor → List ℤ → ℕ → List Segment
firsts d table i = map (segment_of d table) (positions i)

pub firsts_next : (d : Descriptor) (table : List ℤ) (i : ℕ) → lines_length (firsts d table (i + 1)) ≡ lines_length (firsts d table i) + (length (line_text (segment_of d table i)) + 2)
unfolding positions
firsts_next d table i =
    ap (λ k. lines_length (firsts d table k)) (add-one i)
    ∙ ap lines_length (map-append (segment_of d table) (positions i) (i ∷ []))
    ∙ lines_snoc (firsts d table i) (segment_of d table i)

pub firsts_zero : (d : Descriptor) (table : List ℤ) → lines_length (firsts d table 0) ≡ 0
unfolding positions lines_length
firsts_zero d table = refl

pub firsts_all : (d : Descriptor) (table : List ℤ) {n : ℕ} → n ≡ size_of d → firsts d table n ≡ segments_of d table
unfolding segments_of
firsts_all d table e = ap (firsts d table) e

pub segments_length : (d : Descriptor) (table : List ℤ) {n : ℕ} → n ≡ size_of d → length (segments_of d table) ≡ n
segments_length d table e = length_segments d table ∙ sym e

pub empty_table : (d : Descriptor) (table : List ℤ) → 0 ≡ size_of d → segments_of d table ≡ []
unfolding segments_of positions
empty_table d table e = ap (firsts d table) (sym e)

-- ---- what is due from the i-th line on
rest_at : (d : Descriptor) (table : List ℤ) {n : ℕ} (i : ℕ) → n ≡ size_of d → i < n → drop i (segments_of d table) ≡ segment_of d table i ∷ drop (i + 1) (segments_of d table)
rest_at d table i e h =
    drop-cons (segments_of d table) i (record { x1 = pos 0; y1 = pos 0; x2 = pos 0; y2 = pos 0 }) (omega (arith, segments_length d table e))
    ∙ ap (λ s. s ∷ drop (suc i) (segments_of d table)) (at_segment d table i (omega arith))
    ∙ ap (λ k. segment_of d table i ∷ drop k (segments_of d table)) (sym (add-one i))

pub further_next : (d : Descriptor) (table : List ℤ) {n : ℕ} (i : ℕ) → n ≡ size_of d → i < n
    → further_text (drop i (segments_of d table)) ≡ (comma ∷ space ∷ line_text (segment_of d table i)) ++ further_text (drop (i + 1) (segments_of d table))
unfolding further_text
further_next d table i e h = ap further_text (rest_at d table i e h)

pub further_end : (d : Descriptor) (table : List ℤ) {n : ℕ} (i : ℕ) → n ≡ size_of d → n ≤ i → further_text (drop i (segments_of d table)) ≡ closing ∷ []
unfolding further_text
further_end d table i e h = ap further_text (drop_of_length-le (segments_of d table) {i = i} (omega (arith, segments_length d table e)))

pub body_some : (d : Descriptor) (table : List ℤ) {n : ℕ} → n ≡ size_of d → 0 < n → body_text (segments_of d table) ≡ opening ∷ (line_text (segment_of d table 0) ++ further_text (drop 1 (segments_of d table)))
body_some d table e h = ap body_text (rest_at d table 0 e h)
