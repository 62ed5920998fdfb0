-- Request E3: tables as well-known text (WKT, OGC 06-103r4), as far as the request goes. A text is a list of bytes. It is accepted, with its segments, where it spells
-- their tokens; a reading is refused where it is not, with the place after which no accepted text can follow. A writer has one spelling.
use Rattle.std.specs.Prelude.{◌≡◌, true, cond, ◌&&◌, List, [], ◌∷◌, ◌++◌, map, ℕ, suc, ◌-◌, ◌*◌, ◌≤◌, ◌<◌, leb, ℤ, pos, neg_ℤ, length, take, drop, replicate}
use Rattle.lists.specs.Plain.{to_nat}
use Rattle.paper.specs.Descriptor.{segments_of}
use Rattle.paper.specs.Answers.{Answer, bad_kind, bad_lower, bad_extent, bad_strides, bad_cells, bad_coordinate, bad_buffer, judged, refused, done}
use Rattle.paper.specs.Results.{Result, over}
use Rattle.paper.specs.Lines.{is_digit, value_from, minus, decimal, bytes}
use Rattle.paper.specs.declared.Descriptor.{Descriptor}
use Rattle.paper.specs.declared.Segment.{Segment}
use Rattle.paper.specs.declared.Reply.{Reply}

abbrev pub space : ℕ
space = 32

abbrev pub opening : ℕ
opening = 40

abbrev pub closing : ℕ
closing = 41

abbrev pub plus : ℕ
plus = 43

abbrev pub comma : ℕ
comma = 44

-- ---- tokens: words, numbers, and the marks ( ) ,

pub data Token : Type 0 where
  word : List ℕ → Token
  number : ℤ → Token
  mark : ℕ → Token

-- every line has exactly two points with whole coordinates, and no Z or M
abbrev pub line_tokens : Segment → List Token → List Token
line_tokens s rest =
    mark opening ∷ number s.x1 ∷ number s.y1 ∷ mark comma ∷ number s.x2 ∷ number s.y2 ∷ mark closing ∷ rest

unfoldable pub further_tokens : List Segment → List Token
further_tokens [] = mark closing ∷ []
further_tokens (s ∷ ss) = mark comma ∷ line_tokens s (further_tokens ss)

-- EMPTY is a table of none
abbrev pub body_tokens : List Segment → List Token
body_tokens [] = word (bytes "EMPTY") ∷ []
body_tokens (s ∷ ss) = mark opening ∷ line_tokens s (further_tokens ss)

abbrev pub tokens_of : List Segment → List Token
tokens_of segments = word (bytes "MULTILINESTRING") ∷ body_tokens segments

-- ---- how a token may be spelled

-- a small letter's capital; other bytes as they are
abbrev pub capital : ℕ → ℕ
capital b = cond (leb 97 b && leb b 122) (b - 32) b

-- one digit or more
pub data Digits : List ℕ → Type 0 where
  one : (b : ℕ) → is_digit b ≡ true → Digits (b ∷ [])
  more : (b : ℕ) {bs : List ℕ} → is_digit b ≡ true → Digits bs → Digits (b ∷ bs)

-- keywords may be in either case; a coordinate is decimal digits with an optional sign
pub data Spells : Token → List ℕ → Type 0 where
  either_case : (bs : List ℕ) → Spells (word (map capital bs)) bs
  unsigned : (ds : List ℕ) → Digits ds → Spells (number (pos (value_from 0 ds))) ds
  positive : (ds : List ℕ) → Digits ds → Spells (number (pos (value_from 0 ds))) (plus ∷ ds)
  negative : (ds : List ℕ) → Digits ds → Spells (number (neg_ℤ (pos (value_from 0 ds)))) (minus ∷ ds)
  itself : (b : ℕ) → Spells (mark b) (b ∷ [])

-- ---- spaces may stand around any token and must part two words or numbers

pub data Kind : Type 0 where
  aWord a_number aMark : Kind

abbrev pub kind_of : Token → Kind
kind_of (word w) = aWord
kind_of (number z) = a_number
kind_of (mark b) = aMark

-- how many spaces at least stand between a token and the next: none about a mark, one between two words or numbers
abbrev pub parting : Kind → Kind → ℕ
parting aMark after = 0
parting aWord aMark = 0
parting aWord aWord = 1
parting aWord a_number = 1
parting a_number aMark = 0
parting a_number aWord = 1
parting a_number a_number = 1

abbrev pub spaces : ℕ → List ℕ
spaces count = replicate count space

-- a text that spells tokens after one of a kind
pub data Spelled : Kind → List Token → List ℕ → Type 0 where
  end : {before : Kind} (gap : ℕ) → Spelled before [] (spaces gap)
  then : {before : Kind} {token : Token} {tokens : List Token} {bs rest : List ℕ} (gap : ℕ) → parting before (kind_of token) ≤ gap → Spells token bs
      → Spelled (kind_of token) tokens rest → Spelled before (token ∷ tokens) (spaces gap ++ (bs ++ rest))

-- at its start a text needs no space, as after a mark
abbrev pub Accepted : List ℕ → List Segment → Type 0
Accepted text segments = Spelled aMark (tokens_of segments) text

-- ---- the place of a refusal

-- no accepted text can follow
abbrev pub Dead : List ℕ → Type 0
Dead text = (rest : List ℕ) (segments : List Segment) → Accepted (text ++ rest) segments → ⊥

-- the first byte after which no accepted text can follow, or the text's length if it stops short
pub record Place (text : List ℕ) (place : ℕ) : Type 0 where
  pub unaccepted : (segments : List Segment) → Accepted text segments → ⊥
  pub within : place ≤ length text
  pub first : (i : ℕ) → i < place → Dead (take (suc i) text) → ⊥
  pub dead : place < length text → Dead (take (suc place) text)

-- ---- reading: a text and lent cells

-- 13: the text is not accepted; its place returned
abbrev pub bad_text : ℕ → Answer
bad_text place = record { number = 13; given = true; count = 0; position = place }

-- cells from 0 with x1 y1 x2 y2, line by line
unfoldable pub coordinates_of : List Segment → List ℤ
coordinates_of [] = []
coordinates_of (s ∷ ss) = s.x1 ∷ s.y1 ∷ s.x2 ∷ s.y2 ∷ coordinates_of ss

-- reading gives 13 for text, then 3, 5, 7 for the filled table
abbrev pub reader_order : List Segment → List ℤ → List Answer
reader_order segments cells =
    bad_extent (pos (length segments)) ∷ bad_coordinate segments ∷ bad_buffer (4 * length segments) (length cells) ∷ []

-- what a reading may give; any two are equal (`read_once` of crate wkt_read)
pub data Read (text : List ℕ) (cells : List ℤ) : Result → Type 0 where
  refuses : (place : ℕ) → Place text place → Read text cells (refused (bad_text place), cells)
  accepts : (segments : List Segment) → Accepted text segments
      → Read text cells
      (judged (reader_order segments cells)
      (λ x. (refused x, cells))
      (done (length segments) 0, over (coordinates_of segments) cells))

-- ---- writing: a table, its descriptor, and a lent text

-- the one spelling: MULTILINESTRING ((0 2, 6 2), (4 0, 4 5)), MULTILINESTRING EMPTY
abbrev pub point_text : ℤ → ℤ → List ℕ
point_text x y = decimal x ++ (space ∷ decimal y)

abbrev pub line_text : Segment → List ℕ
line_text s = opening ∷ (point_text s.x1 s.y1 ++ (comma ∷ space ∷ (point_text s.x2 s.y2 ++ (closing ∷ []))))

unfoldable pub further_text : List Segment → List ℕ
further_text [] = closing ∷ []
further_text (s ∷ ss) = comma ∷ space ∷ (line_text s ++ further_text ss)

abbrev pub body_text : List Segment → List ℕ
body_text [] = bytes "EMPTY"
body_text (s ∷ ss) = opening ∷ (line_text s ++ further_text ss)

abbrev pub text_of : List Segment → List ℕ
text_of segments = bytes "MULTILINESTRING " ++ body_text segments

-- writing gives 1, 2, 3, 4, 12, 5, then 7 for a text buffer too short
abbrev pub writer_order : List ℤ → Descriptor → List ℕ → List Answer
writer_order table d text =
    bad_kind d.kind
    ∷ bad_lower d.kind d.lower
    ∷ bad_extent d.extent
    ∷ bad_strides d
    ∷ bad_cells (pos (length table)) d
    ∷ bad_coordinate (segments_of d table)
    ∷ bad_buffer (length (text_of (segments_of d table))) (length text)
    ∷ []

-- nothing is written on refusal; success returns the bytes written as count, and the bytes after them stay
unfoldable pub written : List ℤ → Descriptor → List ℕ → Reply × List ℕ
written table d text =
    let new = text_of (segments_of d table) in
    judged (writer_order table d text)
    (λ x. (refused x, text))
    (done (length new) 0, new ++ drop (length new) text)

-- reading that gives the same coordinates: a text read into cells enough gives these segments' number as count and their coordinates from cell 0 on
abbrev pub ReadsBack : List ℕ → List Segment → Type 0
ReadsBack text segments =
    (cells : List ℤ) → 4 * length segments ≤ length cells → (r : Result) → Read text cells r → r ≡ (done (length segments) 0, over (coordinates_of segments) cells)

-- the bytes that a writer's call says it has written
abbrev pub new_text : Reply × List ℕ → List ℕ
new_text r = take (to_nat r.0.count) r.1
