-- Document 01, "The program": what a line means, what is printed, and the faults. Bytes are numbers.
use Rattle.std.specs.Prelude.{Bool, false, not, ◌&&◌, ◌||◌, cond, List, [], ◌∷◌, ◌++◌, ℕ, zero, suc, ◌+◌, ◌-◌, ◌*◌, ◌/◌, ◌%◌, eqb, leb, ltb, ℤ, pos, negsuc, neg_ℤ, length, take, replicate}
use Rattle.std.proofs.Math.Option.{Option, none, some}
use Prim.Native.Char.{code}
use Prim.Native.String.{String}
use Rattle.lists.specs.Plain.{any, to_nat}
use Rattle.paper.specs.Descriptor.{first_number}
use Rattle.paper.specs.Answers.{Answer, answer, bad_kind, bad_lower, bad_coordinate, bad_slant, bad_window, judged}
use Rattle.paper.specs.Words.{index_words}
use Rattle.paper.specs.Results.{Result, queried}
use Rattle.paper.specs.declared.Segment.{Segment}
use Rattle.paper.specs.declared.Window.{Window}

-- a text's bytes
unfoldable pub bytes : String → List ℕ
bytes String.[] = []
bytes (String.◌∷◌ c s) = code c ∷ bytes s

abbrev pub tab : ℕ
tab = 9

abbrev pub line_feed : ℕ
line_feed = 10

abbrev pub minus : ℕ
minus = 45

abbrev pub digit0 : ℕ
digit0 = 48

abbrev pub letter_A : ℕ
letter_A = 65

abbrev pub letter_R : ℕ
letter_R = 82

abbrev pub letter_S : ℕ
letter_S = 83

abbrev pub letter_T : ℕ
letter_T = 84

abbrev pub letter_W : ℕ
letter_W = 87

-- ---- lines and fields

abbrev pub onto : ℕ → List (List ℕ) → List (List ℕ)
onto b [] = (b ∷ []) ∷ []
onto b (l ∷ ls) = (b ∷ l) ∷ ls

-- the parts of a text between marks; one more than there are marks
unfoldable pub parts : ℕ → List ℕ → List (List ℕ)
parts mark [] = [] ∷ []
parts mark (b ∷ bs) = cond (eqb b mark) ([] ∷ parts mark bs) (onto b (parts mark bs))

-- the last line feed may be missing; what stands after it is a line only if it is not empty
unfoldable pub without_empty_last : List (List ℕ) → List (List ℕ)
without_empty_last [] = []
without_empty_last ([] ∷ []) = []
without_empty_last ((b ∷ bs) ∷ []) = (b ∷ bs) ∷ []
without_empty_last (l ∷ m ∷ ls) = l ∷ without_empty_last (m ∷ ls)

abbrev pub lines_of : List ℕ → List (List ℕ)
lines_of text = without_empty_last (parts line_feed text)

abbrev pub fields_of : List ℕ → List (List ℕ)
fields_of line = parts tab line

-- ---- numbers: decimal, at most 10 digits, minus allowed, no leading zeros; -0 is another form

abbrev pub is_digit : ℕ → Bool
is_digit b = leb digit0 b && leb b (digit0 + 9)

abbrev pub is_decimal : List ℕ → Bool
is_decimal [] = false
is_decimal (b ∷ bs) = not (any (λ c. not (is_digit c)) (b ∷ bs)) && leb (length (b ∷ bs)) 10 && (not (eqb b digit0) || eqb (length bs) 0)

-- the value of digits after those that have the value v
unfoldable pub value_from : ℕ → List ℕ → ℕ
value_from v [] = v
value_from v (b ∷ bs) = value_from (10 * v + (b - digit0)) bs

abbrev pub number_in : List ℕ → Option ℤ
number_in [] = none
number_in (b ∷ bs) =
    cond (eqb b minus)
    (cond (is_decimal bs && not (eqb (value_from 0 bs) 0)) (some (neg_ℤ (pos (value_from 0 bs)))) none)
    (cond (is_decimal (b ∷ bs)) (some (pos (value_from 0 (b ∷ bs)))) none)

-- ---- the forms of a line

pub data Line : Type 0 where
  -- T kind, lower bound
  table : ℤ → ℤ → Line
  -- S x1 y1 x2 y2
  segment : Segment → Line
  -- W a b c d
  window : Window → Line
  -- a line of another form
  other : Line

-- a number at the head of others, where all are numbers
abbrev pub also : Option ℤ → Option (List ℤ) → Option (List ℤ)
also none r = none
also (some z) none = none
also (some z) (some zs) = some (z ∷ zs)

unfoldable pub numbers_in : List (List ℕ) → Option (List ℤ)
numbers_in [] = some []
numbers_in (f ∷ fs) = also (number_in f) (numbers_in fs)

-- two or four numbers, no more and no fewer
abbrev pub two : (ℤ → ℤ → Line) → List ℤ → Line
two f [] = other
two f (x ∷ []) = other
two f (x ∷ y ∷ []) = f x y
two f (x ∷ y ∷ z ∷ zs) = other

abbrev pub four : (ℤ → ℤ → ℤ → ℤ → Line) → List ℤ → Line
four f [] = other
four f (x ∷ []) = other
four f (x ∷ y ∷ zs) = two (f x y) zs

abbrev pub as_table : ℤ → ℤ → Line
as_table kind lower = table kind lower

abbrev pub as_segment : ℤ → ℤ → ℤ → ℤ → Line
as_segment x1 y1 x2 y2 = segment (record { x1 = x1; y1 = y1; x2 = x2; y2 = y2 })

abbrev pub as_window : ℤ → ℤ → ℤ → ℤ → Line
as_window a b c d = window (record { a = a; b = b; c = c; d = d })

abbrev pub form : ℕ → List ℤ → Line
form letter zs =
    cond (eqb letter letter_T) (two as_table zs)
    (cond (eqb letter letter_S) (four as_segment zs)
    (cond (eqb letter letter_W) (four as_window zs) other))

abbrev pub form_of : ℕ → Option (List ℤ) → Line
form_of letter none = other
form_of letter (some zs) = form letter zs

-- the first field is one letter, the others are numbers
abbrev pub by_fields : List (List ℕ) → Line
by_fields [] = other
by_fields ([] ∷ fs) = other
by_fields ((b ∷ []) ∷ fs) = form_of b (numbers_in fs)
by_fields ((b ∷ c ∷ bs) ∷ fs) = other

-- lines hold at most 80 bytes besides the line feed
unfoldable pub line_of : List ℕ → Line
line_of bytes = cond (leb (length bytes) 80) (by_fields (fields_of bytes)) other

-- ---- places and faults: T; up to 256 S; then any number of W

abbrev pub most_in_program : ℕ
most_in_program = 256

pub data State : Type 0 where
  -- nothing read
  start : State
  -- T and S lines read: the number of position 0, and the segments
  filling : ℤ → List Segment → State
  -- a W line too
  asking : ℤ → List Segment → State

-- what a line does: a fault, or the state after it and what it prints
pub data Read : Type 0 where
  fault : ℕ → Read
  next : State → List ℕ → Read

abbrev pub fault_of : Answer → Read
fault_of x = fault x.number

-- ---- printing

-- with a bound on the count of digits
unfoldable pub decimal_to : ℕ → ℕ → List ℕ
decimal_to zero n = []
decimal_to (suc f) n = cond (ltb n 10) ((digit0 + n) ∷ []) (decimal_to f (n / 10) ++ ((digit0 + n % 10) ∷ []))

abbrev pub decimal : ℤ → List ℕ
decimal (pos n) = decimal_to (suc n) n
decimal (negsuc n) = minus ∷ decimal_to (suc (suc n)) (suc n)

-- a letter and numbers, parted by tabs, and a line feed
unfoldable pub tabbed : List ℤ → List ℕ
tabbed [] = line_feed ∷ []
tabbed (z ∷ zs) = tab ∷ (decimal z ++ tabbed zs)

-- A, count, visits, numbers
abbrev pub printed : Result → List ℕ
printed r = letter_A ∷ tabbed (r.0.count ∷ r.0.visits ∷ take (to_nat r.0.count) r.1)

abbrev pub answered : ℤ → List Segment → Window → List ℕ
answered first segments w = printed (queried (index_words first segments) w (replicate (length segments) (pos 0)))

-- ---- each line is judged when read: 0 first, then in number order

-- a T line: 1, 2
abbrev pub read_table : ℤ → ℤ → Read
read_table kind lower = judged (bad_kind kind ∷ bad_lower kind lower ∷ []) fault_of (next (filling (first_number kind lower) []) [])

-- an S line: 3 at the 257th, 5, 6
abbrev pub read_segment : ℤ → List Segment → Segment → Read
read_segment first segments s =
    judged (answer 3 (leb most_in_program (length segments)) ∷ bad_coordinate (s ∷ []) ∷ bad_slant (s ∷ []) ∷ [])
    fault_of
    (next (filling first (segments ++ (s ∷ []))) [])

-- a W line: 8
abbrev pub read_window : ℤ → List Segment → Window → Read
read_window first segments w = judged (bad_window w ∷ []) fault_of (next (asking first segments) (answered first segments w))

-- 0 for a line of another form or place
unfoldable pub read : State → Line → Read
read start (table kind lower) = read_table kind lower
read start (segment s) = fault 0
read start (window w) = fault 0
read start other = fault 0
read (filling first segments) (table kind lower) = fault 0
read (filling first segments) (segment s) = read_segment first segments s
read (filling first segments) (window w) = read_window first segments w
read (filling first segments) other = fault 0
read (asking first segments) (table kind lower) = fault 0
read (asking first segments) (segment s) = fault 0
read (asking first segments) (window w) = read_window first segments w
read (asking first segments) other = fault 0

-- a fault prints R, answer number, line number, and ends
abbrev pub after : Read → ℕ → (State → List ℕ) → List ℕ
after (fault number) k rest = letter_R ∷ tabbed (pos number ∷ pos k ∷ [])
after (next s text) k rest = text ++ rest s

-- the lines from the k-th on; lines count from 1
unfoldable pub from_line : List (List ℕ) → ℕ → State → List ℕ
from_line [] k s = []
from_line (l ∷ ls) k s = after (read s (line_of l)) k (from_line ls (k + 1))

-- what the program prints
unfoldable pub program : List ℕ → List ℕ
program text = from_line (lines_of text) 1 start
