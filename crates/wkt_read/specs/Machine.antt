-- The automaton: a state for each token that can be due and for each part of one that can have been read; the numbers read so far beside it.
-- Use: `run start text` is what a text comes to. Assumes nothing.
use Rattle.std.specs.Prelude.{◌≡◌, refl, Bool, true, false, cond, ◌&&◌, ◌||◌, List, [], ◌∷◌, ◌++◌, ℕ, ◌+◌, ◌-◌, ◌*◌, eqb, ℤ, pos, neg_ℤ, get_or, Option, Some, None}
use Rattle.axes.specs.declared.Word.{Word}
use Rattle.axes.specs.declared.Word.TheVariants.{X1, Y1, X2, Y2}
use Rattle.paper.specs.Lines.{is_digit, digit0, minus}
use Rattle.paper.specs.Wkt.{space, opening, closing, plus, comma, capital}
use Rattle.wkt_read.specs.declared.automaton.State.{State}
use Rattle.wkt_read.specs.declared.automaton.State.TheVariants.{Start, Name, Named, Body, Empty, Line, Due, Signed, Number, After, More, End, Failed}

-- MULTILINESTRING and EMPTY
abbrev pub name : List ℕ
name = 77 ∷ 85 ∷ 76 ∷ 84 ∷ 73 ∷ 76 ∷ 73 ∷ 78 ∷ 69 ∷ 83 ∷ 84 ∷ 82 ∷ 73 ∷ 78 ∷ 71 ∷ []

abbrev pub empty : List ℕ
empty = 69 ∷ 77 ∷ 80 ∷ 84 ∷ 89 ∷ []

-- letter k of a word, in either case
abbrev pub is_letter : List ℕ → ℕ → ℕ → Bool
is_letter w k b = eqb (capital b) (get_or w k 0)

abbrev pub is_sign : ℕ → Bool
is_sign b = eqb b plus || eqb b minus

-- past a mark, or on at a space
abbrev pub onward : ℕ → ℕ → State → State → State
onward b mark past stay = cond (eqb b mark) past (cond (eqb b space) stay Failed)

-- what follows a coordinate: a space parts x from y, a comma the points, and the line is closed
abbrev pub mark_after : Word → ℕ
mark_after X1 = space
mark_after Y1 = comma
mark_after X2 = space
mark_after Y2 = closing

abbrev pub past_mark : Word → State
past_mark X1 = Due Y1
past_mark Y1 = Due X2
past_mark X2 = Due Y2
past_mark Y2 = More

abbrev pub name_to : ℕ → State
name_to k = cond (eqb k 14) Named (Name (k + 1))

abbrev pub empty_to : ℕ → State
empty_to k = cond (eqb k 4) End (Empty (k + 1))

-- the state after one byte more
abbrev pub step_state : State → ℕ → State
step_state Start b = cond (is_letter name 0 b) (Name 1) (cond (eqb b space) Start Failed)
step_state (Name k) b = cond (is_letter name k b) (name_to k) Failed
step_state Named b = onward b opening Line Body
step_state Body b = cond (is_letter empty 0 b) (Empty 1) (onward b opening Line Body)
step_state (Empty k) b = cond (is_letter empty k b) (empty_to k) Failed
step_state Line b = onward b opening (Due X1) Line
step_state (Due c) b = cond (is_digit b) (Number c) (cond (is_sign b) (Signed c) (cond (eqb b space) (Due c) Failed))
step_state (Signed c) b = cond (is_digit b) (Number c) Failed
step_state (Number c) b = cond (is_digit b) (Number c) (onward b (mark_after c) (past_mark c) (After c))
step_state (After c) b = onward b (mark_after c) (past_mark c) (After c)
step_state More b = cond (eqb b comma) Line (onward b closing End More)
step_state End b = cond (eqb b space) End Failed
step_state Failed b = Failed

-- the states that are told apart: where a sign has been read, in a number, at the end, failed
abbrev pub is_signed : State → Bool
is_signed Start = false
is_signed (Name k) = false
is_signed Named = false
is_signed Body = false
is_signed (Empty k) = false
is_signed Line = false
is_signed (Due c) = false
is_signed (Signed c) = true
is_signed (Number c) = false
is_signed (After c) = false
is_signed More = false
is_signed End = false
is_signed Failed = false

abbrev pub in_number : State → Bool
in_number Start = false
in_number (Name k) = false
in_number Named = false
in_number Body = false
in_number (Empty k) = false
in_number Line = false
in_number (Due c) = false
in_number (Signed c) = false
in_number (Number c) = true
in_number (After c) = false
in_number More = false
in_number End = false
in_number Failed = false

abbrev pub ended : State → Bool
ended Start = false
ended (Name k) = false
ended Named = false
ended Body = false
ended (Empty k) = false
ended Line = false
ended (Due c) = false
ended (Signed c) = false
ended (Number c) = false
ended (After c) = false
ended More = false
ended End = true
ended Failed = false

abbrev pub failed : State → Bool
failed Start = false
failed (Name k) = false
failed Named = false
failed Body = false
failed (Empty k) = false
failed Line = false
failed (Due c) = false
failed (Signed c) = false
failed (Number c) = false
failed (After c) = false
failed More = false
failed End = false
failed Failed = true

-- the coordinate that a digit would belong to, where one may stand
abbrev pub digit_place : State → Option Word
digit_place Start = None
digit_place (Name k) = None
digit_place Named = None
digit_place Body = None
digit_place (Empty k) = None
digit_place Line = None
digit_place (Due c) = Some c
digit_place (Signed c) = Some c
digit_place (Number c) = Some c
digit_place (After c) = None
digit_place More = None
digit_place End = None
digit_place Failed = None

-- a state with what has been read: the sign and value of the number that is being read, and the numbers before it
pub record Reading : Type 0 where
  pub state : State
  pub negative : Bool
  pub value : ℕ
  pub numbers : List ℤ

abbrev pub signed_value : Bool → ℕ → ℤ
signed_value true v = neg_ℤ (pos v)
signed_value false v = pos v

-- the numbers read once the number that is being read, if any, has ended
abbrev pub finished : Reading → List ℤ
finished r = cond (in_number r.state) (r.numbers ++ (signed_value r.negative r.value ∷ [])) r.numbers

abbrev pub to : Reading → ℕ → State → Reading
to r b s =
    cond (in_number s)
    (record { state = s; negative = r.negative; value = 10 * r.value + (b - digit0); numbers = r.numbers })
    (record { state = s; negative = is_signed s && eqb b minus; value = 0; numbers = finished r })

abbrev pub step : Reading → ℕ → Reading
step r b = to r b (step_state r.state b)

unfoldable pub run : Reading → List ℕ → Reading
run r [] = r
run r (b ∷ bs) = run (step r b) bs

-- a state between tokens
abbrev pub at : State → List ℤ → Reading
at s numbers = record { state = s; negative = false; value = 0; numbers = numbers }

abbrev pub start : Reading
start = at Start []

pub run_append : (r : Reading) (a b : List ℕ) → run r (a ++ b) ≡ run (run r a) b
unfolding run
run_append r [] b = refl
run_append r (x ∷ a) b = run_append (step r x) a b

pub run_snoc : (r : Reading) (a : List ℕ) (b : ℕ) → run r (a ++ (b ∷ [])) ≡ step (run r a) b
unfolding run
run_snoc r a b = run_append r a (b ∷ [])
