-- The code's state as `paper`'s, and what T and S lines do to it.
use Rattle.std.specs.Prelude.{◌≡◌, true, false, List, [], ◌∷◌, ℕ, ◌≤◌, ◌<◌, ℤ, pos, take, replicate}
use Rattle.std.proofs.Math.Path.{refl}
use Rattle.std.proofs.Common.{◌∙◌}
use native.Mathlib.Omega.{arith}
use Rattle.lists.specs.Plain.{positions}
use Rattle.paper.specs.Descriptor.{first_number, segment_of, segments_of}
use Rattle.paper.specs.Answers.{bad_kind, bad_lower, far_off, slanted}
use Rattle.paper.specs.Words.{W, index_words}
use Rattle.paper.specs.Lines.{Line, table, segment, window, other, Read, fault, next, start, filling, asking, read, read_segment}
use Rattle.paper.specs.Results.{queried}
use Rattle.paper.specs.Lines.{printed}
use Rattle.paper.specs.Lines as lines
use Rattle.paper.specs.declared.Descriptor.{Descriptor}
use Rattle.paper.specs.declared.Segment.{Segment}
use Rattle.paper.specs.declared.Window.{Window}
use Rattle.std.specs.Prelude.{Result, Ok, Err}
use Rattle.texts.specs.Written.{Wrote}
use Rattle.texts.specs.declared.Output.{Output}
use Rattle.lines.specs.declared.Table.{Table}
use Rattle.lines.specs.declared.memory.Desk.{Desk}
use Rattle.lines.specs.declared.Fault.{Fault}
use Rattle.lines.specs.declared.Fault.TheVariants.{Form, Kind, Lower, Size, Far, Slanted, Window as BadWindow}
use Rattle.lines.specs.declared.State.{State}
use Rattle.lines.specs.declared.State.TheVariants.{Start, Filling, Asking}

-- the cells of a segment
abbrev pub cells_of : Segment → List ℤ
cells_of s = s.x1 ∷ s.y1 ∷ s.x2 ∷ s.y2 ∷ []

-- how a table's segments stand in the cells
abbrev pub descriptor_of : Table → Descriptor
descriptor_of t = record {
  kind = t.kind;
  base = pos 0;
  lower = t.lower;
  extent = pos t.size;
  segment_stride = pos 4;
  coordinate_stride = pos 1;
}

abbrev pub first_of : Table → ℤ
first_of t = first_number t.kind t.lower

abbrev pub segments_in : Table → List ℤ → List Segment
segments_in t cells = segments_of (descriptor_of t) cells

abbrev pub state_of : State → List ℤ → lines.State
state_of Start cells = start
state_of (Filling t) cells = filling (first_of t) (segments_in t cells)
state_of (Asking t) cells = asking (first_of t) (segments_in t cells)

-- a table that the lines so far have passed
pub record Fits (t : Table) (cells : List ℤ) : Type 0 where
  pub kind : (bad_kind t.kind).given ≡ false
  pub lower : (bad_lower t.kind t.lower).given ≡ false
  pub size : t.size ≤ 256
  pub near : (p : ℕ) → p < t.size → far_off (segment_of (descriptor_of t) cells p) ≡ false
  pub straight : (p : ℕ) → p < t.size → slanted (segment_of (descriptor_of t) cells p) ≡ false

-- the answer number of a fault
abbrev pub number_of : Fault → ℕ
number_of Form = 0
number_of Kind = 1
number_of Lower = 2
number_of Size = 3
number_of Far = 5
number_of Slanted = 6
number_of BadWindow = 8

-- what a step says, with the cells after it and the text that it has printed
abbrev pub outcome : Result State Fault → List ℤ → List ℕ → Read
outcome (Err f) cells text = fault (number_of f)
outcome (Ok s) cells text = next (state_of s cells) text

-- the state that a T or an S line leaves
abbrev pub filled : Result Table Fault → Result State Fault
filled (Err f) = Err f
filled (Ok t) = Ok (Filling t)

-- ---- a T line
abbrev pub KeptT : Result Table Fault → Type 0
KeptT (Err f) = number_of f ≤ 2
KeptT (Ok t) = (t.size ≡ 0) × ((cells : List ℤ) → Fits t cells)

pub record Opened (line : Line) (r : Result Table Fault) : Type 0 where
  pub reads : (cells : List ℤ) → read start line ≡ outcome (filled r) cells []
  pub kept : KeptT r

-- ---- an S line
abbrev pub KeptS : Result Table Fault → List ℤ → Type 0
KeptS (Err f) cells = 0 ≤ 0
KeptS (Ok t) cells = Fits t cells

pub record Added (t : Table) (s : Segment) (cells : List ℤ) (r : Result Table Fault) (after : List ℤ) : Type 0 where
  pub reads : read_segment (first_of t) (segments_in t cells) s ≡ outcome (filled r) after []
  pub kept : KeptS r after

-- a line of another place
pub not_opened : (line : Line) → read start line ≡ fault 0 → Opened line (Err Form)
not_opened line e = record { reads = λ cells. e; kept = omega arith }

pub S_first : (s : Segment) → Opened (segment s) (Err Form)
unfolding read
S_first s = not_opened (segment s) refl

pub W_first : (w : Window) → Opened (window w) (Err Form)
unfolding read
W_first w = not_opened (window w) refl

pub other_first : Opened other (Err Form)
unfolding read
other_first = not_opened other refl

module _ (kind lower : ℤ) where
  pub T_kind : (bad_kind kind).given ≡ true → Opened (table kind lower) (Err Kind)
  unfolding read
  T_kind e = record { reads = λ cells. rw e refl; kept = omega arith }

  pub T_lower : (bad_kind kind).given ≡ false → (bad_lower kind lower).given ≡ true → Opened (table kind lower) (Err Lower)
  unfolding read
  T_lower k e = record { reads = λ cells. rw (k, e) refl; kept = omega arith }

  pub T_good : (bad_kind kind).given ≡ false → (bad_lower kind lower).given ≡ false → Opened (table kind lower) (Ok (record { kind = kind; lower = lower; size = 0 }))
  unfolding read segments_of positions
  T_good k e = record {
    reads = λ cells. rw (k, e) refl;
    kept = (refl, λ cells. record { kind = k; lower = e; size = omega arith; near = λ p h. absurd (omega arith); straight = λ p h. absurd (omega arith) });
  }

-- ---- a W line: the answer over the words that stand in an index buffer
abbrev pub answer_over : Table → Window → List ℤ → List ℕ
answer_over t w index = printed (queried (take (W t.size) index) w (replicate t.size (pos 0)))

-- the words of an index stand ready in a buffer
pub record Ready (t : Table) (cells index : List ℤ) : Type 0 where
  pub fits : Fits t cells
  pub words : take (W t.size) index ≡ index_words (first_of t) (segments_in t cells)

-- what the desk holds between lines
abbrev pub Kept : State → List ℤ → List ℤ → Type 0
Kept Start cells index = 0 ≤ 0
Kept (Filling t) cells index = Fits t cells
Kept (Asking t) cells index = Ready t cells index

-- what a step has written: nothing where it is a fault
abbrev pub WroteBy : {X : Type 0} → Result X Fault → List ℕ → Output → Output → Type 0
WroteBy (Err f) text out after = after ≡ out
WroteBy (Ok s) text out after = Wrote text out after

-- after the first W line the state stays
abbrev pub still : Table → Result (Unit {0}) Fault → Result State Fault
still t (Err f) = Err f
still t (Ok u) = Ok (Asking t)

pub record Asked (t : Table) (line : Line) (index : List ℤ) (out : Output) (r : Result (Unit {0}) Fault) (after : Output) : Type 0 where
  pub text : List ℕ
  pub reads : (cells : List ℤ) → Ready t cells index → read (state_of (Asking t) cells) line ≡ outcome (still t r) cells text
  pub wrote : WroteBy r text out after

abbrev pub KeptBy : Result State Fault → List ℤ → List ℤ → Type 0
KeptBy (Err f) cells index = 0 ≤ 0
KeptBy (Ok s) cells index = Kept s cells index

-- a line judged: what `paper` reads of it, what was printed, and what the desk holds
pub record Stepped (s : State) (line : Line) (cells : List ℤ) (out : Output) (r : Result State Fault) (cells_after index_after : List ℤ) (out_after : Output) : Type 0 where
  pub text : List ℕ
  pub reads : read (state_of s cells) line ≡ outcome r cells_after text
  pub wrote : WroteBy r text out out_after
  pub kept : KeptBy r cells_after index_after

-- ---- a desk before the input: nothing on it
pub record Blank (desk : Desk) : Type 0 where
  pub cells : desk.cells.now ≡ replicate 1024 (pos 0)
  pub index : desk.index.now ≡ replicate 7684 (pos 0)
  pub numbers : desk.numbers.now ≡ replicate 256 (pos 0)
  pub carry : desk.carry.now ≡ replicate 80 0

-- ---- a desk after a call: its memory is still that which was lent
pub record SameLoans (desk desk_after : Desk) : Type 0 where
  pub cells : desk_after.cells.ghost_name ≡ desk.cells.ghost_name
  pub index : desk_after.index.ghost_name ≡ desk.index.ghost_name
  pub numbers : desk_after.numbers.ghost_name ≡ desk.numbers.ghost_name
  pub carry : desk_after.carry.ghost_name ≡ desk.carry.ghost_name

-- at no call, and from call to call
pub same_desk : (desk : Desk) → SameLoans desk desk
same_desk desk = record { cells = refl; index = refl; numbers = refl; carry = refl }

pub same_join : {a b c : Desk} → SameLoans a b → SameLoans b c → SameLoans a c
same_join f g = record { cells = g.cells ∙ f.cells; index = g.index ∙ f.index; numbers = g.numbers ∙ f.numbers; carry = g.carry ∙ f.carry }
