-- The reader between chunks: what it still owes for the text to come, and what a line, a chunk and the end of the input do to it.
use Rattle.std.specs.Prelude.{◌≡◌, refl, List, [], ◌∷◌, ◌++◌, ℕ, ◌+◌, ◌-◌, ◌≤◌, ◌<◌, ℤ, length, take, drop, get_or, Option, Some, None, Ok, Err}
use Rattle.std.proofs.Common.{sym, ap, ap₂, ◌∙◌, subst, append_assoc, append-nil, arith, add-one, length-append, drop_of_length-le, drop-cons, take_at, length-take-le}
use Rattle.lists.specs.Parts.{put}
use Rattle.paper.specs.Lines.{Line, read, after, line_feed, line_of, program}
use Rattle.paper.specs.Lines as lines
use Rattle.fields.specs.Marks.{Clear, Ends, clear_nil, clear_join, part_rest}
use Rattle.texts.specs.Written.{Room, Wrote, wrote_none, wrote_join}
use Rattle.texts.specs.declared.Output.{Output}
use Rattle.lines.specs.States.{number_of, state_of, Kept, Stepped}
use Rattle.lines.specs.Cutting.{owed, fault_text, faulty, onward, line_cut, line_last, line_long, none_owed, program_is, Fed}
use Rattle.lines.specs.declared.memory.Desk.{Desk}
use Rattle.lines.specs.declared.Fault.{Fault}
use Rattle.lines.specs.declared.Reader.{Reader}
use Rattle.lines.specs.declared.State.{State}
use Rattle.lines.specs.declared.State.TheVariants.{Start}

abbrev pub started : Reader
started = record { state = Some Start; line = 1; carried = 0; at = 0 }

-- the reader after a fault
abbrev pub refused_at : Reader → ℕ → Reader
refused_at r place = record { state = None; line = r.line; carried = 0; at = place }

-- what is printed by a state: nothing after a fault
abbrev pub by_state : Option State → (State → List ℕ) → List ℕ
by_state None rest = []
by_state (Some s) rest = rest s

-- what is printed after a line, by a reader that has judged it
abbrev pub after_it : Reader → List ℤ → (lines.State → List ℕ) → List ℕ
after_it x cells rest = by_state x.state (λ s. rest (state_of s cells))

-- what the desk holds, where the reading goes on
abbrev pub KeptIn : Option State → List ℤ → List ℤ → Type 0
KeptIn None cells index = 0 ≤ 0
KeptIn (Some s) cells index = Kept s cells index

-- the line that is read next, where the reading goes on
abbrev pub NextLine : Option State → ℕ → ℕ → Type 0
NextLine None k line = 0 ≤ 0
NextLine (Some s) k line = line ≡ k + 1

pub record Judged (line : Line) (s : State) (r : Reader) (place : ℕ) (cells : List ℤ) (out : Output) (x : Reader) (cells_after index_after : List ℤ) (out_after : Output) : Type 0 where
  pub text : List ℕ
  pub prints : (rest : lines.State → List ℕ) → after (read (state_of s cells) line) r.line rest ≡ text ++ after_it x cells_after rest
  pub wrote : Wrote text out out_after
  pub kept : KeptIn x.state cells_after index_after
  pub place_is : x.at ≡ place
  pub fresh : x.carried ≡ 0
  pub most : x.line ≤ r.line + 1
  pub next : NextLine x.state r.line x.line

module _ (line : Line) (s : State) (r : Reader) (place : ℕ) (cells : List ℤ) (out : Output) (cells_after index_after : List ℤ) (out_after : Output) where
  pub judged_next : (s' : State) → Stepped s line cells out (Ok s') cells_after index_after out_after → Judged line s r place cells out (record { state = Some s'; line = r.line + 1; carried = 0; at = place }) cells_after index_after out_after
  judged_next s' h = record {
    text = h.text;
    prints = λ rest. onward h.reads r.line rest;
    wrote = h.wrote;
    kept = h.kept;
    place_is = refl;
    fresh = refl;
    most = omega arith;
    next = refl;
  }

  pub judged_fault : (f : Fault) {between : Output} → Stepped s line cells out (Err f) cells_after index_after between → Wrote (fault_text (number_of f) r.line) between out_after → Judged line s r place cells out (refused_at r place) cells_after index_after out_after
  judged_fault f {between} h w = record {
    text = fault_text (number_of f) r.line;
    prints = λ rest. faulty h.reads r.line rest ∙ sym (append-nil (fault_text (number_of f) r.line));
    wrote = subst (λ o. Wrote (fault_text (number_of f) r.line) o out_after) h.wrote w;
    kept = omega arith;
    place_is = refl;
    fresh = refl;
    most = omega arith;
    next = omega arith;
  }

-- ---- chunks

-- what a reader still prints for the text to come: nothing after a fault
abbrev pub due_of : Reader → Desk → List ℕ → List ℕ
due_of r desk text = by_state r.state (λ s. owed (state_of s desk.cells.now) r.line (take r.carried desk.carry.now ++ text))

-- the desk agrees with the reader: the table, the index, and the bytes of a line that were carried over
pub record Sound (r : Reader) (desk : Desk) : Type 0 where
  pub kept : KeptIn r.state desk.cells.now desk.index.now
  pub clear : Clear line_feed (take r.carried desk.carry.now)
  pub short : r.carried ≤ 80

-- there is a line to read, and room for what it prints
pub record Goes (r : Reader) (s : State) (len : ℕ) (out : Output) : Type 0 where
  pub going : r.state ≡ Some s
  pub inside : r.at < len
  pub few : r.line < 4611686018427387904
  pub room : Room 5420 out

-- a chunk from the reader's place to another: what was owed for it was printed, and the rest is owed still
pub record Turned (r : Reader) (chunk : List ℕ) (desk : Desk) (out : Output) (x : Reader) (desk_after : Desk) (out_after : Output) : Type 0 where
  pub text : List ℕ
  pub fed : (rest : List ℕ) → due_of r desk (drop r.at chunk ++ rest) ≡ text ++ due_of x desk_after (drop x.at chunk ++ rest)
  pub wrote : Wrote text out out_after
  pub sound : Sound x desk_after

-- what the desk holds for a state that goes on
pub kept_of : {r : Reader} {s : State} {desk : Desk} → Sound r desk → r.state ≡ Some s → Kept s desk.cells.now desk.index.now
kept_of {r} {s} {desk} h e = subst (λ o. KeptIn o desk.cells.now desk.index.now) e h.kept

module _ (r : Reader) (s : State) (chunk : List ℕ) (desk : Desk) (sound : Sound r desk) (going : r.state ≡ Some s) {e : ℕ} (ends : Ends line_feed chunk r.at e) where
  -- the bytes of the line that stand in the chunk, and all of them
  abbrev pub piece : List ℕ
  piece = take (e - r.at) (drop r.at chunk)

  abbrev pub bytes : List ℕ
  bytes = take r.carried desk.carry.now ++ piece

  bytes_clear : Clear line_feed bytes
  bytes_clear = clear_join line_feed sound.clear ends.clear

  -- the text to come, by the line
  split : (rest : List ℕ) → take r.carried desk.carry.now ++ (drop r.at chunk ++ rest) ≡ bytes ++ (drop e chunk ++ rest)
  split rest =
      ap (λ l. take r.carried desk.carry.now ++ (l ++ rest)) (part_rest chunk r.at e ends.starts)
      ∙ ap (λ l. take r.carried desk.carry.now ++ l) (append_assoc piece (drop e chunk) rest)
      ∙ sym (append_assoc (take r.carried desk.carry.now) piece (drop e chunk ++ rest))

  due_split : (rest : List ℕ) → due_of r desk (drop r.at chunk ++ rest) ≡ owed (state_of s desk.cells.now) r.line (bytes ++ (drop e chunk ++ rest))
  due_split rest =
      ap (λ o. by_state o (λ s. owed (state_of s desk.cells.now) r.line (take r.carried desk.carry.now ++ (drop r.at chunk ++ rest)))) going
      ∙ ap (owed (state_of s desk.cells.now) r.line) (split rest)

  -- a line that is whole
  pub turned_line : e < length chunk → {out : Output} {x : Reader} {desk_after : Desk} {out_after : Output} → Judged (line_of bytes) s r (e + 1) desk.cells.now out x desk_after.cells.now desk_after.index.now out_after → Turned r chunk desk out x desk_after out_after
  turned_line inside {out} {x} {desk_after} {out_after} j = record {
    text = j.text;
    fed = λ rest.
        due_split rest
        ∙ ap (λ l. owed (state_of s desk.cells.now) r.line (bytes ++ (l ++ rest))) (drop-cons chunk e 0 inside ∙ ap (λ k. get_or chunk e 0 ∷ drop k chunk) (sym (add-one e)))
        ∙ line_cut bytes_clear (get_or chunk e 0) (drop (e + 1) chunk ++ rest) (ends.stops inside) (state_of s desk.cells.now) r.line
        ∙ j.prints (λ s'. owed s' (r.line + 1) (drop (e + 1) chunk ++ rest))
        ∙ ap (λ l. j.text ++ l) (rests rest x.state j.next);
    wrote = j.wrote;
    sound = record {
      kept = j.kept;
      clear = subst (λ n. Clear line_feed (take n desk_after.carry.now)) (sym j.fresh) (clear_nil line_feed);
      short = omega (arith, j.fresh);
    };
  }
    where
      rests : (rest : List ℕ) (o : Option State) → NextLine o r.line x.line → by_state o (λ s'. owed (state_of s' desk_after.cells.now) (r.line + 1) (drop (e + 1) chunk ++ rest)) ≡ by_state o (λ s'. owed (state_of s' desk_after.cells.now) x.line (take x.carried desk_after.carry.now ++ (drop x.at chunk ++ rest)))
      rests rest None h = refl
      rests rest (Some s') h =
          ap₂ (λ k l. owed (state_of s' desk_after.cells.now) k (l ++ (drop (e + 1) chunk ++ rest))) (sym h) (ap (λ n. take n desk_after.carry.now) (sym j.fresh))
          ∙ ap (λ p. owed (state_of s' desk_after.cells.now) x.line (take x.carried desk_after.carry.now ++ (drop p chunk ++ rest))) (sym j.place_is)

  -- a line that is too long: the fault is printed before its end is seen
  pub turned_long : 80 < length bytes → {out : Output} {place : ℕ} {out_after : Output} → Wrote (fault_text 0 r.line) out out_after → Turned r chunk desk out (refused_at r place) desk out_after
  turned_long long w = record {
    text = fault_text 0 r.line;
    fed = λ rest. due_split rest ∙ line_long bytes bytes_clear long (drop e chunk ++ rest) (state_of s desk.cells.now) r.line ∙ sym (append-nil (fault_text 0 r.line));
    wrote = w;
    sound = record { kept = omega arith; clear = clear_nil line_feed; short = omega arith };
  }

  -- a line that goes over the chunk's end
  pub turned_over : {n : ℕ} {out : Output} {desk_after : Desk} → Room 0 out → n ≤ 80 → desk_after.cells.now ≡ desk.cells.now → desk_after.index.now ≡ desk.index.now → take n desk_after.carry.now ≡ bytes → Turned r chunk desk out (record r { carried = n; at = e }) desk_after out
  turned_over {n} {out} {desk_after} h k cs ws c = record {
    text = [];
    fed = λ rest.
        due_split rest
        ∙ ap (λ l. owed (state_of s desk.cells.now) r.line (l ++ (drop e chunk ++ rest))) (sym c)
        ∙ ap (λ l. owed (state_of s l) r.line (take n desk_after.carry.now ++ (drop e chunk ++ rest))) (sym cs)
        ∙ sym (ap (λ o. by_state o (λ s. owed (state_of s desk_after.cells.now) r.line (take n desk_after.carry.now ++ (drop e chunk ++ rest)))) going);
    wrote = wrote_none (omega (arith, h));
    sound = record {
      kept = subst (λ l. KeptIn r.state l desk_after.index.now) (sym cs) (subst (λ l. KeptIn r.state desk.cells.now l) (sym ws) sound.kept);
      clear = subst (Clear line_feed) (sym c) bytes_clear;
      short = k;
    };
  }

-- ---- turn after turn
pub turned_none : {r : Reader} {chunk : List ℕ} {desk : Desk} {out : Output} → Room 0 out → Sound r desk → Turned r chunk desk out r desk out
turned_none h s = record { text = []; fed = λ rest. refl; wrote = wrote_none (omega (arith, h)); sound = s }

pub turned_more : {r x y : Reader} {chunk : List ℕ} {desk desk₁ desk₂ : Desk} {out out₁ out₂ : Output} → Turned r chunk desk out x desk₁ out₁ → Turned x chunk desk₁ out₁ y desk₂ out₂ → Turned r chunk desk out y desk₂ out₂
turned_more {r} {x} {y} {chunk} {desk} {desk₁} {desk₂} a b = record {
  text = a.text ++ b.text;
  fed = λ rest. a.fed rest ∙ ap (λ t. a.text ++ t) (b.fed rest) ∙ sym (append_assoc a.text b.text (due_of y desk₂ (drop y.at chunk ++ rest)));
  wrote = wrote_join a.wrote b.wrote;
  sound = b.sound;
}

-- ---- the end of the input
pub record Finished (r : Reader) (desk : Desk) (out out_after : Output) : Type 0 where
  pub text : List ℕ
  pub all : due_of r desk [] ≡ text
  pub wrote : Wrote text out out_after

pub finished_none : (r : Reader) (desk : Desk) (out : Output) → due_of r desk [] ≡ [] → Room 0 out → Finished r desk out out
finished_none r desk out e h = record { text = []; all = e; wrote = wrote_none (omega (arith, h)) }

pub ended_owes : (r : Reader) (desk : Desk) → r.state ≡ None → due_of r desk [] ≡ []
ended_owes r desk e = ap (λ o. by_state o (λ s. owed (state_of s desk.cells.now) r.line (take r.carried desk.carry.now ++ []))) e

module _ (r : Reader) (s : State) (desk : Desk) (going : r.state ≡ Some s) where
  going_owes : due_of r desk [] ≡ owed (state_of s desk.cells.now) r.line (take r.carried desk.carry.now ++ [])
  going_owes = ap (λ o. by_state o (λ s. owed (state_of s desk.cells.now) r.line (take r.carried desk.carry.now ++ []))) going

  pub empty_owes : r.carried ≡ 0 → due_of r desk [] ≡ []
  empty_owes z = going_owes ∙ ap (λ n. owed (state_of s desk.cells.now) r.line (take n desk.carry.now ++ [])) z ∙ none_owed (state_of s desk.cells.now) r.line

  pub finished_line : Sound r desk → 0 < length (take r.carried desk.carry.now) → {place : ℕ} {out : Output} {x : Reader} {cells_after index_after : List ℤ} {out_after : Output} → Judged (line_of (take r.carried desk.carry.now)) s r place desk.cells.now out x cells_after index_after out_after → Finished r desk out out_after
  finished_line sound l {x = x} {cells_after = cells_after} j = record {
    text = j.text;
    all =
        going_owes
        ∙ ap (owed (state_of s desk.cells.now) r.line) (append-nil (take r.carried desk.carry.now))
        ∙ line_last (take r.carried desk.carry.now) sound.clear l (state_of s desk.cells.now) r.line
        ∙ j.prints (λ s'. [])
        ∙ ap (λ t. j.text ++ t) (none x.state)
        ∙ append-nil j.text;
    wrote = j.wrote;
  }
    where
      none : (o : Option State) → by_state o (λ s'. []) ≡ []
      none None = refl
      none (Some s') = refl

-- at the start the whole program is owed
pub start_owes : (text : List ℕ) (desk : Desk) → due_of started desk text ≡ program text
start_owes text desk = sym (program_is text)

-- ---- the bytes carried over
pub carried_take : (n m : ℕ) (v carry : List ℕ) → n ≤ length carry → m ≡ n + length v → take m (put n v carry) ≡ take n carry ++ v
unfolding put
carried_take n m v carry h e =
    ap (λ l. take m l) (sym (append_assoc (take n carry) v (drop (n + length v) carry)))
    ∙ take_at (take n carry ++ v) (drop (n + length v) carry) m (length-append (take n carry) v ∙ ap (λ k. k + length v) (length-take-le n carry h) ∙ sym e)

-- ---- between chunks: a new chunk is read from its start
abbrev pub on_chunk : Reader → Reader
on_chunk r = record r { at = 0 }

abbrev pub over : Reader
over = record { state = None; line = 1; carried = 0; at = 0 }

module _ {desk : Desk} where
  pub start_sound : Sound started desk
  start_sound = record { kept = omega arith; clear = clear_nil line_feed; short = omega arith }

  pub over_sound : Sound over desk
  over_sound = record { kept = omega arith; clear = clear_nil line_feed; short = omega arith }

  pub chunk_sound : {r : Reader} → Sound r desk → Sound (on_chunk r) desk
  chunk_sound s = record { kept = s.kept; clear = s.clear; short = s.short }

-- ---- chunk after chunk: what is printed in all is the program of the whole input
-- a chunk that was read from its start to its end, or up to a fault: turns within a chunk come together by `turned_more`
pub chunk_fed : {r x : Reader} {chunk : List ℕ} {desk desk_after : Desk} {out out_after : Output} (t : Turned r chunk desk out x desk_after out_after) → r.at ≡ 0 → length chunk ≤ x.at → Fed (due_of r desk) chunk t.text (due_of x desk_after)
chunk_fed {r} {x} {chunk} {desk} {desk_after} t z e = record {
  fed = λ rest.
      ap (λ k. due_of r desk (drop k chunk ++ rest)) (sym z)
      ∙ t.fed rest
      ∙ ap (λ l. t.text ++ due_of x desk_after (l ++ rest)) (drop_of_length-le chunk e);
}

pub end_is_program : (desk : Desk) {text printed last : List ℕ} {left : List ℕ → List ℕ} → Fed (due_of started desk) text printed left → left [] ≡ last → program text ≡ printed ++ last
end_is_program desk {text} {printed} f e =
    sym (start_owes text desk)
    ∙ ap (due_of started desk) (sym (append-nil text))
    ∙ f.fed []
    ∙ ap (λ l. printed ++ l) e

-- after a fault the rest of the input changes nothing
pub fault_is_program : {x : Reader} {chunk : List ℕ} {desk desk_after : Desk} {out out_after : Output} (t : Turned started chunk desk out x desk_after out_after) → x.state ≡ None → (rest : List ℕ) → program (chunk ++ rest) ≡ t.text
fault_is_program {x} {chunk} {desk} {desk_after} t e rest =
    sym (start_owes (chunk ++ rest) desk)
    ∙ t.fed rest
    ∙ ap (λ o. t.text ++ by_state o (λ s. owed (state_of s desk_after.cells.now) x.line (take x.carried desk_after.carry.now ++ (drop x.at chunk ++ rest)))) e
    ∙ append-nil t.text
