-- What `paper` accepts the automaton reads to its end, with the coordinates in their order; so a text has one list of segments at most.
use Rattle.std.specs.Prelude.{◌≡◌, Bool, true, false, cond, eqb, ℤ, length, get_or}
use Rattle.std.proofs.Math.Path.{refl, ap}
use Rattle.std.proofs.Common.{sym, ap₂, ◌∙◌, arith, add-one, eq-eqb, ne_eqb}
use mathlib.Core.List.{List, [], ◌∷◌, ◌++◌, map, append_assoc, append-nil}
use Prim.Native.Nat.{ℕ, zero, suc, ◌+◌, ◌-◌, ◌*◌, ◌<◌}
use Rattle.std.proofs.Math.ListN.{drop, drop_of_length-le}
use Rattle.std.proofs.Math.Seq.{drop-cons}
use Rattle.paper.specs.Lines.{is_digit, digit0, value_from, bytes}
use Rattle.paper.specs.Wkt.{space, opening, closing, comma, capital, Token, word, number, mark, line_tokens, further_tokens, Digits, one, more, Spells, either_case, unsigned, positive, negative, itself, Kind, aWord, a_number, aMark, spaces, Spelled, end, then, Accepted, coordinates_of}
use Rattle.paper.specs.declared.Segment.{Segment}
use Rattle.axes.specs.declared.Word.{Word}
use Rattle.axes.specs.declared.Word.TheVariants.{X1, Y1, X2, Y2}
use Rattle.wkt_read.specs.declared.automaton.State.{State}
use Rattle.wkt_read.specs.declared.automaton.State.TheVariants.{Start, Name, Named, Body, Empty, Line, Due, Signed, Number, After, More, End, Failed}
use Rattle.wkt_read.specs.Machine.{name, empty, is_letter, is_sign, mark_after, past_mark, name_to, empty_to, onward, step_state, Reading, signed_value, to, step, run, at, start, run_append}

-- ---- spaces: a state that stays at one stays at many
pub run_spaces : (r : Reading) → step r space ≡ r → (gap : ℕ) (rest : List ℕ) → run r (spaces gap ++ rest) ≡ run r rest
unfolding run
run_spaces r e zero rest = refl
run_spaces r e (suc gap) rest = ap (λ x. run x (spaces gap ++ rest)) e ∙ run_spaces r e gap rest

-- ---- words
head_is : {x y : ℕ} {xs ys : List ℕ} → x ∷ xs ≡ y ∷ ys → (x ≡ y) × (xs ≡ ys)
head_is e = (cc, cc)

no_cons : {X : Type 0} {x : ℕ} {xs : List ℕ} → x ∷ xs ≡ [] → X
no_cons e = let z : ◌≡◌ {A = ℕ} 0 1 = cc in absurd (omega arith)

none_left : (bs : List ℕ) → map capital bs ≡ [] → bs ≡ []
none_left [] e = refl
none_left (x ∷ bs) e = no_cons e

-- letters from the k-th on take a word's states to what is past it, where each letter does
module _ (w : List ℕ) (inside : ℕ → Reading) (past : Reading)
    (last : (k b : ℕ) → k + 1 ≡ length w → is_letter w k b ≡ true → step (inside k) b ≡ past)
    (inner : (k b : ℕ) → k + 1 < length w → is_letter w k b ≡ true → step (inside k) b ≡ inside (k + 1)) where
  run_word : (left k : ℕ) → k + suc left ≡ length w → (bs : List ℕ) → map capital bs ≡ drop k w → run (inside k) bs ≡ past
  unfolding run
  run_word left k h [] e = no_cons (sym (e ∙ drop-cons w k 0 (omega arith)))
  run_word zero k h (b ∷ bs) e =
      let p = head_is (e ∙ drop-cons w k 0 (omega arith)) in
      ap (λ r. run r bs) (last k b (omega arith) (eq-eqb (capital b) (get_or w k 0) p.0))
      ∙ ap (run past) (none_left bs (p.1 ∙ drop_of_length-le w {i = suc k} (omega arith)))
  run_word (suc left) k h (b ∷ bs) e =
      let p = head_is (e ∙ drop-cons w k 0 (omega arith)) in
      ap (λ r. run r bs) (inner k b (omega arith) (eq-eqb (capital b) (get_or w k 0) p.0))
      ∙ run_word left (k + 1) (omega arith) bs (p.1 ∙ ap (λ j. drop j w) (sym (add-one k)))

module _ (ns : List ℤ) where
  name_last : (k b : ℕ) → k + 1 ≡ 15 → is_letter name k b ≡ true → step (at (Name k) ns) b ≡ at Named ns
  name_last k b h e =
      ap (λ t. to (at (Name k) ns) b (cond t (name_to k) Failed)) e
      ∙ ap (λ t. to (at (Name k) ns) b (cond t Named (Name (k + 1)))) (eq-eqb k 14 (omega arith))

  name_inner : (k b : ℕ) → k + 1 < 15 → is_letter name k b ≡ true → step (at (Name k) ns) b ≡ at (Name (k + 1)) ns
  name_inner k b h e =
      ap (λ t. to (at (Name k) ns) b (cond t (name_to k) Failed)) e
      ∙ ap (λ t. to (at (Name k) ns) b (cond t Named (Name (k + 1)))) (ne_eqb k 14 (λ q. omega arith))

  empty_last : (k b : ℕ) → k + 1 ≡ 5 → is_letter empty k b ≡ true → step (at (Empty k) ns) b ≡ at End ns
  empty_last k b h e =
      ap (λ t. to (at (Empty k) ns) b (cond t (empty_to k) Failed)) e
      ∙ ap (λ t. to (at (Empty k) ns) b (cond t End (Empty (k + 1)))) (eq-eqb k 4 (omega arith))

  empty_inner : (k b : ℕ) → k + 1 < 5 → is_letter empty k b ≡ true → step (at (Empty k) ns) b ≡ at (Empty (k + 1)) ns
  empty_inner k b h e =
      ap (λ t. to (at (Empty k) ns) b (cond t (empty_to k) Failed)) e
      ∙ ap (λ t. to (at (Empty k) ns) b (cond t End (Empty (k + 1)))) (ne_eqb k 4 (λ q. omega arith))

  -- the rest of a word
  pub rest_of_name : (left k : ℕ) → k + suc left ≡ 15 → (bs : List ℕ) → map capital bs ≡ drop k name → run (at (Name k) ns) bs ≡ at Named ns
  rest_of_name left k h bs e = run_word name (λ j. at (Name j) ns) (at Named ns) name_last name_inner left k h bs e

  pub rest_of_empty : (left k : ℕ) → k + suc left ≡ 5 → (bs : List ℕ) → map capital bs ≡ drop k empty → run (at (Empty k) ns) bs ≡ at End ns
  rest_of_empty left k h bs e = run_word empty (λ j. at (Empty j) ns) (at End ns) empty_last empty_inner left k h bs e

  -- a whole word
  run_name : (bs : List ℕ) → map capital bs ≡ name → run (at Start ns) bs ≡ at Named ns
  unfolding run
  run_name [] e = no_cons (sym e)
  run_name (b ∷ bs) e =
      let p = head_is e in
      ap (λ t. run (to (at Start ns) b (cond t (Name 1) (cond (eqb b space) Start Failed))) bs) (eq-eqb (capital b) 77 p.0)
      ∙ rest_of_name 13 1 refl bs p.1

  run_empty : (bs : List ℕ) → map capital bs ≡ empty → run (at Body ns) bs ≡ at End ns
  unfolding run
  run_empty [] e = no_cons (sym e)
  run_empty (b ∷ bs) e =
      let p = head_is e in
      ap (λ t. run (to (at Body ns) b (cond t (Empty 1) (onward b opening Line Body))) bs) (eq-eqb (capital b) 69 p.0)
      ∙ rest_of_empty 3 1 refl bs p.1

-- ---- numbers
abbrev within : Word → Bool → ℕ → List ℤ → Reading
within c n v ns = record { state = Number c; negative = n; value = v; numbers = ns }

-- digits, where the first goes on to the number
run_digits : (c : Word) (r : Reading) → ((b : ℕ) → is_digit b ≡ true → step_state r.state b ≡ Number c) → {ds : List ℕ} → Digits ds → run r ds ≡ within c r.negative (value_from r.value ds) r.numbers
unfolding run value_from
run_digits c r first (one b e) = ap (to r b) (first b e)
run_digits c r first (more b {bs = ds} e d) =
    ap (λ s. run (to r b s) ds) (first b e)
    ∙ run_digits c (within c r.negative (10 * r.value + (b - digit0)) r.numbers)
    (λ b' e'. ap (λ t. cond t (Number c) (onward b' (mark_after c) (past_mark c) (After c))) e') d

record Valued (c : Word) (ns : List ℤ) (z : ℤ) (bs : List ℕ) : Type 0 where
  n : Bool
  v : ℕ
  is : signed_value n v ≡ z
  same : run (at (Due c) ns) bs ≡ within c n v ns

run_number : (c : Word) (ns : List ℤ) {z : ℤ} {bs : List ℕ} → Spells (number z) bs → Valued c ns z bs
unfolding run
run_number c ns (unsigned ds d) = record {
  n = false;
  v = value_from 0 ds;
  is = refl;
  same = run_digits c (at (Due c) ns) (λ b e. ap (λ t. cond t (Number c) (cond (is_sign b) (Signed c) (cond (eqb b space) (Due c) Failed))) e) d;
}
run_number c ns (positive ds d) = record {
  n = false;
  v = value_from 0 ds;
  is = refl;
  same = run_digits c (at (Signed c) ns) (λ b e. ap (λ t. cond t (Number c) Failed) e) d;
}
run_number c ns (negative ds d) = record {
  n = true;
  v = value_from 0 ds;
  is = refl;
  same = run_digits c (record { state = Signed c; negative = true; value = 0; numbers = ns }) (λ b e. ap (λ t. cond t (Number c) Failed) e) d;
}

-- ---- a reading goes on to another, with tokens left
record Reaches (from : Reading) (text : List ℕ) (before : Kind) (tokens : List Token) (onto : Reading) : Type 0 where
  rest : List ℕ
  left : Spelled before tokens rest
  same : run from text ≡ run onto rest

reaches : {a b c : Reading} {text : List ℕ} {k l : Kind} {ts us : List Token} → Reaches a text k ts b → ((rest : List ℕ) → Spelled k ts rest → Reaches b rest l us c) → Reaches a text l us c
reaches p f = let q = f p.rest p.left in record { rest = q.rest; left = q.left; same = p.same ∙ q.same }

read_mark : (r past : Reading) (m : ℕ) → step r space ≡ r → step r m ≡ past → {k : Kind} {ts : List Token} {text : List ℕ} → Spelled k (mark m ∷ ts) text → Reaches r text aMark ts past
unfolding run
read_mark r past m e f (then {rest = rest} gap h (itself b) left) = record { rest = rest; left = left; same = run_spaces r e gap (m ∷ rest) ∙ ap (λ x. run x rest) f }

record Counted (c : Word) (ns : List ℤ) (z : ℤ) (text : List ℕ) (ts : List Token) : Type 0 where
  n : Bool
  v : ℕ
  is : signed_value n v ≡ z
  reached : Reaches (at (Due c) ns) text a_number ts (within c n v ns)

read_number : (c : Word) (ns : List ℤ) {k : Kind} {z : ℤ} {ts : List Token} {text : List ℕ} → Spelled k (number z ∷ ts) text → Counted c ns z text ts
read_number c ns (then {bs = bs} {rest = rest} gap h s left) =
    let q = run_number c ns s in
    record {
      n = q.n;
      v = q.v;
      is = q.is;
      reached = record { rest = rest; left = left; same = run_spaces (at (Due c) ns) refl gap (bs ++ rest) ∙ run_append (at (Due c) ns) bs rest ∙ ap (λ x. run x rest) q.same };
    }

-- a number and then, parted, another
part_number : (r past : Reading) → step r space ≡ past → {z : ℤ} {ts : List Token} {text : List ℕ} → Spelled a_number (number z ∷ ts) text → Reaches r text aMark (number z ∷ ts) past
unfolding run
part_number r past e (then zero h s left) = absurd (omega arith)
part_number r past e {z} (then {bs = bs} {rest = rest} (suc gap) h s left) = record { rest = spaces gap ++ (bs ++ rest); left = then {before = aMark} {token = number z} gap (omega arith) s left; same = ap (λ x. run x (spaces gap ++ (bs ++ rest))) e }

-- a number and then a mark
mark_number : (r loose past : Reading) (m : ℕ) → step r m ≡ past → step r space ≡ loose → step loose space ≡ loose → step loose m ≡ past → {ts : List Token} {text : List ℕ} → Spelled a_number (mark m ∷ ts) text → Reaches r text aMark ts past
unfolding run
mark_number r loose past m e f g k (then {rest = rest} zero h (itself b) left) = record { rest = rest; left = left; same = ap (λ x. run x rest) e }
mark_number r loose past m e f g k (then {rest = rest} (suc gap) h (itself b) left) = record {
  rest = rest;
  left = left;
  same = ap (λ x. run x (spaces gap ++ (m ∷ rest))) f ∙ run_spaces loose g gap (m ∷ rest) ∙ ap (λ x. run x rest) k;
}

-- a point: coordinates c and d, and the mark after them
module _ (c d : Word) (m : ℕ) (p : State)
    (parted : (n : Bool) (v : ℕ) (ns : List ℤ) → step (within c n v ns) space ≡ at (Due d) (ns ++ (signed_value n v ∷ [])))
    (tight : (n : Bool) (v : ℕ) (ns : List ℤ) → step (within d n v ns) m ≡ at p (ns ++ (signed_value n v ∷ [])))
    (loose : (n : Bool) (v : ℕ) (ns : List ℤ) → step (within d n v ns) space ≡ at (After d) (ns ++ (signed_value n v ∷ [])))
    (still : (ns : List ℤ) → step (at (After d) ns) space ≡ at (After d) ns)
    (past : (ns : List ℤ) → step (at (After d) ns) m ≡ at p ns) where
  read_point : (ns : List ℤ) (x y : ℤ) {ts : List Token} {text : List ℕ} → Spelled aMark (number x ∷ number y ∷ mark m ∷ ts) text → Reaches (at (Due c) ns) text aMark ts (at p (ns ++ (x ∷ y ∷ [])))
  read_point ns x y s =
      let a = read_number c ns s in
      let b = reaches a.reached (λ rest q. part_number (within c a.n a.v ns) (at (Due d) (ns ++ (signed_value a.n a.v ∷ []))) (parted a.n a.v ns) q) in
      let l = ns ++ (signed_value a.n a.v ∷ []) in
      let e = read_number d l b.left in
      let l' = l ++ (signed_value e.n e.v ∷ []) in
      let g = mark_number (within d e.n e.v l) (at (After d) l') (at p l') m (tight e.n e.v l) (loose e.n e.v l) (still l') (past l') e.reached.left in
      let sum : l' ≡ ns ++ (x ∷ y ∷ []) = ap₂ (λ u w. (ns ++ (u ∷ [])) ++ (w ∷ [])) a.is e.is ∙ append_assoc ns (x ∷ []) (y ∷ []) in
      record { rest = g.rest; left = g.left; same = b.same ∙ e.reached.same ∙ g.same ∙ ap (λ u. run (at p u) g.rest) sum }

-- ---- lines
read_line : (ns : List ℤ) (s : Segment) {k : Kind} {ts : List Token} {text : List ℕ} → Spelled k (line_tokens s ts) text → Reaches (at Line ns) text aMark ts (at More (ns ++ (s.x1 ∷ s.y1 ∷ s.x2 ∷ s.y2 ∷ [])))
read_line ns s t =
    let a = read_mark (at Line ns) (at (Due X1) ns) opening refl refl t in
    let l = ns ++ (s.x1 ∷ s.y1 ∷ []) in
    let b = read_point X1 Y1 comma (Due X2) (λ n v u. refl) (λ n v u. refl) (λ n v u. refl) (λ u. refl) (λ u. refl) ns s.x1 s.y1 a.left in
    let e = read_point X2 Y2 closing More (λ n v u. refl) (λ n v u. refl) (λ n v u. refl) (λ u. refl) (λ u. refl) l s.x2 s.y2 b.left in
    record {
      rest = e.rest;
      left = e.left;
      same = a.same ∙ b.same ∙ e.same ∙ ap (λ u. run (at More u) e.rest) (append_assoc ns (s.x1 ∷ s.y1 ∷ []) (s.x2 ∷ s.y2 ∷ []));
    }

read_end : (ns : List ℤ) {k : Kind} {text : List ℕ} → Spelled k [] text → run (at End ns) text ≡ at End ns
unfolding run
read_end ns (end gap) = ap (run (at End ns)) (sym (append-nil (spaces gap))) ∙ run_spaces (at End ns) refl gap []

read_further : (ss : List Segment) (ns : List ℤ) {text : List ℕ} → Spelled aMark (further_tokens ss) text → run (at More ns) text ≡ at End (ns ++ coordinates_of ss)
unfolding further_tokens coordinates_of
read_further [] ns t =
    let a = read_mark (at More ns) (at End ns) closing refl refl t in
    a.same ∙ read_end ns a.left ∙ ap (at End) (sym (append-nil ns))
read_further (s ∷ ss) ns t =
    let a = read_mark (at More ns) (at Line ns) comma refl refl t in
    let b = read_line ns s a.left in
    a.same ∙ b.same ∙ read_further ss (ns ++ (s.x1 ∷ s.y1 ∷ s.x2 ∷ s.y2 ∷ [])) b.left
    ∙ ap (at End) (append_assoc ns (s.x1 ∷ s.y1 ∷ s.x2 ∷ s.y2 ∷ []) (coordinates_of ss))

-- ---- words
letters_of : {t : Token} {bs : List ℕ} → Spells t bs → (w : List ℕ) → t ≡ word w → map capital bs ≡ w
letters_of (either_case bs) w e = cc
letters_of (unsigned ds d) w e = let z : ◌≡◌ {A = ℕ} 0 1 = cc in absurd (omega arith)
letters_of (positive ds d) w e = let z : ◌≡◌ {A = ℕ} 0 1 = cc in absurd (omega arith)
letters_of (negative ds d) w e = let z : ◌≡◌ {A = ℕ} 0 1 = cc in absurd (omega arith)
letters_of (itself b) w e = let z : ◌≡◌ {A = ℕ} 0 1 = cc in absurd (omega arith)

pub name_bytes : bytes "MULTILINESTRING" ≡ name
unfolding bytes
name_bytes = refl

pub empty_bytes : bytes "EMPTY" ≡ empty
unfolding bytes
empty_bytes = refl

read_name : {ts : List Token} {text : List ℕ} → Spelled aMark (word (bytes "MULTILINESTRING") ∷ ts) text → Reaches (at Start []) text aWord ts (at Named [])
read_name (then {bs = bs} {rest = rest} gap h s left) = record {
  rest = rest;
  left = left;
  same = run_spaces (at Start []) refl gap (bs ++ rest) ∙ run_append (at Start []) bs rest ∙ ap (λ r. run r rest) (run_name [] bs (letters_of s (bytes "MULTILINESTRING") refl ∙ name_bytes));
}

read_empty : {text : List ℕ} → Spelled aWord (word (bytes "EMPTY") ∷ []) text → run (at Named []) text ≡ at End []
unfolding run
read_empty (then zero h s left) = absurd (omega arith)
read_empty (then {bs = bs} {rest = rest} (suc gap) h s left) =
    run_spaces (at Body []) refl gap (bs ++ rest) ∙ run_append (at Body []) bs rest ∙ ap (λ r. run r rest) (run_empty [] bs (letters_of s (bytes "EMPTY") refl ∙ empty_bytes)) ∙ read_end [] left

-- the ( after the name, parted or not
read_open : {ts : List Token} {text : List ℕ} → Spelled aWord (mark opening ∷ ts) text → Reaches (at Named []) text aMark ts (at Line [])
unfolding run
read_open (then {rest = rest} zero h (itself b) left) = record { rest = rest; left = left; same = refl }
read_open (then {rest = rest} (suc gap) h (itself b) left) = record { rest = rest; left = left; same = run_spaces (at Body []) refl gap (opening ∷ rest) }

-- ---- the whole text
pub accepted_run : (segments : List Segment) {text : List ℕ} → Accepted text segments → run start text ≡ at End (coordinates_of segments)
unfolding coordinates_of
accepted_run [] t = let a = read_name t in a.same ∙ read_empty a.left
accepted_run (s ∷ ss) t =
    let a = read_name t in
    let b = read_open a.left in
    let e = read_line [] s b.left in
    a.same ∙ b.same ∙ e.same ∙ read_further ss (s.x1 ∷ s.y1 ∷ s.x2 ∷ s.y2 ∷ []) e.left

-- coordinates in their order say which segments
pub coordinates_tell : (a b : List Segment) → coordinates_of a ≡ coordinates_of b → a ≡ b
unfolding coordinates_of
coordinates_tell [] [] e = refl
coordinates_tell [] (t ∷ b) e = let z : ◌≡◌ {A = ℕ} 0 1 = cc in absurd (omega arith)
coordinates_tell (s ∷ a) [] e = let z : ◌≡◌ {A = ℕ} 0 1 = cc in absurd (omega arith)
coordinates_tell (s ∷ a) (t ∷ b) e =
    let x1 : s.x1 ≡ t.x1 = cc in
    let y1 : s.y1 ≡ t.y1 = cc in
    let x2 : s.x2 ≡ t.x2 = cc in
    let y2 : s.y2 ≡ t.y2 = cc in
    let f : coordinates_of a ≡ coordinates_of b = cc in
    let g : s ≡ t = λ i. record { x1 = x1 i; y1 = y1 i; x2 = x2 i; y2 = y2 i } in
    ap₂ (λ u w. u ∷ w) g (coordinates_tell a b f)

-- so a text is accepted with one list of segments at most
pub accepted_once : {text : List ℕ} (a b : List Segment) → Accepted text a → Accepted text b → a ≡ b
accepted_once a b h k = coordinates_tell a b (ap (λ r. r.numbers) (sym (accepted_run a h) ∙ accepted_run b k))
