-- What the automaton reads to its end `paper` accepts: from each state back, byte by byte, what was read spells the tokens that were due.
use Rattle.std.specs.Prelude.{◌≡◌, refl, Bool, true, false, cond, ◌||◌, List, [], ◌∷◌, ◌++◌, map, ℕ, suc, ◌+◌, ◌-◌, ◌*◌, ◌≤◌, ◌<◌, T, eqb, ℤ, pos, neg_ℤ, length, get_or, drop}
use Rattle.std.proofs.Common.{sym, ap₂, ◌∙◌, subst, append_assoc, append-nil, arith, add-one, drop_of_length-le, drop-cons, eqb-true}
use Rattle.std.proofs.Math.Path.{ap}
use Rattle.std.proofs.lemmas.Bool.{eqb-false}
use Rattle.lists.specs.Tests.{by_test}
use Rattle.lists.specs.Every.{All}
use Rattle.paper.specs.Lines.{is_digit, digit0, minus, value_from, bytes}
use Rattle.paper.specs.Wkt.{space, opening, closing, plus, comma, capital, Token, word, number, mark, further_tokens, tokens_of, Digits, one, more, Spells, either_case, unsigned, positive, negative, itself, Kind, aWord, a_number, aMark, kind_of, parting, Spelled, end, then, Accepted, coordinates_of}
use Rattle.paper.specs.declared.Segment.{Segment}
use Rattle.axes.specs.declared.Word.{Word}
use Rattle.axes.specs.declared.Word.TheVariants.{X1, Y1, X2, Y2}
use Rattle.wkt_read.specs.declared.automaton.State.{State}
use Rattle.wkt_read.specs.declared.automaton.State.TheVariants.{Start, Name, Named, Body, Empty, Line, Due, Signed, Number, After, More, End, Failed}
use Rattle.wkt_read.specs.Machine.{name, empty, is_letter, is_sign, onward, mark_after, past_mark, name_to, empty_to, step_state, ended, Reading, signed_value, finished, to, step, run, at, start}
use Rattle.wkt_read.specs.Complete.{name_bytes, empty_bytes}

-- ---- the states that are met: letters within their counts, no sign or value but in a number
abbrev pub Bound : State → Type 0
Bound Start = Unit {0}
Bound (Name k) = k ≤ 14
Bound Named = Unit {0}
Bound Body = Unit {0}
Bound (Empty k) = k ≤ 4
Bound Line = Unit {0}
Bound (Due c) = Unit {0}
Bound (Signed c) = Unit {0}
Bound (Number c) = Unit {0}
Bound (After c) = Unit {0}
Bound More = Unit {0}
Bound End = Unit {0}
Bound Failed = Unit {0}

pub data Shape : Reading → Type 0 where
  loose : (s : State) (ns : List ℤ) → Bound s → Shape (at s ns)
  signed : (c : Word) (n : Bool) (ns : List ℤ) → Shape (record { state = Signed c; negative = n; value = 0; numbers = ns })
  counted : (c : Word) (n : Bool) (v : ℕ) (ns : List ℤ) → Shape (record { state = Number c; negative = n; value = v; numbers = ns })

bound_if : (t : Bool) (x y : State) → Bound x → Bound y → Bound (cond t x y)
bound_if true x y h k = h
bound_if false x y h k = k

bound_onward : (b m : ℕ) (x y : State) → Bound x → Bound y → Bound (onward b m x y)
bound_onward b m x y h k = bound_if (eqb b m) x (cond (eqb b space) y Failed) h (bound_if (eqb b space) y Failed k tt)

bound_name : (k : ℕ) → k ≤ 14 → Bound (name_to k)
bound_name k h = by_test (eqb k 14) (λ e. subst (λ t. Bound (cond t Named (Name (k + 1)))) (sym e) tt) (λ e. subst (λ t. Bound (cond t Named (Name (k + 1)))) (sym e) (less (eqb-false k 14 e)))
  where
    less : (k ≡ 14 → ⊥) → k + 1 ≤ 14
    less n = omega arith

bound_empty : (k : ℕ) → k ≤ 4 → Bound (empty_to k)
bound_empty k h = by_test (eqb k 4) (λ e. subst (λ t. Bound (cond t End (Empty (k + 1)))) (sym e) tt) (λ e. subst (λ t. Bound (cond t End (Empty (k + 1)))) (sym e) (less (eqb-false k 4 e)))
  where
    less : (k ≡ 4 → ⊥) → k + 1 ≤ 4
    less n = omega arith

bound_past : (c : Word) → Bound (past_mark c)
bound_past X1 = tt
bound_past Y1 = tt
bound_past X2 = tt
bound_past Y2 = tt

bound_step : (s : State) (b : ℕ) → Bound s → Bound (step_state s b)
bound_step Start b h = bound_if (is_letter name 0 b) (Name 1) (cond (eqb b space) Start Failed) (omega arith) (bound_if (eqb b space) Start Failed tt tt)
bound_step (Name k) b h = bound_if (is_letter name k b) (name_to k) Failed (bound_name k h) tt
bound_step Named b h = bound_onward b opening Line Body tt tt
bound_step Body b h = bound_if (is_letter empty 0 b) (Empty 1) (onward b opening Line Body) (omega arith) (bound_onward b opening Line Body tt tt)
bound_step (Empty k) b h = bound_if (is_letter empty k b) (empty_to k) Failed (bound_empty k h) tt
bound_step Line b h = bound_onward b opening (Due X1) Line tt tt
bound_step (Due c) b h =
    bound_if (is_digit b) (Number c) (cond (is_sign b) (Signed c) (cond (eqb b space) (Due c) Failed)) h
    (bound_if (is_sign b) (Signed c) (cond (eqb b space) (Due c) Failed) h (bound_if (eqb b space) (Due c) Failed h tt))
bound_step (Signed c) b h = bound_if (is_digit b) (Number c) Failed h tt
bound_step (Number c) b h = bound_if (is_digit b) (Number c) (onward b (mark_after c) (past_mark c) (After c)) h (bound_onward b (mark_after c) (past_mark c) (After c) (bound_past c) h)
bound_step (After c) b h = bound_onward b (mark_after c) (past_mark c) (After c) (bound_past c) h
bound_step More b h = bound_if (eqb b comma) Line (onward b closing End More) tt (bound_onward b closing End More tt tt)
bound_step End b h = bound_if (eqb b space) End Failed tt tt
bound_step Failed b h = tt

shape_to : (r : Reading) (b : ℕ) (s : State) → Bound s → Shape (to r b s)
shape_to r b Start h = loose Start (finished r) h
shape_to r b (Name k) h = loose (Name k) (finished r) h
shape_to r b Named h = loose Named (finished r) h
shape_to r b Body h = loose Body (finished r) h
shape_to r b (Empty k) h = loose (Empty k) (finished r) h
shape_to r b Line h = loose Line (finished r) h
shape_to r b (Due c) h = loose (Due c) (finished r) h
shape_to r b (Signed c) h = signed c (eqb b minus) (finished r)
shape_to r b (Number c) h = counted c r.negative (10 * r.value + (b - digit0)) r.numbers
shape_to r b (After c) h = loose (After c) (finished r) h
shape_to r b More h = loose More (finished r) h
shape_to r b End h = loose End (finished r) h
shape_to r b Failed h = loose Failed (finished r) h

pub shape_step : {r : Reading} → Shape r → (b : ℕ) → Shape (step r b)
shape_step (loose s ns h) b = shape_to (at s ns) b (step_state s b) (bound_step s b h)
shape_step (signed c n ns) b = shape_to (record { state = Signed c; negative = n; value = 0; numbers = ns }) b (step_state (Signed c) b) (bound_step (Signed c) b tt)
shape_step (counted c n v ns) b = shape_to (record { state = Number c; negative = n; value = v; numbers = ns }) b (step_state (Number c) b) (bound_step (Number c) b tt)

pub shape_run : (bs : List ℕ) {r : Reading} → Shape r → Shape (run r bs)
unfolding run
shape_run [] h = h
shape_run (b ∷ bs) h = shape_run bs (shape_step h b)

pub shape_start : Shape start
shape_start = loose Start [] tt

-- ---- the tokens that may follow where one is due, and the numbers in them
data Spot : Type 0 where
  at_start atBody atLine atX1 atY1 atComma atX2 atY2 atClose atMore atEnd : Spot

data Tail : Spot → List Token → List ℤ → Type 0 where
  named : {ts : List Token} {zs : List ℤ} → Tail atBody ts zs → Tail at_start (word (bytes "MULTILINESTRING") ∷ ts) zs
  none : {ts : List Token} {zs : List ℤ} → Tail atEnd ts zs → Tail atBody (word (bytes "EMPTY") ∷ ts) zs
  opened : {ts : List Token} {zs : List ℤ} → Tail atLine ts zs → Tail atBody (mark opening ∷ ts) zs
  line : {ts : List Token} {zs : List ℤ} → Tail atX1 ts zs → Tail atLine (mark opening ∷ ts) zs
  x1 : {z : ℤ} {ts : List Token} {zs : List ℤ} → Tail atY1 ts zs → Tail atX1 (number z ∷ ts) (z ∷ zs)
  y1 : {z : ℤ} {ts : List Token} {zs : List ℤ} → Tail atComma ts zs → Tail atY1 (number z ∷ ts) (z ∷ zs)
  between : {ts : List Token} {zs : List ℤ} → Tail atX2 ts zs → Tail atComma (mark comma ∷ ts) zs
  x2 : {z : ℤ} {ts : List Token} {zs : List ℤ} → Tail atY2 ts zs → Tail atX2 (number z ∷ ts) (z ∷ zs)
  y2 : {z : ℤ} {ts : List Token} {zs : List ℤ} → Tail atClose ts zs → Tail atY2 (number z ∷ ts) (z ∷ zs)
  shut : {ts : List Token} {zs : List ℤ} → Tail atMore ts zs → Tail atClose (mark closing ∷ ts) zs
  further : {ts : List Token} {zs : List ℤ} → Tail atLine ts zs → Tail atMore (mark comma ∷ ts) zs
  closed : {ts : List Token} {zs : List ℤ} → Tail atEnd ts zs → Tail atMore (mark closing ∷ ts) zs
  done : Tail atEnd [] []

-- a coordinate, and what follows it
abbrev coordinate : Word → Spot
coordinate X1 = atX1
coordinate Y1 = atY1
coordinate X2 = atX2
coordinate Y2 = atY2

abbrev after : Word → Spot
after X1 = atY1
after Y1 = atComma
after X2 = atY2
after Y2 = atClose

valued : (c : Word) {z : ℤ} {ts : List Token} {zs : List ℤ} → Tail (after c) ts zs → Tail (coordinate c) (number z ∷ ts) (z ∷ zs)
valued X1 t = x1 t
valued Y1 t = y1 t
valued X2 t = x2 t
valued Y2 t = y2 t

-- ---- the tokens after one of a kind that the bytes spell, and the numbers at the end
record Goes (before : Kind) (spot : Spot) (ns : List ℤ) (rest : List ℕ) (final : List ℤ) : Type 0 where
  tokens : List Token
  numbers : List ℤ
  left : Spelled before tokens rest
  tail : Tail spot tokens numbers
  sum : final ≡ ns ++ numbers

parting_one : (a b : Kind) → parting a b ≤ 1
parting_one aWord aWord = omega arith
parting_one aWord a_number = omega arith
parting_one aWord aMark = omega arith
parting_one a_number aWord = omega arith
parting_one a_number a_number = omega arith
parting_one a_number aMark = omega arith
parting_one aMark b = omega arith

parting_mark : (a : Kind) → parting a aMark ≤ 0
parting_mark aWord = omega arith
parting_mark a_number = omega arith
parting_mark aMark = omega arith

spelled_space : {j : Kind} (k : Kind) {ts : List Token} {rest : List ℕ} → Spelled j ts rest → Spelled k ts (space ∷ rest)
spelled_space k (end gap) = end (suc gap)
spelled_space k (then {token = t} gap h s left) = then {before = k} {token = t} (suc gap) (omega (arith, parting_one k (kind_of t))) s left

end_kind : {j : Kind} (k : Kind) {ts : List Token} {zs : List ℤ} {rest : List ℕ} → Tail atEnd ts zs → Spelled j ts rest → Spelled k ts rest
end_kind k done (end gap) = end gap

module _ {ns : List ℤ} {rest : List ℕ} {final : List ℤ} where
  add_space : (b : ℕ) → eqb b space ≡ true → {j k : Kind} {spot : Spot} → Goes j spot ns rest final → Goes k spot ns (b ∷ rest) final
  add_space b e {j} {k} {spot} g =
      subst (λ x. Goes k spot ns (x ∷ rest) final) (sym (eqb-true b space e))
      (record { tokens = g.tokens; numbers = g.numbers; left = spelled_space k g.left; tail = g.tail; sum = g.sum })

  add_mark : (b m : ℕ) → eqb b m ≡ true → {k : Kind} {spot past : Spot} → ((ts : List Token) (zs : List ℤ) → Tail past ts zs → Tail spot (mark m ∷ ts) zs) → Goes aMark past ns rest final → Goes k spot ns (b ∷ rest) final
  add_mark b m e {k} {spot} f g =
      subst (λ x. Goes k spot ns (x ∷ rest) final) (sym (eqb-true b m e))
      (record { tokens = mark m ∷ g.tokens; numbers = g.numbers; left = then {before = k} {token = mark m} 0 (parting_mark k) (itself m) g.left; tail = f g.tokens g.numbers g.tail; sum = g.sum })

  add_number : (c : Word) (z : ℤ) {bs : List ℕ} → Spells (number z) bs → Goes a_number (after c) (ns ++ (z ∷ [])) rest final → Goes aMark (coordinate c) ns (bs ++ rest) final
  add_number c z s g = record {
    tokens = number z ∷ g.tokens;
    numbers = z ∷ g.numbers;
    left = then {before = aMark} {token = number z} 0 (omega arith) s g.left;
    tail = valued c g.tail;
    sum = g.sum ∙ append_assoc ns (z ∷ []) g.numbers;
  }

  add_word : (w : List ℕ) (bs : List ℕ) → map capital bs ≡ w → {spot past : Spot} → ((ts : List Token) (zs : List ℤ) → Tail past ts zs → Tail spot (word w ∷ ts) zs) → Goes aWord past ns rest final → Goes aMark spot ns (bs ++ rest) final
  add_word w bs e f g = record {
    tokens = word w ∷ g.tokens;
    numbers = g.numbers;
    left = then {before = aMark} {token = word w} 0 (omega arith) (subst (λ x. Spells (word x) bs) e (either_case bs)) g.left;
    tail = f g.tokens g.numbers g.tail;
    sum = g.sum;
  }

  at_end : {j : Kind} (k : Kind) → Goes j atEnd ns rest final → Goes k atEnd ns rest final
  at_end k g = record { tokens = g.tokens; numbers = g.numbers; left = end_kind k g.tail g.left; tail = g.tail; sum = g.sum }

-- ---- what a text that is read to its end has left, in each state
record WordLeft (letters : List ℕ) (spot : Spot) (ns : List ℤ) (rest : List ℕ) (final : List ℤ) : Type 0 where
  bs : List ℕ
  behind : List ℕ
  split : bs ++ behind ≡ rest
  spelled : map capital bs ≡ letters
  goes : Goes aWord spot ns behind final

record DigitsLeft (c : Word) (n : Bool) (v : ℕ) (ns : List ℤ) (rest : List ℕ) (final : List ℤ) : Type 0 where
  ds : List ℕ
  behind : List ℕ
  split : ds ++ behind ≡ rest
  digits : All (λ b. is_digit b ≡ true) ds
  goes : Goes a_number (after c) (ns ++ (signed_value n (value_from v ds) ∷ [])) behind final

-- one digit at least
record NumberLeft (c : Word) (n : Bool) (v : ℕ) (ns : List ℤ) (rest : List ℕ) (final : List ℤ) : Type 0 where
  ds : List ℕ
  behind : List ℕ
  split : ds ++ behind ≡ rest
  digits : Digits ds
  goes : Goes a_number (after c) (ns ++ (signed_value n (value_from v ds) ∷ [])) behind final

abbrev Remains : State → Bool → ℕ → List ℤ → List ℕ → List ℤ → Type 0
Remains Start n v ns rest final = Goes aMark at_start ns rest final
Remains (Name k) n v ns rest final = WordLeft (drop k name) atBody ns rest final
Remains Named n v ns rest final = Goes aWord atBody ns rest final
Remains Body n v ns rest final = Goes aMark atBody ns rest final
Remains (Empty k) n v ns rest final = WordLeft (drop k empty) atEnd ns rest final
Remains Line n v ns rest final = Goes aMark atLine ns rest final
Remains (Due c) n v ns rest final = Goes aMark (coordinate c) ns rest final
Remains (Signed c) n v ns rest final = NumberLeft c n v ns rest final
Remains (Number c) n v ns rest final = DigitsLeft c n v ns rest final
Remains (After c) n v ns rest final = Goes aMark (after c) ns rest final
Remains More n v ns rest final = Goes aMark atMore ns rest final
Remains End n v ns rest final = Goes aMark atEnd ns rest final
Remains Failed n v ns rest final = ⊥

abbrev Left : Reading → List ℕ → List ℤ → Type 0
Left r rest final = Remains r.state r.negative r.value r.numbers rest final

-- either way of a test of a byte
choose : {Z : Type 0} (P : State → Type 0) (t : Bool) (x y : State) → P (cond t x y) → (t ≡ true → P x → Z) → (t ≡ false → P y → Z) → Z
choose P true x y h f g = f refl h
choose P false x y h f g = g refl h

choose_onward : {Z : Type 0} (P : State → Type 0) (b m : ℕ) (x y : State) → (P Failed → ⊥) → P (onward b m x y) → (eqb b m ≡ true → P x → Z) → (eqb b space ≡ true → P y → Z) → Z
choose_onward P b m x y never h f g =
    choose P (eqb b m) x (cond (eqb b space) y Failed) h f (λ e q. choose P (eqb b space) y Failed q g (λ e' q'. absurd (never q')))

-- ---- one byte back
module _ (b : ℕ) (rest : List ℕ) (final : List ℤ) where
  abbrev To : Reading → State → Type 0
  To r s = Left (to r b s) rest final

  one_letter : (w : List ℕ) (k : ℕ) → k < length w → is_letter w k b ≡ true → {ns : List ℤ} {spot : Spot} → WordLeft (drop (suc k) w) spot ns rest final → WordLeft (drop k w) spot ns (b ∷ rest) final
  one_letter w k h e g = record {
    bs = b ∷ g.bs;
    behind = g.behind;
    split = ap (λ l. b ∷ l) g.split;
    spelled = ap₂ (λ x l. x ∷ l) (eqb-true (capital b) (get_or w k 0) e) g.spelled ∙ sym (drop-cons w k 0 h);
    goes = g.goes;
  }

  last_letter : (w : List ℕ) (k : ℕ) → k + 1 ≡ length w → is_letter w k b ≡ true → {ns : List ℤ} {spot : Spot} → Goes aWord spot ns rest final → WordLeft (drop k w) spot ns (b ∷ rest) final
  last_letter w k h e g = one_letter w k (omega arith) e (record { bs = []; behind = rest; split = refl; spelled = sym (drop_of_length-le w {i = suc k} (omega arith)); goes = g })

  first_letter : {w : List ℕ} {ns : List ℤ} {spot past : Spot} → ((ts : List Token) (zs : List ℤ) → Tail past ts zs → Tail spot (word w ∷ ts) zs) → WordLeft w past ns (b ∷ rest) final → Goes aMark spot ns (b ∷ rest) final
  first_letter {w} {ns} {spot} f g = subst (λ l. Goes aMark spot ns l final) g.split (add_word w g.bs g.spelled f g.goes)

  digits_of_is : {ds : List ℕ} (d : ℕ) → is_digit d ≡ true → All (λ x. is_digit x ≡ true) ds → Digits (d ∷ ds)
  digits_of_is d e All.none = one d e
  digits_of_is d e (All.also {x = x} h k) = more d e (digits_of_is x h k)

  first_digit : (c : Word) (n : Bool) (v : ℕ) (ns : List ℤ) → is_digit b ≡ true → DigitsLeft c n (10 * v + (b - digit0)) ns rest final → NumberLeft c n v ns (b ∷ rest) final
  unfolding value_from
  first_digit c n v ns e g = record { ds = b ∷ g.ds; behind = g.behind; split = ap (λ l. b ∷ l) g.split; digits = digits_of_is b e g.digits; goes = g.goes }

  more_digit : (c : Word) (n : Bool) (v : ℕ) (ns : List ℤ) → is_digit b ≡ true → DigitsLeft c n (10 * v + (b - digit0)) ns rest final → DigitsLeft c n v ns (b ∷ rest) final
  unfolding value_from
  more_digit c n v ns e g = record { ds = b ∷ g.ds; behind = g.behind; split = ap (λ l. b ∷ l) g.split; digits = All.also {x = b} e g.digits; goes = g.goes }

  no_digit : (c : Word) (n : Bool) (v : ℕ) (ns : List ℤ) → Goes a_number (after c) (ns ++ (signed_value n v ∷ [])) (b ∷ rest) final → DigitsLeft c n v ns (b ∷ rest) final
  unfolding value_from
  no_digit c n v ns g = record { ds = []; behind = b ∷ rest; split = refl; digits = All.none; goes = g }

  -- an unsigned number
  whole_number : (c : Word) (ns : List ℤ) → NumberLeft c false 0 ns (b ∷ rest) final → Goes aMark (coordinate c) ns (b ∷ rest) final
  whole_number c ns g = subst (λ l. Goes aMark (coordinate c) ns l final) g.split (add_number c (pos (value_from 0 g.ds)) (unsigned g.ds g.digits) g.goes)

  -- a signed one
  signed_number : (c : Word) (ns : List ℤ) → is_sign b ≡ true → NumberLeft c (eqb b minus) 0 ns rest final → Goes aMark (coordinate c) ns (b ∷ rest) final
  signed_number c ns e g = by_test (eqb b minus) below above
    where
      below : eqb b minus ≡ true → Goes aMark (coordinate c) ns (b ∷ rest) final
      below t =
          let h : NumberLeft c true 0 ns rest final = subst (λ n. NumberLeft c n 0 ns rest final) t g in
          subst (λ x. Goes aMark (coordinate c) ns (x ∷ rest) final) (sym (eqb-true b minus t))
          (subst (λ l. Goes aMark (coordinate c) ns (minus ∷ l) final) h.split (add_number c (neg_ℤ (pos (value_from 0 h.ds))) (negative h.ds h.digits) h.goes))

      sign : eqb b minus ≡ false → eqb b plus ≡ true
      sign t = go (eqb b plus) (eqb b minus) t e
        where
          go : (p m : Bool) → m ≡ false → (p || m) ≡ true → p ≡ true
          go true m f h = refl
          go false m f h = sym f ∙ h

      above : eqb b minus ≡ false → Goes aMark (coordinate c) ns (b ∷ rest) final
      above t =
          let h : NumberLeft c false 0 ns rest final = subst (λ n. NumberLeft c n 0 ns rest final) t g in
          subst (λ x. Goes aMark (coordinate c) ns (x ∷ rest) final) (sym (eqb-true b plus (sign t)))
          (subst (λ l. Goes aMark (coordinate c) ns (plus ∷ l) final) h.split (add_number c (pos (value_from 0 h.ds)) (positive h.ds h.digits) h.goes))

  never : (r : Reading) → To r Failed → ⊥
  never r q = q

  -- past what follows coordinate c
  past_after : (c : Word) → {k : Kind} (r : Reading) → To r (onward b (mark_after c) (past_mark c) (After c)) → Goes k (after c) (finished r) (b ∷ rest) final
  past_after X1 r q = choose_onward (To r) b space (Due Y1) (After X1) (never r) q (λ e p. add_space b e p) (λ e p. add_space b e p)
  past_after Y1 r q = choose_onward (To r) b comma (Due X2) (After Y1) (never r) q (λ e p. add_mark b comma e (λ ts zs t. between t) p) (λ e p. add_space b e p)
  past_after X2 r q = choose_onward (To r) b space (Due Y2) (After X2) (never r) q (λ e p. add_space b e p) (λ e p. add_space b e p)
  past_after Y2 r q = choose_onward (To r) b closing More (After Y2) (never r) q (λ e p. add_mark b closing e (λ ts zs t. shut t) p) (λ e p. add_space b e p)

  back_signed : (c : Word) (n : Bool) (ns : List ℤ) → To (record { state = Signed c; negative = n; value = 0; numbers = ns }) (step_state (Signed c) b) → NumberLeft c n 0 ns (b ∷ rest) final
  back_signed c n ns q =
      choose (To (record { state = Signed c; negative = n; value = 0; numbers = ns })) (is_digit b) (Number c) Failed q
      (λ e p. first_digit c n 0 ns e p)
      (λ e p. absurd p)

  back_number : (c : Word) (n : Bool) (v : ℕ) (ns : List ℤ) → To (record { state = Number c; negative = n; value = v; numbers = ns }) (step_state (Number c) b) → DigitsLeft c n v ns (b ∷ rest) final
  back_number c n v ns q =
      choose (To (record { state = Number c; negative = n; value = v; numbers = ns })) (is_digit b) (Number c) (onward b (mark_after c) (past_mark c) (After c)) q
      (λ e p. more_digit c n v ns e p)
      (λ e p. no_digit c n v ns (past_after c (record { state = Number c; negative = n; value = v; numbers = ns }) p))

  the_name : {ts : List Token} {zs : List ℤ} → Tail atBody ts zs → Tail at_start (word name ∷ ts) zs
  the_name {ts} {zs} t = subst (λ w. Tail at_start (word w ∷ ts) zs) name_bytes (named t)

  the_empty : {ts : List Token} {zs : List ℤ} → Tail atEnd ts zs → Tail atBody (word empty ∷ ts) zs
  the_empty {ts} {zs} t = subst (λ w. Tail atBody (word w ∷ ts) zs) empty_bytes (none t)

  back_at : (s : State) (ns : List ℤ) → Bound s → To (at s ns) (step_state s b) → Remains s false 0 ns (b ∷ rest) final
  back_at Start ns h q =
      choose (To (at Start ns)) (is_letter name 0 b) (Name 1) (cond (eqb b space) Start Failed) q
      (λ e p. first_letter (λ ts zs t. the_name t) (one_letter name 0 (omega arith) e p))
      (λ e p. choose (To (at Start ns)) (eqb b space) Start Failed p (λ f g. add_space b f g) (λ f g. absurd g))
  back_at (Name k) ns h q =
      choose (To (at (Name k) ns)) (is_letter name k b) (name_to k) Failed q
      (λ e p. choose (To (at (Name k) ns)) (eqb k 14) Named (Name (k + 1)) p
      (λ f g. last_letter name k (omega (arith, eqb-true k 14 f)) e g)
      (λ f g. one_letter name k (omega arith) e (subst (λ j. WordLeft (drop j name) atBody ns rest final) (add-one k) g)))
      (λ e p. absurd p)
  back_at Named ns h q = choose_onward (To (at Named ns)) b opening Line Body (never (at Named ns)) q (λ e p. add_mark b opening e (λ ts zs t. opened t) p) (λ e p. add_space b e p)
  back_at Body ns h q =
      choose (To (at Body ns)) (is_letter empty 0 b) (Empty 1) (onward b opening Line Body) q
      (λ e p. first_letter (λ ts zs t. the_empty t) (one_letter empty 0 (omega arith) e p))
      (λ e p. choose_onward (To (at Body ns)) b opening Line Body (never (at Body ns)) p (λ f g. add_mark b opening f (λ ts zs t. opened t) g) (λ f g. add_space b f g))
  back_at (Empty k) ns h q =
      choose (To (at (Empty k) ns)) (is_letter empty k b) (empty_to k) Failed q
      (λ e p. choose (To (at (Empty k) ns)) (eqb k 4) End (Empty (k + 1)) p
      (λ f g. last_letter empty k (omega (arith, eqb-true k 4 f)) e (at_end aWord g))
      (λ f g. one_letter empty k (omega arith) e (subst (λ j. WordLeft (drop j empty) atEnd ns rest final) (add-one k) g)))
      (λ e p. absurd p)
  back_at Line ns h q = choose_onward (To (at Line ns)) b opening (Due X1) Line (never (at Line ns)) q (λ e p. add_mark b opening e (λ ts zs t. line t) p) (λ e p. add_space b e p)
  back_at (Due c) ns h q =
      choose (To (at (Due c) ns)) (is_digit b) (Number c) (cond (is_sign b) (Signed c) (cond (eqb b space) (Due c) Failed)) q
      (λ e p. whole_number c ns (first_digit c false 0 ns e p))
      (λ e p. choose (To (at (Due c) ns)) (is_sign b) (Signed c) (cond (eqb b space) (Due c) Failed) p
      (λ f g. signed_number c ns f g)
      (λ f g. choose (To (at (Due c) ns)) (eqb b space) (Due c) Failed g (λ d l. add_space b d l) (λ d l. absurd l)))
  back_at (Signed c) ns h q = back_signed c false ns q
  back_at (Number c) ns h q = back_number c false 0 ns q
  back_at (After c) ns h q = past_after c (at (After c) ns) q
  back_at More ns h q =
      choose (To (at More ns)) (eqb b comma) Line (onward b closing End More) q
      (λ e p. add_mark b comma e (λ ts zs t. further t) p)
      (λ e p. choose_onward (To (at More ns)) b closing End More (never (at More ns)) p (λ f g. add_mark b closing f (λ ts zs t. closed t) g) (λ f g. add_space b f g))
  back_at End ns h q = choose (To (at End ns)) (eqb b space) End Failed q (λ e p. add_space b e p) (λ e p. absurd p)
  back_at Failed ns h q = q

  back : {r : Reading} → Shape r → Left (step r b) rest final → Left r (b ∷ rest) final
  back (loose s ns h) q = back_at s ns h q
  back (signed c n ns) q = back_signed c n ns q
  back (counted c n v ns) q = back_number c n v ns q

-- ---- all bytes
at_once : (s : State) (ns : List ℤ) → T (ended s) → Remains s false 0 ns [] ns
at_once Start ns e = absurd e
at_once (Name k) ns e = absurd e
at_once Named ns e = absurd e
at_once Body ns e = absurd e
at_once (Empty k) ns e = absurd e
at_once Line ns e = absurd e
at_once (Due c) ns e = absurd e
at_once (Signed c) ns e = absurd e
at_once (Number c) ns e = absurd e
at_once (After c) ns e = absurd e
at_once More ns e = absurd e
at_once End ns e = record { tokens = []; numbers = []; left = end 0; tail = done; sum = sym (append-nil ns) }
at_once Failed ns e = absurd e

sound : (rest : List ℕ) {r : Reading} → Shape r → T (ended (run r rest).state) → Left r rest (run r rest).numbers
unfolding run
sound [] (loose s ns h) e = at_once s ns e
sound [] (signed c n ns) e = absurd e
sound [] (counted c n v ns) e = absurd e
sound (b ∷ rest) {r} h e = back b rest (run (step r b) rest).numbers h (sound rest (shape_step h b) e)

-- ---- the tokens are those of segments
record Segments (ts : List Token) (zs : List ℤ) (of : List Segment → List Token) : Type 0 where
  segments : List Segment
  tokens : ts ≡ of segments
  numbers : zs ≡ coordinates_of segments

furthers : {ts : List Token} {zs : List ℤ} → Tail atMore ts zs → Segments ts zs further_tokens
unfolding further_tokens coordinates_of
furthers (closed done) = record { segments = []; tokens = refl; numbers = refl }
furthers (further (line (x1 {z = a} (y1 {z = b} (between (x2 {z = c} (y2 {z = d} (shut t)))))))) =
    let g = furthers t in
    record {
      segments = record { x1 = a; y1 = b; x2 = c; y2 = d } ∷ g.segments;
      tokens = ap (λ l. mark comma ∷ mark opening ∷ number a ∷ number b ∷ mark comma ∷ number c ∷ number d ∷ mark closing ∷ l) g.tokens;
      numbers = ap (λ l. a ∷ b ∷ c ∷ d ∷ l) g.numbers;
    }

wholes : {ts : List Token} {zs : List ℤ} → Tail at_start ts zs → Segments ts zs tokens_of
unfolding coordinates_of
wholes (named (none done)) = record { segments = []; tokens = refl; numbers = refl }
wholes (named (opened (line (x1 {z = a} (y1 {z = b} (between (x2 {z = c} (y2 {z = d} (shut t))))))))) =
    let g = furthers t in
    record {
      segments = record { x1 = a; y1 = b; x2 = c; y2 = d } ∷ g.segments;
      tokens = ap (λ l. word (bytes "MULTILINESTRING") ∷ mark opening ∷ mark opening ∷ number a ∷ number b ∷ mark comma ∷ number c ∷ number d ∷ mark closing ∷ l) g.tokens;
      numbers = ap (λ l. a ∷ b ∷ c ∷ d ∷ l) g.numbers;
    }

pub record AcceptedRun (text : List ℕ) : Type 0 where
  pub segments : List Segment
  pub accepted : Accepted text segments
  pub numbers : (run start text).numbers ≡ coordinates_of segments

pub run_accepted : (text : List ℕ) → T (ended (run start text).state) → AcceptedRun text
run_accepted text e =
    let g = sound text shape_start e in
    let w = wholes g.tail in
    record { segments = w.segments; accepted = subst (λ ts. Spelled aMark ts text) w.tokens g.left; numbers = g.sum ∙ w.numbers }
