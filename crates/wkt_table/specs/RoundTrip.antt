-- Round trip: reading what was written gives the same coordinates. The one spelling is an accepted text, and is accepted with the table's segments.
use Rattle.std.specs.Prelude.{◌≡◌, refl, Bool, true, false, cond, ◌&&◌, List, [], ◌∷◌, ◌++◌, ℕ, zero, suc, ◌+◌, ◌-◌, ◌*◌, ◌/◌, ◌%◌, ◌≤◌, ◌<◌, ltb, leb, ℤ, pos, negsuc, neg_ℤ, length, drop}
use Rattle.std.proofs.Common.{sym, ◌∙◌, subst, append_assoc, arith, ltb-true, ltb-false, le-leb, le-ltb}
use Rattle.std.proofs.Math.Path.{ap}
use Rattle.std.proofs.Math.Seq.{take-append_seam}
use Rattle.lists.specs.Plain.{to_nat}
use Rattle.lists.specs.Tests.{by_test, clash}
use Rattle.lists.specs.Every.{All}
use Rattle.paper.specs.Descriptor.{segments_of}
use Rattle.paper.specs.Answers.{bad_extent, bad_coordinate, bad_buffer, refused, done}
use Rattle.paper.specs.Results.{over}
use Rattle.paper.specs.Lines.{is_digit, digit0, minus, value_from, decimal_to, decimal, bytes}
use Rattle.paper.specs.Wkt.{space, opening, closing, comma, Token, word, number, mark, line_tokens, further_tokens, Digits, one, more, Spells, either_case, unsigned, negative, itself, aWord, a_number, aMark, spaces, Spelled, end, then, Accepted, coordinates_of, reader_order, Read, accepts, line_text, further_text, text_of, writer_order, written, ReadsBack, new_text}
use Rattle.paper.specs.declared.Descriptor.{Descriptor}
use Rattle.paper.specs.declared.Reply.{Reply}
use Rattle.paper.specs.declared.Segment.{Segment}
use Rattle.promise.specs.Calls.{not_judged, none_refused, table_numbered, far_numbered}
use Rattle.table.specs.Segments.{length_segments}
use Rattle.wkt_read.specs.Decided.{read_once}

-- ---- a number as it is written: digits, of that value
value_last : (v : ℕ) (ds : List ℕ) (b : ℕ) → value_from v (ds ++ (b ∷ [])) ≡ 10 * value_from v ds + (b - digit0)
unfolding value_from
value_last v [] b = refl
value_last v (d ∷ ds) b = value_last (10 * v + (d - digit0)) ds b

digits_last : {ds : List ℕ} → Digits ds → (b : ℕ) → is_digit b ≡ true → Digits (ds ++ (b ∷ []))
digits_last (one d e) b f = more d e (one b f)
digits_last (more d e r) b f = more d e (digits_last r b f)

digit_is : (n : ℕ) → n < 10 → is_digit (digit0 + n) ≡ true
digit_is n h = both (leb digit0 (digit0 + n)) (leb (digit0 + n) (digit0 + 9)) (le-leb digit0 (digit0 + n) (omega arith)) (le-leb (digit0 + n) (digit0 + 9) (omega arith))
  where
    both : (p q : Bool) → p ≡ true → q ≡ true → (p && q) ≡ true
    both p q e f = rw (e, f) refl

written_digits : (f n : ℕ) → n < f → Digits (decimal_to f n) × (value_from 0 (decimal_to f n) ≡ n)
unfolding decimal_to value_from
written_digits zero n h = absurd (omega arith)
written_digits (suc f) n h = by_test (ltb n 10) small (λ t. large t (written_digits f (n / 10) (omega (arith, ltb-false n 10 t))))
  where
    P : List ℕ → Type 0
    P ds = Digits ds × (value_from 0 ds ≡ n)

    small : ltb n 10 ≡ true → P (decimal_to (suc f) n)
    small t =
        let l = ltb-true n 10 t in
        subst (λ b. P (cond b ((digit0 + n) ∷ []) (decimal_to f (n / 10) ++ ((digit0 + n % 10) ∷ [])))) (sym t)
        (one (digit0 + n) (digit_is n l), omega arith)

    large : ltb n 10 ≡ false → Digits (decimal_to f (n / 10)) × (value_from 0 (decimal_to f (n / 10)) ≡ n / 10) → P (decimal_to (suc f) n)
    large t w = subst (λ b. P (cond b ((digit0 + n) ∷ []) (decimal_to f (n / 10) ++ ((digit0 + n % 10) ∷ [])))) (sym t)
        (digits_last w.0 (digit0 + n % 10) (digit_is (n % 10) (omega arith)), value_last 0 (decimal_to f (n / 10)) (digit0 + n % 10) ∙ omega (arith, w.1))

pub spells_number : (z : ℤ) → Spells (number z) (decimal z)
spells_number (pos n) = let w = written_digits (suc n) n (omega arith) in subst (λ v. Spells (number (pos v)) (decimal_to (suc n) n)) w.1 (unsigned (decimal_to (suc n) n) w.0)
spells_number (negsuc n) =
    let w = written_digits (suc (suc n)) (suc n) (omega arith) in
    subst (λ v. Spells (number (neg_ℤ (pos v))) (minus ∷ decimal_to (suc (suc n)) (suc n))) w.1 (negative (decimal_to (suc (suc n)) (suc n)) w.0)

-- ---- the one spelling is accepted
-- after a gap
spells_line : (gap : ℕ) (s : Segment) {tokens : List Token} {rest : List ℕ} → Spelled aMark tokens rest → Spelled aMark (line_tokens s tokens) (spaces gap ++ (line_text s ++ rest))
spells_line gap s {tokens} {rest} t = subst (λ l. Spelled aMark (line_tokens s tokens) (spaces gap ++ l)) (sym shape) spelled
  where
    spelled : Spelled aMark (line_tokens s tokens) (spaces gap ++ (opening ∷ (decimal s.x1 ++ (space ∷ (decimal s.y1 ++ (comma ∷ space ∷ (decimal s.x2 ++ (space ∷ (decimal s.y2 ++ (closing ∷ rest))))))))))
    spelled =
        then {before = aMark} {token = mark opening} gap (omega arith) (itself opening)
        (then {before = aMark} {token = number s.x1} 0 (omega arith) (spells_number s.x1)
        (then {before = a_number} {token = number s.y1} 1 (omega arith) (spells_number s.y1)
        (then {before = a_number} {token = mark comma} 0 (omega arith) (itself comma)
        (then {before = aMark} {token = number s.x2} 1 (omega arith) (spells_number s.x2)
        (then {before = a_number} {token = number s.y2} 1 (omega arith) (spells_number s.y2)
        (then {before = a_number} {token = mark closing} 0 (omega arith) (itself closing) t))))))

    regroup : (a b c e r : List ℕ)
        → (opening ∷ ((a ++ (space ∷ b)) ++ (comma ∷ space ∷ ((c ++ (space ∷ e)) ++ (closing ∷ []))))) ++ r
        ≡ opening ∷ (a ++ (space ∷ (b ++ (comma ∷ space ∷ (c ++ (space ∷ (e ++ (closing ∷ r))))))))
    regroup a b c e r = simp append_assoc

    shape : line_text s ++ rest ≡ opening ∷ (decimal s.x1 ++ (space ∷ (decimal s.y1 ++ (comma ∷ space ∷ (decimal s.x2 ++ (space ∷ (decimal s.y2 ++ (closing ∷ rest))))))))
    shape = regroup (decimal s.x1) (decimal s.y1) (decimal s.x2) (decimal s.y2) rest

spells_further : (ss : List Segment) → Spelled aMark (further_tokens ss) (further_text ss)
unfolding further_tokens further_text
spells_further [] = then {before = aMark} {token = mark closing} 0 (omega arith) (itself closing) (end 0)
spells_further (s ∷ ss) = then {before = aMark} {token = mark comma} 0 (omega arith) (itself comma) (spells_line 1 s (spells_further ss))

pub spelling_accepted : (ss : List Segment) → Accepted (text_of ss) ss
unfolding bytes
spelling_accepted [] =
    then {before = aMark} {token = word (bytes "MULTILINESTRING")} 0 (omega arith) (either_case (bytes "MULTILINESTRING"))
    (then {before = aWord} {token = word (bytes "EMPTY")} 1 (omega arith) (either_case (bytes "EMPTY")) (end 0))
spelling_accepted (s ∷ ss) =
    then {before = aMark} {token = word (bytes "MULTILINESTRING")} 0 (omega arith) (either_case (bytes "MULTILINESTRING"))
    (then {before = aWord} {token = mark opening} 1 (omega arith) (itself opening) (spells_line 0 s (spells_further ss)))

-- ---- a call that is done has passed every test

module _ (table : List ℤ) (d : Descriptor) (text : List ℕ) where
  abbrev segments : List Segment
  segments = segments_of d table

  numbered : All (λ x. 1 ≤ x.number) (writer_order table d text)
  numbered =
      table_numbered (pos (length table)) d
      (All.also {x = bad_coordinate segments} (far_numbered segments)
      (All.also {x = bad_buffer (length (text_of segments)) (length text)} (omega arith) All.none))

  -- what a table that passed 3 and 5 gives the reader to judge
  extent_of : (bad_extent d.extent).given ≡ false → (bad_extent (pos (length segments))).given ≡ false
  extent_of e = ap (λ k. (bad_extent (pos k)).given) (length_segments d table) ∙ go d.extent e
    where
      go : (z : ℤ) → (bad_extent z).given ≡ false → (bad_extent (pos (to_nat z))).given ≡ false
      go (pos k) e = e
      go (negsuc k) e = clash e

  abbrev spelled : Reply × List ℕ
  spelled = (done (length (text_of segments)) 0, text_of segments ++ drop (length (text_of segments)) text)

  passed : (written table d text).0.number ≡ pos 0 → All (λ x. x.given ≡ false) (writer_order table d text)
  unfolding written
  passed e = none_refused text spelled numbered e

  wrote : (written table d text).0.number ≡ pos 0 → new_text (written table d text) ≡ text_of segments
  unfolding written
  wrote e = ap new_text (not_judged (writer_order table d text) (λ x. (refused x, text)) spelled (passed e)) ∙ take-append_seam (text_of segments) (drop (length (text_of segments)) text)

  reader_passes : All (λ x. x.given ≡ false) (writer_order table d text) → (cells : List ℤ) → 4 * length segments ≤ length cells → All (λ x. x.given ≡ false) (reader_order segments cells)
  reader_passes (All.also kind (All.also lower (All.also extent (All.also strides (All.also outside (All.also far (All.also room All.none))))))) cells h =
      All.also {x = bad_extent (pos (length segments))} (extent_of extent)
      (All.also {x = bad_coordinate segments} far
      (All.also {x = bad_buffer (4 * length segments) (length cells)} (le-ltb (length cells) (4 * length segments) h) All.none))

  pub round_trip : (written table d text).0.number ≡ pos 0 → ReadsBack (new_text (written table d text)) segments
  round_trip e cells h r q =
      read_once (subst (λ t. Read t cells r) (wrote e) q) (accepts segments (spelling_accepted segments))
      ∙ not_judged (reader_order segments cells) (λ x. (refused x, cells)) (done (length segments) 0, over (coordinates_of segments) cells) (reader_passes (passed e) cells h)
