-- What C hosts get, from the tests along the orders.
use Rattle.std.specs.Prelude.{◌≡◌, refl, Bool, true, false, not, ◌||◌, [], ◌∷◌, ◌<◌, ℤ, pos, negsuc, ◌≤ℤ◌, ◌<ℤ◌, Some, Result, Ok, Err}
use Rattle.std.proofs.Common.{sym, ◌∙◌, SFits, to_z, of_z}
use Rattle.std.proofs.Math.Path.{ap}
use Rattle.std.proofs.Math.Bool.{cond}
use Rattle.std.specs.Int.{w64, from_bool}
use Rattle.std.proofs.lemmas.Int.{to_z-of_z}
use Rattle.std.specs.Int.Signed.{le_z, lt_z}
use Rattle.std.proofs.lemmas.Bool.{not-false}
use Rattle.whole.specs.Order.{lt_z_false, le_z_false}
use Rattle.whole.specs.Whole.{whole}
use Rattle.lists.specs.Plain.{within, to_nat, positions, filter}
use Rattle.lists.specs.Tests.{or_false, within_true}
use Rattle.paper.specs.Descriptor.{cell_of}
use Rattle.paper.specs.Answers.{Answer, answer, answer_at, bad_extent, bad_strides, bad_cells, bad_place, bad_window, bad_coordinate, far_off, judged}
use Rattle.paper.specs.Orders.{cell_order}
use Rattle.paper.specs.Words.{W}
use Rattle.paper.specs.Corners.{weighed}
use Rattle.paper.specs.Hosts.{refused_to_c, addressing, host_cell, host_words, host_meet, HostMeet}
use Rattle.paper.specs.declared.Descriptor.{Descriptor}
use Rattle.paper.specs.declared.Segment.{Segment}
use Rattle.paper.specs.declared.Window.{Window}
use Rattle.refusals.specs.Orders.{answer_of, first_given, first_decides}
use Rattle.refusals.specs.declared.Refusal.{Refusal}
use Rattle.table.specs.Cells.{Held}
use Rattle.meeting.specs.Determined.{tested, decided, tested_is}

abbrev pub descriptor_of : (kind base lower n segment coordinate : ℤ) → Descriptor
descriptor_of kind base lower n segment coordinate = record { kind = kind; base = base; lower = lower; extent = n; segment_stride = segment; coordinate_stride = coordinate }

abbrev pub window_of : (a b c d : ℤ) → Window
window_of a b c d = record { a = a; b = b; c = c; d = d }

abbrev through : ℤ → ℤ
through z = to_z w64 (of_z w64 z)

-- numbers that fit 64 bits are what they were after they went through them
module _ {k b l n s c : ℤ} (fk : SFits w64 k) (fb : SFits w64 b) (fl : SFits w64 l) (fn : SFits w64 n) (fs : SFits w64 s) (fc : SFits w64 c) where
  pub descriptor_given : descriptor_of (through k) (through b) (through l) (through n) (through s) (through c) ≡ descriptor_of k b l n s c
  descriptor_given = rw (to_z-of_z w64 k fk, to_z-of_z w64 b fb, to_z-of_z w64 l fl, to_z-of_z w64 n fn, to_z-of_z w64 s fs, to_z-of_z w64 c fc) refl

module _ {a b c d : ℤ} (fa : SFits w64 a) (fb : SFits w64 b) (fc : SFits w64 c) (fd : SFits w64 d) where
  pub window_given : window_of (through a) (through b) (through c) (through d) ≡ window_of a b c d
  window_given = rw (to_z-of_z w64 a fa, to_z-of_z w64 b fb, to_z-of_z w64 c fc, to_z-of_z w64 d fd) refl

-- what a test said of numbers that went through 64 bits it says of them
pub placed : (n i j : ℤ) → SFits w64 n → SFits w64 i → SFits w64 j → {b t : Bool} → b ≡ (bad_place (through n) (through i) (through j)).given → b ≡ t → (bad_place n i j).given ≡ t
placed n i j f g h {b} {t} e k = sym (rw (to_z-of_z w64 n f, to_z-of_z w64 i g, to_z-of_z w64 j h) at e) ∙ k

pub extent_through : (n : ℤ) → SFits w64 n → {b t : Bool} → b ≡ (bad_extent (through n)).given → b ≡ t → (bad_extent n).given ≡ t
extent_through n f {b} {t} e k = sym (rw (to_z-of_z w64 n f) at e) ∙ k

-- what C gets of an answer or a refusal
abbrev pub to_c : Result ℤ Refusal → ℤ
to_c (Ok z) = z
to_c (Err r) = refused_to_c (answer_of r)

-- ---- a cell
abbrev pub cell_answer : ℤ → Descriptor → ℤ → ℤ → ℤ
cell_answer len d i j = judged (cell_order len d i j) refused_to_c (cell_of d (to_nat i) (to_nat j))

pub host_cell_is : (len base n segment coordinate i j : ℤ) → host_cell len base n segment coordinate i j ≡ cell_answer len (addressing base n segment coordinate) i j
unfolding host_cell
host_cell_is len base n segment coordinate i j = refl

module _ (len : ℤ) (d : Descriptor) (i j : ℤ) where
  -- here 12 has no place
  pub cell_refused : {x : Answer} → first_given (bad_extent d.extent ∷ bad_strides d ∷ bad_cells len d ∷ []) ≡ Some x → refused_to_c x ≡ cell_answer len d i j
  cell_refused e = first_decides (bad_place d.extent i j ∷ []) refused_to_c (cell_of d (to_nat i) (to_nat j)) (bad_extent d.extent ∷ bad_strides d ∷ bad_cells len d ∷ []) e

  module _ (h : Held len d) where
    pub cell_11 : (bad_place d.extent i j).given ≡ true → refused_to_c (answer_of Refusal.Nowhere) ≡ cell_answer len d i j
    cell_11 p = rw (h.extent, h.strides, h.cells, p) refl

    pub cell_0 : {r : ℤ} → (bad_place d.extent i j).given ≡ false → r ≡ cell_of d (to_nat i) (to_nat j) → r ≡ cell_answer len d i j
    cell_0 p e = rw (h.extent, h.strides, h.cells, p) e

-- a position and a coordinate that 11 does not refuse
pub place_of : (n i j : ℤ) → (bad_place n i j).given ≡ false → ((pos 0 ≤ℤ i) × (to_nat i < to_nat n)) × ((pos 0 ≤ℤ j) × (to_nat j < 4))
place_of n i j h =
    let p = or_false (lt_z i (pos 0) || le_z n i) (not (within (pos 0) (pos 3) j)) h in
    let q = or_false (lt_z i (pos 0)) (le_z n i) p.0 in
    let r = within_true (pos 0) (pos 3) j (not-false (within (pos 0) (pos 3) j) p.1) in
    (row i n (lt_z_false q.0) (le_z_false q.1), column j r.0 r.1)
  where
    row : (i n : ℤ) → pos 0 ≤ℤ i → i <ℤ n → (pos 0 ≤ℤ i) × (to_nat i < to_nat n)
    row (pos i) (pos n) s h = (s, omega whole)
    row (pos i) (negsuc n) s h = absurd h.lt
    row (negsuc i) n s h = absurd s.le

    column : (j : ℤ) → pos 0 ≤ℤ j → j ≤ℤ pos 3 → (pos 0 ≤ℤ j) × (to_nat j < 4)
    column (pos j) s h = (s, omega whole)
    column (negsuc j) s h = absurd s.le

-- ---- W(n)
pub words_3 : (n : ℤ) {r : ℤ} → (bad_extent n).given ≡ true → r ≡ negsuc 2 → r ≡ host_words n
unfolding host_words
words_3 n a e = rw a e

pub words_0 : (n : ℤ) {r : ℤ} → (bad_extent n).given ≡ false → r ≡ pos (W (to_nat n)) → r ≡ host_words n
unfolding host_words
words_0 n a e = rw a e

-- ---- whether a segment meets a window
one_answer : (s : Segment) → bad_coordinate (s ∷ []) ≡ answer_at 5 (cond (far_off s) (0 ∷ []) [])
unfolding positions filter
one_answer s = refl

one_far : (s : Segment) → far_off s ≡ true → bad_coordinate (s ∷ []) ≡ record { number = 5; given = true; count = 0; position = 0 }
one_far s e = one_answer s ∙ ap (λ b. answer_at 5 (cond b (0 ∷ []) [])) e

one_near : (s : Segment) → far_off s ≡ false → bad_coordinate (s ∷ []) ≡ answer 5 false
one_near s e = one_answer s ∙ ap (λ b. answer_at 5 (cond b (0 ∷ []) [])) e

pub one_or_none : (b : Bool) → pos (from_bool b) ≡ cond b (pos 1) (pos 0)
one_or_none true = refl
one_or_none false = refl

abbrev last : Segment → Window → ℤ
last s w = cond (tested w s) (pos 1) (pos 0)

module _ (s : Segment) (w : Window) {r : ℤ} where
  by : r ≡ host_meet (tested w) s w → HostMeet s w r
  by e = record { meets = tested w; decides = decided w; result = e }

  -- where the window is good the segment's coordinates decide, then the test
  onward : (bad_window w).given ≡ false → r ≡ judged (bad_coordinate (s ∷ []) ∷ []) refused_to_c (last s w) → HostMeet s w r
  unfolding host_meet
  onward a e = by (e ∙ ap (λ g. cond g (negsuc 7) (judged (bad_coordinate (s ∷ []) ∷ []) refused_to_c (last s w))) (sym a))

  pub meet_8 : {x : Answer} → first_given (bad_window w ∷ []) ≡ Some x → r ≡ refused_to_c x → HostMeet s w r
  unfolding host_meet
  meet_8 a e = by (e ∙ first_decides (bad_coordinate (s ∷ []) ∷ []) refused_to_c (last s w) (bad_window w ∷ []) a)

  pub meet_5 : (bad_window w).given ≡ false → far_off s ≡ true → r ≡ negsuc 4 → HostMeet s w r
  meet_5 a b e = onward a (e ∙ ap (λ x. judged (x ∷ []) refused_to_c (last s w)) (sym (one_far s b)))

  pub meet_0 : (bad_window w).given ≡ false → far_off s ≡ false → {b : Bool} → b ≡ weighed w s → r ≡ cond b (pos 1) (pos 0) → HostMeet s w r
  meet_0 a f g e =
      onward a (e ∙ ap (λ (t : Bool). cond t (pos 1) (pos 0)) (g ∙ sym (tested_is w a s)) ∙ ap (λ x. judged (x ∷ []) refused_to_c (last s w)) (sym (one_near s f)))
