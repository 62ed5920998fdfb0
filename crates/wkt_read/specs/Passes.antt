-- What a pass over a text keeps true: it is judged, and where cells are filled its numbers are written into them.
use Rattle.std.specs.Prelude.{◌≡◌, refl, true, false, List, [], ◌∷◌, ◌++◌, map, Result, Ok, Err, ℕ, suc, ◌+◌, ◌≤◌, ◌<◌, ℤ, length, take, drop, get_or, set}
use Rattle.std.proofs.Common.{sym, ap, ap₂, ◌∙◌, arith, add-one, length-append, take-append-drop, take-suc, take_all}
use Rattle.std.proofs.Math.Path.{subst}
use Rattle.std.proofs.lemmas.List.{map-append, length-map}
use Rattle.std.proofs.Math.ListN.{length-take}
use Rattle.lists.specs.Tests.{clash}
use Rattle.lists.specs.Filling.{filled_all, filled_length, filled_more}
use Rattle.paper.specs.Results.{over}
use Rattle.paper.specs.Wkt.{Place}
use Rattle.wkt_read.specs.declared.automaton.State.{State}
use Rattle.wkt_read.specs.declared.automaton.State.TheVariants.{Start, Name, Named, Body, Empty, Line, Due, Signed, Number, After, More, End, Failed}
use Rattle.wkt_read.specs.declared.Reader.{Reader}
use Rattle.wkt_read.specs.declared.Tally.{Tally}
use Rattle.wkt_read.specs.Machine.{step_state, ended, failed, Reading, signed_value, step, run, start, run_append, run_snoc}
use Rattle.wkt_read.specs.Sound.{Bound, Shape, loose, signed, counted as inside, shape_run, shape_start}
use Rattle.wkt_read.specs.Decided.{state_step, failed_more, place_at}
use Rattle.wkt_read.specs.Tally.{shown, read_on, shown_step, ends_number, fitting_of, fitting_le, counted, tally_of, tally_step, ends_yes, ends_no, run_grows, clipped, clipped_signed}

-- what a judged text says: accepted with the tally of its numbers, or refused at a place
abbrev pub IsJudged : List ℕ → Result Tally ℕ → Type 0
IsJudged text (Ok t) = (ended (run start text).state ≡ true) × (t ≡ tally_of (run start text).numbers)
IsJudged text (Err place) = (ended (run start text).state ≡ false) × Place text place

-- ---- one byte more
abbrev pub up_to : List ℕ → ℕ → Reading
up_to text i = run start (take i text)

next : (text : List ℕ) (i : ℕ) → i < length text → up_to text (i + 1) ≡ step (up_to text i) (get_or text i 0)
next text i h = ap (λ k. run start (take k text)) (add-one i) ∙ ap (run start) (take-suc text i 0 h) ∙ run_snoc start (take i text) (get_or text i 0)

shape_bound : {r : Reading} → Shape r → Bound r.state
shape_bound (loose s ns h) = h
shape_bound (signed c n ns) = tt
shape_bound (inside c n v ns) = tt

shown_state : (r : Reading) (b : ℕ) → (read_on (shown r) b).state ≡ step_state r.state b
shown_state r b = ap (λ (h : Reader). h.state) (sym (shown_step r b)) ∙ state_step r b

-- what `read_on` asks
pub reader_bound : (text : List ℕ) (i : ℕ) {h : Reader} → h ≡ shown (up_to text i) → Bound h.state × (h.value ≤ 536870913)
reader_bound text i e =
    let s = shape_bound (shape_run (take i text) shape_start) in
    subst (λ (x : Reader). Bound x.state × (x.value ≤ 536870913)) (sym e) (s, omega arith)

-- the reader and the tally before the first byte
pub reader_start : {h : Reader} → (h.state ≡ Start) × ((h.negative ≡ false) × (h.value ≡ 0)) → h ≡ shown start
reader_start e = λ k. record { state = e.0 k; negative = e.1.0 k; value = e.1.1 k }

pub tally_start : {t : Tally} → (t.numbers ≡ 0) × (t.fitting ≡ 0) → t ≡ tally_of []
unfolding fitting_of
tally_start e = λ k. record { numbers = e.0 k; fitting = e.1 k }

-- ---- judging
failed_unended : (s : State) → failed s ≡ true → ended s ≡ false
failed_unended Start e = refl
failed_unended (Name k) e = refl
failed_unended Named e = refl
failed_unended Body e = refl
failed_unended (Empty k) e = refl
failed_unended Line e = refl
failed_unended (Due c) e = refl
failed_unended (Signed c) e = refl
failed_unended (Number c) e = refl
failed_unended (After c) e = refl
failed_unended More e = refl
failed_unended End e = clash (sym e)
failed_unended Failed e = refl

pub record Judging (text : List ℕ) (h : Reader) (t : Tally) (i : ℕ) : Type 0 where
  pub within : i ≤ length text
  pub reader : h ≡ shown (up_to text i)
  pub tally : t ≡ tally_of (up_to text i).numbers
  pub alive : failed (up_to text i).state ≡ false

pub judging_start : (text : List ℕ) {h : Reader} {t : Tally} → h ≡ shown start → t ≡ tally_of [] → Judging text h t 0
unfolding run
judging_start text e f = record { within = omega arith; reader = e; tally = f; alive = refl }

module _ {text : List ℕ} {h : Reader} {t : Tally} {i : ℕ} (j : Judging text h t i) where
  -- what `counted` asks
  pub tally_bound : (t.fitting ≤ t.numbers) × (t.numbers ≤ i)
  unfolding run
  tally_bound =
      let ns = (up_to text i).numbers in
      subst (λ (x : Tally). (x.fitting ≤ x.numbers) × (x.numbers ≤ i)) (sym j.tally)
      (fitting_le ns, omega (arith, (run_grows (take i text) start).1, length-take i text))

  module _ (l : i < length text) {b : ℕ} (e : b ≡ get_or text i 0) {n : Reader} (r : n ≡ read_on h b) where
    reads : n ≡ shown (up_to text (i + 1))
    reads = r ∙ ap₂ (λ x y. read_on x y) j.reader e ∙ sym (shown_step (up_to text i) (get_or text i 0)) ∙ ap shown (sym (next text i l))

    goes : n.state ≡ step_state (up_to text i).state (get_or text i 0)
    goes = ap (λ (x : Reader). x.state) (r ∙ ap₂ (λ x y. read_on x y) j.reader e) ∙ shown_state (up_to text i) (get_or text i 0)

    pub judging_step : failed n.state ≡ false → {t' : Tally} → t' ≡ counted t h n.state → Judging text n t' (i + 1)
    judging_step f q = record {
      within = omega arith;
      reader = reads;
      tally = q ∙ (λ k. counted (j.tally k) (j.reader k) (goes k)) ∙ sym (tally_step (up_to text i) (get_or text i 0)) ∙ ap (λ x. tally_of x.numbers) (sym (next text i l));
      alive = ap (λ (x : Reader). failed x.state) (sym reads) ∙ f;
    }

    pub judged_failed : failed n.state ≡ true → IsJudged text (Err i)
    judged_failed f =
        let dead : failed (run start (take (suc i) text)).state ≡ true = ap (λ k. failed (run start (take k text)).state) (sym (add-one i)) ∙ ap (λ (x : Reader). failed x.state) (sym reads) ∙ f in
        let whole : failed (run start text).state ≡ true = ap (λ x. failed (run start x).state) (sym (take-append-drop (suc i) text)) ∙ failed_more (take (suc i) text) (drop (suc i) text) dead in
        let unended : ended (run start text).state ≡ false = failed_unended (run start text).state whole in
        (unended, place_at text i (omega arith) j.alive (λ q. dead) unended)

  module _ (l : length text ≤ i) where
    ended_is : ended h.state ≡ ended (run start text).state
    ended_is = ap (λ (x : Reader). ended x.state) j.reader ∙ ap (λ x. ended (run start x).state) (take_all i text l)

    pub judged_ended : ended h.state ≡ true → IsJudged text (Ok t)
    judged_ended e = (sym ended_is ∙ e, j.tally ∙ ap (λ x. tally_of (run start x).numbers) (take_all i text l))

    pub judged_short : ended h.state ≡ false → IsJudged text (Err (length text))
    judged_short e =
        let i_is : i ≡ length text = omega (arith, j.within) in
        let unended = sym ended_is ∙ e in
        (unended, place_at text (length text) (omega arith) (ap (λ k. failed (run start (take k text)).state) (sym i_is) ∙ j.alive) (λ q. absurd (omega arith)) unended)

-- ---- filling

over_length : (xs cells : List ℤ) → length xs ≤ length cells → length (over xs cells) ≡ length cells
over_length xs cells h = ap length (sym (filled_all xs cells h)) ∙ filled_length xs cells

over_step : (xs cells : List ℤ) (z : ℤ) → length xs < length cells → set (over xs cells) (length xs) z ≡ over (xs ++ (z ∷ [])) cells
over_step xs cells z h =
    ap (λ l. set l (length xs) z) (sym (filled_all xs cells (omega arith)))
    ∙ filled_more xs z cells
    ∙ filled_all (xs ++ (z ∷ [])) cells (omega (arith, length-append xs (z ∷ [])))

pub record Filling (text : List ℕ) (before : List ℤ) (h : Reader) (k i : ℕ) (cells : List ℤ) : Type 0 where
  pub within : i ≤ length text
  pub reader : h ≡ shown (up_to text i)
  pub count : k ≡ length (up_to text i).numbers
  pub wrote : cells ≡ over (map clipped (up_to text i).numbers) before

pub filling_start : (text : List ℕ) (before : List ℤ) {h : Reader} → h ≡ shown start → Filling text before h 0 0 before
unfolding run
filling_start text before e = record { within = omega arith; reader = e; count = refl; wrote = refl }

module _ {text : List ℕ} {before : List ℤ} {h : Reader} {k i : ℕ} {cells : List ℤ} (room : length (run start text).numbers ≤ length before) (f : Filling text before h k i cells) where
  few : (m : ℕ) → length (up_to text m).numbers ≤ length before
  few m =
      let g = (run_grows (drop m text) (up_to text m)).0 in
      let e = ap (λ x. length (run start x).numbers) (sym (take-append-drop m text)) ∙ ap (λ x. length x.numbers) (run_append start (take m text) (drop m text)) in
      omega (arith, g, e, room)

  pub filling_length : length cells ≡ length before
  filling_length = ap length f.wrote ∙ over_length (map clipped (up_to text i).numbers) before (omega (arith, length-map (up_to text i).numbers clipped, few i))

  module _ (l : i < length text) {b : ℕ} (e : b ≡ get_or text i 0) {n : Reader} (r : n ≡ read_on h b) where
    reads' : n ≡ shown (up_to text (i + 1))
    reads' = r ∙ ap₂ (λ x y. read_on x y) f.reader e ∙ sym (shown_step (up_to text i) (get_or text i 0)) ∙ ap shown (sym (next text i l))

    goes' : n.state ≡ step_state (up_to text i).state (get_or text i 0)
    goes' = ap (λ (x : Reader). x.state) (r ∙ ap₂ (λ x y. read_on x y) f.reader e) ∙ shown_state (up_to text i) (get_or text i 0)

    ends : ends_number (shown (up_to text i)) (step_state (up_to text i).state (get_or text i 0)) ≡ ends_number h n.state
    ends = sym (λ p. ends_number (f.reader p) (goes' p))

    pub filling_skip : ends_number h n.state ≡ false → {k' : ℕ} → k' ≡ k → {after : List ℤ} → after ≡ cells → Filling text before n k' (i + 1) after
    filling_skip q p w =
        let same : (up_to text (i + 1)).numbers ≡ (up_to text i).numbers = ap (λ x. x.numbers) (next text i l) ∙ ends_no (up_to text i) (get_or text i 0) (ends ∙ q) in
        record { within = omega arith; reader = reads'; count = p ∙ f.count ∙ ap length (sym same); wrote = w ∙ f.wrote ∙ ap (λ x. over (map clipped x) before) (sym same) }

    module _ (q : ends_number h n.state ≡ true) where
      grew : (up_to text (i + 1)).numbers ≡ (up_to text i).numbers ++ (signed_value (up_to text i).negative (up_to text i).value ∷ [])
      grew = ap (λ x. x.numbers) (next text i l) ∙ ends_yes (up_to text i) (get_or text i 0) (ends ∙ q)

      longer : length (up_to text (i + 1)).numbers ≡ length (up_to text i).numbers + 1
      longer = ap length grew ∙ length-append (up_to text i).numbers (signed_value (up_to text i).negative (up_to text i).value ∷ [])

      pub filling_room : k < length cells
      filling_room = omega (arith, few (i + 1), longer, f.count, filling_length)

      pub filling_write : {k' : ℕ} → k' ≡ k + 1 → {after : List ℤ} {z : ℤ} → after ≡ set cells k z → z ≡ signed_value h.negative h.value → Filling text before n k' (i + 1) after
      filling_write p {z = z} w e' =
          let ns = (up_to text i).numbers in
          let y = signed_value (up_to text i).negative (up_to text i).value in
          let kk : k ≡ length (map clipped ns) = f.count ∙ sym (length-map ns clipped) in
          let zz : z ≡ clipped y = e' ∙ ap (λ (x : Reader). signed_value x.negative x.value) f.reader ∙ sym (clipped_signed (up_to text i).negative (up_to text i).value) in
          record {
            within = omega arith;
            reader = reads';
            count = omega (arith, p, f.count, longer);
            wrote = w
                ∙ (λ p. set (f.wrote p) (kk p) (zz p))
                ∙ over_step (map clipped ns) before (clipped y) (omega (arith, few (i + 1), longer, length-map ns clipped))
                ∙ ap (λ l. over l before) (sym (map-append clipped ns (y ∷ [])))
                ∙ ap (λ x. over (map clipped x) before) (sym grew);
          }

  pub filling_end : length text ≤ i → cells ≡ over (map clipped (run start text).numbers) before
  filling_end l = f.wrote ∙ ap (λ x. over (map clipped (run start x).numbers) before) (take_all i text l)
