-- An S line: its faults in their order, and a segment written after those of the table.
use Rattle.std.specs.Prelude.{◌≡◌, refl, Bool, true, false, cond, ℕ, zero, suc, ◌+◌, ◌*◌, ◌≤◌, ◌<◌, leb, ℤ, pos, length, take, drop, get_or, set}
use Rattle.std.proofs.Common.{sym, ◌∙◌, arith, add-one, le-leb, length-set, length-take-le, get_or-append-add}
use Rattle.std.proofs.Math.Path.{ap, ap₂}
use mathlib.Core.List.{List, [], ◌∷◌, ◌++◌, map, map-append}
use Rattle.std.proofs.Math.Decide.{dec_lt}
use Rattle.std.proofs.lemmas.Bool.{lt-leb}
use Rattle.std.proofs.Math.ListN.{get_or-append}
use Rattle.lists.specs.Plain.{filter, positions, to_nat}
use Rattle.lists.specs.Parts.{put, put_step, put_nil, get_d_put_left}
use Rattle.table.specs.Segments.{length_segments}
use Rattle.paper.specs.Descriptor.{cell_of, segment_of, segments_of}
use Rattle.paper.specs.Answers.{answer, answer_at, positions_of, bad_coordinate, bad_slant, far_off, slanted, judged}
use Rattle.paper.specs.Lines.{Read, fault, next, filling, fault_of, most_in_program, read_segment}
use Rattle.paper.specs.declared.Segment.{Segment}
use Rattle.lines.specs.States.{cells_of, descriptor_of, first_of, segments_in, Fits, Added}
use Rattle.lines.specs.declared.Table.{Table}
use Rattle.std.specs.Prelude.{Ok, Err}
use Rattle.lines.specs.declared.Fault.TheVariants.{Size, Far, Slanted}

-- ---- four cells one after the other
pub put_four : (a : ℕ) (x y z w : ℤ) (cells : List ℤ) → a + 4 ≤ length cells → set (set (set (set cells a x) (a + 1) y) (a + 2) z) (a + 3) w ≡ put a (x ∷ y ∷ z ∷ w ∷ []) cells
put_four a x y z w cells h =
    let c₁ = set cells a x in
    let c₂ = set c₁ (a + 1) y in
    let c₃ = set c₂ (a + 2) z in
    let c₄ = set c₃ (a + 3) w in
    let l₁ = length-set cells a x in
    let l₂ = length-set c₁ (a + 1) y in
    let l₃ = length-set c₂ (a + 2) z in
    let e₁ : suc a ≡ a + 1 = omega arith in
    let e₂ : suc (a + 1) ≡ a + 2 = omega arith in
    let e₃ : suc (a + 2) ≡ a + 3 = omega arith in
    sym
    (put_step a x (y ∷ z ∷ w ∷ []) cells (omega arith)
    ∙ ap (λ k. put k (y ∷ z ∷ w ∷ []) c₁) e₁
    ∙ put_step (a + 1) y (z ∷ w ∷ []) c₁ (omega arith)
    ∙ ap (λ k. put k (z ∷ w ∷ []) c₂) e₂
    ∙ put_step (a + 2) z (w ∷ []) c₂ (omega arith)
    ∙ ap (λ k. put k (w ∷ []) c₃) e₃
    ∙ put_step (a + 3) w [] c₃ (omega arith)
    ∙ put_nil (suc (a + 3)) c₄)

put_at : (a j : ℕ) (v cells : List ℤ) → a ≤ length cells → j < length v → get_or (put a v cells) (a + j) (pos 0) ≡ get_or v j (pos 0)
unfolding put
put_at a j v cells h k =
    ap (λ n. get_or (take a cells ++ (v ++ drop (a + length v) cells)) (n + j) (pos 0)) (sym (length-take-le a cells h))
    ∙ get_or-append-add (take a cells) (v ++ drop (a + length v) cells) j (pos 0)
    ∙ get_or-append v (drop (a + length v) cells) (pos 0) j k

-- ---- the segments of a table that has one more
same_map : (f g : ℕ → Segment) (n : ℕ) → ((p : ℕ) → p < n → f p ≡ g p) → map f (positions n) ≡ map g (positions n)
unfolding positions
same_map f g zero h = refl
same_map f g (suc n) h =
    map-append f (positions n) (n ∷ [])
    ∙ ap₂ (λ l s. l ++ (s ∷ [])) (same_map f g n (λ p k. h p (omega arith))) (h n (omega arith))
    ∙ sym (map-append g (positions n) (n ∷ []))

module _ (t : Table) (s : Segment) (cells : List ℤ) where
  abbrev pub grown : Table
  grown = record { kind = t.kind; lower = t.lower; size = t.size + 1 }

  abbrev pub cells_after : List ℤ
  cells_after = put (4 * t.size) (cells_of s) cells

  module _ (room : 4 * t.size + 4 ≤ length cells) where
    cell_before : (p j : ℕ) → p < t.size → j < 4 → get_or cells_after (to_nat (cell_of (descriptor_of grown) p j)) (pos 0) ≡ get_or cells (to_nat (cell_of (descriptor_of t) p j)) (pos 0)
    cell_before p j h k = get_d_put_left (4 * t.size) (0 + p * 4 + j * 1) (pos 0) (cells_of s) cells (omega arith) (omega arith)

    before_same : (p : ℕ) → p < t.size → segment_of (descriptor_of grown) cells_after p ≡ segment_of (descriptor_of t) cells p
    before_same p h =
        rw (cell_before p 0 h (omega arith), cell_before p 1 h (omega arith), cell_before p 2 h (omega arith), cell_before p 3 h (omega arith)) refl

    cell_last : (j : ℕ) → j < 4 → get_or cells_after (to_nat (cell_of (descriptor_of grown) t.size j)) (pos 0) ≡ get_or (cells_of s) j (pos 0)
    cell_last j k =
        let e : 0 + t.size * 4 + j * 1 ≡ 4 * t.size + j = omega arith in
        ap (λ n. get_or cells_after n (pos 0)) e ∙ put_at (4 * t.size) j (cells_of s) cells (omega arith) k

    last_is : segment_of (descriptor_of grown) cells_after t.size ≡ s
    last_is = rw (cell_last 0 (omega arith), cell_last 1 (omega arith), cell_last 2 (omega arith), cell_last 3 (omega arith)) refl

    pub one_more : segments_in grown cells_after ≡ segments_in t cells ++ (s ∷ [])
    unfolding segments_of positions
    one_more =
        ap (λ n. map (segment_of (descriptor_of grown) cells_after) (positions n)) (add-one t.size)
        ∙ map-append (segment_of (descriptor_of grown) cells_after) (positions t.size) (t.size ∷ [])
        ∙ ap₂ (λ l x. l ++ (x ∷ [])) (same_map (segment_of (descriptor_of grown) cells_after) (segment_of (descriptor_of t) cells) t.size before_same) last_is

    module _ (q : Segment → Bool) (old : (p : ℕ) → p < t.size → q (segment_of (descriptor_of t) cells p) ≡ false) (new : q s ≡ false) where
      pub still : (p : ℕ) → p < t.size + 1 → q (segment_of (descriptor_of grown) cells_after p) ≡ false
      still p h = go (dec_lt p t.size)
        where
          go : Dec (p < t.size) → q (segment_of (descriptor_of grown) cells_after p) ≡ false
          go (yes k) = ap q (before_same p k) ∙ old p k
          go (no k) = let e : p ≡ t.size = omega arith in ap (λ i. q (segment_of (descriptor_of grown) cells_after i)) e ∙ ap q last_is ∙ new

-- ---- the faults of an S line, in their order
one_answer : (number : ℕ) (q : Segment → Bool) (s : Segment) → answer_at number (positions_of q (s ∷ [])) ≡ answer number (q s)
unfolding positions filter
one_answer number q s = go (q s)
  where
    go : (b : Bool) → answer_at number (cond b (0 ∷ []) []) ≡ answer number b
    go true = refl
    go false = refl

module _ (t : Table) (s : Segment) (cells : List ℤ) where
  -- the tests in their order, with a table's count of segments
  in_order : read_segment (first_of t) (segments_in t cells) s ≡ cond (leb most_in_program t.size) (fault 3) (cond (far_off s) (fault 5) (cond (slanted s) (fault 6) (next (filling (first_of t) (segments_in t cells ++ (s ∷ []))) [])))
  in_order =
      ap (λ n. judged (answer 3 (leb most_in_program n) ∷ bad_coordinate (s ∷ []) ∷ bad_slant (s ∷ []) ∷ []) fault_of good) (length_segments (descriptor_of t) cells)
      ∙ ap₂ (λ x y. judged (answer 3 (leb most_in_program t.size) ∷ x ∷ y ∷ []) fault_of good) (one_answer 5 far_off s) (one_answer 6 slanted s)
    where
      good : Read
      good = next (filling (first_of t) (segments_in t cells ++ (s ∷ []))) []

  pub S_many : 256 ≤ t.size → Added t s cells (Err Size) cells
  S_many h = record { reads = in_order ∙ rw (le-leb 256 t.size h) refl; kept = omega arith }

  module _ (few : t.size < 256) where
    pub S_far : far_off s ≡ true → Added t s cells (Err Far) cells
    S_far e = record { reads = in_order ∙ rw (lt-leb 256 t.size few, e) refl; kept = omega arith }

    pub S_slanted : far_off s ≡ false → slanted s ≡ true → Added t s cells (Err Slanted) cells
    S_slanted f e = record { reads = in_order ∙ rw (lt-leb 256 t.size few, f, e) refl; kept = omega arith }

    pub S_good : length cells ≡ 1024 → Fits t cells → far_off s ≡ false → slanted s ≡ false → Added t s cells (Ok (grown t s cells)) (cells_after t s cells)
    S_good l fit f e = record {
      reads = in_order ∙ rw (lt-leb 256 t.size few, f, e) refl ∙ ap (λ ss. next (filling (first_of t) ss) []) (sym (one_more t s cells (omega arith)));
      kept = record {
        kind = fit.kind;
        lower = fit.lower;
        size = omega arith;
        near = still t s cells (omega arith) far_off fit.near f;
        straight = still t s cells (omega arith) slanted fit.straight e;
      };
    }
