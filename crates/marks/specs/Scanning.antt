-- What the public scan gives along its order 1, 2, 3, 4, 12, 8, 5, 7, and demand 2 as what it promises where it is done.
use Rattle.std.specs.Prelude.{◌≡◌, refl, Bool, false, List, [], ◌∷◌, ℕ, ◌≤◌, ◌<◌, ℤ, pos, length, drop, None}
use Rattle.std.proofs.Math.Path.{sym}
use Rattle.std.proofs.Common.{ap, ◌∙◌, arith, take_at}
use Rattle.std.proofs.lemmas.List.{length-map}
use Rattle.lists.specs.Every.{All}
use Rattle.lists.specs.Tests.{clash}
use Rattle.lists.specs.Choosing.{none_chosen}
use Rattle.paper.specs.Descriptor.{first_number, number_of, size_of, segment_of, segments_of}
use Rattle.paper.specs.Answers.{Answer, answer_at, bad_window, bad_room, bad_coordinate, far_off, positions_of, done}
use Rattle.paper.specs.Orders.{scan_order}
use Rattle.paper.specs.Results.{Result, over, numbers_of, scanned, Scanned}
use Rattle.paper.specs.Demands.{listed_by, ScanPromise}
use Rattle.paper.specs.declared.Descriptor.{Descriptor}
use Rattle.paper.specs.declared.Segment.{Segment}
use Rattle.paper.specs.declared.Window.{Window}
use Rattle.meeting.specs.Determined.{tested, decided}
use Rattle.scan.specs.Listing.{Ready, met_positions, all_chosen, length_chosen}
use Rattle.scan.specs.Promise.{lists_numbers, ascending}
use Rattle.promise.specs.Calls.{table_numbered, far_numbered}
use Rattle.refusals.specs.Orders.{zero_done, first_given, table_order, table_pass, none_first}
use Rattle.table.specs.Segments.{chosen_are}

-- ---- demand 2, of any scan that `paper` allows
module _ (table : List ℤ) (d : Descriptor) (w : Window) (numbers : List ℤ) where
  -- the reply and the cells of a scan by a test that is done
  abbrev pub listing : (Segment → Bool) → Result
  listing meets =
      let ps = positions_of meets (segments_of d table) in
      (done (length ps) 0, over (numbers_of (first_number d.kind d.lower) ps) numbers)

  listing_shows : (meets : Segment → Bool) → listed_by (listing meets) ≡ numbers_of (first_number d.kind d.lower) (positions_of meets (segments_of d table))
  listing_shows meets =
      let ps = positions_of meets (segments_of d table) in
      let first = first_number d.kind d.lower in
      take_at (numbers_of first ps) (drop (length (numbers_of first ps)) numbers) (length ps) (length-map ps (number_of first))

  all_numbered : (meets : Segment → Bool) → All (λ x. 1 ≤ x.number) (scan_order meets table d w numbers)
  all_numbered meets =
      table_numbered (pos (length table)) d
      (All.also {x = bad_window w} (omega arith)
      (All.also {x = bad_coordinate (segments_of d table)} (far_numbered (segments_of d table))
      (All.also {x = bad_room (length (positions_of meets (segments_of d table))) (length numbers)} (omega arith) All.none)))

  pub scan_promise : (r : Result) → Scanned table d w numbers r → r.0.number ≡ pos 0 → ScanPromise table d w r
  unfolding scanned
  scan_promise r s e =
      let first = first_number d.kind d.lower in
      let q : r ≡ listing s.meets = s.result ∙ zero_done numbers (listing s.meets) (all_numbered s.meets) (ap (λ (x : Result). x.0.number) (sym s.result) ∙ e) in
      let shown : numbers_of first (positions_of s.meets (segments_of d table)) ≡ listed_by r = sym (ap listed_by q ∙ listing_shows s.meets) in
      record {
        lists = rw shown at (lists_numbers first (segments_of d table) w s.meets s.decides);
        ascending = rw shown at (ascending first (segments_of d table) s.meets);
      }

  -- ---- the ways out, by the tests along the order; each gives the promise too
  abbrev pub GivenScan : Result → Type 0
  GivenScan r = Scanned table d w numbers r × (r.0.number ≡ pos 0 → ScanPromise table d w r)

  pub gives : {r : Result} → r ≡ scanned (tested w) table d w numbers → GivenScan r
  gives {r} e = let s : Scanned table d w numbers r = record { meets = tested w; decides = decided w; result = e } in (s, scan_promise r s)

  abbrev pub last : (Segment → Bool) → List Answer
  last meets = bad_room (length (positions_of meets (segments_of d table))) (length numbers) ∷ []

  abbrev pub limits : (Segment → Bool) → List Answer
  limits meets = bad_coordinate (segments_of d table) ∷ last meets

  abbrev pub after : (Segment → Bool) → List Answer
  after meets = bad_window w ∷ limits meets

-- where answer 5 is not given no segment has a coordinate beyond its limits
pub all_near : (table : List ℤ) (d : Descriptor) → (bad_coordinate (segments_of d table)).given ≡ false → (p : ℕ) → p < size_of d → far_off (segment_of d table p) ≡ false
all_near table d e p h = none_chosen (λ p. far_off (segment_of d table p)) (size_of d) p (sym (chosen_are d table far_off) ∙ empty (positions_of far_off (segments_of d table)) e) h
  where
    empty : (ps : List ℕ) → (answer_at 5 ps).given ≡ false → ps ≡ []
    empty [] e = refl
    empty (q ∷ ps) e = clash e

-- no more are met than there are
pub met_few : (table : List ℤ) (d : Descriptor) (w : Window) → length (met_positions table d w) ≤ size_of d
met_few table d w = omega (arith, ap (λ (l : List ℕ). length l) (all_chosen table d w), length_chosen table d w (size_of d))

-- what the listing asks, from the tests along the order
pub ready : (table : List ℤ) (d : Descriptor) → first_given (table_order table d) ≡ None → first_given (bad_coordinate (segments_of d table) ∷ []) ≡ None → Ready table d
ready table d t n =
    record { lower = (table_pass table d t).lower; near = all_near table d (none_first (bad_coordinate (segments_of d table)) n) }
