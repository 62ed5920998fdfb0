-- The ways out of a scan, by the tests along the order (specs/Scanning): what each test's outcome says of the reply and the cells.
use Rattle.std.specs.Prelude.{◌≡◌, Bool, false, List, [], ◌∷◌, ℕ, ℤ, length, Some, None}
use Rattle.std.proofs.Math.Path.{sym}
use Rattle.std.proofs.Common.{ap, ap₂, ◌∙◌, arith, ltb-false}
use Rattle.std.proofs.lemmas.List.{length-map}
use Rattle.paper.specs.Descriptor.{first_number, number_of, segments_of}
use Rattle.paper.specs.Answers.{Answer, bad_window, bad_coordinate, bad_room, judged, refused, done}
use Rattle.paper.specs.Results.{Result, scanned}
use Rattle.paper.specs.declared.Descriptor.{Descriptor}
use Rattle.paper.specs.declared.Segment.{Segment}
use Rattle.paper.specs.declared.Window.{Window}
use Rattle.paper.specs.Corners.{weighed}
use Rattle.lists.specs.Filling.{filled, filled_all}
use Rattle.meeting.specs.Determined.{tested, tested_is}
use Rattle.scan.specs.Listing.{met_positions, met_numbers}
use Rattle.refusals.specs.Orders.{first_given, none_given, none_first, refuse, first_decides, others_decide, table_order, table_given, table_left, passes}
use Rattle.marks.specs.Scanning as scanning

module _ (table : List ℤ) (d : Descriptor) (w : Window) (numbers : List ℤ) where
  abbrev listing : (Segment → Bool) → Result
  listing = scanning.listing table d w numbers

  abbrev Given : Result → Type 0
  Given = scanning.GivenScan table d w numbers

  abbrev last : (Segment → Bool) → List Answer
  last = scanning.last table d w numbers

  abbrev limits : (Segment → Bool) → List Answer
  limits = scanning.limits table d w numbers

  abbrev after : (Segment → Bool) → List Answer
  after = scanning.after table d w numbers

  gives : {r : Result} → r ≡ scanned (tested w) table d w numbers → Given r
  gives = scanning.gives table d w numbers

  pub by_table : {x : Answer} → first_given (table_order table d) ≡ Some x → Given (refused x, numbers)
  unfolding scanned
  by_table e = gives (table_given table d (after (tested w)) numbers (listing (tested w)) e)

  module _ (p : first_given (table_order table d) ≡ None) where
    onward : {r : Result} → r ≡ judged (after (tested w)) (refuse numbers) (listing (tested w)) → Given r
    unfolding scanned
    onward e = gives (e ∙ table_left table d (after (tested w)) numbers (listing (tested w)) p)

    pub by_window : {x : Answer} → first_given (bad_window w ∷ []) ≡ Some x → Given (refused x, numbers)
    by_window e = onward (first_decides (limits (tested w)) (refuse numbers) (listing (tested w)) (bad_window w ∷ []) e)

    module _ (g : (bad_window w).given ≡ false) where
      -- where the window is good, the corner test decides as any does
      good : {r : Result} → r ≡ judged (limits (weighed w)) (refuse numbers) (listing (weighed w)) → Given r
      good e =
          onward (passes (bad_window w) (limits (tested w)) (refuse numbers) (listing (tested w)) g
          (e ∙ ap (λ (meets : Segment → Bool). judged (limits meets) (refuse numbers) (listing meets)) (λ i s. sym (tested_is w g s) i)))

      pub by_far : {x : Answer} → first_given (bad_coordinate (segments_of d table) ∷ []) ≡ Some x → Given (refused x, numbers)
      by_far e = good (first_decides (last (weighed w)) (refuse numbers) (listing (weighed w)) (bad_coordinate (segments_of d table) ∷ []) e)

      module _ (k : first_given (bad_coordinate (segments_of d table) ∷ []) ≡ None) where
        near : {r : Result} → r ≡ judged (last (weighed w)) (refuse numbers) (listing (weighed w)) → Given r
        near e = good (e ∙ others_decide (last (weighed w)) (refuse numbers) (listing (weighed w)) (none_given (bad_coordinate (segments_of d table) ∷ []) k))

        pub by_room : {x : Answer} → first_given (last (weighed w)) ≡ Some x → Given (refused x, numbers)
        by_room e = near (first_decides [] (refuse numbers) (listing (weighed w)) (last (weighed w)) e)

        pub by_listing : {k : ℕ} {cells : List ℤ} → first_given (last (weighed w)) ≡ None → k ≡ length (met_positions table d w) → cells ≡ filled (met_numbers table d w) numbers → Given (done k 0, cells)
        by_listing h e o =
            let size : length (met_numbers table d w) ≡ length (met_positions table d w) = length-map (met_positions table d w) (number_of (first_number d.kind d.lower)) in
            let fits = none_first (bad_room (length (met_positions table d w)) (length numbers)) h in
            near (ap₂ (λ x y. (done x 0, y)) e (o ∙ filled_all (met_numbers table d w) numbers (omega (arith, size, ltb-false (length numbers) (length (met_positions table d w)) fits)))
            ∙ others_decide [] (refuse numbers) (listing (weighed w)) (none_given (last (weighed w)) h))
