-- What `read` gives along its order 13, 3, 5, 7, by the tests on the way.
use Rattle.std.specs.Prelude.{◌≡◌, refl, Bool, true, false, List, [], ◌∷◌, map, ℕ, ◌*◌, ◌/◌, ◌≤◌, ◌<◌, ℤ, pos, length, Ok, Err}
use Rattle.std.proofs.Common.{sym, ap, ap₂, ◌∙◌, subst, arith, lt-ltb, le-ltb}
use Rattle.lists.specs.Tests.{holds}
use Rattle.lists.specs.Choosing.{First, filter_first, chosen_none}
use Rattle.paper.specs.Descriptor.{at}
use Rattle.paper.specs.Answers.{Answer, answer_at, bad_extent, bad_coordinate, bad_buffer, far_off, judged, refused, done}
use Rattle.paper.specs.Results.{Result, over}
use Rattle.paper.specs.Wkt.{coordinates_of, reader_order, Read, refuses as read-refuses, accepts}
use Rattle.paper.specs.declared.Segment.{Segment}
use Rattle.refusals.specs.Orders.{answer_of, refuses, passes}
use Rattle.refusals.specs.declared.Refusal.{Refusal}
use Rattle.wkt_read.specs.declared.Tally.{Tally}
use Rattle.wkt_read.specs.Machine.{ended, run, start}
use Rattle.wkt_read.specs.Sound.{AcceptedRun, run_accepted}
use Rattle.wkt_read.specs.Tally.{fitting_of, fitting_le, tally_of, clipped, clipped_all}
use Rattle.wkt_read.specs.Passes.{IsJudged}
use Rattle.wkt_read.specs.Far.{coordinates_length, far_first}

module _ (text : List ℕ) (cells : List ℤ) where
  pub by_text : (place : ℕ) → IsJudged text (Err place) → Read text cells (refused (answer_of (Refusal.Text place)), cells)
  by_text place s = read-refuses place s.1

  -- an accepted text: its segments, and what was counted
  module _ (t : Tally) (s : IsJudged text (Ok t)) where
    run_of : AcceptedRun text
    run_of = run_accepted text (holds s.0)

    abbrev segments : List Segment
    segments = run_of.segments

    counts : t ≡ tally_of (coordinates_of segments)
    counts = s.1 ∙ ap tally_of run_of.numbers

    numbers_are : t.numbers ≡ 4 * length segments
    numbers_are = ap (λ t. t.numbers) counts ∙ coordinates_length segments

    fitting_is : t.fitting ≡ fitting_of (coordinates_of segments)
    fitting_is = ap (λ t. t.fitting) counts

    -- what `fill` asks
    pub fill_room : t.numbers ≤ length cells → (ended (run start text).state ≡ true) × (length (run start text).numbers ≤ length cells)
    fill_room h = (s.0, omega (arith, h, ap (λ t. t.numbers) s.1))

    -- how many lines
    lines_are : t.numbers / 4 ≡ length segments
    lines_are = omega (arith, numbers_are)

    first : First (λ p. far_off (at segments p)) (length segments) (t.fitting / 4)
    first = subst (λ f. First (λ p. far_off (at segments p)) (length segments) (f / 4)) (sym fitting_is) (far_first segments)

    abbrev refuse : Answer → Result
    refuse x = (refused x, cells)

    abbrev filled : Result
    filled = (done (length segments) 0, over (coordinates_of segments) cells)

    abbrev room : List Answer
    room = bad_buffer (4 * length segments) (length cells) ∷ []

    abbrev near : List Answer
    near = bad_coordinate segments ∷ room

    gives : {r : Result} → r ≡ judged (reader_order segments cells) refuse filled → Read text cells r
    gives q = subst (Read text cells) (sym q) (accepts segments run_of.accepted)

    extent_at : {b : Bool} → (bad_extent (pos (t.numbers / 4))).given ≡ b → (bad_extent (pos (length segments))).given ≡ b
    extent_at q = ap (λ n. (bad_extent (pos n)).given) (sym lines_are) ∙ q

    pub by_extent : (bad_extent (pos (t.numbers / 4))).given ≡ true → Read text cells (refused (answer_of Refusal.Extent), cells)
    by_extent q = gives (refuses (bad_extent (pos (length segments))) near refuse filled (extent_at q) refl)

    module _ (x : (bad_extent (pos (t.numbers / 4))).given ≡ false) where
      onward : {r : Result} → r ≡ judged near refuse filled → Read text cells r
      onward q = gives (passes (bad_extent (pos (length segments))) near refuse filled (extent_at x) q)

      pub by_far : t.fitting < t.numbers → Read text cells (refused (answer_of (Refusal.Far (t.fitting / 4))), cells)
      by_far l =
          let below : t.fitting / 4 < length segments = omega (arith, numbers_are) in
          let k : bad_coordinate segments ≡ answer_of (Refusal.Far (t.fitting / 4)) =
          ap (answer_at 5) (filter_first (λ p. far_off (at segments p)) (length segments) (t.fitting / 4) below first.before (first.here below)).1 in
          onward (refuses (bad_coordinate segments) room refuse filled (ap (λ y. y.given) k) (ap refuse (sym k)))

      module _ (l : t.numbers ≤ t.fitting) where
        all_fit : fitting_of (coordinates_of segments) ≡ length (coordinates_of segments)
        all_fit = omega (arith, fitting_is, numbers_are, coordinates_length segments, fitting_le (coordinates_of segments))

        none_far : (bad_coordinate segments).given ≡ false
        none_far =
            ap (λ ps. (answer_at 5 ps).given)
            (chosen_none (λ p. far_off (at segments p)) (length segments) (λ p h. first.before p (omega (arith, numbers_are))))

        pub by_room : length cells < t.numbers → Read text cells (refused (answer_of (Refusal.Room 0)), cells)
        by_room q =
            onward (passes (bad_coordinate segments) room refuse filled none_far
            (refuses (bad_buffer (4 * length segments) (length cells)) [] refuse filled (lt-ltb (length cells) (4 * length segments) (omega (arith, numbers_are))) refl))

        pub by_fill : {after : List ℤ} → t.numbers ≤ length cells → after ≡ over (map clipped (run start text).numbers) cells → Read text cells (done (t.numbers / 4) 0, after)
        by_fill q w =
            onward (passes (bad_coordinate segments) room refuse filled none_far
            (passes (bad_buffer (4 * length segments) (length cells)) [] refuse filled (le-ltb (length cells) (4 * length segments) (omega (arith, numbers_are)))
            (ap₂ (λ y z. (y, z)) (ap (λ n. done n 0) lines_are)
            (w ∙ ap (λ z. over (map clipped z) cells) run_of.numbers ∙ ap (λ z. over z cells) (clipped_all (coordinates_of segments) all_fit)))))
