-- The whole walk over placed words, to its end: no more than n are due, and its visits are bounded (specs/Whole has its parts).
use Rattle.std.specs.Prelude.{◌≡◌, Bool, true, ◌&&◌, ℕ, ◌+◌, ◌-◌, ◌*◌, ◌≤◌, length, ℤ}
use Rattle.std.proofs.Math.Path.{refl, ap₂}
use Rattle.std.proofs.Common.{ap, ◌∙◌, zero-add, arith}
use mathlib.Core.List.{List, [], ◌∷◌, ◌++◌}
use Rattle.lists.specs.Plain.{to_nat, positions, count}
use Rattle.lists.specs.Counting.{count_le}
use Rattle.lists.specs.Positions.{positions_length}
use Rattle.lists.specs.Digits.{digits_mono}
use Rattle.paper.specs.Descriptor.{at}
use Rattle.paper.specs.Words.{blocks_at, horizontals, verticals, horizontal, vertical}
use Rattle.paper.specs.Walk.{Event, word, walk, walked, run, walk_of}
use Rattle.paper.specs.Demands.{most_visits, low_end_inside}
use Rattle.paper.specs.declared.Segment.{Segment}
use Rattle.paper.specs.declared.Window.{Window}
use Rattle.promise.specs.Events.{is_due, is_visit, visits_of, dues_of, dues_length, run_ends}
use Rattle.promise.specs.LowEnds.{low_lists, low_visits, low_then}
use Rattle.promise.specs.Groups.{Rises, is_across, is_along, in_group, one_group}
use Rattle.promise.specs.Whole.{Placed, across_lists, along_lists, flat_at, inside_events, listed, listed_is, part_visits, part_walk, some_walk, steep_at, tally, tidy_across, tidy_along, walk_by, walk_by_is, whole, whole_clean}

module _ (rs : List Segment) (w : Window) (rise : (p : ℕ) → Rises (at rs p)) where
  abbrev n : ℕ
  n = length rs

  abbrev hs : List ℕ
  hs = horizontals rs

  abbrev vs : List ℕ
  vs = verticals rs

  group_sum : (l : List ℕ) → count (λ x. low_end_inside w (at rs x)) l + (count (λ x. is_across w (at rs x)) l + count (λ x. is_along w (at rs x)) l) ≡ count (λ x. in_group w (at rs x)) l
  unfolding count
  group_sum [] = refl
  group_sum (x ∷ l) = omega (arith, group_sum l, one_group w (at rs x))

  module _ (some : 1 ≤ n) where
    pub inside_lists : (q : ℕ → Bool) → count (is_due q) (inside_events rs w rise) ≡ count (λ x. q x && low_end_inside w (at rs x)) (positions n)
    inside_lists q = low_lists rs w some q

    -- no more than n are due, so the walk never stops for want of room
    at_most : dues_of (whole rs w rise) ≤ n
    at_most =
        omega (
          arith,
          (tally rs w rise) (is_due (λ x. true)),
          inside_lists (λ x. true),
          (across_lists rs w rise) (λ x. true),
          (along_lists rs w rise) (λ x. true),
          group_sum (positions n),
          count_le (λ x. in_group w (at rs x)) (positions n),
          positions_length n,
        )

    pub whole_few : length (listed rs w rise) ≤ n
    whole_few = omega (arith, at_most, ap (λ (l : List ℕ). length l) (listed_is rs w rise), dues_length (whole rs w rise))

    pub whole_visits : visits_of (whole rs w rise) ≤ most_visits n (length (listed rs w rise))
    whole_visits =
        omega (
          arith,
          (tally rs w rise) is_visit,
          (tally rs w rise) (is_due (λ x. true)),
          ap (λ (l : List ℕ). length l) (listed_is rs w rise),
          dues_length (whole rs w rise),
          low_visits rs w some,
          digits_mono (n - 1) n (omega arith),
          (part_visits rs w rise) horizontal (tidy_across rs w rise) (flat_at rs w rise) w.a w.c w.d (blocks_at n),
          (part_visits rs w rise) vertical (tidy_along rs w rise) (steep_at rs w rise) w.c w.a w.b (blocks_at n + 8 * length hs),
        )

    -- ---- the walk over placed words is this one
    module _ (ws : List ℤ) (placed : Placed rs ws) where
      walk_is : walk ws w ≡ (whole rs w rise)
      walk_is =
          let across = (part_walk rs w rise) horizontal (tidy_across rs w rise) (flat_at rs w rise) w.a w.c w.d (blocks_at n) ws placed.reads placed.across_block in
          let along = (part_walk rs w rise) vertical (tidy_along rs w rise) (steep_at rs w rise) w.c w.a w.b (blocks_at n + 8 * length hs) ws placed.reads placed.along_block in
          walk_by_is ws w
          ∙ ap (λ (k : ℕ). walk_by ws w k (to_nat (word ws 2)) (to_nat (word ws 3))) placed.size
          ∙ ap₂ (λ (h v : ℕ). walk_by ws w n h v) placed.acrosses placed.alongs
          ∙ some_walk n _ some
          ∙ low_then rs w some ws placed.reads placed.levels _
          ∙ ap₂ (λ (u v : List Event). (inside_events rs w rise) ++ (u ++ v)) across along

      pub walk_ends : walk_of ws w ≡ walked (listed rs w rise) (visits_of (whole rs w rise))
      unfolding walk_of
      walk_ends =
          ap₂ (λ (k : ℕ) (es : List Event). run k (walked [] 0) es) placed.size walk_is
          ∙ run_ends n (whole rs w rise) [] 0 (whole_clean rs w rise) (omega (arith, at_most))
          ∙ ap₂ walked (listed_is rs w rise) (zero-add (visits_of (whole rs w rise)))
