-- Demand 2 on the numbers in the cells: the numbers of the segments that pass a deciding test stand there once, in ascending order, and no other does.
use Rattle.std.specs.Prelude.{◌≡◌, refl, Bool, true, false, not, ◌&&◌, List, ℕ, ◌<◌, T, eqb, ℤ, pos, length, ◌<ℤ◌}
use Rattle.std.proofs.Common.{ap, ap₂, ◌∙◌, subst, le_refl, eqb→eq}
use Rattle.std.proofs.Math.Dec.{eqb_refl}
use Rattle.whole.specs.Whole.{#, ◌⊕◌, of, whole}
use Rattle.whole.specs.Order.{true_lt_z}
use Rattle.lists.specs.Plain.{same, count}
use Rattle.lists.specs.Tests.{agree, is_true}
use Rattle.lists.specs.Orders.{same_equal, same_self}
use Rattle.lists.specs.Every.{All, Sorted, all_map, all_filter, sorted_filter}
use Rattle.lists.specs.Counting.{count_map, count_none}
use Rattle.lists.specs.Positions.{positions_below}
use Rattle.lists.specs.Choosing.{positions_sorted}
use Rattle.paper.specs.Descriptor.{number_of, at}
use Rattle.paper.specs.Meeting.{Meets}
use Rattle.paper.specs.Answers.{positions_of}
use Rattle.paper.specs.Results.{numbers_of, Decides}
use Rattle.paper.specs.Demands.{ListsNumbers, ascends}
use Rattle.paper.specs.declared.Segment.{Segment}
use Rattle.paper.specs.declared.Window.{Window}
use Rattle.meeting.specs.Determined.{scan_demand}

-- two positions have one number exactly where they are one
same_number : (first : ℤ) (p q : ℕ) → same (number_of first p) (number_of first q) ≡ eqb p q
same_number first p q =
    agree (same (number_of first p) (number_of first q)) (eqb p q)
    (λ t. let e = one (same_equal (number_of first p) (number_of first q) t) in subst (λ k. T (eqb p k)) e (eqb_refl p))
    (λ t. subst (λ k. T (same (number_of first p) (number_of first k))) (eqb→eq p q t) (same_self (number_of first p)))
  where
    one : number_of first p ≡ number_of first q → p ≡ q
    one e = omega (whole, of (# first ⊕ # (pos p)), of (# first ⊕ # (pos q)))

module _ (first : ℤ) (segments : List Segment) (w : Window) (meets : Segment → Bool) (decides : Decides w meets) where
  abbrev hit : ℕ → Bool
  hit p = meets (at segments p)

  pub lists_numbers : ListsNumbers first segments w (numbers_of first (positions_of meets segments))
  lists_numbers = record { once = once; never = never }
    where
      once : (p : ℕ) → p < length segments → Meets (at segments p) w → count (same (number_of first p)) (numbers_of first (positions_of meets segments)) ≡ 1
      once p h m =
          count_map (number_of first) (same (number_of first p)) (positions_of meets segments)
          ∙ ap (λ (q : ℕ → Bool). count q (positions_of meets segments)) (λ i k. same_number first p k i)
          ∙ (scan_demand segments w meets decides).once p h m

      -- of those that pass none has a number that no meeting segment has
      never : (z : ℤ) → ((p : ℕ) → p < length segments → Meets (at segments p) w → z ≡ number_of first p → ⊥) → count (same z) (numbers_of first (positions_of meets segments)) ≡ 0
      never z f =
          count_map (number_of first) (same z) (positions_of meets segments)
          ∙ count_none (λ p. same z (number_of first p)) (all_map other (all_filter hit (positions_below (length segments) (length segments) (le_refl (length segments)))))
        where
          other : (p : ℕ) → T (hit p) × (p < length segments) → T (not (same z (number_of first p)))
          other p h = go (same z (number_of first p)) (same_equal z (number_of first p))
            where
              go : (b : Bool) → (T b → z ≡ number_of first p) → T (not b)
              go true e = f p h.1 ((decides.exactly (at segments p)).0 (is_true (hit p) h.0)) (e tt)
              go false e = tt

-- what ascends in the positions ascends in the numbers
numbers_ascend : (first : ℤ) {ps : List ℕ} → Sorted (λ p q. p < q) ps → ascends (numbers_of first ps) ≡ true
numbers_ascend first Sorted.none = refl
numbers_ascend first (Sorted.next All.none s) = refl
numbers_ascend first (Sorted.next {x = p} (All.also {x = q} h k) s) = ap₂ (λ x y. x && y) (true_lt_z (later h)) (numbers_ascend first s)
  where
    later : p < q → number_of first p <ℤ number_of first q
    later h = omega (whole, of (# first ⊕ # (pos p)), of (# first ⊕ # (pos q)))

pub ascending : (first : ℤ) (segments : List Segment) (meets : Segment → Bool) → ascends (numbers_of first (positions_of meets segments)) ≡ true
ascending first segments meets = numbers_ascend first (sorted_filter (λ p. meets (at segments p)) (positions_sorted (length segments)))
