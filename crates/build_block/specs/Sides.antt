-- The centre of a block and the three sides of it: each position is on one side, somebody stays, and a run that stands by near
-- gives the centre at its middle and has those that go right at its end.
-- `Tidy` (near ≤ far, of every record) is all that is asked. For every axis. Assumes nothing.
use Rattle.std.specs.Prelude.{◌≡◌, Bool, true, false, not, ◌&&◌, ℕ, ◌+◌, ◌/◌, ◌<◌, T, ltb, ℤ, length, get_or, take, drop}
use Rattle.std.proofs.Math.Path.{refl}
use Rattle.std.proofs.Common.{sym, ap, subst, ◌∙◌, arith, take-append-drop}
use mathlib.Core.List.{List, [], ◌∷◌, ◌++◌, map, append-nil}
use Rattle.std.specs.Int.Signed.{le_z, lt_z}
use Rattle.lists.specs.Plain.{within, count, filter, by, sort}
use Rattle.lists.specs.Tests.{gate, gate_one, both, fail_left, yes_not}
use Rattle.lists.specs.Orders.{Linear, up_to, lt_z_not, lt_z_up, lt_z_linear, ℤ_order, le_self, ltb_linear, by_linear, by_key}
use Rattle.lists.specs.Every.{All, all_map, Sorted, sorted_map}
use Rattle.lists.specs.Maps.{map_at, map_sorted}
use Rattle.lists.specs.Choosing.{filter_join}
use Rattle.lists.specs.Filters.{filter_all, filter_none, filter_same}
use Rattle.lists.specs.Counting.{count_map, filter_length}
use Rattle.lists.specs.Sorting.{InOrder, sort_count, sort_length, sort_sorted, unique}
use Rattle.build_queue.specs.Taking.{without_count}
use Rattle.paper.specs.declared.Segment.{Segment}
use Rattle.paper.specs.Words.{Axis, near_of, far_of, stays, lefts, rights}

module _ (rs : List Segment) (axis : Axis) where
  -- no record's far end is before its near end
  abbrev pub Tidy : Type 0
  Tidy = (p : ℕ) → T (le_z (near_of rs axis p) (far_of rs axis p))

  -- p's near end is no later than q's
  abbrev pub Nearer : ℕ → ℕ → Type 0
  Nearer p q = T (le_z (near_of rs axis p) (near_of rs axis q))

  -- by (near, position)
  abbrev pub by_near : ℕ → ℕ → Bool
  by_near = by (near_of rs axis) ltb

  pub near_linear : Linear (up_to by_near)
  near_linear = by_linear (near_of rs axis) ltb ltb_linear

  -- near of place ⌊m/2⌋ of the positions by (near, position)
  abbrev pub centre_at : List ℕ → ℤ
  centre_at ps = near_of rs axis (get_or (sort by_near ps) (length ps / 2) 0)

  up_of : (a b : ℤ) → T (le_z a b) → T (up_to lt_z a b)
  up_of a b h = subst T (sym (lt_z_up a b)) h

  near_keys : {ps : List ℕ} → Sorted Nearer ps → InOrder lt_z (map (near_of rs axis) ps)
  near_keys s =
      map_sorted (near_of rs axis) {R = λ a b. T (up_to lt_z a b)} (sorted_map (λ x y k. up_of (near_of rs axis x) (near_of rs axis y) k) s)

  pub sort_near : (ps : List ℕ) → Sorted Nearer (sort by_near ps)
  sort_near ps = sorted_map (λ x y k. by_key (near_of rs axis) ltb x y k) (sort_sorted by_near near_linear.order ps)

  -- a run by near, whatever the order of equal ones, has the centre at its middle
  pub centre_middle : {ps : List ℕ} → Sorted Nearer ps → near_of rs axis (get_or ps (length ps / 2) 0) ≡ centre_at ps
  centre_middle {ps} s =
      let same : map (near_of rs axis) ps ≡ map (near_of rs axis) (sort by_near ps) =
      unique lt_z lt_z_linear (near_keys s) (near_keys (sort_near ps))
      (λ q.
      count_map (near_of rs axis) q ps ∙ sym (count_map (near_of rs axis) q (sort by_near ps) ∙ sort_count by_near (λ p. q (near_of rs axis p)) ps)) in
      sym (map_at (near_of rs axis) ps (length ps / 2) 0)
      ∙ ap (λ l. get_or l (length ps / 2) (near_of rs axis 0)) same
      ∙ map_at (near_of rs axis) (sort by_near ps) (length ps / 2) 0

  module _ (tidy : Tidy) (centre : ℤ) where
    one : (a b : Bool) → (T (not a) → T (not b) → ⊥) → gate (a && b) 1 + gate (not b) 1 + gate (not a) 1 ≡ 1
    one true true h = refl
    one true false h = refl
    one false true h = refl
    one false false h = absurd (h tt tt)

    never : (p : ℕ) → T (not (le_z (near_of rs axis p) centre)) → T (not (le_z centre (far_of rs axis p))) → ⊥
    never p h k =
        clash (le_z centre (far_of rs axis p)) k
        (ℤ_order.trans centre (near_of rs axis p) (far_of rs axis p) (ℤ_order.total (near_of rs axis p) centre h) (tidy p))
      where
        clash : (b : Bool) → T (not b) → T b → ⊥
        clash true h k = absurd h
        clash false h k = absurd k

    sides_one : (p : ℕ) → gate (within (near_of rs axis p) (far_of rs axis p) centre) 1 + gate (lt_z (far_of rs axis p) centre) 1 + gate (lt_z centre (near_of rs axis p)) 1 ≡ 1
    sides_one p =
        rw (lt_z_not (far_of rs axis p) centre, lt_z_not centre (near_of rs axis p)) (one (le_z (near_of rs axis p) centre) (le_z centre (far_of rs axis p)) (never p))

    counted : (ps : List ℕ)
        → count (λ p. within (near_of rs axis p) (far_of rs axis p) centre) ps + count (λ p. lt_z (far_of rs axis p) centre) ps + count (λ p. lt_z centre (near_of rs axis p)) ps ≡ length ps
    unfolding count
    counted [] = refl
    counted (p ∷ ps) = omega (arith, sides_one p, counted ps)

    -- each is on one side
    pub sides : (ps : List ℕ) → length (stays rs axis centre ps) + length (lefts rs axis centre ps) + length (rights rs axis centre ps) ≡ length ps
    sides ps =
        omega (
          arith,
          counted ps,
          filter_length (λ p. within (near_of rs axis p) (far_of rs axis p) centre) ps,
          filter_length (λ p. lt_z (far_of rs axis p) centre) ps,
          filter_length (λ p. lt_z centre (near_of rs axis p)) ps,
        )

    -- a run cut where near passes the centre
    module _ (ps : List ℕ) (cut : ℕ) (low : All (λ p. T (le_z (near_of rs axis p) centre)) (take cut ps))
        (high : All (λ p. T (not (le_z (near_of rs axis p) centre))) (drop cut ps)) where
      cut_filter : (q : ℕ → Bool) → filter q ps ≡ filter q (take cut ps) ++ filter q (drop cut ps)
      cut_filter q = ap (filter q) (sym (take-append-drop cut ps)) ∙ filter_join q (take cut ps) (drop cut ps)

      pub rights_end : rights rs axis centre ps ≡ drop cut ps
      rights_end =
          let q : ℕ → Bool = λ p. lt_z centre (near_of rs axis p) in
          cut_filter q
          ∙ ap (λ l. l ++ filter q (drop cut ps)) (filter_none q (all_map (λ p h. subst (λ b. T (not b)) (sym (lt_z_not centre (near_of rs axis p))) (yes_not (le_z (near_of rs axis p) centre) h)) low))
          ∙ filter_all q (all_map (λ p h. subst T (sym (lt_z_not centre (near_of rs axis p))) h) high)

      pub lefts_front : lefts rs axis centre ps ≡ filter (λ p. lt_z (far_of rs axis p) centre) (take cut ps)
      lefts_front =
          let q : ℕ → Bool = λ p. lt_z (far_of rs axis p) centre in
          cut_filter q
          ∙ ap (λ l. filter q (take cut ps) ++ l) (filter_none q (all_map (λ p h. beyond p h) high))
          ∙ append-nil (filter q (take cut ps))
        where
          beyond : (p : ℕ) → T (not (le_z (near_of rs axis p) centre)) → T (not (lt_z (far_of rs axis p) centre))
          beyond p h =
              subst (λ b. T (not b)) (sym (lt_z_not (far_of rs axis p) centre))
              (yes_not (le_z centre (far_of rs axis p)) (ℤ_order.trans centre (near_of rs axis p) (far_of rs axis p) (ℤ_order.total (near_of rs axis p) centre h) (tidy p)))

      pub stays_front : stays rs axis centre ps ≡ filter (λ p. not (lt_z (far_of rs axis p) centre)) (take cut ps)
      stays_front =
          let q : ℕ → Bool = λ p. within (near_of rs axis p) (far_of rs axis p) centre in
          cut_filter q
          ∙ ap (λ l. filter q (take cut ps) ++ l) (filter_none q (all_map (λ p h. fail_left (le_z (near_of rs axis p) centre) (le_z centre (far_of rs axis p)) h) high))
          ∙ append-nil (filter q (take cut ps))
          ∙ filter_same (all_map (λ p h. agrees p h) low)
        where
          shape : (a b : Bool) → T a → (a && b) ≡ not (not b)
          shape true true h = refl
          shape true false h = refl
          shape false b h = absurd h

          agrees : (p : ℕ) → T (le_z (near_of rs axis p) centre) → within (near_of rs axis p) (far_of rs axis p) centre ≡ not (lt_z (far_of rs axis p) centre)
          agrees p h = rw (lt_z_not (far_of rs axis p) centre) (shape (le_z (near_of rs axis p) centre) (le_z centre (far_of rs axis p)) h)

  -- the one that gives the centre stays
  pub somebody : Tidy → (ps : List ℕ) → 0 < length ps → 0 < length (stays rs axis (centre_at ps) ps)
  somebody tidy ps h =
      let q : ℕ → Bool = λ p. within (near_of rs axis p) (far_of rs axis p) (centre_at ps) in
      let k : ℕ = length ps / 2 in
      let p : ℕ = get_or (sort by_near ps) k 0 in
      let inside : T (q p) = both (le_z (near_of rs axis p) (centre_at ps)) (le_z (centre_at ps) (far_of rs axis p)) (le_self le_z ℤ_order (near_of rs axis p)) (tidy p) in
      omega (
        arith,
        filter_length q ps,
        sort_count by_near q ps,
        without_count q k 0 (sort by_near ps) (omega (arith, sort_length by_near ps)),
        gate_one (q p) inside,
      )
