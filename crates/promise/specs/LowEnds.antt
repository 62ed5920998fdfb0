-- The first group of the walk by itself: search, nodes and slots list the positions whose low end is in the window, in at most L + 6D visits beside
-- those that they list. It asks for records and levels at their places, and for nothing else: no blocks, no straight segments, no order of the edges.
-- Use: `low_ends` is the theorem; the whole walk takes `low_events` and its laws.
use Rattle.std.specs.Prelude.{◌≡◌, refl, List, ◌++◌, Bool, true, false, not, ◌&&◌, ℕ, suc, ◌+◌, ◌-◌, ◌*◌, ◌≤◌, ◌<◌, length, ℤ, eqb, ltb}
use Rattle.std.proofs.Common.{sym, ap, ◌∙◌, subst, append_assoc, arith}
use Rattle.std.specs.Int.Signed.{le_z}
use Rattle.lists.specs.Plain.{positions, count, by}
use Rattle.lists.specs.Tests.{gate_le}
use Rattle.lists.specs.Orders.{ltb_linear, by_order, by_key}
use Rattle.lists.specs.Every.{sorted_map}
use Rattle.lists.specs.Counting.{count_append, count_le, distinct}
use Rattle.lists.specs.Positions.{positions_count}
use Rattle.lists.specs.Sorting.{sort_count, sort_sorted}
use Rattle.lists.specs.Digits.{digits_bound}
use Rattle.lists.specs.Searching.{found, found_first, looks_le}
use Rattle.paper.specs.Descriptor.{at}
use Rattle.paper.specs.Words.{L, D, levels_at, low_x, low_y, x_order, slots, levels_words}
use Rattle.paper.specs.Walk.{Event, record_at, search, node_walk}
use Rattle.paper.specs.Demands.{low_end_inside}
use Rattle.paper.specs.declared.Segment.{Segment}
use Rattle.paper.specs.declared.Window.{Window}
use Rattle.promise.specs.Places.{At}
use Rattle.promise.specs.Events.{is_due, is_visit, is_spoiled, Clean, visits_of, dues_of}
use Rattle.promise.specs.Nodes.{root_stands, order_length, slots_length, deep}
use Rattle.promise.specs.Tree.{start, inside, events, Run, slots_rising, tree_lists, tree_clean, tree_visits}
use Rattle.promise.specs.Levels.{order_below, up, search_events, search_tally, search_walk, moved, node_walk_is}

-- search and nodes over any words
abbrev pub low_walk : List ℤ → ℕ → Window → List Event
low_walk ws n w = search ws n w λ p. node_walk ws n w (D n - 1) n p (levels_at n)

-- what is asked of them: no spoiled word; every test counts on what is due as on the positions whose low end is inside, so each of these is due
-- once and no other is; and the bound on visits
pub record LowEnds (rs : List Segment) (w : Window) (es : List Event) : Type 0 where
  pub clean : Clean es
  pub lists : (q : ℕ → Bool) → count (is_due q) es ≡ count (λ p. q p && low_end_inside w (at rs p)) (positions (length rs))
  pub few : visits_of es ≤ L (length rs) + 6 * D (length rs) + dues_of es

module _ (rs : List Segment) (w : Window) where
  abbrev n : ℕ
  n = length rs

  abbrev order : List ℕ
  order = x_order rs

  abbrev first : ℕ
  first = start rs w order

  abbrev searching : List Event
  searching = search_events rs w n 0 n

  abbrev tree : List Event
  tree = events rs w (suc (D n - 1)) order first (levels_at n)

  abbrev pub low_events : List Event
  low_events = searching ++ tree

  order_count : (q : ℕ → Bool) → count q order ≡ count q (positions n)
  order_count q = sort_count (by (low_x rs) (by (low_y rs) ltb)) q (positions n)

  order_run : 1 ≤ n → Run rs w order
  order_run h = record {
    some = omega (arith, order_length rs);
    ordered = sorted_map (by_key (low_x rs) (by (low_y rs) ltb))
        (sort_sorted (by (low_x rs) (by (low_y rs) ltb)) (by_order (low_x rs) (by (low_y rs) ltb) (by_order (low_y rs) ltb ltb_linear.order)) (positions n));
    distinct = distinct order (λ p. omega (arith, order_count (eqb p), positions_count p n, gate_le (ltb p n) 1));
  }

  -- the search finds the first slot with y ≥ c
  search_finds : found (up rs w) n 0 n ≡ first
  search_finds =
      let size : length (slots rs order) ≡ n = slots_length rs order ∙ order_length rs in
      subst (λ (m : ℕ). found (up rs w) m 0 m ≡ first) size
      (found_first (λ x. le_z w.c (low_y rs x)) 0 (slots_rising rs w order) ∙ sort_count (by (low_y rs) ltb) (λ x. not (le_z w.c (low_y rs x))) order)

  -- ---- what it lists and visits
  tally : (q : Event → Bool) → count q low_events ≡ count q searching + count q tree
  tally q = count_append q searching tree

  pub low_clean : Clean low_events
  low_clean = omega (arith, tally is_spoiled, search_tally rs w is_spoiled false (λ k i. refl) n 0 n, tree_clean rs w (suc (D n - 1)) order first (levels_at n))

  module _ (some : 1 ≤ n) where
    pub low_lists : (q : ℕ → Bool) → count (is_due q) low_events ≡ count (λ x. q x && inside rs w x) (positions n)
    low_lists q =
        omega (
          arith,
          tally (is_due q),
          search_tally rs w (is_due q) false (λ k i. refl) n 0 n,
          tree_lists rs w q (D n - 1) order (levels_at n) (order_run some) (omega (arith, order_length rs, deep rs)),
          order_count (λ x. q x && inside rs w x),
        )

    pub low_visits : visits_of low_events ≤ L n + 6 * (D n - 1) + 2 + dues_of low_events
    low_visits =
        omega (
          arith,
          tally is_visit,
          search_tally rs w is_visit true (λ k i. refl) n 0 n,
          looks_le (up rs w) n (L n) 0 n (omega arith) (omega (arith, digits_bound n)),
          tree_visits rs w true true (suc (D n - 1)) (D n - 1) order (levels_at n) (order_run some) (omega (arith, order_length rs, deep rs)) absurd absurd,
          low_lists (λ x. true),
          order_count (inside rs w),
        )

    -- ---- the walk over words is this one
    module _ (ws : List ℤ) (reads : (p : ℕ) → p < n → record_at ws p ≡ at rs p) (stand : At ws (levels_at n) (levels_words rs)) where
      tree_is : node_walk ws n w (D n - 1) n first (levels_at n) ≡ tree
      tree_is =
          let e : levels_at n + 2 * n * 0 + 0 ≡ levels_at n = omega arith in
          moved rs w ws reads stand (D n - 1) order first e (order_length rs)
          (node_walk_is rs w ws reads stand (D n - 1) 0 0 order first (omega arith) (root_stands rs) (order_run some) (omega (arith, order_length rs, deep rs)) (order_below rs)
          (count_le (λ x. not (le_z w.c (low_y rs x))) order))

      -- whatever is made of the nodes' events
      low_walk_is : (follow : List Event → List Event) → search ws n w (λ p. follow (node_walk ws n w (D n - 1) n p (levels_at n))) ≡ searching ++ follow tree
      low_walk_is follow =
          let next : ℕ → List Event = λ p. follow (node_walk ws n w (D n - 1) n p (levels_at n)) in
          search_walk rs w ws reads stand next n 0 n (omega arith) (omega arith)
          ∙ ap (λ (p : ℕ). searching ++ next p) search_finds
          ∙ ap (λ (es : List Event). searching ++ follow es) tree_is

      pub low_then : (rest : List Event) → search ws n w (λ p. node_walk ws n w (D n - 1) n p (levels_at n) ++ rest) ≡ low_events ++ rest
      low_then rest = low_walk_is (λ es. es ++ rest) ∙ sym (append_assoc searching tree rest)

      pub low_ends : LowEnds rs w (low_walk ws n w)
      low_ends = subst (LowEnds rs w) (sym (low_walk_is (λ es. es))) (record { clean = low_clean; lists = low_lists; few = omega (arith, low_visits) })
