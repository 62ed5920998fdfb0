-- The whole walk over words whose parts stand at their places (`Placed`): it reads no spoiled word, lists the three groups in order, and its visits are
-- bounded. No order of the window's edges is assumed: this is the walk for any edges.
-- Use: `walk_ends` says what comes of the walk: the positions `listed`, of which `inside_lists`, `across_lists` and `along_lists` speak, in so many visits as
-- `whole_visits` allows.
use Rattle.std.specs.Prelude.{◌≡◌, Bool, true, false, not, ◌&&◌, ℕ, zero, suc, ◌+◌, ◌-◌, ◌*◌, ◌^◌, ◌≤◌, ◌<◌, length, ℤ, T, eqb}
use Rattle.std.proofs.Math.Path.{refl}
use Rattle.std.proofs.Common.{ap, ◌∙◌, arith}
use mathlib.Core.List.{List, [], ◌++◌}
use Rattle.std.specs.Int.Signed.{le_z}
use Rattle.std.proofs.Math.Dec.{eqb-suc-zero}
use Rattle.lists.specs.Plain.{to_nat, positions, filter, count}
use Rattle.lists.specs.Every.{All, filter_keeps}
use Rattle.lists.specs.Counting.{count_append, count_le, filter_count, filter_length}
use Rattle.lists.specs.Positions.{positions_length, positions_below}
use Rattle.lists.specs.Digits.{digits_bound}
use Rattle.paper.specs.Descriptor.{at}
use Rattle.paper.specs.Words.{L, D, levels_at, blocks_at, is_horizontal, horizontals, verticals, levels_words, Axis, horizontal, vertical, near_of, far_of, block_words}
use Rattle.paper.specs.Walk.{Event, when, word, record_at, search, node_walk, block_walk, size_in, walk, walked, run, walk_of}
use Rattle.paper.specs.Demands.{crosses}
use Rattle.paper.specs.declared.Segment.{Segment}
use Rattle.paper.specs.declared.Window.{Window}
use Rattle.promise.specs.Places.{At}
use Rattle.promise.specs.Events.{is_due, is_spoiled, Clean, visits_of, dues_of, dues, dues_append}
use Rattle.promise.specs.Block as B
use Rattle.promise.specs.LowEnds.{low_events, low_clean}
use Rattle.promise.specs.Groups.{Rises, is_across, is_along}

-- words in which the parts of an index over records rs stand at their places, whatever else they hold
pub record Placed (rs : List Segment) (ws : List ℤ) : Type 0 where
  pub size : size_in ws ≡ length rs
  pub acrosses : to_nat (word ws 2) ≡ length (horizontals rs)
  pub alongs : to_nat (word ws 3) ≡ length (verticals rs)
  pub reads : (p : ℕ) → p < length rs → record_at ws p ≡ at rs p
  pub levels : At ws (levels_at (length rs)) (levels_words rs)
  pub across_block : At ws (blocks_at (length rs)) (block_words rs horizontal (horizontals rs))
  pub along_block : At ws (blocks_at (length rs) + 8 * length (horizontals rs)) (block_words rs vertical (verticals rs))

-- the walk by the sizes that the header says
abbrev pub walk_by : List ℤ → Window → ℕ → ℕ → ℕ → List Event
walk_by ws w n mh mv =
    when (not (eqb n 0)) (search ws n w λ p.
    node_walk ws n w (D n - 1) n p (levels_at n)
    ++ (block_walk ws n w horizontal w.a w.c w.d mh (blocks_at n)
    ++ block_walk ws n w vertical w.c w.a w.b mv (blocks_at n + 8 * mh)))

pub walk_by_is : (ws : List ℤ) (w : Window) → walk ws w ≡ walk_by ws w (size_in ws) (to_nat (word ws 2)) (to_nat (word ws 3))
unfolding walk
walk_by_is ws w = refl

pub some_walk : (n : ℕ) (es : List Event) → 1 ≤ n → when (not (eqb n 0)) es ≡ es
some_walk zero es h = absurd (omega arith)
some_walk (suc n) es h = rw (eqb-suc-zero n) refl

and_swap : (p q r : Bool) → ((p && q) && r) ≡ (p && (r && q))
and_swap true true true = refl
and_swap true true false = refl
and_swap true false true = refl
and_swap true false false = refl
and_swap false q r = refl

module _ (rs : List Segment) (w : Window) (rise : (p : ℕ) → Rises (at rs p)) where
  abbrev n : ℕ
  n = length rs

  abbrev hs : List ℕ
  hs = horizontals rs

  abbrev vs : List ℕ
  vs = verticals rs

  -- ---- the second and the third group: one block tree each
  module _ (axis : Axis) (tidy : (p : ℕ) → T (le_z (near_of rs axis p) (far_of rs axis p))) (t : ℕ → Bool) (e lo hi : ℤ) (i : ℕ) where
    abbrev part : List ℕ
    part = filter t (positions n)

    abbrev block_events : List Event
    block_events = B.events rs axis tidy e lo hi (length part) part i

    part_below : All (λ p. p < n) part
    part_below = filter_keeps t (positions_below n n (omega arith))

    part_size : length part < 2 ^ L n
    part_size = omega (arith, filter_length t (positions n), count_le t (positions n), positions_length n, digits_bound n)

    part_lists : (q : ℕ → Bool) → count (is_due q) block_events ≡ count (λ x. q x && (t x && crosses axis e lo hi (at rs x))) (positions n)
    part_lists q =
        B.block_lists rs axis tidy e lo hi q (length part) part i (omega arith)
        ∙ filter_count (λ x. q x && crosses axis e lo hi (at rs x)) t (positions n)
        ∙ ap (λ (u : ℕ → Bool). count u (positions n)) (λ j x. and_swap (q x) (crosses axis e lo hi (at rs x)) (t x) j)

    pub part_visits : visits_of block_events ≤ 2 * dues_of block_events + 2 * (L n * L n) + 4 * L n
    part_visits =
        omega (
          arith,
          B.block_visits rs axis tidy e lo hi (length part) (L n) part i part_size,
          B.block_lists rs axis tidy e lo hi (λ x. true) (length part) part i (omega arith),
        )

    pub part_walk : (ws : List ℤ) → ((p : ℕ) → p < n → record_at ws p ≡ at rs p) → At ws i (block_words rs axis part) → block_walk ws n w axis e lo hi (length part) i ≡ block_events
    part_walk ws reads a = B.block_walk_is rs axis tidy e lo hi ws n w reads (length part) part i (omega arith) part_below a

  pub tidy_across : (p : ℕ) → T (le_z (near_of rs horizontal p) (far_of rs horizontal p))
  tidy_across p = (rise p).across

  pub tidy_along : (p : ℕ) → T (le_z (near_of rs vertical p) (far_of rs vertical p))
  tidy_along p = (rise p).along

  abbrev pub flat_at : ℕ → Bool
  flat_at p = is_horizontal (at rs p)

  abbrev pub steep_at : ℕ → Bool
  steep_at p = not (is_horizontal (at rs p))

  -- ---- the three groups, and the whole
  abbrev pub inside_events : List Event
  inside_events = low_events rs w

  abbrev pub across_events : List Event
  across_events = block_events horizontal tidy_across flat_at w.a w.c w.d (blocks_at n)

  abbrev pub along_events : List Event
  along_events = block_events vertical tidy_along steep_at w.c w.a w.b (blocks_at n + 8 * length hs)

  abbrev pub whole : List Event
  whole = inside_events ++ (across_events ++ along_events)

  -- the answer: the groups in order
  abbrev pub listed : List ℕ
  listed = dues inside_events ++ (dues across_events ++ dues along_events)

  pub listed_is : dues whole ≡ listed
  listed_is = dues_append inside_events (across_events ++ along_events) ∙ ap (λ (l : List ℕ). dues inside_events ++ l) (dues_append across_events along_events)

  pub tally : (q : Event → Bool) → count q whole ≡ count q inside_events + (count q across_events + count q along_events)
  tally q = omega (arith, count_append q inside_events (across_events ++ along_events), count_append q across_events along_events)

  pub whole_clean : Clean whole
  whole_clean =
      omega (
        arith,
        tally is_spoiled,
        low_clean rs w,
        B.block_clean rs horizontal tidy_across w.a w.c w.d (length hs) hs (blocks_at n),
        B.block_clean rs vertical tidy_along w.c w.a w.b (length vs) vs (blocks_at n + 8 * length hs),
      )

  pub across_lists : (q : ℕ → Bool) → count (is_due q) across_events ≡ count (λ x. q x && is_across w (at rs x)) (positions n)
  across_lists q = part_lists horizontal tidy_across flat_at w.a w.c w.d (blocks_at n) q

  pub along_lists : (q : ℕ → Bool) → count (is_due q) along_events ≡ count (λ x. q x && is_along w (at rs x)) (positions n)
  along_lists q = part_lists vertical tidy_along steep_at w.c w.a w.b (blocks_at n + 8 * length hs) q

-- with n = 0 there are no visits
pub none_ends : (ws : List ℤ) (w : Window) → size_in ws ≡ 0 → walk_of ws w ≡ walked [] 0
unfolding walk_of run
none_ends ws w e =
    ap (λ (es : List Event). run (size_in ws) (walked [] 0) es) (walk_by_is ws w ∙ ap (λ (k : ℕ). walk_by ws w k (to_nat (word ws 2)) (to_nat (word ws 3))) e)
