-- The demands of the people the index is built for, as statements over Meeting and the walk. They are proved elsewhere: nothing here is.
-- Demand 1 (every call ends, reads only cells that exist, refuses by number) is what a contract `.. ≡ scanned/built/queried ..` without `requires` says.
use Rattle.std.specs.Prelude.{◌≡◌, Bool, true, false, not, ◌&&◌, List, [], ◌∷◌, ◌++◌, map, ℕ, ◌+◌, ◌*◌, ◌≤◌, ◌<◌, eqb, ℤ, pos, ◌≤ℤ◌, length, take}
use Rattle.std.specs.Int.Signed.{lt_z, le_z}
use Rattle.lists.specs.Plain.{within, same, to_nat, count, joined, sum}
use Rattle.paper.specs.Limits.{most_segments, lower_fits}
use Rattle.paper.specs.Descriptor.{at, number_of, first_number, segments_of}
use Rattle.paper.specs.Meeting.{Meets}
use Rattle.paper.specs.Answers.{positions_of, bad_coordinate, bad_slant, bad_window, bad_windows, bad_slice}
use Rattle.paper.specs.Windows.{windows_of}
use Rattle.paper.specs.Words.{L, Axis, horizontal, vertical, is_horizontal, low_first, index_words}
use Rattle.paper.specs.Walk.{Walked, walked, walk_of}
use Rattle.paper.specs.Results.{Result, ManyResult, Decides}
use Rattle.paper.specs.declared.Descriptor.{Descriptor}
use Rattle.paper.specs.declared.Segment.{Segment}
use Rattle.paper.specs.declared.Window.{Window}

-- ---- demand 2: listed once if the closed segment shares a point with the closed window, fractions included, and otherwise not at all

-- of positions
pub record ListsOnce (segments : List Segment) (w : Window) (ps : List ℕ) : Type 0 where
  pub once : (p : ℕ) → p < length segments → Meets (at segments p) w → count (eqb p) ps ≡ 1
  pub never : (p : ℕ) → (p < length segments → Meets (at segments p) w → ⊥) → count (eqb p) ps ≡ 0

-- of numbers, as a caller reads them in the number cells: no number stands there but those of segments that meet
pub record ListsNumbers (first : ℤ) (segments : List Segment) (w : Window) (numbers : List ℤ) : Type 0 where
  pub once : (p : ℕ) → p < length segments → Meets (at segments p) w → count (same (number_of first p)) numbers ≡ 1
  pub never : (z : ℤ) → ((p : ℕ) → p < length segments → Meets (at segments p) w → z ≡ number_of first p → ⊥) → count (same z) numbers ≡ 0

-- the numbers that a call which is done has listed: as many of the first cells as it returns as count
abbrev pub listed_by : Result → List ℤ
listed_by r = take (to_nat r.0.count) r.1

abbrev pub ascends : List ℤ → Bool
ascends [] = true
ascends (x ∷ []) = true
ascends (x ∷ y ∷ zs) = lt_z x y && ascends (y ∷ zs)

-- ---- the scan

-- by any test of meeting
abbrev pub ScanDemand : Type 0
ScanDemand =
    (segments : List Segment) (w : Window) (meets : Segment → Bool)
    → Decides w meets
    → ListsOnce segments w (positions_of meets segments)

-- what a scan that is done promises its caller
pub record ScanPromise (table : List ℤ) (d : Descriptor) (w : Window) (r : Result) : Type 0 where
  pub lists : ListsNumbers (first_number d.kind d.lower) (segments_of d table) w (listed_by r)
  pub ascending : ascends (listed_by r) ≡ true

-- ---- the index

-- what the builder accepts
pub record Straight (segments : List Segment) : Type 0 where
  pub size : length segments ≤ most_segments
  pub coordinates : (bad_coordinate segments).given ≡ false
  pub straight : (bad_slant segments).given ≡ false

-- words that are an index of segments whose position 0 has the number `first`: the builder's, whatever stands after them
pub record IndexOf (first : ℤ) (segments : List Segment) (ws : List ℤ) : Type 0 where
  pub numbered : lower_fits first ≡ true
  pub accepted : Straight segments
  pub rest : List ℤ
  pub words : ws ≡ index_words first segments ++ rest

-- demand 3: 4L² + 15L + 2 + 2k
abbrev pub most_visits : ℕ → ℕ → ℕ
most_visits n k = 4 * (L n * L n) + 15 * L n + 2 + 2 * k

-- "any meeting segment is in exactly one group", by its record: low end in the window; horizontal with near < a ≤ far and level in c..d;
-- vertical with near < c ≤ far and level in a..b
abbrev pub low_end_inside : Window → Segment → Bool
low_end_inside w s = within w.a w.b s.x1 && within w.c w.d s.y1

abbrev pub crosses : Axis → (e lo hi : ℤ) → Segment → Bool
crosses axis e lo hi s = (lt_z (axis.near s) e && le_z e (axis.far s)) && within lo hi (axis.level s)

-- the positions whose record passes a test, each once, and no other
abbrev pub Group : List Segment → (Segment → Bool) → List ℕ → Type 0
Group segments q ps = (p : ℕ) → count (eqb p) ps ≡ count (eqb p) (positions_of (λ s. q (low_first s)) segments)

-- "the answer lists the groups in this order"
pub record InGroups (segments : List Segment) (w : Window) (ps : List ℕ) : Type 0 where
  pub inside : List ℕ
  pub across : List ℕ
  pub along : List ℕ
  pub order : ps ≡ inside ++ (across ++ along)
  pub insides : Group segments (low_end_inside w) inside
  pub acrosses : Group segments (λ s. is_horizontal s && crosses horizontal w.a w.c w.d s) across
  pub alongs : Group segments (λ s. not (is_horizontal s) && crosses vertical w.c w.a w.b s) along

-- what is asked of a walk over the index of segments
pub record Asked (segments : List Segment) (w : Window) (r : Walked) : Type 0 where
  pub listed : List ℕ
  pub visits : ℕ
  -- it reads no spoiled word
  pub ends : r ≡ walked listed visits
  -- n cells hold all that it lists
  pub within : length listed ≤ length segments
  -- demand 2
  pub once : ListsOnce segments w listed
  pub groups : InGroups segments w listed
  -- demand 3
  pub few : visits ≤ most_visits (length segments) (length listed)

abbrev pub IndexDemands : Type 0
IndexDemands =
    (first : ℤ) (segments : List Segment) (w : Window) (ws : List ℤ)
    → IndexOf first segments ws
    → (bad_window w).given ≡ false
    → Asked segments w (walk_of ws w)

-- what a query that is done promises its caller
pub record QueryDone (first : ℤ) (segments : List Segment) (w : Window) (r : Result) : Type 0 where
  pub is_done : r.0.number ≡ pos 0
  pub lists : ListsNumbers first segments w (listed_by r)
  pub few : r.0.visits ≤ℤ pos (most_visits (length segments) (to_nat r.0.count))

-- what a query promises its caller on words that are an index of segments, where the window is good: the numbers due are those that demand 2 asks for, at most n;
-- where they fit in the cells lent it is done, and where they do not it says how many they are
pub record QueryPromise (first : ℤ) (segments : List Segment) (w : Window) (lent : ℕ) (r : Result) : Type 0 where
  pub due : List ℤ
  pub due_once : ListsNumbers first segments w due
  pub due_few : length due ≤ length segments
  pub fits : length due ≤ lent → QueryDone first segments w r
  pub short : lent < length due → (r.0.number ≡ pos 7) × (r.0.count ≡ pos (length due))

-- that, for every table that the words are an index of
abbrev pub QueryPromises : List ℤ → Window → List ℤ → Result → Type 0
QueryPromises ws w numbers r =
    (first : ℤ) (segments : List Segment)
    → IndexOf first segments ws
    → (bad_window w).given ≡ false
    → QueryPromise first segments w (length numbers) r

-- what a query of many windows that is done gives its caller (request E5), by the numbers due to each window and the visits of each: one count for each window,
-- the numbers one after another, the visits added up
pub record ManyDone (windows : List Window) (due : Window → List ℤ) (visits : Window → ℕ) (r : ManyResult) : Type 0 where
  pub is_done : r.0.number ≡ pos 0
  pub total : r.0.count ≡ pos (length (joined (map due windows)))
  pub all_visits : r.0.visits ≡ pos (sum (map visits windows))
  pub counts : take (length windows) r.1 ≡ map (λ w. pos (length (due w))) windows
  pub numbers : take (length (joined (map due windows))) r.2 ≡ joined (map due windows)

-- what it promises on words that are an index of segments, where the slice and all its windows are good: demands 2 and 3 for each window, whatever the others are;
-- where all the numbers fit in the cells lent it is done, and where they do not it says how many they are
pub record ManyPromise (first : ℤ) (segments : List Segment) (windows : List Window) (lent : ℕ) (r : ManyResult) : Type 0 where
  pub due : Window → List ℤ
  pub visits : Window → ℕ
  pub due_once : (w : Window) → (bad_window w).given ≡ false → ListsNumbers first segments w (due w)
  pub due_few : (w : Window) → (bad_window w).given ≡ false → length (due w) ≤ length segments
  pub few : (w : Window) → (bad_window w).given ≡ false → visits w ≤ most_visits (length segments) (length (due w))
  pub fits : length (joined (map due windows)) ≤ lent → ManyDone windows due visits r
  pub short : lent < length (joined (map due windows)) → (r.0.number ≡ pos 7) × (r.0.count ≡ pos (length (joined (map due windows))))

abbrev pub ManyPromises : List ℤ → (edges counts numbers : List ℤ) → ManyResult → Type 0
ManyPromises ws edges counts numbers r =
    (first : ℤ) (segments : List Segment)
    → IndexOf first segments ws
    → (bad_slice edges (length counts)).given ≡ false
    → (bad_windows edges).given ≡ false
    → ManyPromise first segments (windows_of edges) (length numbers) r
