-- The levels' words: where a node's slots, its counts and its run of the order of all low ends stand.
-- Use: `Stands (nodes rs k) o r` says that r is a node of level k with o positions before it; `root_stands`, `left_stands`, `right_stands` go down the
-- tree, `slots_at`, `counts_at`, `run_at` give the words. Assumes nothing.
use Rattle.std.specs.Prelude.{◌≡◌, Bool, true, false, not, cond, length, ℤ, T, ltb, leb}
use Rattle.std.proofs.Math.Path.{refl, ap, ap₂, subst}
use Rattle.std.proofs.Common.{sym, ◌∙◌, le→leb}
use mathlib.Core.List.{List, [], ◌∷◌, ◌++◌, map, map-append, map-id, append_assoc, append-nil}
use Prim.Native.Nat.{ℕ, zero, suc, ◌+◌, ◌-◌, ◌*◌, ◌^◌, ◌≤◌, ◌<◌}
use Rattle.std.proofs.Math.Nat.{two-pow-succ}
use native.Mathlib.Omega.{arith}
use Rattle.std.proofs.Math.ListN.{length-append, length-map}
use Rattle.std.proofs.Math.IntN.{pos}
use Rattle.std.proofs.Math.Dec.{nleb→lt}
use Rattle.lists.specs.Plain.{digits, half, first_half, second_half, positions, joined, by}
use Rattle.lists.specs.Tests.{cases, is_true}
use Rattle.lists.specs.Every.{All, all_map}
use Rattle.lists.specs.Positions.{positions_length, joined_append, joined_one, joined_keeps, numbered_length}
use Rattle.lists.specs.Sorting.{sort_length, sort_short}
use Rattle.lists.specs.Halves.{first_length, second_length, halves_join}
use Rattle.lists.specs.Digits.{digits_bound}
use Rattle.paper.specs.Words.{D, levels_at, low_y, x_order, children, nodes, slots, count_at, counts, level_words, levels_words}
use Rattle.paper.specs.declared.Segment.{Segment}
use Rattle.promise.specs.Places.{At, as_words, at_cut, at_numbered}

-- ---- a run among runs
pub record Stands (rss : List (List ℕ)) (o : ℕ) (r : List ℕ) : Type 0 where
  pub before : List (List ℕ)
  pub after : List (List ℕ)
  pub is : rss ≡ before ++ (r ∷ after)
  pub off : length (joined before) ≡ o

-- what is made of a run, without a change of its length, stands where the run does
pub at_joined : (ws : List ℤ) (i : ℕ) (f : List ℕ → List ℕ) → ((r : List ℕ) → length (f r) ≡ length r) → {rss : List (List ℕ)} {o : ℕ} {r : List ℕ} → Stands rss o r
    → At ws i (as_words (joined (map f rss))) → At ws (i + o) (as_words (f r))
unfolding joined
at_joined ws i f keeps {rss} {o} {r} s a =
    let front = joined (map f s.before) in
    let back = joined (map f s.after) in
    let e : joined (map f rss) ≡ front ++ (f r ++ back) =
    ap (λ (t : List (List ℕ)). joined (map f t)) s.is
    ∙ ap (λ (t : List (List ℕ)). joined t) (map-append f s.before (r ∷ s.after))
    ∙ joined_append (map f s.before) (f r ∷ map f s.after) in
    let b = at_cut ws i front (f r ++ back) (subst (λ (t : List ℕ). At ws i (as_words t)) e a) in
    let c = at_cut ws (i + length front) (f r) back b.1 in
    subst (λ (t : ℕ). At ws (i + t) (as_words (f r))) (joined_keeps f keeps s.before ∙ s.off) c.0

-- ---- one level down
children_wide : (r : List ℕ) → 2 ≤ length r → children r ≡ first_half r ∷ second_half r ∷ []
children_wide r h = rw (is_true (leb 2 (length r)) (le→leb 2 (length r) h)) refl

children_joined : (r : List ℕ) → joined (children r) ≡ r
unfolding joined
children_joined r = cases (λ (t : List (List ℕ)). joined t ≡ r) (leb 2 (length r)) _ _
    (λ t. rw (append-nil (second_half r)) (halves_join r))
    (λ t. append-nil r)

all_joined : (l : List (List ℕ)) → joined (joined (map children l)) ≡ joined l
unfolding joined
all_joined [] = refl
all_joined (x ∷ l) = joined_append (children x) (joined (map children l)) ∙ ap₂ (λ (s t : List ℕ). s ++ t) (children_joined x) (all_joined l)

one_at_least : (m : ℕ) → 1 ≤ 2 ^ m
one_at_least zero = omega arith
one_at_least (suc m) = omega (arith, two-pow-succ m, one_at_least m)

-- sizes halve
children_small : (m : ℕ) {l : List (List ℕ)} → All (λ r. length r ≤ 2 ^ suc m) l → All (λ r. length r ≤ 2 ^ m) (joined (map children l))
unfolding joined
children_small m All.none = All.none
children_small m (All.also {x = x} p h) = go (leb 2 (length x)) (nleb→lt 2 (length x)) (children_small m h)
  where
    go : {z : List (List ℕ)} (b : Bool) → (T (not b) → length x < 2) → All (λ r. length r ≤ 2 ^ m) z
        → All (λ r. length r ≤ 2 ^ m) (cond b (first_half x ∷ second_half x ∷ []) (x ∷ []) ++ z)
    go true u g =
        All.also {x = first_half x} (omega (arith, two-pow-succ m, first_length x))
        (All.also {x = second_half x} (omega (arith, two-pow-succ m, second_length x)) g)
    go false u g = All.also {x = x} (omega (arith, u tt, one_at_least m)) g

module _ (rs : List Segment) where
  -- every level is the order of all low ends, in runs
  pub nodes_joined : (k : ℕ) → joined (nodes rs k) ≡ x_order rs
  unfolding nodes
  nodes_joined zero = joined_one (x_order rs)
  nodes_joined (suc k) = all_joined (nodes rs k) ∙ nodes_joined k

  pub root_stands : Stands (nodes rs 0) 0 (x_order rs)
  unfolding nodes joined
  root_stands = record { before = []; after = []; is = refl; off = refl }

  module _ (k o : ℕ) (r : List ℕ) (h : 2 ≤ length r) (s : Stands (nodes rs k) o r) where
    down : nodes rs (suc k) ≡ joined (map children s.before) ++ (first_half r ∷ second_half r ∷ joined (map children s.after))
    unfolding nodes joined
    down =
        ap (λ (t : List (List ℕ)). joined (map children t)) s.is
        ∙ ap (λ (t : List (List (List ℕ))). joined t) (map-append children s.before (r ∷ s.after))
        ∙ joined_append (map children s.before) (children r ∷ map children s.after)
        ∙ ap (λ (t : List (List ℕ)). joined (map children s.before) ++ (t ++ joined (map children s.after))) (children_wide r h)

    before_length : length (joined (joined (map children s.before))) ≡ o
    before_length = ap (λ (t : List ℕ). length t) (all_joined s.before) ∙ s.off

    pub left_stands : Stands (nodes rs (suc k)) o (first_half r)
    left_stands = record { before = joined (map children s.before); after = second_half r ∷ joined (map children s.after); is = down; off = before_length }

    pub right_stands : Stands (nodes rs (suc k)) (o + half (length r)) (second_half r)
    right_stands = record {
      before = joined (map children s.before) ++ (first_half r ∷ []);
      after = joined (map children s.after);
      is = down ∙ sym (append_assoc (joined (map children s.before)) (first_half r ∷ []) (second_half r ∷ joined (map children s.after)));
      off =
          let front = joined (map children s.before) in
          rw (joined_append front (first_half r ∷ []), joined_one (first_half r))
          (omega (arith, length-append (joined front) (first_half r), before_length, first_length r));
    }

  nodes_small : (k m : ℕ) → length (x_order rs) ≤ 2 ^ (k + m) → All (λ r. length r ≤ 2 ^ m) (nodes rs k)
  unfolding nodes
  nodes_small zero m h = All.also (rw (zero_plus m) at h) All.none
    where
      zero_plus : (m : ℕ) → 0 + m ≡ m
      zero_plus m = omega arith
  nodes_small (suc k) m h = children_small m (nodes_small k (suc m) (rw (shift k m) at h))
    where
      shift : (k m : ℕ) → suc k + m ≡ k + suc m
      shift k m = omega arith

  -- on a level of runs of one the slots are the runs
  flat_slots : {l : List (List ℕ)} → All (λ r. length r ≤ 1) l → joined (map (slots rs) l) ≡ joined l
  unfolding joined
  flat_slots All.none = refl
  flat_slots (All.also {x = x} p h) = ap₂ (λ (s t : List ℕ). s ++ t) (sort_short (by (low_y rs) ltb) x p) (flat_slots h)

  -- ---- lengths
  abbrev n : ℕ
  n = length rs

  pub order_length : length (x_order rs) ≡ n
  order_length = sort_length _ (positions n) ∙ positions_length n

  pub slots_length : (r : List ℕ) → length (slots rs r) ≡ length r
  slots_length r = sort_length (by (low_y rs) ltb) r

  counts_length : (r : List ℕ) → length (counts rs r) ≡ length r
  counts_length r = length-map (positions (length r)) (count_at rs r) ∙ positions_length (length r)

  level_size : (k : ℕ) → length (joined (nodes rs k)) ≡ n
  level_size k = ap (λ (t : List ℕ). length t) (nodes_joined k) ∙ order_length

  level_length : (k : ℕ) → length (level_words rs k) ≡ 2 * n
  unfolding level_words
  level_length k =
      let A = joined (map (slots rs) (nodes rs k)) in
      let B = joined (map (counts rs) (nodes rs k)) in
      omega (
        arith,
        length-map (A ++ B) (λ p. pos p),
        length-append A B,
        joined_keeps (slots rs) slots_length (nodes rs k),
        joined_keeps (counts rs) counts_length (nodes rs k),
        level_size k,
      )

  pub levels_length : length (levels_words rs) ≡ 2 * n * D n
  unfolding levels_words
  levels_length = numbered_length (level_words rs) (2 * n) level_length (D n)

  -- the last level holds nodes of one
  pub deep : n ≤ 2 ^ (D n - 1)
  deep =
      let e : D n - 1 ≡ digits (n - 1) = omega arith in
      rw e (omega (arith, digits_bound (n - 1)))

  -- ---- where they stand
  module _ (ws : List ℤ) (stand : At ws (levels_at n) (levels_words rs)) where
    abbrev place : ℕ → ℕ
    place k = levels_at n + 2 * n * k

    level_at_is : (k : ℕ) → k < D n → At ws (place k) (level_words rs k)
    unfolding levels_words
    level_at_is k h = at_numbered ws (level_words rs) (2 * n) level_length (D n) (levels_at n) k h stand

    halves_at : (k : ℕ) → k < D n → At ws (place k) (as_words (joined (map (slots rs) (nodes rs k)))) × At ws (place k + n) (as_words (joined (map (counts rs) (nodes rs k))))
    unfolding level_words
    halves_at k h =
        let A = joined (map (slots rs) (nodes rs k)) in
        let B = joined (map (counts rs) (nodes rs k)) in
        let c = at_cut ws (place k) A B (level_at_is k h) in
        (c.0, subst (λ (t : ℕ). At ws (place k + t) (as_words B)) (joined_keeps (slots rs) slots_length (nodes rs k) ∙ level_size k) c.1)

    pub slots_at : (k o : ℕ) (r : List ℕ) → k < D n → Stands (nodes rs k) o r → At ws (place k + o) (as_words (slots rs r))
    slots_at k o r h s = at_joined ws (place k) (slots rs) slots_length s (halves_at k h).0

    pub counts_at : (k o : ℕ) (r : List ℕ) → k < D n → Stands (nodes rs k) o r → At ws (place k + n + o) (as_words (counts rs r))
    counts_at k o r h s = at_joined ws (place k + n) (counts rs) counts_length s (halves_at k h).1

    -- a run of the order of all low ends, on the last level t
    pub run_at : (k o : ℕ) (r : List ℕ) (t : ℕ) → suc t ≡ D n → Stands (nodes rs k) o r → At ws (place t + o) (as_words r)
    run_at k o r t e s =
        let last : D n - 1 ≡ t + 0 = omega arith in
        let small : length (x_order rs) ≤ 2 ^ (t + 0) = omega (arith, order_length, deep, ap (λ (x : ℕ). 2 ^ x) last) in
        let flat = flat_slots (all_map (λ r g. one r g) (nodes_small t 0 small)) in
        let all : joined (map (slots rs) (nodes rs t)) ≡ joined (map (λ x. x) (nodes rs k)) =
        flat ∙ nodes_joined t ∙ sym (nodes_joined k) ∙ ap (λ (z : List (List ℕ)). joined z) (sym (map-id (nodes rs k))) in
        at_joined ws (place t) (λ x. x) (λ r. refl) s (subst (λ (z : List ℕ). At ws (place t) (as_words z)) all (halves_at t (omega arith)).0)
      where
        one : (r : List ℕ) → length r ≤ 2 ^ 0 → length r ≤ 1
        one r g = omega arith
