-- The layered tree over lists: the walk of a node from p, as the list of what happens; what it lists, and how many it visits.
-- Use: `Run r` is what holds of every node; `tree_lists`, `tree_visits`, `tree_clean` for the events. No order of the window's edges is assumed.
use Rattle.std.specs.Prelude.{◌≡◌, ◌&&◌, ◌||◌, take, drop, get_or, ℤ, ltb}
use Rattle.std.proofs.Math.Path.{refl, sym}
use Rattle.std.proofs.Common.{ap, ap₂, ◌∙◌, subst, length-take, take_all, get_or-take, get_or-drop}
use mathlib.Core.List.{List, [], ◌∷◌, ◌++◌}
use Rattle.std.proofs.Math.Bool.{Bool, true, false, not}
use Prim.Native.Nat.{ℕ, zero, suc, ◌+◌, ◌-◌, ◌*◌, ◌^◌, ◌≤◌}
use Rattle.std.proofs.Math.Nat.{two-pow-succ}
use native.Mathlib.Omega.{arith}
use Rattle.std.proofs.Math.ListN.{length}
use Rattle.std.specs.Int.Signed.{le_z, lt_z}
use Rattle.std.proofs.Math.Dec.{T, T_not}
use Rattle.lists.specs.Plain.{within, half, first_half, second_half, count, by}
use Rattle.lists.specs.Tests.{cases, gate, gate_none, fail_right, fail_left, and_left, and_right, fst_of, snd_of, or_cases, or_in, or_more, both, not_not, yes_not, by_flag, is_true}
use Rattle.lists.specs.Orders.{ℤ_order, fail_down, fail_up, lt_z_not, ltb_linear, by_order, by_key}
use Rattle.lists.specs.Every.{All, all_map, all_take, all_drop, all_get_d, all_both, Sorted, sorted_get_d, sorted_map, sorted_take, sorted_drop, Distinct, elem_in, elem_out}
use Rattle.lists.specs.Counting.{count_nil, count_cons, count_append, count_split, count_none, count_same, count_length, count_parts}
use Rattle.lists.specs.Sorting.{sort_count, sort_sorted}
use Rattle.lists.specs.Halves.{first_length, second_length, ByKey, first_least, last_greatest}
use Rattle.lists.specs.Searching.{Rising, falls_short, rising_parts}
use Rattle.paper.specs.Descriptor.{at}
use Rattle.paper.specs.Words.{low_x, low_y, goes_left, slots, count_at}
use Rattle.paper.specs.Walk.{atNode, atSlot, Event, visit, due, when, by_ends}
use Rattle.paper.specs.Demands.{low_end_inside}
use Rattle.paper.specs.declared.Segment.{Segment}
use Rattle.paper.specs.declared.Window.{Window}
use Rattle.promise.specs.Events.{is_due, is_visit, is_spoiled, Clean, visits_of, dues_of}
use Rattle.promise.specs.Nodes.{slots_length}

-- what the walk of a tree of depth h costs beside what it lists: 3h for each edge of the window that may cut its run, and two visits
abbrev pub cost : (lo hi : Bool) → ℕ → ℕ
cost lo hi h = gate lo (3 * h) + gate hi (3 * h) + 2

-- one node: if c fails the left child is outside, if d fails the right one is
node_cost : (lo hi c d : Bool) (h kl kr vl vr : ℕ) → (T (not lo) → T (not hi) → ⊥) → (T (not c) → vl ≤ 1) → (T (not d) → vr ≤ 1)
    → vl ≤ kl + cost lo (hi && not d) h → vr ≤ kr + cost (lo && not c) hi h → 1 + (vl + vr) ≤ (kl + kr) + cost lo hi (suc h)
node_cost false false c d h kl kr vl vr i m n x y = absurd (i tt tt)
node_cost true false true d h kl kr vl vr i m n x y = omega arith
node_cost true false false d h kl kr vl vr i m n x y = omega (arith, m tt)
node_cost false true c true h kl kr vl vr i m n x y = omega arith
node_cost false true c false h kl kr vl vr i m n x y = omega (arith, n tt)
node_cost true true true true h kl kr vl vr i m n x y = omega arith
node_cost true true true false h kl kr vl vr i m n x y = omega (arith, n tt)
node_cost true true false d h kl kr vl vr i m n x y = omega (arith, m tt)

module _ (rs : List Segment) (w : Window) where
  abbrev X : ℕ → ℤ
  X = low_x rs

  abbrev Y : ℕ → ℤ
  Y = low_y rs

  -- x of the first and of the last low end of a run
  abbrev pub first_x : List ℕ → ℤ
  first_x r = X (get_or r 0 0)

  abbrev pub last_x : List ℕ → ℤ
  last_x r = X (get_or r (length r - 1) 0)

  abbrev out : List ℕ → Bool
  out r = lt_z (last_x r) w.a || lt_z w.b (first_x r)

  abbrev inn : List ℕ → Bool
  inn r = le_z w.a (first_x r) && le_z (last_x r) w.b

  -- how many of the first p slots of a node go left
  abbrev pub left_of : List ℕ → ℕ → ℕ
  left_of r p = count_at rs r p

  -- the first slot with y ≥ c
  abbrev pub start : List ℕ → ℕ
  start r = falls_short (λ x. le_z w.c (Y x)) r

  abbrev in_x : ℕ → Bool
  in_x x = within w.a w.b (X x)

  abbrev in_y : ℕ → Bool
  in_y x = within w.c w.d (Y x)

  -- low end in the window
  abbrev pub inside : ℕ → Bool
  inside x = low_end_inside w (at rs x)

  -- ---- what happens
  unfoldable pub slot_events : List ℕ → ℕ → List Event
  slot_events [] i = []
  slot_events (q ∷ l) i = visit atSlot i ∷ when (le_z (Y q) w.d) (due q ∷ slot_events l (i + 1))

  unfoldable pub events : ℕ → List ℕ → (p i : ℕ) → List Event
  events zero r p i = []
  events (suc f) r p i =
      visit atNode i ∷ by_ends w (first_x r) (last_x r)
      (slot_events (drop p (slots rs r)) (i + p))
      (events f (first_half r) (left_of r p) (i + 2 * length rs) ++ events f (second_half r) (p - left_of r p) (i + 2 * length rs + half (length r)))

  -- the three ways of a node
  by_ends_is : (P : List Event → Type 0) (r : List ℕ) (A B : List Event) → (T (out r) → P []) → (T (inn r) → P A) → (T (not (out r)) → T (not (inn r)) → P B)
      → P (by_ends w (first_x r) (last_x r) A B)
  by_ends_is P r A B f g h = cases P (not (out r)) _ [] (λ t. cases P (inn r) A B g (λ u. h t u)) (λ t. f (not_not (out r) t))

  -- ---- what holds of every node: by x of low end, no two alike
  pub record Run (r : List ℕ) : Type 0 where
    pub some : 1 ≤ length r
    pub ordered : ByKey le_z ℤ_order X r
    pub distinct : Distinct r

  pub left_run : {r : List ℕ} → 2 ≤ length r → Run r → Run (first_half r)
  left_run {r} h v = record { some = omega (arith, first_length r); ordered = sorted_take (half (length r)) v.ordered; distinct = sorted_take (half (length r)) v.distinct }

  pub right_run : {r : List ℕ} → 2 ≤ length r → Run r → Run (second_half r)
  right_run {r} h v = record { some = omega (arith, second_length r); ordered = sorted_drop (half (length r)) v.ordered; distinct = sorted_drop (half (length r)) v.distinct }

  -- a node of one is outside or inside, so that one which is neither has two
  pub wide : {r : List ℕ} → Run r → T (not (out r)) → T (not (inn r)) → 2 ≤ length r
  wide {r} v h k = go r v.some h k
    where
      one : (a b z : ℤ) → T (not (lt_z z a || lt_z b z)) → T (not (le_z a z && le_z z b)) → ⊥
      one a b z h k = decide (le_z a z) (le_z z b) (subst (λ (t : Bool). T (not t)) (ap₂ (λ (s t : Bool). s || t) (lt_z_not z a) (lt_z_not b z)) h) k
        where
          decide : (s t : Bool) → T (not (not s || not t)) → T (not (s && t)) → ⊥
          decide true true h k = k
          decide true false h k = h
          decide false t h k = h

      go : (r : List ℕ) → 1 ≤ length r → T (not (out r)) → T (not (inn r)) → 2 ≤ length r
      go [] n h k = absurd (omega arith)
      go (x ∷ []) n h k = absurd (one w.a w.b (X x) h k)
      go (x ∷ y ∷ l) n h k = omega arith

  -- the left child ends no later than the right one begins
  halves_apart : {r : List ℕ} → Run r → 2 ≤ length r → T (le_z (last_x (first_half r)) (first_x (second_half r)))
  halves_apart {r} v h =
      let m = half (length r) in
      let e : length (first_half r) - 1 ≡ m - 1 = omega (arith, first_length r) in
      let l : get_or (first_half r) (length (first_half r) - 1) 0 ≡ get_or r (m - 1) 0 = ap (λ (k : ℕ). get_or (first_half r) k 0) e ∙ get_or-take m r (m - 1) 0 (omega arith) in
      subst T (ap₂ (λ (x y : ℕ). le_z (X x) (X y)) (sym l) (sym (get_or-drop m r 0 0))) (sorted_get_d (m - 1) (m + 0) 0 (omega arith) (omega arith) v.ordered)

  -- ---- slots and counts
  slots_count : (q : ℕ → Bool) (r : List ℕ) → count q (slots rs r) ≡ count q r
  slots_count q r = sort_count (by Y ltb) q r

  pub slots_sorted : (r : List ℕ) → ByKey le_z ℤ_order Y (slots rs r)
  slots_sorted r = sorted_map (by_key Y ltb) (sort_sorted (by Y ltb) (by_order Y ltb ltb_linear.order) r)

  pub slots_rising : (r : List ℕ) → Rising (λ x. le_z w.c (Y x)) (slots rs r)
  slots_rising r = sorted_map (λ x y h k. ℤ_order.trans w.c (Y x) (Y y) k h) (slots_sorted r)

  -- the slots before start are below c, those from it on are not
  from_start : (r : List ℕ) → All (λ x. T (not (le_z w.c (Y x)))) (take (start r) (slots rs r)) × All (λ x. T (le_z w.c (Y x))) (drop (start r) (slots rs r))
  from_start r = rw (slots_count (λ x. not (le_z w.c (Y x))) r) at (rising_parts (λ x. le_z w.c (Y x)) (slots_rising r))

  goes_first : (r : List ℕ) → All (λ x. T (goes_left r x)) (first_half r)
  goes_first r = elem_in (first_half r)

  goes_second : {r : List ℕ} → Run r → All (λ x. T (not (goes_left r x))) (second_half r)
  goes_second {r} v = elem_out (half (length r)) v.distinct

  -- left start is the left child's, the rest is the right child's
  left_start : {r : List ℕ} → Run r → left_of r (start r) ≡ start (first_half r)
  left_start {r} v =
      let low : ℕ → Bool = λ x. not (le_z w.c (Y x)) in
      let u : ℕ → Bool = λ x. low x && goes_left r x in
      let e1 = count_same {p = u} {q = goes_left r} (all_map (λ x g. and_left (low x) (goes_left r x) g) (from_start r).0) in
      let e2 = count_none u (all_map (λ x g. fail_left (low x) (goes_left r x) (yes_not (le_z w.c (Y x)) g)) (from_start r).1) in
      let e3 = count_same {p = u} {q = low} (all_map (λ x g. and_right (low x) (goes_left r x) g) (goes_first r)) in
      let e4 = count_none u (all_map (λ x g. fail_right (low x) (goes_left r x) g) (goes_second v)) in
      omega (arith, e1, e2, e3, e4, count_split u (start r) (slots rs r), slots_count u r, count_split u (half (length r)) r)

  right_start : {r : List ℕ} → Run r → start r - left_of r (start r) ≡ start (second_half r)
  right_start {r} v = omega (arith, left_start v, count_split (λ x. not (le_z w.c (Y x))) (half (length r)) r)

  -- at the node's end the count is the left half's size
  pub left_full : {r : List ℕ} → Run r → left_of r (length r) ≡ half (length r)
  left_full {r} v =
      let g = goes_left r in
      let e = count_same {p = g} {q = λ x. true} (all_map (λ x t. is_true (g x) t) (goes_first r)) in
      rw (take_all (length r) (slots rs r) (omega (arith, slots_length rs r)))
      (omega (arith, slots_count g r, count_split g (half (length r)) r, e, count_length (first_half r), count_none g (goes_second v), first_length r))

  -- no count is spoiled, from whichever slot
  pub left_sound : {r : List ℕ} (p : ℕ) → Run r → p ≤ length r → (left_of r p ≤ p) × ((left_of r p ≤ half (length r)) × (p - left_of r p ≤ length r - half (length r)))
  left_sound {r} p v h =
      let s = slots rs r in
      let g = goes_left r in
      let u : ℕ → Bool = λ x. not (goes_left r x) in
      let size = slots_length rs r in
      let all : count g s ≡ half (length r) = rw (take_all (length r) s (omega (arith, size))) at (left_full v) in
      let e1 = count_split g p s in
      let e2 = count_split u p s in
      let e3 = count_parts g (take p s) in
      let e4 = count_parts g s in
      let e5 : length (take p s) ≡ p = simp length-take (omega arith) in
      (omega arith, (omega arith, omega arith))

  -- ---- what the slots list and visit
  slots_list : (q : ℕ → Bool) {l : List ℕ} (i : ℕ) → ByKey le_z ℤ_order Y l → count (is_due q) (slot_events l i) ≡ count (λ x. q x && le_z (Y x) w.d) l
  unfolding slot_events count
  slots_list q i Sorted.none = refl
  slots_list q i (Sorted.next {x = x} {l = l} h s) = go (le_z (Y x) w.d) refl (slots_list q (i + 1) s)
    where
      go : (t : Bool) → le_z (Y x) w.d ≡ t → count (is_due q) (slot_events l (i + 1)) ≡ count (λ x. q x && le_z (Y x) w.d) l
          → 0 + count (is_due q) (when t (due x ∷ slot_events l (i + 1))) ≡ gate (q x && t) 1 + count (λ x. q x && le_z (Y x) w.d) l
      go true e ih = rw (and_right (q x) true tt) (omega arith)
      go false e ih =
          let k : T (not (le_z (Y x) w.d)) = rw e tt in
          sym (gate_none (q x && false) _ (fail_right (q x) false tt)
          (count_none (λ x. q x && le_z (Y x) w.d) (all_map (λ y g. fail_right (q y) _ (fail_up le_z ℤ_order (Y x) w.d (Y y) k g)) h)))

  slots_visit : (l : List ℕ) (i : ℕ) → visits_of (slot_events l i) ≤ dues_of (slot_events l i) + 1
  unfolding slot_events count
  slots_visit [] i = omega arith
  slots_visit (x ∷ l) i = go (le_z (Y x) w.d) (slots_visit l (i + 1))
    where
      go : (t : Bool) → visits_of (slot_events l (i + 1)) ≤ dues_of (slot_events l (i + 1)) + 1
          → 1 + visits_of (when t (due x ∷ slot_events l (i + 1))) ≤ 0 + dues_of (when t (due x ∷ slot_events l (i + 1))) + 1
      go true e = omega (arith, e)
      go false e = omega arith

  slots_clean : (l : List ℕ) (i : ℕ) → Clean (slot_events l i)
  unfolding slot_events count
  slots_clean [] i = refl
  slots_clean (x ∷ l) i = go (le_z (Y x) w.d) (slots_clean l (i + 1))
    where
      go : (t : Bool) → Clean (slot_events l (i + 1)) → 0 + count is_spoiled (when t (due x ∷ slot_events l (i + 1))) ≡ 0
      go true e = omega (arith, e)
      go false e = refl

  -- ---- what a node lists
  none_out : (q : ℕ → Bool) {r : List ℕ} → Run r → T (out r) → count (λ x. q x && inside x) r ≡ 0
  none_out q {r} v t = count_none _ (or_cases (lt_z (last_x r) w.a) (lt_z w.b (first_x r)) t
      (λ k. all_map (λ x g. fail_right (q x) _ (fail_left (in_x x) (in_y x) (fail_left (le_z w.a (X x)) (le_z (X x) w.b)
      (fail_down le_z ℤ_order w.a (last_x r) (X x) (subst T (lt_z_not (last_x r) w.a) k) g)))) (last_greatest le_z ℤ_order X 0 v.some v.ordered))
      (λ k. all_map (λ x g. fail_right (q x) _ (fail_left (in_x x) (in_y x) (fail_right (le_z w.a (X x)) (le_z (X x) w.b)
      (fail_up le_z ℤ_order (first_x r) w.b (X x) (subst T (lt_z_not w.b (first_x r)) k) g)))) (first_least le_z ℤ_order X 0 v.some v.ordered)))

  all_inn : {r : List ℕ} → Run r → T (inn r) → All (λ x. T (in_x x)) r
  all_inn {r} v t =
      all_both (λ x. le_z w.a (X x)) (λ x. le_z (X x) w.b)
      (all_map (λ x g. ℤ_order.trans w.a (first_x r) (X x) (fst_of (le_z w.a (first_x r)) _ t) g) (first_least le_z ℤ_order X 0 v.some v.ordered))
      (all_map (λ x g. ℤ_order.trans (X x) (last_x r) w.b g (snd_of (le_z w.a (first_x r)) _ t)) (last_greatest le_z ℤ_order X 0 v.some v.ordered))

  -- a node within a..b lists by its slots
  inn_list : (q : ℕ → Bool) (i : ℕ) {r : List ℕ} → Run r → T (inn r) → count (is_due q) (slot_events (drop (start r) (slots rs r)) i) ≡ count (λ x. q x && inside x) r
  inn_list q i {r} v t =
      let u : ℕ → Bool = λ x. q x && in_y x in
      let e1 = slots_list q i (sorted_drop (start r) (slots_sorted r)) in
      let e2 = count_same {p = u} {q = λ x. q x && le_z (Y x) w.d} (all_map (λ x g. rw (and_left (le_z w.c (Y x)) (le_z (Y x) w.d) g) refl) (from_start r).1) in
      let e3 = count_none u (all_map (λ x g. fail_right (q x) _ (fail_left (le_z w.c (Y x)) _ g)) (from_start r).0) in
      let e4 = count_same {p = λ x. q x && inside x} {q = u} (all_map (λ x g. rw (and_left (in_x x) (in_y x) g) refl) (all_inn v t)) in
      omega (arith, e1, e2, e3, e4, count_split u (start r) (slots rs r), slots_count u r)

  -- every test counts on what is due as on those of the run whose low end is inside; h bounds the depth
  pub tree_lists : (q : ℕ → Bool) (h : ℕ) (r : List ℕ) (i : ℕ) → Run r → length r ≤ 2 ^ h → count (is_due q) (events (suc h) r (start r) i) ≡ count (λ x. q x && inside x) r
  unfolding events
  tree_lists q zero r i v e =
      let u : ℕ → Bool = λ x. q x && inside x in
      rw (count_cons (is_due q) (visit atNode i))
      (by_ends_is (λ es. 0 + count (is_due q) es ≡ count u r) r _ _
      (λ t. omega (arith, count_nil (is_due q), none_out q v t))
      (λ t. omega (arith, inn_list q (i + start r) v t))
      (λ t k. absurd (omega (arith, wide v t k))))
  tree_lists q (suc h) r i v e =
      let u : ℕ → Bool = λ x. q x && inside x in
      let j = i + 2 * length rs in
      rw (count_cons (is_due q) (visit atNode i))
      (by_ends_is (λ es. 0 + count (is_due q) es ≡ count u r) r _ _
      (λ t. omega (arith, count_nil (is_due q), none_out q v t))
      (λ t. omega (arith, inn_list q (i + start r) v t))
      (λ t k.
      let two = wide v t k in
      let left = first_half r in
      let right = second_half r in
      rw (right_start v, left_start v)
      (omega (
        arith,
        count_append (is_due q) (events (suc h) left (start left) j) (events (suc h) right (start right) (j + half (length r))),
        tree_lists q h left j (left_run two v) (omega (arith, first_length r, two-pow-succ h)),
        tree_lists q h right (j + half (length r)) (right_run two v) (omega (arith, second_length r, two-pow-succ h)),
        count_split u (half (length r)) r,
      ))))

  pub tree_clean : (f : ℕ) (r : List ℕ) (p i : ℕ) → Clean (events f r p i)
  unfolding events
  tree_clean zero r p i = count_nil is_spoiled
  tree_clean (suc f) r p i =
      let j = i + 2 * length rs in
      rw (count_cons is_spoiled (visit atNode i))
      (by_ends_is (λ es. 0 + count is_spoiled es ≡ 0) r _ _
      (λ t. omega (arith, count_nil is_spoiled))
      (λ t. omega (arith, slots_clean (drop p (slots rs r)) (i + p)))
      (λ t k. omega (
        arith,
        count_append is_spoiled (events f (first_half r) (left_of r p) j) (events f (second_half r) (p - left_of r p) (j + half (length r))),
        tree_clean f (first_half r) (left_of r p) j,
        tree_clean f (second_half r) (p - left_of r p) (j + half (length r)),
      )))

  -- ---- what a node visits
  inn_visits : (lo hi : Bool) (h i : ℕ) {r : List ℕ} → Run r → T (inn r) → 1 + visits_of (slot_events (drop (start r) (slots rs r)) i) ≤ count inside r + cost lo hi h
  inn_visits lo hi h i {r} v t = omega (arith, slots_visit (drop (start r) (slots rs r)) i, inn_list (λ x. true) i v t)

  -- a node that is outside is one visit
  out_visits : (f : ℕ) (r : List ℕ) (p i : ℕ) → T (out r) → visits_of (events f r p i) ≤ 1
  unfolding events
  out_visits zero r p i t = omega (arith, count_nil is_visit)
  out_visits (suc f) r p i t =
      rw (count_cons is_visit (visit atNode i), is_true (out r) t)
      (omega (arith, count_nil is_visit))

  -- the flags say which edge of the window may cut the run; both may where nothing is known
  pub tree_visits : (cutLow cutHigh : Bool) (f h : ℕ) (r : List ℕ) (i : ℕ) → Run r → length r ≤ 2 ^ h
      → (T (not cutLow) → All (λ x. T (le_z w.a (X x))) r) → (T (not cutHigh) → All (λ x. T (le_z (X x) w.b)) r)
      → visits_of (events f r (start r) i) ≤ count inside r + cost cutLow cutHigh h
  unfolding events
  tree_visits cl ch zero h r i v e il ih = omega (arith, count_nil is_visit)
  tree_visits cl ch (suc f) zero r i v e il ih =
      rw (count_cons is_visit (visit atNode i))
      (by_ends_is (λ es. 1 + visits_of es ≤ count inside r + cost cl ch 0) r _ _
      (λ t. omega (arith, count_nil is_visit))
      (λ t. inn_visits cl ch 0 (i + start r) v t)
      (λ t k. absurd (omega (arith, wide v t k))))
  tree_visits cl ch (suc f) (suc h) r i v e il ih =
      let j = i + 2 * length rs in
      rw (count_cons is_visit (visit atNode i))
      (by_ends_is (λ es. 1 + visits_of es ≤ count inside r + cost cl ch (suc h)) r _ _
      (λ t. omega (arith, count_nil is_visit))
      (λ t. inn_visits cl ch (suc h) (i + start r) v t)
      (λ t k.
      let two = wide v t k in
      let left = first_half r in
      let right = second_half r in
      let m = half (length r) in
      let vl = left_run two v in
      let vr = right_run two v in
      let x = last_x left in
      let y = first_x right in
      let below = last_greatest le_z ℤ_order X 0 vl.some vl.ordered in
      let above = first_least le_z ℤ_order X 0 vr.some vr.ordered in
      let seam : T (le_z x y) = halves_apart v two in
      rw (right_start v, left_start v, count_split inside m r, count_append is_visit (events f left (start left) j) (events f right (start right) (j + m)))
      (node_cost cl ch (le_z w.a x) (le_z y w.b) h (count inside left) (count inside right) _ _
      (λ a b. T_not (inn r) k (both (le_z w.a (first_x r)) (le_z (last_x r) w.b) (all_get_d 0 0 (omega arith) (il a)) (all_get_d (length r - 1) 0 (omega arith) (ih b))))
      (λ a. out_visits f left (start left) j (or_in (lt_z x w.a) (lt_z w.b (first_x left)) (subst T (sym (lt_z_not x w.a)) a)))
      (λ a. out_visits f right (start right) (j + m) (or_more (lt_z (last_x right) w.a) (lt_z w.b y) (subst T (sym (lt_z_not w.b y)) a)))
      (tree_visits cl (ch && not (le_z y w.b)) f h left j vl (omega (arith, first_length r, two-pow-succ h)) (λ a. all_take m (il a))
      (by_flag ch (le_z y w.b) (λ a. all_take m (ih a)) (λ a. all_map (λ u g. ℤ_order.trans (X u) x w.b g (ℤ_order.trans x y w.b seam a)) below)))
      (tree_visits (cl && not (le_z w.a x)) ch f h right (j + m) vr (omega (arith, second_length r, two-pow-succ h))
      (by_flag cl (le_z w.a x) (λ a. all_drop m (il a)) (λ a. all_map (λ u g. ℤ_order.trans w.a x (X u) a (ℤ_order.trans x y (X u) seam g)) above))
      (λ a. all_drop m (ih a))))))
