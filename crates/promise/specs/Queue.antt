-- The queue of a block, low or high: on the words of a list of positions the walk is `events` of that list; what these list, and how many they visit.
-- Use: `queue_walk_is` for the words; `queue_lists`, `queue_visits`, `queue_clean` for the events. No order of the band's edges is assumed.
use Rattle.std.specs.Prelude.{◌≡◌, true, false, ◌&&◌, drop, ℤ, pos, T, ltb}
use Rattle.std.proofs.Math.Path.{refl, sym, ap, ap₂}
use Rattle.std.proofs.Common.{◌∙◌, subst, zero-add}
use mathlib.Core.List.{List, [], ◌∷◌, ◌++◌}
use Rattle.std.proofs.Math.Bool.{Bool, not}
use Prim.Native.Nat.{ℕ, zero, suc, ◌+◌, ◌-◌, ◌*◌, ◌^◌, ◌≤◌, ◌<◌}
use Rattle.std.proofs.Math.Nat.{two-pow-succ}
use native.Mathlib.Omega.{arith}
use Rattle.std.proofs.Math.ListN.{length, length-append}
use Rattle.std.specs.Int.Signed.{le_z}
use Rattle.lists.specs.Plain.{half, first_half, second_half, count, by}
use Rattle.lists.specs.Tests.{gate, gate_le, gate_skip, gate_zero, fail_right, fail_left, by_flag, yes_not, not_not, both}
use Rattle.lists.specs.Orders.{Order, ℤ_order, fail_down, fail_up, lt_z_not, up_to, ltb_linear, by_order, greatest_order, by_key, greatest_key}
use Rattle.lists.specs.Every.{All, all_map, all_take, all_drop, head_all, head_sorted, sorted_map, sorted_take}
use Rattle.lists.specs.Counting.{count_nil, count_one, count_cons, count_append, count_when, count_head, count_split, count_none, count_length}
use Rattle.lists.specs.Sorting.{sort_count, sort_length, sort_all, sort_sorted}
use Rattle.lists.specs.Halves.{first_length, second_length, ByKey, below_last, above_first}
use Rattle.paper.specs.Descriptor.{at}
use Rattle.paper.specs.Words.{Axis, End, low, high, near_of, far_of, level_of, taken_before, ranked, taken, others, split_of, queue_words_to}
use Rattle.paper.specs.Walk.{atQueue, Event, visit, due, when, word, record_at, condition, in_band, queue_at, queue_walk_to}
use Rattle.paper.specs.declared.Segment.{Segment}
use Rattle.paper.specs.declared.Window.{Window}
use Rattle.promise.specs.Places.{At, at_append}
use Rattle.promise.specs.Events.{is_due, is_visit, is_spoiled, Clean, visits_of, position_read}

-- ---- numbers and tests: one node of a queue

-- what the tests t (condition), b (band), c and d (split) let through of a node
node_sum : (q t b c d : Bool) (cl cr nl nr : ℕ) → cl ≡ nl → cr ≡ nr → (T (not t) → nl + nr ≡ 0) → (T (not c) → nl ≡ 0) → (T (not d) → nr ≡ 0)
    → 0 + gate t (gate b (gate q 1) + (gate c cl + gate d cr)) ≡ gate (q && (t && b)) 1 + (nl + nr)
node_sum q t b c d cl cr nl nr el er ht hc hd = zero-add _ ∙ simp (el, er, gate_skip c nl hc, gate_skip d nr hd) (gates q t b (nl + nr) ht)
  where
    gates : (q t b : Bool) (n : ℕ) → (T (not t) → n ≡ 0) → gate t (gate b (gate q 1) + n) ≡ gate (q && (t && b)) 1 + n
    gates true true true n h = refl
    gates true true false n h = refl
    gates true false b n h = omega (arith, h tt)
    gates false true true n h = refl
    gates false true false n h = refl
    gates false false b n h = omega (arith, h tt)

-- what a queue of depth h costs beside twice what it lists: 2h for each edge of the band that may cut its levels, and one visit
abbrev pub cost : (lo hi : Bool) → ℕ → ℕ
cost lo hi h = gate lo (2 * h) + gate hi (2 * h) + 1

node_cost : (t p c d lo hi : Bool) (h kl kr vl vr : ℕ) → (T t → T (not lo) → T (not hi) → T p)
    → vl ≤ 2 * kl + cost lo (hi && not d) h → vr ≤ 2 * kr + cost (lo && not c) hi h
    → 1 + gate t (0 + (gate c vl + gate d vr)) ≤ 2 * (gate p 1 + (kl + kr)) + cost lo hi (suc h)
node_cost false p c d lo hi h kl kr vl vr i x y = omega arith
node_cost true true c d false false h kl kr vl vr i x y = omega (arith, gate_le c vl, gate_le d vr)
node_cost true false c d false false h kl kr vl vr i x y = absurd (i tt tt tt)
node_cost true p true d true false h kl kr vl vr i x y = omega (arith, gate_le d vr)
node_cost true p false d true false h kl kr vl vr i x y = omega (arith, gate_le d vr)
node_cost true p c true false true h kl kr vl vr i x y = omega (arith, gate_le c vl)
node_cost true p c false false true h kl kr vl vr i x y = omega (arith, gate_le c vl)
node_cost true p true true true true h kl kr vl vr i x y = omega arith
node_cost true p true false true true h kl kr vl vr i x y = omega arith
node_cost true p false d true true h kl kr vl vr i x y = omega (arith, gate_le d vr)

module _ (rs : List Segment) (axis : Axis) (end : End) where
  -- ---- the one taken, and the others
  abbrev before : ℕ → ℕ → Bool
  before = taken_before rs axis end

  abbrev level : ℕ → ℤ
  level = level_of rs axis

  abbrev first : ℕ → List ℕ → ℕ
  first p ps = taken rs axis end p ps

  abbrev rest : ℕ → List ℕ → List ℕ
  rest p ps = others rs axis end p ps

  level_order_is : Order (up_to (by level ltb))
  level_order_is = by_order level ltb ltb_linear.order

  before_order : Order (up_to before)
  before_order = go end
    where
      go : (end : End) → Order (up_to (taken_before rs axis end))
      go low = by_order (near_of rs axis) (by (level_of rs axis) ltb) (by_order (level_of rs axis) ltb ltb_linear.order)
      go high = greatest_order (far_of rs axis) (by (level_of rs axis) ltb) (by_order (level_of rs axis) ltb ltb_linear.order)

  some_ranked : (p : ℕ) (ps : List ℕ) → 1 ≤ length (ranked rs axis end (p ∷ ps))
  some_ranked p ps = omega (arith, sort_length before (p ∷ ps))

  taken_count : (q : ℕ → Bool) (p : ℕ) (ps : List ℕ) → count q (p ∷ ps) ≡ gate (q (first p ps)) 1 + count q (rest p ps)
  taken_count q p ps =
      sym (sort_count before q (p ∷ ps))
      ∙ count_head q p (ranked rs axis end (p ∷ ps)) (some_ranked p ps)
      ∙ ap (λ (k : ℕ). gate (q (first p ps)) 1 + k) (sym (sort_count (by level ltb) q (drop 1 (ranked rs axis end (p ∷ ps)))))

  rest_length : (p : ℕ) (ps : List ℕ) → length (rest p ps) ≡ length ps
  rest_length p ps = omega (arith, taken_count (λ x. true) p ps, count_length (p ∷ ps), count_length (rest p ps))

  left_length : (p : ℕ) (ps : List ℕ) → length (first_half (rest p ps)) ≡ half (length ps)
  left_length p ps = first_length (rest p ps) ∙ ap half (rest_length p ps)

  right_length : (p : ℕ) (ps : List ℕ) → length (second_half (rest p ps)) ≡ length ps - half (length ps)
  right_length p ps = second_length (rest p ps) ∙ ap (λ (k : ℕ). k - half k) (rest_length p ps)

  taken_all : {R : ℕ → Type 0} (p : ℕ) (ps : List ℕ) → All R (p ∷ ps) → R (first p ps) × All R (rest p ps)
  taken_all p ps h =
      let k = head_all p (some_ranked p ps) (sort_all before h) in
      (k.0, sort_all (by level ltb) k.1)

  rest_levels : (p : ℕ) (ps : List ℕ) → ByKey le_z ℤ_order level (rest p ps)
  rest_levels p ps = sorted_map (by_key level ltb) (sort_sorted (by level ltb) level_order_is (drop 1 (ranked rs axis end (p ∷ ps))))

  taken_best : (p : ℕ) (ps : List ℕ) → All (λ y. T (up_to before (first p ps) y)) (rest p ps)
  taken_best p ps = sort_all (by level ltb) (head_sorted p (some_ranked p ps) (sort_sorted before before_order (p ∷ ps)))

  -- the split lies between the levels of the two halves
  abbrev split_at : List ℕ → ℤ
  split_at r = split_of rs axis (first_half r)

  split_below : {r : List ℕ} → ByKey le_z ℤ_order level r → All (λ y. T (le_z (level y) (split_at r))) (first_half r)
  split_below {r} s = below_last le_z ℤ_order level (pos 0) (sorted_take (half (length r)) s)

  split_above : {r : List ℕ} → ByKey le_z ℤ_order level r → All (λ y. T (le_z (split_at r) (level y))) (second_half r)
  split_above s = above_first le_z ℤ_order level (pos 0) s

  -- two words a position
  pub queue_length : (f : ℕ) (ps : List ℕ) → length ps ≤ f → length (queue_words_to rs axis f end ps) ≡ 2 * length ps
  unfolding queue_words_to
  queue_length zero [] h = refl
  queue_length zero (p ∷ ps) h = omega arith
  queue_length (suc f) [] h = refl
  queue_length (suc f) (p ∷ ps) h =
      let r = rest p ps in
      let l = left_length p ps in
      let m = right_length p ps in
      omega (
        arith,
        length-append (queue_words_to rs axis f end (first_half r)) (queue_words_to rs axis f end (second_half r)),
        queue_length f (first_half r) (omega arith),
        queue_length f (second_half r) (omega arith),
      )

  -- ---- the walk over a list, with the words that its visits stand at
  module _ (e lo hi : ℤ) where
    abbrev passes : ℕ → Bool
    passes p = condition axis e end (at rs p)

    abbrev banded : ℕ → Bool
    banded p = in_band axis lo hi (at rs p)

    -- what a queue lists: its condition holds and the level is in the band
    abbrev pub hit : ℕ → Bool
    hit p = passes p && banded p

    abbrev node : (i m : ℕ) (split : ℤ) (left right : List Event) → List Event
    node i m split left right = visit atQueue i ∷ when (passes m) (when (banded m) (due m ∷ []) ++ (when (le_z lo split) left ++ when (le_z split hi) right))

    unfoldable pub events : ℕ → List ℕ → ℕ → List Event
    events zero ps i = []
    events (suc f) [] i = []
    events (suc f) (p ∷ ps) i =
        node i (first p ps) (split_at (rest p ps)) (events f (first_half (rest p ps)) (i + 2)) (events f (second_half (rest p ps)) (i + 2 + 2 * half (length ps)))

    module _ (ws : List ℤ) (n : ℕ) (w : Window) where
      read_node : (i m : ℕ) (split : ℤ) (left right : List Event) → word ws i ≡ pos m → word ws (i + 1) ≡ split → m < n → record_at ws m ≡ at rs m
          → queue_at ws n w axis e lo hi end i left right ≡ node i m split left right
      unfolding queue_at
      read_node i m split left right a b h k =
          ap (λ (es : List Event). visit atQueue i ∷ es)
          (position_read n (word ws i) m _ a h
          ∙ ap₂ (λ (s : Segment) (z : ℤ). when (condition axis e end s) (when (in_band axis lo hi s) (due m ∷ []) ++ (when (le_z lo z) left ++ when (le_z z hi) right))) k b)

      -- over the words of a list the walk is the list's
      pub queue_walk_is : ((p : ℕ) → p < n → record_at ws p ≡ at rs p) → (f : ℕ) (ps : List ℕ) (i : ℕ) → length ps ≤ f → All (λ p. p < n) ps
          → At ws i (queue_words_to rs axis f end ps) → queue_walk_to ws n w axis e lo hi f end (length ps) i ≡ events f ps i
      unfolding queue_words_to queue_walk_to events
      queue_walk_is reads zero ps i h a k = refl
      queue_walk_is reads (suc f) [] i h a k = refl
      queue_walk_is reads (suc f) (p ∷ ps) i h a k =
          let r = rest p ps in
          let lf = left_length p ps in
          let ls = right_length p ps in
          let al = taken_all p ps a in
          let parts = at_append ws (suc (suc i)) (queue_words_to rs axis f end (first_half r)) (queue_words_to rs axis f end (second_half r)) k.1.1 in
          let two : suc (suc i) ≡ i + 2 = omega arith in
          let one : suc i ≡ i + 1 = omega arith in
          let off : suc (suc i) + length (queue_words_to rs axis f end (first_half r)) ≡ i + 2 + 2 * half (length ps) = omega (arith, queue_length f (first_half r) (omega arith)) in
          let il = queue_walk_is reads f (first_half r) (i + 2) (omega arith) (all_take (half (length r)) al.1) (rw two at parts.0) in
          let ir = queue_walk_is reads f (second_half r) (i + 2 + 2 * half (length ps)) (omega arith) (all_drop (half (length r)) al.1) (rw off at parts.1) in
          ap₂ (λ (u v : List Event). queue_at ws n w axis e lo hi end i u v) (rw lf at il) (rw ls at ir)
          ∙ read_node i (first p ps) (split_at r) _ _ k.0 (rw one at k.1.0) al.0 (reads (first p ps) al.0)

    -- ---- what it lists and visits
    node_tally : (q : Event → Bool) (i m : ℕ) (split : ℤ) (left right : List Event) → count q (node i m split left right)
        ≡ gate (q (visit atQueue i)) 1 + gate (passes m) (gate (banded m) (gate (q (due m)) 1) + (gate (le_z lo split) (count q left) + gate (le_z split hi) (count q right)))
    node_tally q i m split left right =
        count_cons q (visit atQueue i) _
        ∙ ap (λ (k : ℕ). gate (q (visit atQueue i)) 1 + k) (simp (count_when, count_append, count_one) refl)

    -- where the condition fails on the one taken it fails on the others
    stop : (m y : ℕ) → T (up_to before m y) → T (not (passes m)) → T (not (passes y))
    stop m y = go end
      where
        go : (end : End) → T (up_to (taken_before rs axis end) m y) → T (not (condition axis e end (at rs m))) → T (not (condition axis e end (at rs y)))
        go low h k =
            let em : T (le_z e (near_of rs axis m)) = not_not (le_z e (near_of rs axis m)) (subst (λ (b : Bool). T (not b)) (lt_z_not (near_of rs axis m) e) k) in
            let ey : T (le_z e (near_of rs axis y)) = ℤ_order.trans e (near_of rs axis m) (near_of rs axis y) em (by_key (near_of rs axis) (by (level_of rs axis) ltb) m y h) in
            subst (λ (b : Bool). T (not b)) (sym (lt_z_not (near_of rs axis y) e)) (yes_not (le_z e (near_of rs axis y)) ey)
        go high h k = fail_down le_z ℤ_order e (far_of rs axis m) (far_of rs axis y) k (greatest_key (far_of rs axis) (by (level_of rs axis) ltb) m y h)

    pub queue_clean : (f : ℕ) (ps : List ℕ) (i : ℕ) → Clean (events f ps i)
    unfolding events count
    queue_clean zero ps i = refl
    queue_clean (suc f) [] i = refl
    queue_clean (suc f) (p ∷ ps) i =
        let r = rest p ps in
        node_tally is_spoiled i (first p ps) (split_at r) (events f (first_half r) (i + 2)) (events f (second_half r) (i + 2 + 2 * half (length ps)))
        ∙ simp (queue_clean f (first_half r) (i + 2), queue_clean f (second_half r) (i + 2 + 2 * half (length ps)), gate_zero) refl

    -- every test counts on what is due as on those of the list that are hit
    pub queue_lists : (q : ℕ → Bool) (f : ℕ) (ps : List ℕ) (i : ℕ) → length ps ≤ f → count (is_due q) (events f ps i) ≡ count (λ x. q x && hit x) ps
    unfolding events
    queue_lists q zero [] i h = count_nil (is_due q) ∙ sym (count_nil (λ x. q x && hit x))
    queue_lists q zero (p ∷ ps) i h = absurd (omega arith)
    queue_lists q (suc f) [] i h = count_nil (is_due q) ∙ sym (count_nil (λ x. q x && hit x))
    queue_lists q (suc f) (p ∷ ps) i h =
        let r = rest p ps in
        let m = first p ps in
        let s = rest_levels p ps in
        let c = split_at r in
        let u : ℕ → Bool = λ y. q y && hit y in
        let lf = left_length p ps in
        let ls = right_length p ps in
        let j = half (length r) in
        node_tally (is_due q) i m c (events f (first_half r) (i + 2)) (events f (second_half r) (i + 2 + 2 * half (length ps)))
        ∙ node_sum (q m) (passes m) (banded m) (le_z lo c) (le_z c hi) _ _ (count u (first_half r)) (count u (second_half r))
        (queue_lists q f (first_half r) (i + 2) (omega arith))
        (queue_lists q f (second_half r) (i + 2 + 2 * half (length ps)) (omega arith))
        (λ k. sym (count_split u j r) ∙ count_none u (all_map (λ y g. fail_right (q y) _ (fail_left (passes y) _ (stop m y g k))) (taken_best p ps)))
        (λ k. count_none u (all_map (λ y g. fail_right (q y) _ (fail_right (passes y) _ (fail_left (le_z lo (level y)) _ (fail_down le_z ℤ_order lo c (level y) k g)))) (split_below s)))
        (λ k. count_none u (all_map (λ y g. fail_right (q y) _ (fail_right (passes y) _ (fail_right (le_z lo (level y)) _ (fail_up le_z ℤ_order c hi (level y) k g)))) (split_above s)))
        ∙ omega (arith, taken_count u p ps, count_split u j r)

    -- the flags say which edge of the band may cut the levels; both may where nothing is known
    pub queue_visits : (cutLow cutHigh : Bool) (f h : ℕ) (ps : List ℕ) (i : ℕ) → length ps < 2 ^ h
        → (T (not cutLow) → All (λ x. T (le_z lo (level x))) ps) → (T (not cutHigh) → All (λ x. T (le_z (level x) hi)) ps)
        → visits_of (events f ps i) ≤ 2 * count hit ps + cost cutLow cutHigh h
    unfolding events
    queue_visits cl ch zero h ps i g il ih = omega (arith, count_nil is_visit)
    queue_visits cl ch (suc f) h [] i g il ih = omega (arith, count_nil is_visit)
    queue_visits cl ch (suc f) zero (p ∷ ps) i g il ih = absurd (omega arith)
    queue_visits cl ch (suc f) (suc h) (p ∷ ps) i g il ih =
        let r = rest p ps in
        let m = first p ps in
        let s = rest_levels p ps in
        let c = split_at r in
        let j = half (length r) in
        let lf = left_length p ps in
        let ls = right_length p ps in
        let gl : length (first_half r) < 2 ^ h = omega (arith, two-pow-succ h) in
        let gr : length (second_half r) < 2 ^ h = omega (arith, two-pow-succ h) in
        let dn = split_below s in
        let up = split_above s in
        rw (
          node_tally is_visit i m c (events f (first_half r) (i + 2)) (events f (second_half r) (i + 2 + 2 * half (length ps))),
          gate_zero (banded m),
          taken_count hit p ps,
          count_split hit j r,
        )
        (node_cost (passes m) (hit m) (le_z lo c) (le_z c hi) cl ch h (count hit (first_half r)) (count hit (second_half r)) _ _
        (λ k a b. both (passes m) (banded m) k (both (le_z lo (level m)) (le_z (level m) hi) (taken_all p ps (il a)).0 (taken_all p ps (ih b)).0))
        (queue_visits cl (ch && not (le_z c hi)) f h (first_half r) (i + 2) gl (λ a. all_take j (taken_all p ps (il a)).1)
        (by_flag ch (le_z c hi) (λ a. all_take j (taken_all p ps (ih a)).1) (λ k. all_map (λ y t. ℤ_order.trans (level y) c hi t k) dn)))
        (queue_visits (cl && not (le_z lo c)) ch f h (second_half r) (i + 2 + 2 * half (length ps)) gr
        (by_flag cl (le_z lo c) (λ a. all_drop j (taken_all p ps (il a)).1) (λ k. all_map (λ y t. ℤ_order.trans lo c (level y) k t) up))
        (λ b. all_drop j (taken_all p ps (ih b)).1)))
