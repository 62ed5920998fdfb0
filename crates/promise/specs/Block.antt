-- The blocks, over either axis: on the words of a list of positions the walk is `events` of that list; what these list, and how many they visit.
-- Use: `block_walk_is` for the words; `block_lists`, `block_visits`, `block_clean` for the events. `tidy` says that near ≤ far, as records have it.
use Rattle.std.specs.Prelude.{◌≡◌, false, not, ◌&&◌, ℤ, T, ltb, leb}
use Rattle.std.proofs.Math.Path.{refl, sym, ap₂}
use Rattle.std.proofs.Common.{◌∙◌, subst, suc-mul, mul-suc, le→leb}
use mathlib.Core.List.{List, [], ◌∷◌, ◌++◌}
use Rattle.std.proofs.Math.Bool.{Bool, true, cond}
use Prim.Native.Nat.{ℕ, zero, suc, ◌+◌, ◌-◌, ◌*◌, ◌/◌, ◌^◌, ◌≤◌, ◌<◌}
use Rattle.std.proofs.Math.Nat.{two-pow-succ}
use native.Mathlib.Omega.{arith}
use Rattle.std.proofs.Math.ListN.{length, replicate, length-append, length-replicate}
use Rattle.std.proofs.Math.IntN.{pos}
use Rattle.std.specs.Int.Signed.{le_z, lt_z}
use Rattle.lists.specs.Plain.{within, count, by, sort}
use Rattle.lists.specs.Tests.{cases, gate, fail_right, fail_left, and_left, and_right, fst_of, snd_of, is_true}
use Rattle.lists.specs.Orders.{ℤ_order, fail_down, lt_z_not, ltb_linear, by_order, by_key}
use Rattle.lists.specs.Every.{All, all_map, all_any, filter_holds, filter_keeps, sorted_map}
use Rattle.lists.specs.Counting.{count_nil, count_cons, count_append, count_none, count_same, count_length, count_mono, filter_count, filter_length}
use Rattle.lists.specs.Sorting.{sort_count, sort_length, sort_sorted}
use Rattle.lists.specs.Halves.{ByKey, place_below, place_above}
use Rattle.paper.specs.Descriptor.{at}
use Rattle.paper.specs.Words.{Axis, End, low, high, near_of, far_of, level_of, queue_words, centre_of, stays, lefts, rights, block_words_to}
use Rattle.paper.specs.Walk.{at_block, Event, visit, word, record_at, sizes_fit, queue_walk, block_at, block_walk_to}
use Rattle.paper.specs.Demands.{crosses}
use Rattle.paper.specs.declared.Segment.{Segment}
use Rattle.paper.specs.declared.Window.{Window}
use Rattle.promise.specs.Places.{At, at_append}
use Rattle.promise.specs.Events.{is_due, is_visit, is_spoiled, Clean, visits_of}
use Rattle.promise.specs.Queue as Q

-- of those with near ≤ far, exactly one of the three tests holds: s and t (near ≤ centre ≤ far), not t (far < centre), not s (near > centre)
three : (s t q : Bool) → (T (not s) → T t) → gate (q && (s && t)) 1 + (gate (q && not t) 1 + gate (q && not s) 1) ≡ gate q 1
three s t false f = refl
three true true true f = refl
three true false true f = refl
three false true true f = refl
three false false true f = absurd (f tt)

fits : (m s ml mr : ℕ) → 1 ≤ s → s + ml + mr ≡ m → sizes_fit m (pos s) (pos ml) (pos mr) ≡ true
fits m s ml mr h e =
    rw (
      is_true (leb 1 s) (le→leb 1 s h),
      is_true (leb 0 ml) (le→leb 0 ml (omega arith)),
      is_true (leb 0 mr) (le→leb 0 mr (omega arith)),
      is_true (leb (s + ml + mr) m) (le→leb (s + ml + mr) m (omega arith)),
      is_true (leb m (s + ml + mr)) (le→leb m (s + ml + mr) (omega arith)),
    ) refl

module _ (rs : List Segment) (axis : Axis) (tidy : (p : ℕ) → T (le_z (near_of rs axis p) (far_of rs axis p))) where
  abbrev near : ℕ → ℤ
  near = near_of rs axis

  abbrev far : ℕ → ℤ
  far = far_of rs axis

  -- ---- those that stay, go left, go right
  abbrev centre : ℕ → List ℕ → ℤ
  centre p ps = centre_of rs axis p ps

  abbrev stay : ℤ → List ℕ → List ℕ
  stay c ps = stays rs axis c ps

  abbrev left : ℤ → List ℕ → List ℕ
  left c ps = lefts rs axis c ps

  abbrev right : ℤ → List ℕ → List ℕ
  right c ps = rights rs axis c ps

  parts_one : (q : ℕ → Bool) (c : ℤ) (x : ℕ)
      → gate (q x && within (near x) (far x) c) 1 + (gate (q x && lt_z (far x) c) 1 + gate (q x && lt_z c (near x)) 1) ≡ gate (q x) 1
  parts_one q c x =
      rw (lt_z_not (far x) c, lt_z_not c (near x))
      (three (le_z (near x) c) (le_z c (far x)) (q x) (λ k. ℤ_order.trans c (near x) (far x) (ℤ_order.total (near x) c k) (tidy x)))

  parts : (q : ℕ → Bool) (c : ℤ) (l : List ℕ) → count q l ≡ count q (stay c l) + (count q (left c l) + count q (right c l))
  parts q c l =
      rw (filter_count q (λ x. within (near x) (far x) c) l, filter_count q (λ x. lt_z (far x) c) l, filter_count q (λ x. lt_z c (near x)) l)
      (sym (go l))
    where
      go : (l : List ℕ) → count (λ x. q x && within (near x) (far x) c) l + (count (λ x. q x && lt_z (far x) c) l + count (λ x. q x && lt_z c (near x)) l) ≡ count q l
      go [] = rw (count_nil q, count_nil (λ x. q x && within (near x) (far x) c), count_nil (λ x. q x && lt_z (far x) c), count_nil (λ x. q x && lt_z c (near x))) refl
      go (x ∷ l) =
          omega (
            arith,
            go l,
            parts_one q c x,
            count_cons q x l,
            count_cons (λ x. q x && within (near x) (far x) c) x l,
            count_cons (λ x. q x && lt_z (far x) c) x l,
            count_cons (λ x. q x && lt_z c (near x)) x l,
          )

  near_sorted : (l : List ℕ) → ByKey le_z ℤ_order near (sort (by near ltb) l)
  near_sorted l = sorted_map (by_key near ltb) (sort_sorted (by near ltb) (by_order near ltb ltb_linear.order) l)

  -- the centre is a median, so that neither child has more than half
  left_size : (p : ℕ) (ps : List ℕ) → length (left (centre p ps) (p ∷ ps)) ≤ length (p ∷ ps) / 2
  left_size p ps =
      let c = centre p ps in
      let n : length (sort (by near ltb) (p ∷ ps)) ≡ suc (length ps) = sort_length (by near ltb) (p ∷ ps) in
      let q : ℕ → Bool = λ y. not (le_z c (near y)) in
      let goes : ℕ → Bool = λ y. lt_z (far y) c in
      omega (
        arith,
        filter_length goes (p ∷ ps),
        place_below le_z ℤ_order near (length (p ∷ ps) / 2) p (omega arith) (near_sorted (p ∷ ps)),
        sort_count (by near ltb) q (p ∷ ps),
        count_mono goes q {l = p ∷ ps} (all_any (λ y k. fail_down le_z ℤ_order c (far y) (near y) (subst T (lt_z_not (far y) c) k) (tidy y)) (p ∷ ps)),
      )

  right_size : (p : ℕ) (ps : List ℕ) → length (right (centre p ps) (p ∷ ps)) + suc (length (p ∷ ps) / 2) ≤ length (p ∷ ps)
  right_size p ps =
      let c = centre p ps in
      let n : length (sort (by near ltb) (p ∷ ps)) ≡ suc (length ps) = sort_length (by near ltb) (p ∷ ps) in
      let q : ℕ → Bool = λ y. not (le_z (near y) c) in
      let goes : ℕ → Bool = λ y. lt_z c (near y) in
      omega (
        arith,
        filter_length goes (p ∷ ps),
        place_above le_z ℤ_order near (length (p ∷ ps) / 2) p (omega arith) (near_sorted (p ∷ ps)),
        sort_count (by near ltb) q (p ∷ ps),
        count_mono goes q {l = p ∷ ps} (all_any (λ y k. subst T (lt_z_not c (near y)) k) (p ∷ ps)),
      )

  sizes : (c : ℤ) (l : List ℕ) → length (stay c l) + length (left c l) + length (right c l) ≡ length l
  sizes c l = omega (arith, parts (λ x. true) c l, count_length l, count_length (stay c l), count_length (left c l), count_length (right c l))

  some_stay : (p : ℕ) (ps : List ℕ) → 1 ≤ length (stay (centre p ps) (p ∷ ps))
  some_stay p ps = omega (arith, left_size p ps, right_size p ps, sizes (centre p ps) (p ∷ ps))

  -- eight words a position
  pub block_length : (f : ℕ) (ps : List ℕ) → length ps ≤ f → length (block_words_to rs axis f ps) ≡ 8 * length ps
  unfolding block_words_to
  block_length zero [] h = refl
  block_length zero (p ∷ ps) h = omega arith
  block_length (suc f) [] h = refl
  block_length (suc f) (p ∷ ps) h =
      let c = centre p ps in
      let kept = stay c (p ∷ ps) in
      let zeros = replicate (4 * length kept - 4) (pos 0) in
      let b1 = block_words_to rs axis f (left c (p ∷ ps)) in
      let b2 = block_words_to rs axis f (right c (p ∷ ps)) in
      let q1 = queue_words rs axis low kept in
      let q2 = queue_words rs axis high kept in
      let l = left_size p ps in
      let r = right_size p ps in
      omega (
        arith,
        sizes c (p ∷ ps),
        some_stay p ps,
        length-append q1 (q2 ++ (zeros ++ (b1 ++ b2))),
        length-append q2 (zeros ++ (b1 ++ b2)),
        length-append zeros (b1 ++ b2),
        length-append b1 b2,
        length-replicate (4 * length kept - 4) (pos 0),
        Q.queue_length rs axis low (length kept) kept (omega arith),
        Q.queue_length rs axis high (length kept) kept (omega arith),
        block_length f (left c (p ∷ ps)) (omega arith),
        block_length f (right c (p ∷ ps)) (omega arith),
      )

  -- ---- the walk over a list, with the words that its visits stand at
  module _ (e lo hi : ℤ) where
    abbrev queue : End → List ℕ → ℕ → List Event
    queue end kept i = Q.events rs axis end e lo hi (length kept) kept i

    unfoldable pub events : ℕ → List ℕ → ℕ → List Event
    events zero ps i = []
    events (suc f) [] i = []
    events (suc f) (p ∷ ps) i =
        let c = centre p ps in
        let kept = stay c (p ∷ ps) in
        let s = length kept in
        let ml = length (left c (p ∷ ps)) in
        visit at_block i ∷ cond (le_z e c)
        (queue low kept (i + 4) ++ events f (left c (p ∷ ps)) (i + 8 * s))
        (queue high kept (i + 4 + 2 * s) ++ events f (right c (p ∷ ps)) (i + 8 * s + 8 * ml))

    module _ (ws : List ℤ) (n : ℕ) (w : Window) where
      read_block : (m i s ml mr : ℕ) (c : ℤ) (u v : List Event) → word ws i ≡ c → word ws (i + 1) ≡ pos s → word ws (i + 2) ≡ pos ml → word ws (i + 3) ≡ pos mr
          → 1 ≤ s → s + ml + mr ≡ m
          → block_at ws n w axis e lo hi m i u v
          ≡ visit at_block i ∷ cond (le_z e c) (queue_walk ws n w axis e lo hi low s (i + 4) ++ u) (queue_walk ws n w axis e lo hi high s (i + 4 + 2 * s) ++ v)
      unfolding block_at
      read_block m i s ml mr c u v e0 e1 e2 e3 h k = rw (e0, e1, e2, e3, fits m s ml mr h k) refl

      -- over the words of a list the walk is the list's
      pub block_walk_is : ((p : ℕ) → p < n → record_at ws p ≡ at rs p) → (f : ℕ) (ps : List ℕ) (i : ℕ) → length ps ≤ f → All (λ p. p < n) ps
          → At ws i (block_words_to rs axis f ps) → block_walk_to ws n w axis e lo hi f (length ps) i ≡ events f ps i
      unfolding block_words_to block_walk_to events
      block_walk_is reads zero ps i h a k = refl
      block_walk_is reads (suc f) [] i h a k = refl
      block_walk_is reads (suc f) (p ∷ ps) i h a k =
          let c = centre p ps in
          let kept = stay c (p ∷ ps) in
          let lower = left c (p ∷ ps) in
          let upper = right c (p ∷ ps) in
          let s = length kept in
          let zeros = replicate (4 * s - 4) (pos 0) in
          let b1 = block_words_to rs axis f lower in
          let b2 = block_words_to rs axis f upper in
          let q1 = queue_words rs axis low kept in
          let q2 = queue_words rs axis high kept in
          let l = left_size p ps in
          let r = right_size p ps in
          let n1 : suc i ≡ i + 1 = omega arith in
          let n2 : suc (suc i) ≡ i + 2 = omega arith in
          let n3 : suc (suc (suc i)) ≡ i + 3 = omega arith in
          let n4 : suc (suc (suc (suc i))) ≡ i + 4 = omega arith in
          let e1 : word ws (i + 1) ≡ pos s = rw n1 at k.1.0 in
          let e2 : word ws (i + 2) ≡ pos (length lower) = rw n2 at k.1.1.0 in
          let e3 : word ws (i + 3) ≡ pos (length upper) = rw n3 at k.1.1.1.0 in
          let a1 : At ws (i + 4) (q1 ++ (q2 ++ (zeros ++ (b1 ++ b2)))) = rw n4 at k.1.1.1.1 in
          let p1 = at_append ws (i + 4) q1 (q2 ++ (zeros ++ (b1 ++ b2))) a1 in
          let p2 = at_append ws (i + 4 + length q1) q2 (zeros ++ (b1 ++ b2)) p1.1 in
          let p3 = at_append ws (i + 4 + length q1 + length q2) zeros (b1 ++ b2) p2.1 in
          let p4 = at_append ws (i + 4 + length q1 + length q2 + length zeros) b1 b2 p3.1 in
          let l1 : length q1 ≡ 2 * s = Q.queue_length rs axis low s kept (omega arith) in
          let l2 : length q2 ≡ 2 * s = Q.queue_length rs axis high s kept (omega arith) in
          let l3 : length zeros ≡ 4 * s - 4 = length-replicate (4 * s - 4) (pos 0) in
          let l4 : length b1 ≡ 8 * length lower = block_length f lower (omega arith) in
          let some = some_stay p ps in
          let o1 : i + 4 + length q1 + length q2 + length zeros ≡ i + 8 * s = omega arith in
          let o2 : i + 4 + length q1 + length q2 + length zeros + length b1 ≡ i + 8 * s + 8 * length lower = omega arith in
          let o3 : i + 4 + length q1 ≡ i + 4 + 2 * s = omega arith in
          let il = block_walk_is reads f lower (i + 8 * s) (omega arith) (filter_keeps (λ x. lt_z (far x) c) a) (subst (λ (j : ℕ). At ws j b1) o1 p4.0) in
          let ir = block_walk_is reads f upper (i + 8 * s + 8 * length lower) (omega arith) (filter_keeps (λ x. lt_z c (near x)) a) (subst (λ (j : ℕ). At ws j b2) o2 p4.1) in
          let ast = filter_keeps (λ x. within (near x) (far x) c) a in
          let ql = Q.queue_walk_is rs axis low e lo hi ws n w reads s kept (i + 4) (omega arith) ast p1.0 in
          let qh = Q.queue_walk_is rs axis high e lo hi ws n w reads s kept (i + 4 + 2 * s) (omega arith) ast (subst (λ (j : ℕ). At ws j q2) o3 p2.0) in
          rw (e1, e2, e3)
          (ap₂ (λ (u v : List Event). block_at ws n w axis e lo hi (suc (length ps)) i u v) il ir
          ∙ read_block (suc (length ps)) i s (length lower) (length upper) c _ _ k.0 e1 e2 e3 some (sizes c (p ∷ ps))
          ∙ ap₂ (λ (u v : List Event). visit at_block i ∷ cond (le_z e c) (u ++ events f lower (i + 8 * s)) (v ++ events f upper (i + 8 * s + 8 * length lower))) ql qh)

    -- ---- what it lists and visits: those that cross the edge e at a level in the band
    abbrev pub hit : ℕ → Bool
    hit p = crosses axis e lo hi (at rs p)

    abbrev on_edge : ℕ → Bool
    on_edge p = lt_z (near p) e && le_z e (far p)

    abbrev banded : ℕ → Bool
    banded p = within lo hi (level_of rs axis p)

    -- on those that stay one end is beyond the edge already, so that the queue of the other end lists what crosses
    low_lists : (q : ℕ → Bool) (c : ℤ) (ps : List ℕ) → T (le_z e c) → count (λ x. q x && Q.hit rs axis low e lo hi x) (stay c ps) ≡ count (λ x. q x && hit x) (stay c ps)
    low_lists q c ps t = count_same {p = λ x. q x && Q.hit rs axis low e lo hi x} {q = λ x. q x && hit x} (all_map (λ x g.
        rw (and_right (lt_z (near x) e) (le_z e (far x)) (ℤ_order.trans e c (far x) t (snd_of (le_z (near x) c) (le_z c (far x)) g))) refl)
        (filter_holds (λ x. within (near x) (far x) c) ps))

    high_lists : (q : ℕ → Bool) (c : ℤ) (ps : List ℕ) → T (not (le_z e c)) → count (λ x. q x && Q.hit rs axis high e lo hi x) (stay c ps) ≡ count (λ x. q x && hit x) (stay c ps)
    high_lists q c ps t = count_same {p = λ x. q x && Q.hit rs axis high e lo hi x} {q = λ x. q x && hit x} (all_map (λ x g.
        rw (and_left (lt_z (near x) e) (le_z e (far x)) (subst T (sym (lt_z_not (near x) e)) (fail_down le_z ℤ_order e c (near x) t (fst_of (le_z (near x) c) (le_z c (far x)) g)))) refl)
        (filter_holds (λ x. within (near x) (far x) c) ps))

    -- the block that is not walked has none that crosses
    no_right : (q : ℕ → Bool) (c : ℤ) (ps : List ℕ) → T (le_z e c) → count (λ x. q x && hit x) (right c ps) ≡ 0
    no_right q c ps t = count_none (λ x. q x && hit x) (all_map (λ x g.
        fail_right (q x) (hit x) (fail_left (on_edge x) (banded x) (fail_left (lt_z (near x) e) (le_z e (far x))
        (subst (λ (b : Bool). T (not b)) (sym (lt_z_not (near x) e)) (over x g)))))
        (filter_holds (λ x. lt_z c (near x)) ps))
      where
        over : (x : ℕ) → T (lt_z c (near x)) → T (not (not (le_z e (near x))))
        over x k = rw (is_true (le_z e (near x)) (ℤ_order.trans e c (near x) t (ℤ_order.total (near x) c (subst T (lt_z_not c (near x)) k)))) tt

    no_left : (q : ℕ → Bool) (c : ℤ) (ps : List ℕ) → T (not (le_z e c)) → count (λ x. q x && hit x) (left c ps) ≡ 0
    no_left q c ps t = count_none (λ x. q x && hit x) (all_map (λ x g.
        fail_right (q x) (hit x) (fail_left (on_edge x) (banded x) (fail_right (lt_z (near x) e) (le_z e (far x))
        (fail_down le_z ℤ_order e c (far x) t (ℤ_order.total c (far x) (subst T (lt_z_not (far x) c) g))))))
        (filter_holds (λ x. lt_z (far x) c) ps))

    -- ---- a visit, a queue, and then a block: the same for both sides
    module _ (end : End) (kept part ps : List ℕ) (i j : ℕ) (es : List Event) where
      abbrev side : List Event
      side = visit at_block i ∷ (queue end kept j ++ es)

      side_tally : (q : Event → Bool) → count q side ≡ gate (q (visit at_block i)) 1 + (count q (queue end kept j) + count q es)
      side_tally q = omega (arith, count_cons q (visit at_block i) (queue end kept j ++ es), count_append q (queue end kept j) es)

      side_clean : Clean es → Clean side
      side_clean h = omega (arith, side_tally is_spoiled, Q.queue_clean rs axis end e lo hi (length kept) kept j)

      side_lists : (q : ℕ → Bool) → count (λ x. q x && Q.hit rs axis end e lo hi x) kept ≡ count (λ x. q x && hit x) kept
          → count (λ x. q x && hit x) ps ≡ count (λ x. q x && hit x) kept + count (λ x. q x && hit x) part
          → count (is_due q) es ≡ count (λ x. q x && hit x) part → count (is_due q) side ≡ count (λ x. q x && hit x) ps
      side_lists q same whole h = omega (arith, side_tally (is_due q), Q.queue_lists rs axis end e lo hi q (length kept) kept j (omega arith))

      side_visits : (h : ℕ) → length kept < 2 ^ suc h → count (Q.hit rs axis end e lo hi) kept ≡ count hit kept → count hit ps ≡ count hit kept + count hit part
          → visits_of es ≤ 2 * count hit part + 2 * (h * h) + 4 * h → visits_of side ≤ 2 * count hit ps + 2 * (suc h * suc h) + 4 * suc h
      side_visits h g same whole k =
          omega (
            arith,
            suc-mul h (suc h),
            mul-suc h h,
            side_tally is_visit,
            Q.queue_visits rs axis end e lo hi true true (length kept) (suc h) kept j g absurd absurd,
          )

    -- what crosses is among those that stay and those of the block that is walked
    left_whole : (q : ℕ → Bool) (c : ℤ) (ps : List ℕ) → T (le_z e c) → count (λ x. q x && hit x) ps ≡ count (λ x. q x && hit x) (stay c ps) + count (λ x. q x && hit x) (left c ps)
    left_whole q c ps t = omega (arith, parts (λ x. q x && hit x) c ps, no_right q c ps t)

    right_whole : (q : ℕ → Bool) (c : ℤ) (ps : List ℕ) → T (not (le_z e c)) → count (λ x. q x && hit x) ps ≡ count (λ x. q x && hit x) (stay c ps) + count (λ x. q x && hit x) (right c ps)
    right_whole q c ps t = omega (arith, parts (λ x. q x && hit x) c ps, no_left q c ps t)

    pub block_clean : (f : ℕ) (ps : List ℕ) (i : ℕ) → Clean (events f ps i)
    unfolding events
    block_clean zero ps i = count_nil is_spoiled
    block_clean (suc f) [] i = count_nil is_spoiled
    block_clean (suc f) (p ∷ ps) i =
        let c = centre p ps in
        let kept = stay c (p ∷ ps) in
        let lower = left c (p ∷ ps) in
        let upper = right c (p ∷ ps) in
        let s = length kept in
        cases (λ es. Clean (visit at_block i ∷ es)) (le_z e c) _ _
        (λ t. side_clean low kept lower (p ∷ ps) i (i + 4) (events f lower (i + 8 * s)) (block_clean f lower (i + 8 * s)))
        (λ t. side_clean high kept upper (p ∷ ps) i (i + 4 + 2 * s) (events f upper (i + 8 * s + 8 * length lower)) (block_clean f upper (i + 8 * s + 8 * length lower)))

    -- every test counts on what is due as on those of the list that cross
    pub block_lists : (q : ℕ → Bool) (f : ℕ) (ps : List ℕ) (i : ℕ) → length ps ≤ f → count (is_due q) (events f ps i) ≡ count (λ x. q x && hit x) ps
    unfolding events
    block_lists q zero [] i h = count_nil (is_due q) ∙ sym (count_nil (λ x. q x && hit x))
    block_lists q zero (p ∷ ps) i h = absurd (omega arith)
    block_lists q (suc f) [] i h = count_nil (is_due q) ∙ sym (count_nil (λ x. q x && hit x))
    block_lists q (suc f) (p ∷ ps) i h =
        let c = centre p ps in
        let kept = stay c (p ∷ ps) in
        let lower = left c (p ∷ ps) in
        let upper = right c (p ∷ ps) in
        let s = length kept in
        let l = left_size p ps in
        let r = right_size p ps in
        cases (λ es. count (is_due q) (visit at_block i ∷ es) ≡ count (λ x. q x && hit x) (p ∷ ps)) (le_z e c) _ _
        (λ t. side_lists low kept lower (p ∷ ps) i (i + 4) (events f lower (i + 8 * s)) q (low_lists q c (p ∷ ps) t) (left_whole q c (p ∷ ps) t) (block_lists q f lower (i + 8 * s) (omega arith)))
        (λ t. side_lists high kept upper (p ∷ ps) i (i + 4 + 2 * s) (events f upper (i + 8 * s + 8 * length lower)) q (high_lists q c (p ∷ ps) t) (right_whole q c (p ∷ ps) t)
        (block_lists q f upper (i + 8 * s + 8 * length lower) (omega arith)))

    pub block_visits : (f h : ℕ) (ps : List ℕ) (i : ℕ) → length ps < 2 ^ h → visits_of (events f ps i) ≤ 2 * count hit ps + 2 * (h * h) + 4 * h
    unfolding events
    block_visits zero h ps i g = omega (arith, count_nil is_visit)
    block_visits (suc f) h [] i g = omega (arith, count_nil is_visit)
    block_visits (suc f) zero (p ∷ ps) i g = absurd (omega arith)
    block_visits (suc f) (suc h) (p ∷ ps) i g =
        let c = centre p ps in
        let kept = stay c (p ∷ ps) in
        let lower = left c (p ∷ ps) in
        let upper = right c (p ∷ ps) in
        let s = length kept in
        let all : ℕ → Bool = λ x. true in
        let l = left_size p ps in
        let r = right_size p ps in
        let gs : s < 2 ^ suc h = omega (arith, sizes c (p ∷ ps)) in
        cases (λ es. visits_of (visit at_block i ∷ es) ≤ 2 * count hit (p ∷ ps) + 2 * (suc h * suc h) + 4 * suc h) (le_z e c) _ _
        (λ t. side_visits low kept lower (p ∷ ps) i (i + 4) (events f lower (i + 8 * s)) h gs (low_lists all c (p ∷ ps) t) (left_whole all c (p ∷ ps) t)
        (block_visits f h lower (i + 8 * s) (omega (arith, two-pow-succ h))))
        (λ t. side_visits high kept upper (p ∷ ps) i (i + 4 + 2 * s) (events f upper (i + 8 * s + 8 * length lower)) h gs (high_lists all c (p ∷ ps) t) (right_whole all c (p ∷ ps) t)
        (block_visits f h upper (i + 8 * s + 8 * length lower) (omega (arith, two-pow-succ h))))
