-- The three groups of document 01: a segment is in at most one of them, and a record that is straight and rises meets the window exactly when it is in one.
-- Use: `one_group` counts, for any window; `group_meets` and `meets_group` go between the groups and Meeting; `low_rises`, `meets_low` for records.
use Rattle.std.specs.Prelude.{◌≡◌, refl, ◌↔◌, ◌⊎◌, Bool, true, false, not, ◌&&◌, ◌||◌, ◌+◌, ℤ, pos, ◌+ℤ◌, ◌-ℤ◌, ◌*ℤ◌, ◌≤ℤ◌, ◌<ℤ◌, T}
use Rattle.std.proofs.Common.{sym, ap₂, subst, inl, inr, T_not}
use Rattle.std.specs.Int.Signed.{le_z, lt_z, le_z_yes, lt_z_yes}
use Rattle.whole.specs.Whole.{of, #, ◌⊕◌, ◌⊖◌, ◌⊗◌, whole, times, times<}
use Rattle.whole.specs.Order.{lt_or_le}
use Rattle.lists.specs.Plain.{within, same}
use Rattle.lists.specs.Tests.{cases, gate, both, fst_of, snd_of, or_in, or_more, or_cases, and_comm, by_test, holds, fails}
use Rattle.lists.specs.Orders.{ℤ_order, lt_z_not, same_equal}
use Rattle.paper.specs.Answers.{slanted}
use Rattle.paper.specs.Words.{horizontal, vertical, is_horizontal, turned, low_first}
use Rattle.paper.specs.Meeting.{Between, Meets}
use Rattle.paper.specs.Demands.{low_end_inside, crosses}
use Rattle.paper.specs.declared.Segment.{Segment}
use Rattle.paper.specs.declared.Window.{Window}

-- ---- at most one group

abbrev pub is_across : Window → Segment → Bool
is_across w s = is_horizontal s && crosses horizontal w.a w.c w.d s

abbrev pub is_along : Window → Segment → Bool
is_along w s = not (is_horizontal s) && crosses vertical w.c w.a w.b s

abbrev pub in_group : Window → Segment → Bool
in_group w s = low_end_inside w s || (is_across w s || is_along w s)

-- what crosses an edge begins before it, so its low end is not inside
begins_before : (e lo z : ℤ) (p q r : Bool) → T (within e lo z && p) → T ((lt_z z e && q) && r) → ⊥
begins_before e lo z p q r h k =
    T_not (le_z e z)
    (subst T (lt_z_not z e) (fst_of (lt_z z e) q (fst_of (lt_z z e && q) r k)))
    (fst_of (le_z e z) (le_z z lo) (fst_of (within e lo z) p h))

pub one_group : (w : Window) (s : Segment) → gate (low_end_inside w s) 1 + (gate (is_across w s) 1 + gate (is_along w s) 1) ≡ gate (in_group w s) 1
one_group w s =
    count (is_horizontal s) (low_end_inside w s) (crosses horizontal w.a w.c w.d s) (crosses vertical w.c w.a w.b s)
    (begins_before w.a w.b s.x1 (within w.c w.d s.y1) (le_z w.a s.x2) (within w.c w.d s.y1))
    (λ h k.
    begins_before w.c w.d s.y1 (within w.a w.b s.x1) (le_z w.c s.y2) (within w.a w.b s.x1)
    (subst T (and_comm (within w.a w.b s.x1) (within w.c w.d s.y1)) h) k)
  where
    count : (h i j k : Bool) → (T i → T j → ⊥) → (T i → T k → ⊥) → gate i 1 + (gate (h && j) 1 + gate (not h && k) 1) ≡ gate (i || (h && j || not h && k)) 1
    count true true true k f g = absurd (f tt tt)
    count true true false k f g = refl
    count true false true k f g = refl
    count true false false k f g = refl
    count false true j true f g = absurd (g tt tt)
    count false true j false f g = refl
    count false false j true f g = refl
    count false false j false f g = refl

-- ---- records: the low end first

-- a straight record rises on both axes
pub record Rises (s : Segment) : Type 0 where
  pub across : T (le_z s.x1 s.x2)
  pub along : T (le_z s.y1 s.y2)
  pub straight : T (not (slanted s))

-- with a, b, c, d for x1 ≤ x2, x2 ≤ x1, y1 ≤ y2, y2 ≤ y1
turned_rises : (a b c d : Bool) → (T (not a) → T b) → (T (not c) → T d) → T (not a || ((b && a) && not c)) → T (not (not (c && d) && not (a && b))) → T b × T d
turned_rises true true true d f g h k = absurd h
turned_rises true true false true f g h k = (tt, tt)
turned_rises true true false false f g h k = absurd (g tt)
turned_rises true false c d f g h k = absurd h
turned_rises false true true true f g h k = (tt, tt)
turned_rises false true true false f g h k = absurd k
turned_rises false true false d f g h k = absurd k
turned_rises false false c d f g h k = absurd (f tt)

kept_rises : (a b c d : Bool) → (T (not c) → T d) → T (not (not a || ((b && a) && not c))) → T (not (not (c && d) && not (a && b))) → T a × T c
kept_rises true true true d g h k = (tt, tt)
kept_rises true true false d g h k = absurd h
kept_rises true false true d g h k = (tt, tt)
kept_rises true false false d g h k = absurd k
kept_rises false b c d g h k = absurd h

pub low_rises : (s : Segment) → T (not (slanted s)) → Rises (low_first s)
low_rises s k =
    let a = le_z s.x1 s.x2 in
    let b = le_z s.x2 s.x1 in
    let c = le_z s.y1 s.y2 in
    let d = le_z s.y2 s.y1 in
    let e : (lt_z s.x2 s.x1 || (same s.x2 s.x1 && lt_z s.y2 s.y1)) ≡ (not a || ((b && a) && not c)) =
    ap₂ (λ (u v : Bool). u || ((b && a) && v)) (lt_z_not s.x2 s.x1) (lt_z_not s.y2 s.y1) in
    cases Rises (lt_z s.x2 s.x1 || (same s.x2 s.x1 && lt_z s.y2 s.y1)) (turned s) s
    (λ t.
    let r = turned_rises a b c d (ℤ_order.total s.x1 s.x2) (ℤ_order.total s.y1 s.y2) (subst T e t) k in
    record { across = r.0; along = r.1; straight = subst (λ (z : Bool). T (not z)) (ap₂ (λ (u v : Bool). not u && not v) (and_comm c d) (and_comm a b)) k })
    (λ t.
    let r = kept_rises a b c d (ℤ_order.total s.y1 s.y2) (subst (λ (z : Bool). T (not z)) e t) k in
    record { across = r.0; along = r.1; straight = k })

pub flat : (s : Segment) → T (is_horizontal s) → s.y1 ≡ s.y2
flat s h = same_equal s.y1 s.y2 h

pub steep : (s : Segment) → Rises s → T (not (is_horizontal s)) → s.x1 ≡ s.x2
steep s r h = same_equal s.x1 s.x2 (other (same s.y1 s.y2) (same s.x1 s.x2) r.straight h)
  where
    other : (h v : Bool) → T (not (not h && not v)) → T (not h) → T v
    other true v k t = absurd t
    other false true k t = tt
    other false false k t = k

-- a segment and its turned copy meet alike
back : {lo hi u v p q : ℤ} → Between lo hi u v p q → Between lo hi v u (q -ℤ p) q
back {lo} {hi} {u} {v} {p} {q} b = record { low = lower b.low; high = upper b.high }
  where
    lower : (lo *ℤ q) ≤ℤ ((q -ℤ p) *ℤ u +ℤ p *ℤ v) → (lo *ℤ q) ≤ℤ ((q -ℤ (q -ℤ p)) *ℤ v +ℤ (q -ℤ p) *ℤ u)
    lower h = omega (whole, of (# lo ⊗ # q), of ((# q ⊖ # p) ⊗ # u ⊕ # p ⊗ # v), of ((# q ⊖ (# q ⊖ # p)) ⊗ # v ⊕ (# q ⊖ # p) ⊗ # u))

    upper : ((q -ℤ p) *ℤ u +ℤ p *ℤ v) ≤ℤ (hi *ℤ q) → ((q -ℤ (q -ℤ p)) *ℤ v +ℤ (q -ℤ p) *ℤ u) ≤ℤ (hi *ℤ q)
    upper h = omega (whole, of (# hi ⊗ # q), of ((# q ⊖ # p) ⊗ # u ⊕ # p ⊗ # v), of ((# q ⊖ (# q ⊖ # p)) ⊗ # v ⊕ (# q ⊖ # p) ⊗ # u))

meets_turned : (s : Segment) (w : Window) → Meets s w → Meets (turned s) w
meets_turned s w m = record { p = m.q -ℤ m.p; q = m.q; some = m.some; from = f m.p m.q m.to; to = t m.p m.q m.from; across = back m.across; along = back m.along }
  where
    f : (p q : ℤ) → p ≤ℤ q → pos 0 ≤ℤ (q -ℤ p)
    f p q h = omega (whole, of (# q ⊖ # p))

    t : (p q : ℤ) → pos 0 ≤ℤ p → (q -ℤ p) ≤ℤ q
    t p q h = omega (whole, of (# q ⊖ # p))

pub meets_low : (s : Segment) (w : Window) → Meets s w ↔ Meets (low_first s) w
meets_low s w =
    cases (λ (t : Segment). Meets s w ↔ Meets t w) (lt_z s.x2 s.x1 || (same s.x2 s.x1 && lt_z s.y2 s.y1)) (turned s) s
    (λ t. (meets_turned s w, meets_turned (turned s) w))
    (λ t. (λ m. m, λ m. m))

-- ---- meeting on one axis

-- a point between the edges: the whole way is that point, or it is the first point
level : (lo hi u p q : ℤ) → lo ≤ℤ u → u ≤ℤ hi → pos 0 ≤ℤ q → Between lo hi u u p q
level lo hi u p q h k j = record {
  low = omega (whole, of (# lo ⊗ # q), of ((# q ⊖ # p) ⊗ # u ⊕ # p ⊗ # u), times h j);
  high = omega (whole, of (# hi ⊗ # q), of ((# q ⊖ # p) ⊗ # u ⊕ # p ⊗ # u), times k j);
}

begin : (lo hi u v : ℤ) → lo ≤ℤ u → u ≤ℤ hi → Between lo hi u v (pos 0) (pos 1)
begin lo hi u v h k = record {
  low = omega (whole, of (# lo ⊗ # (pos 1)), of ((# (pos 1) ⊖ # (pos 0)) ⊗ # u ⊕ # (pos 0) ⊗ # v));
  high = omega (whole, of (# hi ⊗ # (pos 1)), of ((# (pos 1) ⊖ # (pos 0)) ⊗ # u ⊕ # (pos 0) ⊗ # v));
}

-- what crosses an edge is at the edge after edge − u of the v − u steps
crossing : (lo hi u v : ℤ) → u ≤ℤ v → lo ≤ℤ hi → Between lo hi u v (lo -ℤ u) (v -ℤ u)
crossing lo hi u v h k = record {
  low = omega (whole, of (# lo ⊗ (# v ⊖ # u)), of (((# v ⊖ # u) ⊖ (# lo ⊖ # u)) ⊗ # u ⊕ (# lo ⊖ # u) ⊗ # v));
  high = omega (whole, of (# hi ⊗ (# v ⊖ # u)), of (((# v ⊖ # u) ⊖ (# lo ⊖ # u)) ⊗ # u ⊕ (# lo ⊖ # u) ⊗ # v), times h k);
}

-- what has a point between the edges overlaps them
overlap : {lo hi u v p q : ℤ} → u ≤ℤ v → pos 1 ≤ℤ q → pos 0 ≤ℤ p → p ≤ℤ q → Between lo hi u v p q → T (le_z lo v) × T (le_z u hi)
overlap {lo} {hi} {u} {v} {p} {q} h some from to b = (below (lt_or_le v lo), above (lt_or_le hi u))
  where
    positive : pos 0 <ℤ q
    positive = omega (whole, some)

    below : (v <ℤ lo) ⊎ (lo ≤ℤ v) → T (le_z lo v)
    below (inl k) = absurd (omega (whole, of (# lo ⊗ # q), of ((# q ⊖ # p) ⊗ # u ⊕ # p ⊗ # v), b.low, times h to, times< k positive))
    below (inr k) = k.le

    above : (hi <ℤ u) ⊎ (u ≤ℤ hi) → T (le_z u hi)
    above (inl k) = absurd (omega (whole, of (# hi ⊗ # q), of ((# q ⊖ # p) ⊗ # u ⊕ # p ⊗ # v), b.high, times h from, times< k positive))
    above (inr k) = k.le

-- ---- meeting is being in a group

-- a segment that crosses the edge e of one axis, at a level z in the band of the other
pub record Crossing (e lo hi u v z : ℤ) : Type 0 where
  pub before : u <ℤ e
  pub reaches : e ≤ℤ v
  pub above : lo ≤ℤ z
  pub below : z ≤ℤ hi

crossed : (e lo hi u v z : ℤ) → T ((lt_z u e && le_z e v) && within lo hi z) → Crossing e lo hi u v z
crossed e lo hi u v z t =
    let k = fst_of (lt_z u e && le_z e v) (within lo hi z) t in
    let b = snd_of (lt_z u e && le_z e v) (within lo hi z) t in
    record {
      before = lt_z_yes (fst_of (lt_z u e) (le_z e v) k);
      reaches = le_z_yes (snd_of (lt_z u e) (le_z e v) k);
      above = le_z_yes (fst_of (le_z lo z) (le_z z hi) b);
      below = le_z_yes (snd_of (le_z lo z) (le_z z hi) b);
    }

-- the point of the way where it is at the edge: between the edges on its own axis, and at its level on the other
pub record Point (e far lo hi u v z : ℤ) : Type 0 where
  pub p : ℤ
  pub q : ℤ
  pub some : pos 1 ≤ℤ q
  pub from : pos 0 ≤ℤ p
  pub to : p ≤ℤ q
  pub own : Between e far u v p q
  pub other : Between lo hi z z p q

point : (e far lo hi u v z : ℤ) → e ≤ℤ far → Crossing e lo hi u v z → Point e far lo hi u v z
point e far lo hi u v z h c = record {
  p = e -ℤ u;
  q = v -ℤ u;
  some = omega (whole, of (# v ⊖ # u), c.before, c.reaches);
  from = omega (whole, of (# e ⊖ # u), c.before);
  to = omega (whole, of (# e ⊖ # u), of (# v ⊖ # u), c.reaches);
  own = crossing e far u v (omega (whole, c.before, c.reaches)) h;
  other = level lo hi z (e -ℤ u) (v -ℤ u) c.above c.below (omega (whole, of (# v ⊖ # u), c.before, c.reaches));
}

module _ (w : Window) (s : Segment) (r : Rises s) where
  -- here, and only here, the window's edges are in order
  pub group_meets : T (le_z w.a w.b) → T (le_z w.c w.d) → T (in_group w s) → Meets s w
  group_meets ab cd t =
      or_cases (low_end_inside w s) (is_across w s || is_along w s) t
      inside
      (λ t. or_cases (is_across w s) (is_along w s) t
      (λ k. across (fst_of (is_horizontal s) _ k) (crossed w.a w.c w.d s.x1 s.x2 s.y1 (snd_of (is_horizontal s) _ k)))
      (λ k. along (fst_of (not (is_horizontal s)) _ k) (crossed w.c w.a w.b s.y1 s.y2 s.x1 (snd_of (not (is_horizontal s)) _ k))))
    where
      inside : T (low_end_inside w s) → Meets s w
      inside k =
          let x = fst_of (within w.a w.b s.x1) (within w.c w.d s.y1) k in
          let y = snd_of (within w.a w.b s.x1) (within w.c w.d s.y1) k in
          record {
            p = pos 0;
            q = pos 1;
            some = omega whole;
            from = omega whole;
            to = omega whole;
            across = begin w.a w.b s.x1 s.x2 (le_z_yes (fst_of (le_z w.a s.x1) _ x)) (le_z_yes (snd_of (le_z w.a s.x1) _ x));
            along = begin w.c w.d s.y1 s.y2 (le_z_yes (fst_of (le_z w.c s.y1) _ y)) (le_z_yes (snd_of (le_z w.c s.y1) _ y));
          }

      across : T (is_horizontal s) → Crossing w.a w.c w.d s.x1 s.x2 s.y1 → Meets s w
      across h c =
          let m = point w.a w.b w.c w.d s.x1 s.x2 s.y1 (le_z_yes ab) c in
          record { p = m.p; q = m.q; some = m.some; from = m.from; to = m.to; across = m.own; along = subst (λ (z : ℤ). Between w.c w.d s.y1 z m.p m.q) (flat s h) m.other }

      along : T (not (is_horizontal s)) → Crossing w.c w.a w.b s.y1 s.y2 s.x1 → Meets s w
      along h c =
          let m = point w.c w.d w.a w.b s.y1 s.y2 s.x1 (le_z_yes cd) c in
          record { p = m.p; q = m.q; some = m.some; from = m.from; to = m.to; across = subst (λ (z : ℤ). Between w.a w.b s.x1 z m.p m.q) (steep s r h) m.other; along = m.own }

  -- along one axis a segment that overlaps the edges begins between them or crosses the first
  begins_or_crosses : {Z : Type 0} (e hi u v : ℤ) → T (le_z e v) × T (le_z u hi) → (T (within e hi u) → Z) → (T (lt_z u e && le_z e v) → Z) → Z
  begins_or_crosses e hi u v o f g =
      by_test (le_z e u)
      (λ t. f (both (le_z e u) (le_z u hi) (holds t) o.1))
      (λ t. g (both (lt_z u e) (le_z e v) (subst T (sym (lt_z_not u e)) (fails t)) o.0))

  pub meets_group : Meets s w → T (in_group w s)
  meets_group m =
      let ox = overlap (le_z_yes r.across) m.some m.from m.to m.across in
      let oy = overlap (le_z_yes r.along) m.some m.from m.to m.along in
      let in_x = within w.a w.b s.x1 in
      let in_y = within w.c w.d s.y1 in
      by_test (is_horizontal s)
      (λ t.
      let y : T in_y = both (le_z w.c s.y1) (le_z s.y1 w.d) (subst (λ (z : ℤ). T (le_z w.c z)) (sym (flat s (holds t))) oy.0) oy.1 in
      begins_or_crosses w.a w.b s.x1 s.x2 ox
      (λ x. or_in (low_end_inside w s) _ (both in_x in_y x y))
      (λ x. or_more (low_end_inside w s) _ (or_in (is_across w s) (is_along w s) (both (is_horizontal s) _ (holds t) (both (lt_z s.x1 w.a && le_z w.a s.x2) in_y x y)))))
      (λ t.
      let x : T in_x = both (le_z w.a s.x1) (le_z s.x1 w.b) (subst (λ (z : ℤ). T (le_z w.a z)) (sym (steep s r (fails t))) ox.0) ox.1 in
      begins_or_crosses w.c w.d s.y1 s.y2 oy
      (λ y. or_in (low_end_inside w s) _ (both in_x in_y x y))
      (λ y. or_more (low_end_inside w s) _ (or_more (is_across w s) (is_along w s) (both (not (is_horizontal s)) _ (fails t) (both (lt_z s.y1 w.c && le_z w.c s.y2) in_x y x)))))
