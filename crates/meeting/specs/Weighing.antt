-- A segment meets a window exactly when the boxes overlap on each axis and the corners are not all on one side of the segment's line: both directions,
-- over any whole numbers, with a ≤ b and c ≤ d. `meets_test` is the law; the corner test of `paper` is read by it in Decides.
use Rattle.std.specs.Prelude.{◌≡◌, ◌↔◌, ◌⊎◌, ℤ, pos, neg_ℤ, ◌+ℤ◌, ◌-ℤ◌, ◌*ℤ◌, ◌≤ℤ◌, ◌<ℤ◌}
use Rattle.std.proofs.Common.{sym, subst, inl, inr, ⊎_elim}
use Rattle.std.proofs.Math.IntN.{neg_ℤ-neg_ℤ, *ℤ_comm}
use Rattle.std.specs.Int.Signed.{≤ℤ_refl}
use Rattle.whole.specs.Whole.{#, ⊝, ◌⊕◌, ◌⊖◌, ◌⊗◌, of, whole, times}
use Rattle.whole.specs.Order.{<→≤, neg_mono, mono_mul, mul_cancel, lt_or_le}
use Rattle.paper.specs.Meeting.{Between, Meets}
use Rattle.paper.specs.declared.Segment.{Segment}
use Rattle.paper.specs.declared.Window.{Window}

-- ---- products of three
pub swap : (a b c : ℤ) → a *ℤ b *ℤ c ≡ a *ℤ c *ℤ b
swap a b c = omega (whole, of (# a ⊗ # b ⊗ # c), of (# a ⊗ # c ⊗ # b))

-- the first and the last change places
pub turn : (a b c : ℤ) → a *ℤ b *ℤ c ≡ c *ℤ b *ℤ a
turn a b c = omega (whole, of (# a ⊗ # b ⊗ # c), of (# c ⊗ # b ⊗ # a))

-- ---- one axis, seen from the segment's first end: the edges, and how far the segment goes
pub record Axis : Type 0 where
  pub low : ℤ
  pub high : ℤ
  pub rise : ℤ

pub record In (x : Axis) (p q : ℤ) : Type 0 where
  pub above : (x.low *ℤ q) ≤ℤ (x.rise *ℤ p)
  pub below : (x.rise *ℤ p) ≤ℤ (x.high *ℤ q)

pub record Both (x y : Axis) : Type 0 where
  pub p : ℤ
  pub q : ℤ
  pub some : pos 1 ≤ℤ q
  pub from : pos 0 ≤ℤ p
  pub to : p ≤ℤ q
  pub first : In x p q
  pub second : In y p q

-- the box comparison
pub record Box (x : Axis) : Type 0 where
  pub starts : (x.low ≤ℤ pos 0) ⊎ (x.low ≤ℤ x.rise)
  pub ends : (pos 0 ≤ℤ x.high) ⊎ (x.rise ≤ℤ x.high)

-- a corner's weight, and a claim that holds of some corner's: low-left, low-right, high-left, high-right
abbrev pub weigh : (m n u v : ℤ) → ℤ
weigh m n u v = m *ℤ v -ℤ n *ℤ u

abbrev pub Any : (ℤ → Type 0) → Axis → Axis → Type 0
Any P x y =
    P (weigh x.rise y.rise x.low y.low) ⊎
    (P (weigh x.rise y.rise x.high y.low) ⊎
    (P (weigh x.rise y.rise x.low y.high) ⊎
    P (weigh x.rise y.rise x.high y.high)))

abbrev pub Up : ℤ → Type 0
Up z = pos 0 ≤ℤ z

abbrev pub Down : ℤ → Type 0
Down z = z ≤ℤ pos 0

pub record Test (x y : Axis) : Type 0 where
  pub across : Box x
  pub along : Box y
  pub ups : Any Up x y
  pub downs : Any Down x y

-- ---- an axis that rises
pub record Rises (x : Axis) : Type 0 where
  pub order : x.low ≤ℤ x.high
  pub rises : pos 0 ≤ℤ x.rise

near : (x : Axis) (p q : ℤ) → Rises x → pos 1 ≤ℤ q → pos 0 ≤ℤ p → p ≤ℤ q → In x p q → (x.low ≤ℤ x.rise) × (pos 0 ≤ℤ x.high)
near x p q r h g k i = (
  mul_cancel x.low x.rise h (omega (whole, i.above, mono_mul r.rises k, of (# p ⊗ # x.rise), of (# q ⊗ # x.rise), of (# x.rise ⊗ # p), of (# x.rise ⊗ # q))),
  mul_cancel (pos 0) x.high h (omega (whole, i.below, mono_mul r.rises g, of (# p ⊗ # x.rise), of (# x.rise ⊗ # p), of (# (pos 0) ⊗ # x.rise), of (# (pos 0) ⊗ # q))),
)

cross : (x y : Axis) (p q : ℤ) → Rises x → Rises y → pos 1 ≤ℤ q → In x p q → In y p q → (x.low *ℤ y.rise) ≤ℤ (y.high *ℤ x.rise)
cross x y p q r s h i j =
    let a : (x.low *ℤ q *ℤ y.rise) ≤ℤ (x.rise *ℤ p *ℤ y.rise) = mono_mul s.rises i.above in
    let b : (y.rise *ℤ p *ℤ x.rise) ≤ℤ (y.high *ℤ q *ℤ x.rise) = mono_mul r.rises j.below in
    mul_cancel _ _ h
    (rw (swap x.low y.rise q, swap y.high x.rise q) (omega (whole, turn x.rise p y.rise)))

-- the corner that weighs most, and the corner that weighs least
up_cross : (x y : Axis) → (x.low *ℤ y.rise) ≤ℤ (y.high *ℤ x.rise) → Any Up x y
up_cross x y h =
    inr (inr (inl (omega (whole, of (# x.rise ⊗ # y.high ⊖ # y.rise ⊗ # x.low), of (# x.low ⊗ # y.rise), of (# y.high ⊗ # x.rise)))))

down_cross : (x y : Axis) → (y.low *ℤ x.rise) ≤ℤ (x.high *ℤ y.rise) → Any Down x y
down_cross x y h =
    inr (inl (omega (whole, of (# x.rise ⊗ # y.low ⊖ # y.rise ⊗ # x.high), of (# x.high ⊗ # y.rise), of (# y.low ⊗ # x.rise))))

pub from_point : (x y : Axis) → Rises x → Rises y → Both x y → Test x y
from_point x y r s m =
    let nx = near x m.p m.q r m.some m.from m.to m.first in
    let ny = near y m.p m.q s m.some m.from m.to m.second in
    record {
      across = record { starts = inr nx.0; ends = inl nx.1 };
      along = record { starts = inr ny.0; ends = inl ny.1 };
      ups = up_cross x y (cross x y m.p m.q r s m.some m.first m.second);
      downs = down_cross x y (cross y x m.p m.q s r m.some m.second m.first);
    }

-- ---- to a point: the greatest of 0 and the two lower ends
pub flip : {x y : Axis} → Both y x → Both x y
flip m = record { p = m.p; q = m.q; some = m.some; from = m.from; to = m.to; first = m.second; second = m.first }

at_low : (x y : Axis) → Rises x → x.low ≤ℤ x.rise → (x.low *ℤ y.rise) ≤ℤ (y.high *ℤ x.rise) → pos 0 <ℤ x.low → (y.low *ℤ x.rise) ≤ℤ (x.low *ℤ y.rise) → Both x y
at_low x y r n o h g = record {
  p = x.low;
  q = x.rise;
  some = omega whole;
  from = omega whole;
  to = n;
  first = record { above = rw (*ℤ_comm x.rise x.low) (≤ℤ_refl _); below = rw (*ℤ_comm x.rise x.low) (mono_mul r.rises r.order) };
  second = record { above = rw (*ℤ_comm y.rise x.low) g; below = rw (*ℤ_comm y.rise x.low) o };
}

at_start : (x : Axis) → pos 0 ≤ℤ x.high → x.low ≤ℤ pos 0 → In x (pos 0) (pos 1)
at_start x n h = record {
  above = omega (whole, of (# x.low ⊗ # (pos 1)), of (# x.rise ⊗ # (pos 0)));
  below = omega (whole, of (# x.high ⊗ # (pos 1)), of (# x.rise ⊗ # (pos 0)));
}

-- what the tests say where both axes rise
starts_at : (x : Axis) → Rises x → Box x → x.low ≤ℤ x.rise
starts_at x r b = ⊎_elim (λ h. omega whole) (λ h. h) b.starts

ends_at : (x : Axis) → Rises x → Box x → pos 0 ≤ℤ x.high
ends_at x r b = ⊎_elim (λ h. h) (λ h. omega whole) b.ends

-- one corner decides for all: it is furthest to the side that is asked
most : (x y : Axis) (u v : ℤ) → Rises x → Rises y → x.low ≤ℤ u → v ≤ℤ y.high → Up (weigh x.rise y.rise u v) → (x.low *ℤ y.rise) ≤ℤ (y.high *ℤ x.rise)
most x y u v r s h g w =
    omega (whole, mono_mul s.rises h, mono_mul r.rises g, of (# x.rise ⊗ # v ⊖ # y.rise ⊗ # u), of (# u ⊗ # y.rise), of (# v ⊗ # x.rise))

least : (x y : Axis) (u v : ℤ) → Rises x → Rises y → u ≤ℤ x.high → y.low ≤ℤ v → Down (weigh x.rise y.rise u v) → (y.low *ℤ x.rise) ≤ℤ (x.high *ℤ y.rise)
least x y u v r s h g w =
    omega (whole, mono_mul s.rises h, mono_mul r.rises g, of (# x.rise ⊗ # v ⊖ # y.rise ⊗ # u), of (# u ⊗ # y.rise), of (# v ⊗ # x.rise))

pub to_point : (x y : Axis) → Rises x → Rises y → Test x y → Both x y
to_point x y r s t = start (lt_or_le (pos 0) x.low) (lt_or_le (pos 0) y.low)
  where
    rx : x.low ≤ℤ x.low
    rx = ≤ℤ_refl _

    ry : y.high ≤ℤ y.high
    ry = ≤ℤ_refl _

    sx : x.high ≤ℤ x.high
    sx = ≤ℤ_refl _

    sy : y.low ≤ℤ y.low
    sy = ≤ℤ_refl _

    one : Any Up x y → (x.low *ℤ y.rise) ≤ℤ (y.high *ℤ x.rise)
    one (inl w) = most x y x.low y.low r s rx s.order w
    one (inr (inl w)) = most x y x.high y.low r s r.order s.order w
    one (inr (inr (inl w))) = most x y x.low y.high r s rx ry w
    one (inr (inr (inr w))) = most x y x.high y.high r s r.order ry w

    other : Any Down x y → (y.low *ℤ x.rise) ≤ℤ (x.high *ℤ y.rise)
    other (inl w) = least x y x.low y.low r s r.order sy w
    other (inr (inl w)) = least x y x.high y.low r s sx sy w
    other (inr (inr (inl w))) = least x y x.low y.high r s r.order s.order w
    other (inr (inr (inr w))) = least x y x.high y.high r s sx s.order w

    from_x : pos 0 <ℤ x.low → (y.low *ℤ x.rise) ≤ℤ (x.low *ℤ y.rise) → Both x y
    from_x h g = at_low x y r (starts_at x r t.across) (one t.ups) h g

    from_y : pos 0 <ℤ y.low → (x.low *ℤ y.rise) ≤ℤ (y.low *ℤ x.rise) → Both x y
    from_y h g = flip (at_low y x s (starts_at y s t.along) (other t.downs) h g)

    later : pos 0 <ℤ x.low → pos 0 <ℤ y.low → ((x.low *ℤ y.rise) <ℤ (y.low *ℤ x.rise)) ⊎ ((y.low *ℤ x.rise) ≤ℤ (x.low *ℤ y.rise)) → Both x y
    later h g (inl e) = from_y g (<→≤ e)
    later h g (inr e) = from_x h e

    start : (pos 0 <ℤ x.low) ⊎ (x.low ≤ℤ pos 0) → (pos 0 <ℤ y.low) ⊎ (y.low ≤ℤ pos 0) → Both x y
    start (inr h) (inr g) = record {
      p = pos 0;
      q = pos 1;
      some = omega whole;
      from = omega whole;
      to = omega whole;
      first = at_start x (ends_at x r t.across) h;
      second = at_start y (ends_at y s t.along) g;
    }
    start (inr h) (inl g) = from_y g (omega (whole, of (# x.low ⊗ # y.rise), of (# y.low ⊗ # x.rise), times h s.rises, times (<→≤ g) r.rises))
    start (inl h) (inr g) = from_x h (omega (whole, of (# y.low ⊗ # x.rise), of (# x.low ⊗ # y.rise), times g r.rises, times (<→≤ h) s.rises))
    start (inl h) (inl g) = later h g (lt_or_le (x.low *ℤ y.rise) (y.low *ℤ x.rise))

-- ---- the other signs: an axis is looked at from its other side, and the two axes change places
abbrev mirror : Axis → Axis
mirror x = record { low = neg_ℤ x.high; high = neg_ℤ x.low; rise = neg_ℤ x.rise }

mirror_twice : (x : Axis) → mirror (mirror x) ≡ x
mirror_twice x = λ i. record { low = neg_ℤ-neg_ℤ x.low i; high = neg_ℤ-neg_ℤ x.high i; rise = neg_ℤ-neg_ℤ x.rise i }

mirror_in : (x : Axis) (p q : ℤ) → In x p q → In (mirror x) p q
mirror_in x p q i = record {
  above = omega (whole, i.below, of (⊝ (# x.high) ⊗ # q), of (⊝ (# x.rise) ⊗ # p), of (# x.rise ⊗ # p), of (# x.high ⊗ # q));
  below = omega (whole, i.above, of (⊝ (# x.low) ⊗ # q), of (⊝ (# x.rise) ⊗ # p), of (# x.rise ⊗ # p), of (# x.low ⊗ # q));
}

mirror_both : {x y : Axis} → Both x y → Both (mirror x) y
mirror_both {x} m = record { p = m.p; q = m.q; some = m.some; from = m.from; to = m.to; first = mirror_in x m.p m.q m.first; second = m.second }

mirror_box : (x : Axis) → Box x → Box (mirror x)
mirror_box x b = record {
  starts = ⊎_elim (λ h. inl (neg_mono h)) (λ h. inr (neg_mono h)) b.ends;
  ends = ⊎_elim (λ h. inl (neg_mono h)) (λ h. inr (neg_mono h)) b.starts;
}

weigh_mirror : (m n u v : ℤ) → weigh (neg_ℤ m) n (neg_ℤ u) v ≡ neg_ℤ (weigh m n u v)
weigh_mirror m n u v =
    omega (whole, of (⊝ (# m) ⊗ # v ⊖ # n ⊗ ⊝ (# u)), of (⊝ (# m ⊗ # v ⊖ # n ⊗ # u)))

weigh_swap : (m n u v : ℤ) → weigh n m v u ≡ neg_ℤ (weigh m n u v)
weigh_swap m n u v = omega (whole, of (# n ⊗ # u ⊖ # m ⊗ # v), of (⊝ (# m ⊗ # v ⊖ # n ⊗ # u)))

module _ (P Q : ℤ → Type 0) (f : (z : ℤ) → P z → Q (neg_ℤ z)) where
  mirrored : (m n u v : ℤ) → P (weigh m n u v) → Q (weigh (neg_ℤ m) n (neg_ℤ u) v)
  mirrored m n u v w = subst Q (sym (weigh_mirror m n u v)) (f (weigh m n u v) w)

  swapped : (m n u v : ℤ) → P (weigh m n u v) → Q (weigh n m v u)
  swapped m n u v w = subst Q (sym (weigh_swap m n u v)) (f (weigh m n u v) w)

  mirror_any : (x y : Axis) → Any P x y → Any Q (mirror x) y
  mirror_any x y (inl w) = inr (inl (mirrored x.rise y.rise x.low y.low w))
  mirror_any x y (inr (inl w)) = inl (mirrored x.rise y.rise x.high y.low w)
  mirror_any x y (inr (inr (inl w))) = inr (inr (inr (mirrored x.rise y.rise x.low y.high w)))
  mirror_any x y (inr (inr (inr w))) = inr (inr (inl (mirrored x.rise y.rise x.high y.high w)))

  swap_any : (x y : Axis) → Any P x y → Any Q y x
  swap_any x y (inl w) = inl (swapped x.rise y.rise x.low y.low w)
  swap_any x y (inr (inl w)) = inr (inr (inl (swapped x.rise y.rise x.high y.low w)))
  swap_any x y (inr (inr (inl w))) = inr (inl (swapped x.rise y.rise x.low y.high w))
  swap_any x y (inr (inr (inr w))) = inr (inr (inr (swapped x.rise y.rise x.high y.high w)))

down_up : (z : ℤ) → Down z → Up (neg_ℤ z)
down_up z h = neg_mono h

up_down : (z : ℤ) → Up z → Down (neg_ℤ z)
up_down z h = neg_mono h

mirror_test : {x y : Axis} → Test x y → Test (mirror x) y
mirror_test {x} {y} t = record {
  across = mirror_box x t.across;
  along = t.along;
  ups = mirror_any Down Up down_up x y t.downs;
  downs = mirror_any Up Down up_down x y t.ups;
}

swap_test : {x y : Axis} → Test x y → Test y x
swap_test {x} {y} t = record {
  across = t.along;
  along = t.across;
  ups = swap_any Down Up down_up x y t.downs;
  downs = swap_any Up Down up_down x y t.ups;
}

one_side : (x y : Axis) → x.low ≤ℤ x.high → Rises y → Both x y ↔ Test x y
one_side x y o s = go (lt_or_le x.rise (pos 0))
  where
    go : (x.rise <ℤ pos 0) ⊎ (pos 0 ≤ℤ x.rise) → Both x y ↔ Test x y
    go (inr h) = let r : Rises x = record { order = o; rises = h } in (from_point x y r s, to_point x y r s)
    go (inl h) =
        let r : Rises (mirror x) = record { order = neg_mono o; rises = omega (whole, of (⊝ (# x.rise))) } in (
          λ m. subst (λ (z : Axis). Test z y) (mirror_twice x) (mirror_test (from_point (mirror x) y r s (mirror_both m))),
          λ t. subst (λ (z : Axis). Both z y) (mirror_twice x) (mirror_both (to_point (mirror x) y r s (mirror_test t))),
        )

pub both_test : (x y : Axis) → x.low ≤ℤ x.high → y.low ≤ℤ y.high → Both x y ↔ Test x y
both_test x y o q = go (lt_or_le y.rise (pos 0))
  where
    go : (y.rise <ℤ pos 0) ⊎ (pos 0 ≤ℤ y.rise) → Both x y ↔ Test x y
    go (inr h) = one_side x y o (record { order = q; rises = h })
    go (inl h) =
        let s : Rises (mirror y) = record { order = neg_mono q; rises = omega (whole, of (⊝ (# y.rise))) } in
        let e : Both x (mirror y) ↔ Test x (mirror y) = one_side x (mirror y) o s in (
          λ m. subst (λ (z : Axis). Test x z) (mirror_twice y) (swap_test (mirror_test (swap_test (e.0 (flip (mirror_both (flip m))))))),
          λ t. subst (λ (z : Axis). Both x z) (mirror_twice y) (flip (mirror_both (flip (e.1 (swap_test (mirror_test (swap_test t))))))),
        )

-- ---- the definition of document 01
abbrev pub axis : (lo hi u1 u2 : ℤ) → Axis
axis lo hi u1 u2 = record { low = lo -ℤ u1; high = hi -ℤ u1; rise = u2 -ℤ u1 }

edge : (e u q : ℤ) → (e -ℤ u) *ℤ q ≡ e *ℤ q -ℤ u *ℤ q
edge e u q = omega (whole, of ((# e ⊖ # u) ⊗ # q), of (# e ⊗ # q ⊖ # u ⊗ # q))

way : (u1 u2 p q : ℤ) → (u2 -ℤ u1) *ℤ p ≡ ((q -ℤ p) *ℤ u1 +ℤ p *ℤ u2) -ℤ u1 *ℤ q
way u1 u2 p q = omega (whole, of ((# u2 ⊖ # u1) ⊗ # p), of (((# q ⊖ # p) ⊗ # u1 ⊕ # p ⊗ # u2) ⊖ # u1 ⊗ # q))

less : (a b k : ℤ) → a ≤ℤ b ↔ (a -ℤ k) ≤ℤ (b -ℤ k)
less a b k = (λ h. omega (whole, of (# a ⊖ # k), of (# b ⊖ # k)), λ h. omega (whole, of (# a ⊖ # k), of (# b ⊖ # k)))

between_in : (lo hi u1 u2 p q : ℤ) → Between lo hi u1 u2 p q ↔ In (axis lo hi u1 u2) p q
between_in lo hi u1 u2 p q = (
  λ b. record {
    above = rw (edge lo u1 q, way u1 u2 p q) ((less _ _ (u1 *ℤ q)).0 b.low);
    below = rw (edge hi u1 q, way u1 u2 p q) ((less _ _ (u1 *ℤ q)).0 b.high);
  },
  λ i. record {
    low = (less _ _ (u1 *ℤ q)).1 (rw (edge lo u1 q, way u1 u2 p q) at i.above);
    high = (less _ _ (u1 *ℤ q)).1 (rw (edge hi u1 q, way u1 u2 p q) at i.below);
  },
)

pub meets_test : (s : Segment) (w : Window) → w.a ≤ℤ w.b → w.c ≤ℤ w.d → Meets s w ↔ Test (axis w.a w.b s.x1 s.x2) (axis w.c w.d s.y1 s.y2)
meets_test s w h g =
    let x = axis w.a w.b s.x1 s.x2 in
    let y = axis w.c w.d s.y1 s.y2 in
    let e : Both x y ↔ Test x y = both_test x y ((less w.a w.b s.x1).0 h) ((less w.c w.d s.y1).0 g) in (
      λ m. e.0 (record { p = m.p; q = m.q; some = m.some; from = m.from; to = m.to; first = (between_in w.a w.b s.x1 s.x2 m.p m.q).0 m.across; second = (between_in w.c w.d s.y1 s.y2 m.p m.q).0 m.along }),
      λ t. let m = e.1 t in record { p = m.p; q = m.q; some = m.some; from = m.from; to = m.to; across = (between_in w.a w.b s.x1 s.x2 m.p m.q).1 m.first; along = (between_in w.c w.d s.y1 s.y2 m.p m.q).1 m.second },
    )
