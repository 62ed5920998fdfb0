-- Segments and windows that are not refused: their coordinates and edges are small, so that no difference, product or weight of them wraps.
use Rattle.std.specs.Prelude.{◌≡◌, refl, Bool, true, false, not, ◌&&◌, ◌||◌, List, [], ◌∷◌, ℕ, zero, suc, ℤ, pos, neg_ℤ, get_or, ◌≤ℤ◌}
use Rattle.std.specs.Int.Signed.{lt_z}
use Rattle.std.proofs.lemmas.Bool.{not-false}
use Rattle.std.specs.Int.{w64}
use Rattle.std.proofs.Common.{SFits, to_z, of_z}
use Rattle.std.proofs.lemmas.Int.{to_z-of_z}
use Rattle.whole.specs.Whole.{Ex}
use Rattle.whole.specs.Fits.{between, fits}
use Rattle.whole.specs.Order.{lt_z_false}
use Rattle.lists.specs.Tests.{and_true, or_false, within_true}
use Rattle.paper.specs.Limits.{coordinate_fits}
use Rattle.paper.specs.Answers.{bad_window, far_off}
use Rattle.paper.specs.declared.Segment.{Segment}
use Rattle.paper.specs.declared.Window.{Window}

-- within the limits of a coordinate
pub record Small (z : ℤ) : Type 0 where
  pub fits : coordinate_fits z ≡ true

-- such a number as a term whose bound is known
abbrev pub small : {z : ℤ} → Small z → Ex
small {z} h = let p = within_true (neg_ℤ (pos 536870912)) (pos 536870912) z h.fits in between 536870912 p.0 p.1

pub small_fits : {z : ℤ} → Small z → SFits w64 z
small_fits h = fits w64 (small h) tt

-- a number that went through the machine's bits
abbrev pub R : ℤ → ℤ
R z = to_z w64 (of_z w64 z)

pub clean : {z : ℤ} → Small z → R z ≡ z
clean {z} h = to_z-of_z w64 z (small_fits h)

pub small_back : {z : ℤ} → Small z → Small (R z)
small_back h = rw (clean h) h

-- ---- a segment that 5 does not refuse
pub record Near (s : Segment) : Type 0 where
  pub x1 : Small s.x1
  pub y1 : Small s.y1
  pub x2 : Small s.x2
  pub y2 : Small s.y2

-- ---- a window that 8 does not refuse
pub record Framed (w : Window) : Type 0 where
  pub a : Small w.a
  pub b : Small w.b
  pub c : Small w.c
  pub d : Small w.d
  pub across : w.a ≤ℤ w.b
  pub along : w.c ≤ℤ w.d

four_true : (a b c d : Bool) → not (a && b && c && d) ≡ false → (a ≡ true) × (b ≡ true) × (c ≡ true) × (d ≡ true)
four_true a b c d e =
    let p = and_true (a && b && c) d (not-false (a && b && c && d) e) in
    let q = and_true (a && b) c p.0 in
    let r = and_true a b q.0 in
    (r.0, r.1, q.1, p.1)

pub near : (s : Segment) → far_off s ≡ false → Near s
near s e =
    let p = four_true (coordinate_fits s.x1) (coordinate_fits s.y1) (coordinate_fits s.x2) (coordinate_fits s.y2) e in
    record { x1 = record { fits = p.0 }; y1 = record { fits = p.1 }; x2 = record { fits = p.2 }; y2 = record { fits = p.3 } }

pub framed : (w : Window) → (bad_window w).given ≡ false → Framed w
framed w e =
    let fit = coordinate_fits w.a && coordinate_fits w.b && coordinate_fits w.c && coordinate_fits w.d in
    let p = or_false (lt_z w.b w.a || lt_z w.d w.c) (not fit) e in
    let q = or_false (lt_z w.b w.a) (lt_z w.d w.c) p.0 in
    let r = four_true (coordinate_fits w.a) (coordinate_fits w.b) (coordinate_fits w.c) (coordinate_fits w.d) p.1 in
    record { a = record { fits = r.0 }; b = record { fits = r.1 }; c = record { fits = r.2 }; d = record { fits = r.3 }; across = lt_z_false q.0; along = lt_z_false q.1 }

-- ---- the corners, low-left, low-right, high-left, high-right
abbrev pub corners : (a b c d : ℤ) → List (List ℤ)
corners a b c d = (a ∷ c ∷ []) ∷ (b ∷ c ∷ []) ∷ (a ∷ d ∷ []) ∷ (b ∷ d ∷ []) ∷ []

-- the two numbers of each of a list of points are small
pub record SmallPoints (points : List (List ℤ)) : Type 0 where
  pub x : (k : ℕ) → Small (get_or (get_or points k []) 0 (pos 0))
  pub y : (k : ℕ) → Small (get_or (get_or points k []) 1 (pos 0))

-- any four points: which of them are the corners is for the contract to say
abbrev pub four : (x0 y0 x1 y1 x2 y2 x3 y3 : ℤ) → List (List ℤ)
four x0 y0 x1 y1 x2 y2 x3 y3 = (x0 ∷ y0 ∷ []) ∷ (x1 ∷ y1 ∷ []) ∷ (x2 ∷ y2 ∷ []) ∷ (x3 ∷ y3 ∷ []) ∷ []

pub small_points : {x0 y0 x1 y1 x2 y2 x3 y3 : ℤ} → Small x0 × Small y0 × Small x1 × Small y1 × Small x2 × Small y2 × Small x3 × Small y3 → SmallPoints (four x0 y0 x1 y1 x2 y2 x3 y3)
small_points {x0} {y0} {x1} {y1} {x2} {y2} {x3} {y3} (p0, q0, p1, q1, p2, q2, p3, q3) = record { x = atx; y = aty }
  where
    atx : (k : ℕ) → Small (get_or (get_or (four x0 y0 x1 y1 x2 y2 x3 y3) k []) 0 (pos 0))
    atx zero = p0
    atx (suc zero) = p1
    atx (suc (suc zero)) = p2
    atx (suc (suc (suc zero))) = p3
    atx (suc (suc (suc (suc k)))) = record { fits = refl }

    aty : (k : ℕ) → Small (get_or (get_or (four x0 y0 x1 y1 x2 y2 x3 y3) k []) 1 (pos 0))
    aty zero = q0
    aty (suc zero) = q1
    aty (suc (suc zero)) = q2
    aty (suc (suc (suc zero))) = q3
    aty (suc (suc (suc (suc k)))) = record { fits = refl }
