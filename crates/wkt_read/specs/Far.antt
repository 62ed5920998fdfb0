-- The first segment with a coordinate beyond the limits, by the count of coordinates before the first such.
use Rattle.std.specs.Prelude.{◌≡◌, refl, Bool, true, false, not, cond, ◌&&◌, List, [], ◌∷◌, ℕ, zero, suc, ◌*◌, ◌/◌, ◌<◌, length}
use Rattle.std.proofs.Common.{sym, subst, arith}
use Rattle.lists.specs.Choosing.{First}
use Rattle.paper.specs.Limits.{coordinate_fits}
use Rattle.paper.specs.Answers.{far_off}
use Rattle.paper.specs.Descriptor.{at as segmentAt}
use Rattle.paper.specs.Wkt.{coordinates_of}
use Rattle.paper.specs.declared.Segment.{Segment}
use Rattle.wkt_read.specs.Tally.{fitting_of}

pub coordinates_length : (segments : List Segment) → length (coordinates_of segments) ≡ 4 * length segments
unfolding coordinates_of
coordinates_length [] = refl
coordinates_length (s ∷ ss) = omega (arith, coordinates_length ss)

-- how many of four tests hold from the front, and what follows where all do
abbrev front : Bool → Bool → Bool → Bool → ℕ → ℕ
front a b c d g = cond a (suc (cond b (suc (cond c (suc (cond d (suc g) 0)) 0)) 0)) 0

pub far_first : (segments : List Segment) → First (λ p. far_off (segmentAt segments p)) (length segments) (fitting_of (coordinates_of segments) / 4)
unfolding coordinates_of fitting_of
far_first [] = record { within = omega arith; before = λ k h. absurd (omega arith); here = λ h. absurd (omega arith) }
far_first (s ∷ ss) = go (coordinate_fits s.x1) (coordinate_fits s.y1) (coordinate_fits s.x2) (coordinate_fits s.y2) refl (far_first ss)
  where
    G : ℕ
    G = fitting_of (coordinates_of ss)

    near : First (λ p. far_off (segmentAt ss p)) (length ss) (G / 4) → far_off s ≡ false → First (λ p. far_off (segmentAt (s ∷ ss) p)) (suc (length ss)) (suc (suc (suc (suc G))) / 4)
    near h e =
        let q : suc (suc (suc (suc G))) / 4 ≡ suc (G / 4) = omega arith in
        subst (First (λ p. far_off (segmentAt (s ∷ ss) p)) (suc (length ss))) (sym q)
        (record { within = omega (arith, h.within); before = early; here = λ l. h.here (omega arith) })
      where
        early : (k : ℕ) → k < suc (G / 4) → far_off (segmentAt (s ∷ ss) k) ≡ false
        early zero l = e
        early (suc k) l = h.before k (omega arith)

    far : (f : ℕ) → f < 4 → far_off s ≡ true → First (λ p. far_off (segmentAt (s ∷ ss) p)) (suc (length ss)) (f / 4)
    far f l e =
        let q : f / 4 ≡ 0 = omega arith in
        subst (First (λ p. far_off (segmentAt (s ∷ ss) p)) (suc (length ss))) (sym q)
        (record { within = omega arith; before = λ k m. absurd (omega arith); here = λ m. e })

    go : (a b c d : Bool) → not (coordinate_fits s.x1 && coordinate_fits s.y1 && coordinate_fits s.x2 && coordinate_fits s.y2) ≡ not (a && b && c && d)
        → First (λ p. far_off (segmentAt ss p)) (length ss) (G / 4) → First (λ p. far_off (segmentAt (s ∷ ss) p)) (suc (length ss)) (front a b c d G / 4)
    go true true true true e h = near h e
    go true true true false e h = far 3 (omega arith) e
    go true true false d e h = far 2 (omega arith) e
    go true false c d e h = far 1 (omega arith) e
    go false b c d e h = far 0 (omega arith) e
