-- What is said of meeting is one thing, for every window: a deciding test exists (`decided`), any two give the same results (`one_result`, `one_answer`),
-- and by any of them a scan lists each meeting position once and no other (`scan_demand`).
use Rattle.std.specs.Prelude.{◌≡◌, refl, Bool, true, false, ◌&&◌, List, ◌↔◌, ℕ, ◌<◌, eqb, ltb, ℤ, pos, length, ◌≤ℤ◌, ◌<ℤ◌}
use Rattle.std.proofs.Common.{sym, ap, ap₂, ◌∙◌, arith, lt-ltb, le-ltb}
use Rattle.std.proofs.Math.Decide.{dec_lt}
use Rattle.std.specs.Int.Signed.{le_z}
use Rattle.whole.specs.Order.{≤_trans, le_z_true, le_z_false, mul_cancel, true_le_z}
use Rattle.whole.specs.Whole.{whole}
use Rattle.lists.specs.Plain.{count}
use Rattle.lists.specs.Tests.{agree, is_true, holds, clash, gate, gate_zero}
use Rattle.lists.specs.Choosing.{count_chosen}
use Rattle.paper.specs.Descriptor.{at}
use Rattle.paper.specs.Meeting.{Between, Meets}
use Rattle.paper.specs.Corners.{weighed}
use Rattle.paper.specs.Answers.{positions_of, bad_window}
use Rattle.paper.specs.Results.{Result, scanned, Decides, Scanned}
use Rattle.paper.specs.Hosts.{host_meet, HostMeet}
use Rattle.paper.specs.Demands.{ScanDemand}
use Rattle.paper.specs.declared.Segment.{Segment}
use Rattle.paper.specs.declared.Window.{Window}
use Rattle.paper.specs.declared.Descriptor.{Descriptor}
use Rattle.meeting.specs.Decides.{decides}
use Rattle.meeting.specs.Bounds.{framed}

-- ---- any two deciding tests are one
pub one_test : (w : Window) (m k : Segment → Bool) → Decides w m → Decides w k → m ≡ k
one_test w m k f g = λ i s. agree (m s) (k s) (λ t. holds ((g.exactly s).1 ((f.exactly s).0 (is_true (m s) t)))) (λ t. holds ((f.exactly s).1 ((g.exactly s).0 (is_true (k s) t)))) i

pub one_result : (table : List ℤ) (d : Descriptor) (w : Window) (numbers : List ℤ) (r q : Result) → Scanned table d w numbers r → Scanned table d w numbers q → r ≡ q
one_result table d w numbers r q f g =
    f.result ∙ ap (λ (t : Segment → Bool). scanned t table d w numbers) (one_test w f.meets g.meets f.decides g.decides) ∙ sym g.result

pub one_answer : (s : Segment) (w : Window) (r q : ℤ) → HostMeet s w r → HostMeet s w q → r ≡ q
one_answer s w r q f g =
    f.result ∙ ap (λ (t : Segment → Bool). host_meet t s w) (one_test w f.meets g.meets f.decides g.decides) ∙ sym g.result

-- ---- a deciding test: the corners, where the edges are in order
-- a segment meets no window whose edges are in reverse
rises : {lo hi u1 u2 p q : ℤ} → pos 1 ≤ℤ q → Between lo hi u1 u2 p q → lo ≤ℤ hi
rises {lo} {hi} h b = mul_cancel lo hi h (≤_trans b.low b.high)

abbrev pub tested : Window → Segment → Bool
tested w s = le_z w.a w.b && (le_z w.c w.d && weighed w s)

pub decided : (w : Window) → Decides w (tested w)
decided w = record { exactly = λ s. go s (le_z w.a w.b) (le_z w.c w.d) refl refl }
  where
    no : {A : Type 0} {x y : ℤ} → le_z x y ≡ false → x ≤ℤ y → A
    no e h = absurd (never (le_z_false e) h)
      where
        never : {x y : ℤ} → y <ℤ x → x ≤ℤ y → ⊥
        never h k = omega whole

    go : (s : Segment) (x y : Bool) → le_z w.a w.b ≡ x → le_z w.c w.d ≡ y → ((x && (y && weighed w s)) ≡ true) ↔ Meets s w
    go s true true e f = decides w s (le_z_true e) (le_z_true f)
    go s true false e f = (λ t. clash (sym t), λ m. no f (rises m.some m.along))
    go s false y e f = (λ t. clash (sym t), λ m. no e (rises m.some m.across))

-- where 8 is not given it is the corner test
pub tested_is : (w : Window) → (bad_window w).given ≡ false → (s : Segment) → tested w s ≡ weighed w s
tested_is w g s = let f = framed w g in ap₂ (λ x y. x && (y && weighed w s)) (true_le_z f.across) (true_le_z f.along)

-- ---- demand 2 of the scan, on positions
pub scan_demand : ScanDemand
scan_demand segments w meets decides = record { once = once; never = never }
  where
    n : ℕ
    n = length segments

    hit : ℕ → Bool
    hit p = meets (at segments p)

    counted : (p : ℕ) → count (eqb p) (positions_of meets segments) ≡ gate (hit p) (gate (ltb p n) 1)
    counted p = count_chosen hit n p

    once : (p : ℕ) → p < n → Meets (at segments p) w → count (eqb p) (positions_of meets segments) ≡ 1
    once p h m = counted p ∙ ap₂ (λ b c. gate b (gate c 1)) ((decides.exactly (at segments p)).1 m) (lt-ltb p n h)

    never : (p : ℕ) → (p < n → Meets (at segments p) w → ⊥) → count (eqb p) (positions_of meets segments) ≡ 0
    never p f = counted p ∙ go (dec_lt p n)
      where
        none : (b : Bool) → hit p ≡ b → p < n → gate b (gate (ltb p n) 1) ≡ 0
        none true e h = absurd (f h ((decides.exactly (at segments p)).0 e))
        none false e h = refl

        go : Dec (p < n) → gate (hit p) (gate (ltb p n) 1) ≡ 0
        go (yes l) = none (hit p) refl l
        go (no l) = ap (λ c. gate (hit p) (gate c 1)) (le-ltb p n (omega arith)) ∙ gate_zero (hit p)
