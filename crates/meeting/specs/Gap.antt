-- The box test on one axis as one number: the edges lo..hi and the ends u1, u2 overlap exactly where their gap is 0 or less.
use Rattle.std.specs.Prelude.{◌≡◌, refl, Bool, true, false, cond, ◌&&◌, ◌||◌, ℤ, pos, ◌-ℤ◌, ◌≤ℤ◌}
use Rattle.std.proofs.Common.{sym, ap, ap₂, ◌∙◌, subst, SFits}
use Rattle.std.specs.Int.Signed.{le_z, lt_z}
use Rattle.std.specs.Int.{w64, int_min, int_max}
use Rattle.std.proofs.lemmas.Int.{to_z-of_z}
use Rattle.whole.specs.Whole.{whole, of, #, ◌⊖◌}
use Rattle.whole.specs.Fits.{fits}
use Rattle.whole.specs.Order.{le_same, true_le_z}
use Rattle.lists.specs.Tests.{and_comm}
use Rattle.paper.specs.Corners.{overlaps}
use Rattle.meeting.specs.Bounds.{Small, small, R, clean}

-- of two tests the one that follows from the other
weaker_or : (p q : Bool) → (q ≡ true → p ≡ true) → p ≡ (p || q)
weaker_or true q f = refl
weaker_or false true f = f refl
weaker_or false false f = refl

or_weaker : (p q : Bool) → (p ≡ true → q ≡ true) → q ≡ (p || q)
or_weaker true q f = f refl
or_weaker false q f = refl

stronger_and : (p q : Bool) → (p ≡ true → q ≡ true) → p ≡ (p && q)
stronger_and true q f = sym (f refl)
stronger_and false q f = refl

and_stronger : (p q : Bool) → (q ≡ true → p ≡ true) → q ≡ (p && q)
and_stronger true q f = refl
and_stronger false true f = sym (f refl)
and_stronger false false f = refl

low : {x y : ℤ} (z : ℤ) → x ≤ℤ y → le_z y z ≡ true → le_z x z ≡ true
low {x} {y} z h e = true_le_z {a = x} {b = z} (omega whole)

high : {x y : ℤ} (z : ℤ) → x ≤ℤ y → le_z z x ≡ true → le_z z y ≡ true
high {x} {y} z h e = true_le_z {a = z} {b = y} (omega whole)

order : (x y : ℤ) (b : Bool) → lt_z x y ≡ b → cond b (x ≤ℤ y) (y ≤ℤ x)
order x y true e = omega whole
order x y false e = omega whole

least_le : (x y z : ℤ) → le_z (int_min x y) z ≡ (le_z x z || le_z y z)
least_le x y z = go (lt_z y x) (order y x (lt_z y x) refl)
  where
    go : (b : Bool) → cond b (y ≤ℤ x) (x ≤ℤ y) → le_z (cond b y x) z ≡ (le_z x z || le_z y z)
    go true h = or_weaker (le_z x z) (le_z y z) (low z h)
    go false h = weaker_or (le_z x z) (le_z y z) (low z h)

le_greatest : (z x y : ℤ) → le_z z (int_max x y) ≡ (le_z z x || le_z z y)
le_greatest z x y = go (lt_z y x) (order y x (lt_z y x) refl)
  where
    go : (b : Bool) → cond b (y ≤ℤ x) (x ≤ℤ y) → le_z z (cond b x y) ≡ (le_z z x || le_z z y)
    go true h = weaker_or (le_z z x) (le_z z y) (high z h)
    go false h = or_weaker (le_z z x) (le_z z y) (high z h)

greatest_le : (x y z : ℤ) → le_z (int_max x y) z ≡ (le_z x z && le_z y z)
greatest_le x y z = go (lt_z y x) (order y x (lt_z y x) refl)
  where
    go : (b : Bool) → cond b (y ≤ℤ x) (x ≤ℤ y) → le_z (cond b x y) z ≡ (le_z x z && le_z y z)
    go true h = stronger_and (le_z x z) (le_z y z) (low z h)
    go false h = and_stronger (le_z x z) (le_z y z) (low z h)

pub gap_is : (lo hi u1 u2 : ℤ) → le_z (int_max (int_min u1 u2 -ℤ hi) (lo -ℤ int_max u1 u2)) (pos 0) ≡ overlaps lo hi u1 u2
gap_is lo hi u1 u2 =
    greatest_le (int_min u1 u2 -ℤ hi) (lo -ℤ int_max u1 u2) (pos 0)
    ∙ and_comm (le_z (int_min u1 u2 -ℤ hi) (pos 0)) (le_z (lo -ℤ int_max u1 u2) (pos 0))
    ∙ ap₂ (λ a b. a && b) (less lo (int_max u1 u2) ∙ le_greatest lo u1 u2) (less (int_min u1 u2) hi ∙ least_le u1 u2 hi)
  where
    less : (x y : ℤ) → le_z (x -ℤ y) (pos 0) ≡ le_z x y
    less x y = le_same (x -ℤ y) (pos 0) x y (λ h. omega (whole, of (# x ⊖ # y))) (λ h. omega (whole, of (# x ⊖ # y)))

-- ---- as the code has it: numbers that went through the machine's bits, and what the calls returned
one_of : (P : ℤ → Type 0) (b : Bool) {x y : ℤ} → P x → P y → P (cond b x y)
one_of P true h g = h
one_of P false h g = g

diff_fits : {x y : ℤ} → Small x → Small y → SFits w64 (R x -ℤ R y)
diff_fits h g = rw (clean h, clean g) (fits w64 (small h ⊖ small g) tt)

module _ (lo hi u1 u2 : ℤ) (l : Small lo) (h : Small hi) (f : Small u1) (g : Small u2) where
  module _ {m : ℤ} (e : m ≡ int_min (R u1) (R u2)) where
    m_is : m ≡ int_min u1 u2
    m_is = rw (clean f, clean g) at e

    m_small : Small m
    m_small = subst Small (sym m_is) (one_of Small (lt_z u2 u1) g f)

    pub after_fits : SFits w64 (R m -ℤ R hi)
    after_fits = diff_fits m_small h

  module _ {k : ℤ} (e : k ≡ int_max (R u1) (R u2)) where
    k_is : k ≡ int_max u1 u2
    k_is = rw (clean f, clean g) at e

    k_small : Small k
    k_small = subst Small (sym k_is) (one_of Small (lt_z u2 u1) f g)

    pub before_fits : SFits w64 (R lo -ℤ R k)
    before_fits = diff_fits l k_small

  pub gap_says : {m k r : ℤ} → m ≡ int_min (R u1) (R u2) → k ≡ int_max (R u1) (R u2) → SFits w64 r → r ≡ int_max (R (R m -ℤ R hi)) (R (R lo -ℤ R k)) → le_z (R r) (pos 0) ≡ overlaps lo hi u1 u2
  gap_says {m} {k} {r} p q s t =
      ap (λ z. le_z z (pos 0))
      (to_z-of_z w64 r s ∙ t
      ∙ ap₂ int_max
      (to_z-of_z w64 _ (after_fits p) ∙ ap₂ (λ x y. x -ℤ y) (clean (m_small p) ∙ m_is p) (clean h))
      (to_z-of_z w64 _ (before_fits q) ∙ ap₂ (λ x y. x -ℤ y) (clean l) (clean (k_small q) ∙ k_is q)))
      ∙ gap_is lo hi u1 u2

-- the two gaps as one
pub both_gaps : (x y : ℤ) {m : ℤ} {p q : Bool} → SFits w64 x → SFits w64 y → SFits w64 m → m ≡ int_max (R x) (R y) → le_z x (pos 0) ≡ p → le_z y (pos 0) ≡ q → le_z (R m) (pos 0) ≡ (p && q)
both_gaps x y {m} f g h e a b =
    ap (λ z. le_z z (pos 0)) (to_z-of_z w64 m h ∙ e ∙ ap₂ int_max (to_z-of_z w64 x f) (to_z-of_z w64 y g)) ∙ greatest_le x y (pos 0) ∙ ap₂ (λ p q. p && q) a b
