-- The search by halving for the first place at which a test holds that stays true once it is: what it finds, and that it looks at no more places than
-- the distance has binary digits.
-- Use: `found f 0 n` with f = n; `found_at_is` for its result, `found_first` where it goes over a list, `looks_le` for the count of looks. Assumes nothing.
use Rattle.std.specs.Prelude.{◌≡◌, ◌≢◌, Bool, cond, List, ◌∷◌, length, take, drop, get_or, eqb}
use Rattle.std.proofs.Math.Path.{refl}
use Rattle.std.proofs.Common.{subst, lt_of_not-le, length-take, length-drop, get_or-take, get_or-drop, T_not}
use Rattle.std.proofs.Math.Bool.{true, false, not}
use Prim.Native.Nat.{ℕ, zero, suc, ◌+◌, ◌-◌, ◌/◌, ◌^◌, ◌≤◌, ◌<◌}
use Rattle.std.proofs.Math.Nat.{two-pow-succ}
use native.Mathlib.Omega.{arith}
use Rattle.std.proofs.Math.Dec.{T, eqb→eq, eqb_refl}
use Rattle.lists.specs.Plain.{count}
use Rattle.lists.specs.Tests.{cases, gate, holds, fails, yes_not}
use Rattle.lists.specs.Every.{All, all_map, all_get_d, Sorted}
use Rattle.lists.specs.Counting.{count_none, count_le}

module _ (up : ℕ → Bool) where
  unfoldable pub found : ℕ → ℕ → ℕ → ℕ
  found zero lo hi = lo
  found (suc f) lo hi = cond (eqb lo hi) lo (cond (up ((lo + hi) / 2)) (found f lo ((lo + hi) / 2)) (found f (suc ((lo + hi) / 2)) hi))

  unfoldable pub looks : ℕ → ℕ → ℕ → ℕ
  looks zero lo hi = 0
  looks (suc f) lo hi = cond (eqb lo hi) 0 (suc (cond (up ((lo + hi) / 2)) (looks f lo ((lo + hi) / 2)) (looks f (suc ((lo + hi) / 2)) hi)))

  pub unequal : (m n : ℕ) → T (not (eqb m n)) → m ≢ n
  unequal m n h e = T_not (eqb m n) h (subst (λ (k : ℕ). T (eqb m k)) e (eqb_refl m))

  pub found_at_is : (t f lo hi : ℕ) → ((i : ℕ) → T (up i) → i < hi → t ≤ i) → ((i : ℕ) → T (not (up i)) → i < hi → i < t) → lo ≤ t → t ≤ hi → hi ≤ lo + f → found f lo hi ≡ t
  unfolding found
  found_at_is t zero lo hi hy hn l h e = omega arith
  found_at_is t (suc f) lo hi hy hn l h e =
      cases (λ n. n ≡ t) (eqb lo hi) lo _ (λ k. omega (arith, eqb→eq lo hi k)) (λ k.
      let ne = unequal lo hi k in
      let m = (lo + hi) / 2 in
      cases (λ n. n ≡ t) (up m) _ _
      (λ u. found_at_is t f lo m (λ i v w. hy i v (omega arith)) (λ i v w. hn i v (omega arith)) l (hy m u (omega arith)) (omega arith))
      (λ u. found_at_is t f (suc m) hi hy hn (hn m u (omega arith)) h (omega arith)))

  pub looks_le : (f h lo hi : ℕ) → lo ≤ hi → hi - lo < 2 ^ h → looks f lo hi ≤ h
  unfolding looks
  looks_le zero h lo hi l e = omega arith
  looks_le (suc f) zero lo hi l e = cases (λ n. n ≤ 0) (eqb lo hi) 0 _ (λ k. omega arith) (λ k. absurd (unequal lo hi k (omega arith)))
  looks_le (suc f) (suc h) lo hi l e =
      cases (λ n. n ≤ suc h) (eqb lo hi) 0 _ (λ k. omega arith) (λ k.
      let ne = unequal lo hi k in
      let m = (lo + hi) / 2 in
      cases (λ n. suc n ≤ suc h) (up m) _ _
      (λ u. omega (arith, looks_le f h lo m (omega arith) (omega (arith, two-pow-succ h))))
      (λ u. omega (arith, looks_le f h (suc m) hi (omega arith) (omega (arith, two-pow-succ h)))))

-- ---- over a list: a test that, once it holds, holds of all that follow
module _ {A : Type 0} (up : A → Bool) where
  abbrev pub Rising : List A → Type 0
  Rising = Sorted (λ x y. T (up x) → T (up y))

  -- how many stand before the first of which it holds
  abbrev pub falls_short : List A → ℕ
  falls_short l = count (λ x. not (up x)) l

  pub rising_parts : {l : List A} → Rising l → All (λ x. T (not (up x))) (take (falls_short l) l) × All (λ x. T (up x)) (drop (falls_short l) l)
  unfolding count
  rising_parts Sorted.none = (All.none, All.none)
  rising_parts (Sorted.next {x = x} {l = l} h s) = go (up x) refl (rising_parts s)
    where
      go : (t : Bool) → up x ≡ t → All (λ x. T (not (up x))) (take (falls_short l) l) × All (λ x. T (up x)) (drop (falls_short l) l)
          → All (λ x. T (not (up x))) (take (gate (not t) 1 + falls_short l) (x ∷ l)) × All (λ x. T (up x)) (drop (gate (not t) 1 + falls_short l) (x ∷ l))
      go true e ih =
          let later : All (λ y. T (up y)) l = all_map (λ y g. g (holds e)) h in
          let none : 0 + falls_short l ≡ 0 = omega (arith, count_none (λ y. not (up y)) (all_map (λ y g. yes_not (up y) g) later)) in
          rw none (All.none, All.also (holds e) later)
      go false e ih =
          let one : 1 + falls_short l ≡ suc (falls_short l) = omega arith in
          rw one (All.also (fails e) ih.0, ih.1)

  -- the search finds that place
  pub found_first : (d : A) {l : List A} → Rising l → found (λ i. up (get_or l i d)) (length l) 0 (length l) ≡ falls_short l
  found_first d {l} r =
      let t = falls_short l in
      let parts = rising_parts r in
      let le : t ≤ length l = count_le (λ x. not (up x)) l in
      found_at_is (λ i. up (get_or l i d)) t (length l) 0 (length l)
      (λ i u h. not_below (λ (k : i < t). T_not (up (get_or l i d)) (rw (get_or-take t l i d k) at (all_get_d i d (simp length-take (omega arith)) parts.0)) u))
      (λ i u h. lt_of_not-le (λ (k : t ≤ i).
      let e : t + (i - t) ≡ i = omega arith in
      T_not (up (get_or l i d)) u (rw (get_or-drop t l (i - t) d, e) at (all_get_d (i - t) d (simp length-drop (omega arith)) parts.1))))
      (omega arith) le (omega arith)
    where
      not_below : {i t : ℕ} → ¬ (i < t) → t ≤ i
      not_below h = omega arith
