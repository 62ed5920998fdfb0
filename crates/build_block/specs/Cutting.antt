-- Where a run that stands by near passes the centre: up to the cut near is no farther than the centre, from the cut on it is.
-- Use: `Cut` is what the search finds; it starts at the middle (`middle_low`) and stops at the first that is beyond (`beyond`). For every axis. Assumes nothing.
use Rattle.std.specs.Prelude.{◌≡◌, refl, Bool, true, false, not, List, [], ◌∷◌, ℕ, zero, suc, ◌+◌, ◌≤◌, ◌<◌, T, ℤ, length, get_or, take, drop}
use Rattle.std.proofs.Common.{sym, subst, add-one, arith, take-suc, drop-cons}
use Rattle.std.specs.Int.Signed.{le_z, lt_z}
use Rattle.lists.specs.Tests.{fails, holds}
use Rattle.lists.specs.Orders.{lt_z_not, lt_z_up, ℤ_order, le_self, fail_up}
use Rattle.lists.specs.Every.{All, all_map, all_append, all_get_d, Sorted}
use Rattle.paper.specs.declared.Segment.{Segment}
use Rattle.paper.specs.Words.{Axis, near_of}
use Rattle.build_block.specs.Sides.{Nearer}

-- all up to a place stand in the relation to its element; its element stands in it to all after it
sorted_before : {A : Type 0} {R : A → A → Type 0} → ((x : A) → R x x) → (d : A) (j : ℕ) {l : List A} → Sorted R l → j < length l → All (λ x. R x (get_or l j d)) (take (suc j) l)
sorted_before self d j Sorted.none h = absurd (omega arith)
sorted_before self d zero (Sorted.next {x = x} a s) h = All.also (self x) All.none
sorted_before self d (suc j) (Sorted.next a s) h = All.also (all_get_d j d (omega arith) a) (sorted_before self d j s (omega arith))

sorted_after : {A : Type 0} {R : A → A → Type 0} (d : A) (j : ℕ) {l : List A} → Sorted R l → j < length l → All (R (get_or l j d)) (drop (suc j) l)
sorted_after d j Sorted.none h = absurd (omega arith)
sorted_after d zero (Sorted.next a s) h = a
sorted_after d (suc j) (Sorted.next a s) h = sorted_after d j s (omega arith)

module _ (rs : List Segment) (axis : Axis) (centre : ℤ) (ps : List ℕ) where
  pub record Cut (cut : ℕ) : Type 0 where
    pub within : cut ≤ length ps
    pub low : All (λ p. T (le_z (near_of rs axis p) centre)) (take cut ps)
    pub high : All (λ p. T (not (le_z (near_of rs axis p) centre))) (drop cut ps)

  pub record Low (cut : ℕ) : Type 0 where
    pub within : cut ≤ length ps
    pub low : All (λ p. T (le_z (near_of rs axis p) centre)) (take cut ps)

  pub middle_low : (j : ℕ) → Sorted (Nearer rs axis) ps → j < length ps → centre ≡ near_of rs axis (get_or ps j 0) → Low (j + 1)
  middle_low j s h e = record {
    within = omega arith;
    low = rw (add-one j, e) (sorted_before (λ x. le_self le_z ℤ_order (near_of rs axis x)) 0 j s h);
  }

  pub one_more : (cut : ℕ) → Low cut → cut < length ps → lt_z centre (near_of rs axis (get_or ps cut 0)) ≡ false → Low (cut + 1)
  one_more cut g h e = record {
    within = omega arith;
    low = rw (add-one cut, take-suc ps cut 0 h) (all_append g.low (All.also {x = get_or ps cut 0} (subst T (lt_z_up (near_of rs axis (get_or ps cut 0)) centre) (fails e)) All.none));
  }

  pub beyond : (cut : ℕ) → Low cut → Sorted (Nearer rs axis) ps → cut < length ps → lt_z centre (near_of rs axis (get_or ps cut 0)) ≡ true → Cut cut
  beyond cut g s h e =
      let far : T (not (le_z (near_of rs axis (get_or ps cut 0)) centre)) = subst T (lt_z_not centre (near_of rs axis (get_or ps cut 0))) (holds e) in
      record {
        within = g.within;
        low = g.low;
        high = rw (drop-cons ps cut 0 h) (All.also far (all_map (λ p k. fail_up le_z ℤ_order (near_of rs axis (get_or ps cut 0)) centre (near_of rs axis p) far k) (sorted_after 0 cut s h)));
      }

  pub to_the_end : (cut : ℕ) → Low cut → length ps ≤ cut → Cut cut
  to_the_end cut g h = record { within = g.within; low = g.low; high = subst (All _) (sym (none cut ps h)) All.none }
    where
      none : (n : ℕ) (l : List ℕ) → length l ≤ n → drop n l ≡ []
      none zero [] h = refl
      none zero (x ∷ l) h = absurd (omega arith)
      none (suc n) [] h = refl
      none (suc n) (x ∷ l) h = none n l (omega arith)

  -- the one that gives the centre is before the cut
  pub reached : (j cut : ℕ) → j < length ps → centre ≡ near_of rs axis (get_or ps j 0) → Cut cut → 0 < cut
  reached j zero h e c = absurd (never _ (rw e (le_self le_z ℤ_order (near_of rs axis (get_or ps j 0)))) (all_get_d j 0 h c.high))
    where
      never : (b : Bool) → T b → T (not b) → ⊥
      never true t f = f
      never false t f = t
  reached j (suc cut) h e c = omega arith
