-- Answer 9 by its parts, and what an index that it is not given for has.
use Rattle.std.specs.Prelude.{◌≡◌, refl, Bool, true, false, not, ◌&&◌, ◌||◌, List, ℕ, ◌+◌, ◌-◌, ◌^◌, ◌≤◌, ◌<◌, ltb, leb, length, ℤ, pos, negsuc, ◌+ℤ◌}
use Rattle.std.proofs.Common.{sym, ◌∙◌, true≢false, arith, ltb-true, ltb-false, lt-ltb, le-ltb, leb-true}
use Rattle.std.specs.Int.Signed.{lt_z}
use Rattle.lists.specs.Plain.{same, to_nat}
use Rattle.lists.specs.Digits.{digits_bound, digits_least}
use Rattle.paper.specs.Limits.{extent_fits, lower_fits}
use Rattle.paper.specs.Orders.{bad_index}
use Rattle.paper.specs.Words.{L, W}
use Rattle.paper.specs.Walk.{word, size_in}
use Rattle.tally.specs.Reads.{Ready}
use Rattle.axes.specs.declared.Axis.{Axis}
use Rattle.axes.specs.declared.Axis.TheVariants.{Horizontal, Vertical}

abbrev pub bad_header : (n lower across upright : ℤ) → Bool
bad_header n lower across upright = not (extent_fits n) || not (lower_fits lower) || lt_z across (pos 0) || lt_z upright (pos 0) || not (same (across +ℤ upright) n)

-- how many segments the header says to lie along an axis
abbrev pub along_in : List ℤ → Axis → ℕ
along_in ws Horizontal = to_nat (word ws 2)
along_in ws Vertical = to_nat (word ws 3)

or_left : (a b : Bool) → (a || b) ≡ false → a ≡ false
or_left true b e = e
or_left false b e = refl

or_right : (a b : Bool) → (a || b) ≡ false → b ≡ false
or_right true b e = absurd (true≢false e)
or_right false b e = e

not_no : (a : Bool) → not a ≡ false → a ≡ true
not_no true e = refl
not_no false e = absurd (true≢false e)

-- three numbers of which two are not negative and add to the third
small : (z : ℤ) → extent_fits z ≡ true → (z ≡ pos (to_nat z)) × (to_nat z ≤ 4096)
small (pos k) e = (refl, leb-true k 4096 (go (leb 0 k) e))
  where
    go : (a : Bool) → (a && leb k 4096) ≡ true → leb k 4096 ≡ true
    go true q = q
    go false q = absurd (true≢false (sym q))
small (negsuc k) e = absurd (true≢false (sym e))

natural : (z : ℤ) → lt_z z (pos 0) ≡ false → z ≡ pos (to_nat z)
natural (pos k) e = refl
natural (negsuc k) e = absurd (true≢false e)

sum : (a b n : ℕ) → same (pos a +ℤ pos b) (pos n) ≡ true → a + b ≡ n
sum a b n e = go (leb (a + b) n) (leb n (a + b)) refl refl e
  where
    go : (s t : Bool) → leb (a + b) n ≡ s → leb n (a + b) ≡ t → (s && t) ≡ true → a + b ≡ n
    go true true p q r = omega (arith, leb-true (a + b) n p, leb-true n (a + b) q)
    go true false p q r = absurd (true≢false (sym r))
    go false t p q r = absurd (true≢false (sym r))

module _ (ws : List ℤ) where
  pub record Sound : Type 0 where
    pub four : 4 ≤ length ws
    pub most : size_in ws ≤ 4096
    pub lower : lower_fits (word ws 1) ≡ true
    pub counts : to_nat (word ws 2) + to_nat (word ws 3) ≡ size_in ws
    pub words : W (size_in ws) ≤ length ws

  abbrev far : Bool
  far = not (extent_fits (word ws 0))

  abbrev off : Bool
  off = not (lower_fits (word ws 1))

  abbrev less : Bool
  less = lt_z (word ws 2) (pos 0)

  abbrev fewer : Bool
  fewer = lt_z (word ws 3) (pos 0)

  abbrev uneven : Bool
  uneven = not (same (word ws 2 +ℤ word ws 3) (word ws 0))

  abbrev bad : Bool
  bad = bad_header (word ws 0) (word ws 1) (word ws 2) (word ws 3)

  pub short_index : length ws < 4 → true ≡ (bad_index ws).given
  short_index h = rw (lt-ltb (length ws) 4 h)

  long_index : 4 ≤ length ws → (bad_index ws).given ≡ (bad || ltb (length ws) (W (size_in ws)))
  long_index h = rw (le-ltb (length ws) 4 h)

  pub sound_index : (bad_index ws).given ≡ false → Sound
  sound_index e = go (ltb (length ws) 4) refl
    where
      go : (t : Bool) → ltb (length ws) 4 ≡ t → Sound
      go true t = absurd (true≢false (short_index (ltb-true (length ws) 4 t) ∙ e))
      go false t =
          let h : 4 ≤ length ws = ltb-false (length ws) 4 t in
          let q : (bad || ltb (length ws) (W (size_in ws))) ≡ false = sym (long_index h) ∙ e in
          let b : bad ≡ false = or_left bad (ltb (length ws) (W (size_in ws))) q in
          let b3 = or_left (far || off || less || fewer) uneven b in
          let b2 = or_left (far || off || less) fewer b3 in
          let b1 = or_left (far || off) less b2 in
          let x = natural (word ws 2) (or_right (far || off) less b2) in
          let y = natural (word ws 3) (or_right (far || off || less) fewer b3) in
          let n = small (word ws 0) (not_no (extent_fits (word ws 0)) (or_left far off b1)) in
          let s = not_no (same (word ws 2 +ℤ word ws 3) (word ws 0)) (or_right (far || off || less || fewer) uneven b) in
          record {
            four = h;
            most = n.1;
            lower = not_no (lower_fits (word ws 1)) (or_right far off b1);
            counts = sum _ _ _ ((λ k. same (sym x k +ℤ sym y k) (sym n.0 k)) ∙ s);
            words = ltb-false (length ws) (W (size_in ws)) (or_right bad (ltb (length ws) (W (size_in ws))) q);
          }

  module _ (s : Sound) where
    pub ready : Ready ws (size_in ws) (word ws 1)
    ready = record { small = omega (arith, s.most); lower = s.lower; records = omega (arith, s.words) }

    -- levels below the first are enough for n, and few
    pub levels_enough : size_in ws ≤ 2 ^ L (size_in ws - 1)
    levels_enough = omega (arith, digits_bound (size_in ws - 1))

    pub levels_few : L (size_in ws - 1) ≤ 12
    levels_few = digits_least (size_in ws - 1) 12 (omega (arith, s.most))
