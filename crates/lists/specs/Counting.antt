-- Counting: how many elements of a list pass a test (Plain's `count`), of parts, filters, maps; and how often a number stands in a list.
-- Use: state what a list holds as `count q l ≡ ..` for EVERY test q: q = (λ x. true) gives its length, q = eqb p how often p stands in it, and each step
-- is additive, so that omega closes it. Two lists with equal counts hold the same elements, each as often. Assumes nothing.
use Rattle.std.specs.Prelude.{◌≡◌, Bool, not, ◌&&◌, cond, length, take, drop, get_or, eqb}
use Rattle.std.proofs.Math.Path.{refl, ap₂}
use Rattle.std.proofs.Common.{sym, ap, ◌∙◌, eqb→eq}
use mathlib.Core.List.{List, [], ◌∷◌, ◌++◌, map}
use Rattle.std.proofs.Math.Bool.{true, false}
use Prim.Native.Nat.{ℕ, zero, suc, ◌+◌, ◌≤◌}
use native.Mathlib.Omega.{arith}
use Rattle.std.proofs.Math.Dec.{T, eqb_refl}
use Rattle.lists.specs.Plain.{count, filter}
use Rattle.lists.specs.Tests.{gate, gate_le, gate_none, gate_zero, gate_one, gate_add, fail_right, and_right}
use Rattle.lists.specs.Every.{All, all_map, Sorted, Distinct}

module _ {A : Type 0} where
  pub count_nil : (q : A → Bool) → count q [] ≡ 0
  unfolding count
  count_nil q = refl

  pub count_one : (q : A → Bool) (x : A) → count q (x ∷ []) ≡ gate (q x) 1
  unfolding count
  count_one q x = omega arith

  pub count_cons : (q : A → Bool) (x : A) (l : List A) → count q (x ∷ l) ≡ gate (q x) 1 + count q l
  unfolding count
  count_cons q x l = refl

  pub count_append : (q : A → Bool) (l m : List A) → count q (l ++ m) ≡ count q l + count q m
  unfolding count
  count_append q [] m = omega arith
  count_append q (x ∷ l) m = omega (arith, count_append q l m)

  -- of a list that is there only behind a test
  pub count_when : (q : A → Bool) (b : Bool) (l : List A) → count q (cond b l []) ≡ gate b (count q l)
  unfolding count
  count_when q true l = refl
  count_when q false l = refl

  pub count_split : (q : A → Bool) (n : ℕ) (l : List A) → count q l ≡ count q (take n l) + count q (drop n l)
  unfolding count
  count_split q zero l = omega arith
  count_split q (suc n) [] = omega arith
  count_split q (suc n) (x ∷ l) = omega (arith, count_split q n l)

  pub count_head : (q : A → Bool) (d : A) (l : List A) → 1 ≤ length l → count q l ≡ gate (q (get_or l 0 d)) 1 + count q (drop 1 l)
  unfolding count
  count_head q d [] h = absurd (omega arith)
  count_head q d (x ∷ l) h = refl

  pub count_none : (q : A → Bool) {l : List A} → All (λ x. T (not (q x))) l → count q l ≡ 0
  unfolding count
  count_none q All.none = refl
  count_none q (All.also {x = x} {l = l} p h) = gate_none (q x) (count q l) p (count_none q h)

  -- a count of 0 says that none passes
  pub none_counted : (q : A → Bool) (l : List A) → count q l ≡ 0 → All (λ x. T (not (q x))) l
  unfolding count
  none_counted q [] e = All.none
  none_counted q (x ∷ l) e = All.also (closed (q x) (omega arith)) (none_counted q l (omega arith))
    where
      closed : (b : Bool) → gate b 1 ≡ 0 → T (not b)
      closed true e = absurd (omega arith)
      closed false e = tt

  -- two tests that agree on every element count alike
  pub count_same : {p q : A → Bool} {l : List A} → All (λ x. p x ≡ q x) l → count p l ≡ count q l
  unfolding count
  count_same All.none = refl
  count_same (All.also e h) = ap₂ (λ (b : Bool) (n : ℕ). gate b 1 + n) e (count_same h)

  pub count_length : (l : List A) → count (λ x. true) l ≡ length l
  unfolding count
  count_length [] = refl
  count_length (x ∷ l) = omega (arith, count_length l)

  pub count_le : (q : A → Bool) (l : List A) → count q l ≤ length l
  unfolding count
  count_le q [] = omega arith
  count_le q (x ∷ l) = omega (arith, count_le q l, gate_le (q x) 1)

  pub count_mono : (p q : A → Bool) {l : List A} → All (λ x. T (p x) → T (q x)) l → count p l ≤ count q l
  unfolding count
  count_mono p q All.none = omega arith
  count_mono p q (All.also {x = x} f h) = go (p x) (q x) f (count_mono p q h)
    where
      go : {m n : ℕ} (s t : Bool) → (T s → T t) → m ≤ n → gate s 1 + m ≤ gate t 1 + n
      go true true f e = omega arith
      go true false f e = absurd (f tt)
      go false t f e = omega (arith, gate_le t 1)

  -- those that pass and those that fail are all
  pub count_parts : (q : A → Bool) (l : List A) → count q l + count (λ x. not (q x)) l ≡ length l
  unfolding count
  count_parts q [] = refl
  count_parts q (x ∷ l) = omega (arith, count_parts q l, one (q x))
    where
      one : (b : Bool) → gate b 1 + gate (not b) 1 ≡ 1
      one true = refl
      one false = refl

  -- ---- what passes a test
  pub filter_count : (q t : A → Bool) (l : List A) → count q (filter t l) ≡ count (λ x. q x && t x) l
  unfolding count filter
  filter_count q t [] = refl
  filter_count q t (x ∷ l) = go (t x) (filter t l) (filter_count q t l)
    where
      go : (b : Bool) (m : List A) → count q m ≡ count (λ x. q x && t x) l → count q (cond b (x ∷ m) m) ≡ gate (q x && b) 1 + count (λ x. q x && t x) l
      go true m e = rw (and_right (q x) true tt) (omega arith)
      go false m e = omega (arith, gate_none (q x && false) 0 (fail_right (q x) false tt) refl)

  pub filter_length : (t : A → Bool) (l : List A) → length (filter t l) ≡ count t l
  filter_length t l = sym (count_length (filter t l)) ∙ filter_count (λ x. true) t l

pub count_map : {A B : Type 0} (f : A → B) (q : B → Bool) (l : List A) → count q (map f l) ≡ count (λ x. q (f x)) l
unfolding count
count_map f q [] = refl
count_map f q (x ∷ l) = ap (λ (n : ℕ). gate (q (f x)) 1 + n) (count_map f q l)

-- ---- how often a number stands in a list

gate_equal : (h : ℕ → Bool) (a x : ℕ) → gate (eqb a x && h x) 1 ≡ gate (h a) (gate (eqb a x) 1)
gate_equal h a x = go (eqb a x) (eqb→eq a x)
  where
    go : (b : Bool) → (T b → a ≡ x) → gate (b && h x) 1 ≡ gate (h a) (gate b 1)
    go true e = rw (e tt)
    go false e = sym (gate_zero (h a))

-- a stands among the elements that pass h as often as in the list if it passes h itself, and otherwise never
pub count_at_is : (h : ℕ → Bool) (a : ℕ) (l : List ℕ) → count (λ x. eqb a x && h x) l ≡ gate (h a) (count (eqb a) l)
unfolding count
count_at_is h a [] = sym (gate_zero (h a))
count_at_is h a (x ∷ l) = omega (arith, gate_equal h a x, count_at_is h a l, gate_add (h a) (gate (eqb a x) 1) (count (eqb a) l))

-- a list that counts each number at most once has no two alike
pub distinct : (l : List ℕ) → ((p : ℕ) → count (eqb p) l ≤ 1) → Distinct l
unfolding count
distinct [] h = Sorted.none
distinct (x ∷ l) h = Sorted.next (none_counted (eqb x) l (omega (arith, h x, gate_one (eqb x x) (eqb_refl x)))) (distinct l (λ p. omega (arith, h p)))

-- what stands in a list is counted there
pub each_counted : (l : List ℕ) → All (λ x. 1 ≤ count (eqb x) l) l
unfolding count
each_counted [] = All.none
each_counted (x ∷ l) =
    All.also {x = x} (omega (arith, gate_one (eqb x x) (eqb_refl x))) (all_map (λ y h. omega arith) (each_counted l))
