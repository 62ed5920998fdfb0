-- The two halves of a list (Plain's `half`, `first_half`, `second_half`), the last key of the first half, and how many keys of a sorted list lie on
-- either side of the key at a place.
-- Use: `half_bounds` for sizes; `below_last`, `above_first` for what a split at the last key of the first half parts; `place_below`, `place_above` for a median. Assumes nothing.
use Rattle.std.specs.Prelude.{◌≡◌, List, ◌++◌, map, Bool, not, length, take, drop, get_or, T}
use Rattle.std.proofs.Common.{ap, ◌∙◌, arith, length-append, length-take, length-drop, take-append-drop, take_all, take_at, drop_at}
use Prim.Native.Nat.{ℕ, zero, suc, ◌+◌, ◌-◌, ◌*◌, ◌/◌, ◌≤◌, ◌<◌}
use Rattle.lists.specs.Plain.{half, first_half, second_half, last, count}
use Rattle.lists.specs.Tests.{yes_not}
use Rattle.lists.specs.Orders.{Order, le_self}
use Rattle.lists.specs.Every.{All, all_map, all_get_d, Sorted}
use Rattle.lists.specs.Counting.{count_split, count_none, count_le}

pub half_bounds : (n : ℕ) → (n ≤ 2 * half n) × (2 * half n ≤ n + 1)
half_bounds n = omega arith

pub half_suc : (n : ℕ) → half (suc n) ≡ suc (n / 2)
half_suc n = omega arith

module _ {A : Type 0} where
  pub first_length : (l : List A) → length (first_half l) ≡ half (length l)
  first_length l = simp length-take (omega arith)

  pub second_length : (l : List A) → length (second_half l) ≡ length l - half (length l)
  second_length l = length-drop (half (length l)) l

  pub halves_join : (l : List A) → first_half l ++ second_half l ≡ l
  halves_join l = take-append-drop (half (length l)) l

  -- two lists that are as long as the halves of n are the halves of both together
  pub first_of : (u v : List A) (n : ℕ) → length u ≡ half n → length v ≡ n - half n → first_half (u ++ v) ≡ u
  first_of u v n h g = take_at u v (half (length (u ++ v))) (h ∙ ap half (omega (arith, length-append u v)))

  pub second_of : (u v : List A) (n : ℕ) → length u ≡ half n → length v ≡ n - half n → second_half (u ++ v) ≡ v
  second_of u v n h g = drop_at u v (half (length (u ++ v))) (h ∙ ap half (omega (arith, length-append u v)))

-- a list in the order of a key
module _ {A K : Type 0} (le : K → K → Bool) (o : Order le) (key : A → K) where
  abbrev pub ByKey : List A → Type 0
  ByKey = Sorted (λ x y. T (le (key x) (key y)))

  last_up : {l : List A} (d : K) → ByKey l → All (λ y. T (le d (key y))) l → T (le d (last d (map key l)))
  unfolding last
  last_up d Sorted.none h = le_self le o d
  last_up d (Sorted.next {x = x} g s) (All.also p h) = o.trans d (key x) _ p (last_up (key x) s g)

  -- no key is above the last
  pub below_last : {l : List A} (d : K) → ByKey l → All (λ x. T (le (key x) (last d (map key l)))) l
  unfolding last
  below_last d Sorted.none = All.none
  below_last d (Sorted.next {x = x} g s) = All.also (last_up (key x) s g) (below_last (key x) s)

  over : {l : List A} (d : K) (n : ℕ) → All (λ y. T (le d (key y))) l → ByKey l → All (λ y. T (le (last d (map key (take n l))) (key y))) (drop n l)
  unfolding last
  over d zero h s = h
  over d (suc n) All.none s = All.none
  over d (suc n) (All.also {x = x} {l = l} p h) (Sorted.next g s) = over {l = l} (key x) n g s

  -- the last key of the first half is no greater than any of the second
  pub above_first : {l : List A} (d : K) → ByKey l → All (λ y. T (le (last d (map key (first_half l))) (key y))) (second_half l)
  unfolding last
  above_first d Sorted.none = All.none
  above_first d (Sorted.next {x = x} {l = l} g s) = rw (half_suc (length l)) (over (key x) (length l / 2) g s)

  -- the element at place j of a list: at most j keys are below its, and at most as many above as follow
  place : {l : List A} (j : ℕ) (d : A) → j < length l → ByKey l
      → All (λ x. T (le (key x) (key (get_or l j d)))) (take (suc j) l) × All (λ x. T (le (key (get_or l j d)) (key x))) (drop j l)
  place zero d e Sorted.none = absurd (omega arith)
  place zero d e (Sorted.next {x = x} h s) = (All.also (le_self le o (key x)) All.none, All.also (le_self le o (key x)) h)
  place (suc j) d e Sorted.none = absurd (omega arith)
  place (suc j) d e (Sorted.next {x = x} {l = l} h s) =
      let ih = place {l = l} j d (omega arith) s in (All.also (all_get_d j d (omega arith) h) ih.0, ih.1)

  -- the first key is no greater than any, the last no smaller
  pub first_least : {l : List A} (d : A) → 1 ≤ length l → ByKey l → All (λ x. T (le (key (get_or l 0 d)) (key x))) l
  first_least d h s = (place 0 d (omega arith) s).1

  pub last_greatest : {l : List A} (d : A) → 1 ≤ length l → ByKey l → All (λ x. T (le (key x) (key (get_or l (length l - 1) d)))) l
  last_greatest {l} d h s = rw (take_all (suc (length l - 1)) l (omega arith)) at (place (length l - 1) d (omega arith) s).0

  pub place_below : {l : List A} (j : ℕ) (d : A) → j < length l → ByKey l → count (λ x. not (le (key (get_or l j d)) (key x))) l ≤ j
  place_below {l} j d e s =
      let q : A → Bool = λ x. not (le (key (get_or l j d)) (key x)) in
      omega (arith, count_split q j l, count_le q (take j l), length-take j l, count_none q (all_map (λ x g. yes_not (le (key (get_or l j d)) (key x)) g) (place j d e s).1))

  pub place_above : {l : List A} (j : ℕ) (d : A) → j < length l → ByKey l → count (λ x. not (le (key x) (key (get_or l j d)))) l + suc j ≤ length l
  place_above {l} j d e s =
      let q : A → Bool = λ x. not (le (key x) (key (get_or l j d))) in
      omega (
        arith,
        count_split q (suc j) l,
        count_le q (drop (suc j) l),
        length-drop (suc j) l,
        count_none q (all_map (λ x g. yes_not (le (key x) (key (get_or l j d))) g) (place j d e s).0),
      )
