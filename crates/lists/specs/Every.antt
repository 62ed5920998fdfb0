-- What holds of every element of a list (`All`), of each with all that follow it (`Sorted R`: sorted by a relation, or no two alike), of a list's
-- parts and of its filter; and membership as a test (Plain's `elem`).
-- Use: All and Sorted are data types: match on them. `all_map` changes what is said, `all_take`, `all_drop`, `all_append`, `all_filter` go to parts. Assumes nothing.
use Rattle.std.specs.Prelude.{◌≡◌, List, [], ◌∷◌, ◌++◌, Bool, not, ◌&&◌, cond, ℕ, zero, suc, ◌≤◌, ◌<◌, length, take, drop, get_or, eqb}
use Rattle.std.proofs.Math.Path.{refl}
use Rattle.std.proofs.Common.{sym, subst, arith, T_not, eqb→eq}
use Rattle.std.proofs.Math.Bool.{true, false}
use Rattle.std.proofs.Math.Dec.{T, not_T, eqb_refl}
use Rattle.lists.specs.Plain.{filter, any, elem}
use Rattle.lists.specs.Tests.{both, or_in, or_more, neither}

module _ {A : Type 0} where
  pub data All (P : A → Type 0) : List A → Type 0 where
    none : All P []
    also : {x : A} {l : List A} → P x → All P l → All P (x ∷ l)

  pub all_map : {P Q : A → Type 0} {l : List A} → ((x : A) → P x → Q x) → All P l → All Q l
  all_map f none = none
  all_map f (also {x = x} p h) = also (f x p) (all_map f h)

  pub all_zip : {P Q R : A → Type 0} {l : List A} → ((x : A) → P x → Q x → R x) → All P l → All Q l → All R l
  all_zip f none none = none
  all_zip f (also {x = x} p h) (also q k) = also (f x p q) (all_zip f h k)

  -- what holds of all values
  pub all_any : {P : A → Type 0} → ((x : A) → P x) → (l : List A) → All P l
  all_any f [] = none
  all_any f (x ∷ l) = also (f x) (all_any f l)

  pub all_append : {P : A → Type 0} {l m : List A} → All P l → All P m → All P (l ++ m)
  all_append none k = k
  all_append (also p h) k = also p (all_append h k)

  pub all_take : {P : A → Type 0} {l : List A} (n : ℕ) → All P l → All P (take n l)
  all_take zero h = none
  all_take (suc n) none = none
  all_take {P = P} (suc n) (also {x = x} {l = l} p h) = also p (all_take {l = l} n h)

  pub all_drop : {P : A → Type 0} {l : List A} (n : ℕ) → All P l → All P (drop n l)
  all_drop zero h = h
  all_drop (suc n) none = none
  all_drop {P = P} (suc n) (also {x = x} {l = l} p h) = all_drop {l = l} n h

  pub all_get_d : {P : A → Type 0} {l : List A} (j : ℕ) (d : A) → j < length l → All P l → P (get_or l j d)
  all_get_d zero d e none = absurd (omega arith)
  all_get_d zero d e (also p h) = p
  all_get_d (suc j) d e none = absurd (omega arith)
  all_get_d {P = P} (suc j) d e (also {x = x} {l = l} p h) = all_get_d {l = l} j d (omega arith) h

  -- each element stands in the relation R to all that follow it
  pub data Sorted (R : A → A → Type 0) : List A → Type 0 where
    none : Sorted R []
    next : {x : A} {l : List A} → All (R x) l → Sorted R l → Sorted R (x ∷ l)

  pub sorted_take : {R : A → A → Type 0} {l : List A} (n : ℕ) → Sorted R l → Sorted R (take n l)
  sorted_take zero s = none
  sorted_take (suc n) none = none
  sorted_take {R = R} (suc n) (next {x = x} {l = l} h s) = next (all_take n h) (sorted_take {l = l} n s)

  pub sorted_drop : {R : A → A → Type 0} {l : List A} (n : ℕ) → Sorted R l → Sorted R (drop n l)
  sorted_drop zero s = s
  sorted_drop (suc n) none = none
  sorted_drop {R = R} (suc n) (next {x = x} {l = l} h s) = sorted_drop {l = l} n s

  -- any element and a later one
  pub sorted_get_d : {R : A → A → Type 0} {l : List A} (i j : ℕ) (d : A) → i < j → j < length l → Sorted R l → R (get_or l i d) (get_or l j d)
  sorted_get_d i j d h k none = absurd (omega arith)
  sorted_get_d zero zero d h k (next g s) = absurd (omega arith)
  sorted_get_d zero (suc j) d h k (next g s) = all_get_d j d (omega arith) g
  sorted_get_d (suc i) zero d h k (next g s) = absurd (omega arith)
  sorted_get_d {R = R} (suc i) (suc j) d h k (next {x = x} {l = l} g s) = sorted_get_d {l = l} i j d (omega arith) (omega arith) s

  -- ---- what passes a test
  pub all_filter : {P : A → Type 0} (t : A → Bool) {l : List A} → All P l → All (λ x. T (t x) × P x) (filter t l)
  unfolding filter
  all_filter t All.none = All.none
  all_filter {P} t (All.also {x = x} {l = l} p h) = go (t x) refl (all_filter t h)
    where
      go : (b : Bool) → t x ≡ b → All (λ x. T (t x) × P x) (filter t l) → All (λ x. T (t x) × P x) (cond b (x ∷ filter t l) (filter t l))
      go true e k = All.also {x = x} (rw e tt, p) k
      go false e k = k

  pub filter_holds : (t : A → Bool) (l : List A) → All (λ x. T (t x)) (filter t l)
  filter_holds t l = all_map (λ x h. h.0) (all_filter t (all_any {P = λ x. Unit {0}} (λ x. tt) l))

  pub filter_keeps : {P : A → Type 0} (t : A → Bool) {l : List A} → All P l → All P (filter t l)
  filter_keeps t h = all_map (λ x k. k.1) (all_filter t h)

  pub sorted_filter : {R : A → A → Type 0} (t : A → Bool) {l : List A} → Sorted R l → Sorted R (filter t l)
  unfolding filter
  sorted_filter t Sorted.none = Sorted.none
  sorted_filter {R} t (Sorted.next {x = x} {l = l} h s) = go (t x) (all_map (λ y q. q.1) (all_filter t h)) (sorted_filter t s)
    where
      go : (b : Bool) → All (R x) (filter t l) → Sorted R (filter t l) → Sorted R (cond b (x ∷ filter t l) (filter t l))
      go true k r = Sorted.next k r
      go false k r = r

  -- ---- the first of a list and the others
  pub head_all : {R : A → Type 0} (d : A) {l : List A} → 1 ≤ length l → All R l → R (get_or l 0 d) × All R (drop 1 l)
  head_all d h All.none = absurd (omega arith)
  head_all d h (All.also p k) = (p, k)

  pub head_sorted : {R : A → A → Type 0} (d : A) {l : List A} → 1 ≤ length l → Sorted R l → All (R (get_or l 0 d)) (drop 1 l)
  head_sorted d h Sorted.none = absurd (omega arith)
  head_sorted d h (Sorted.next k s) = k

pub sorted_map : {A : Type 0} {R S : A → A → Type 0} {l : List A} → ((x y : A) → R x y → S x y) → Sorted R l → Sorted S l
sorted_map f Sorted.none = Sorted.none
sorted_map f (Sorted.next {x = x} h s) = Sorted.next (all_map (λ y r. f x y r) h) (sorted_map f s)

pub all_both : {A : Type 0} (p q : A → Bool) {l : List A} → All (λ x. T (p x)) l → All (λ x. T (q x)) l → All (λ x. T (p x && q x)) l
all_both p q All.none All.none = All.none
all_both p q (All.also {x = x} g h) (All.also k m) = All.also (both (p x) (q x) g k) (all_both p q h m)

-- ---- membership

-- no two alike
abbrev pub Distinct : List ℕ → Type 0
Distinct = Sorted (λ x y. T (not (eqb x y)))

pub elem_in : (l : List ℕ) → All (λ y. T (elem y l)) l
unfolding any
elem_in [] = All.none
elem_in (x ∷ l) = All.also (or_in (eqb x x) (elem x l) (eqb_refl x)) (all_map (λ y g. or_more (eqb y x) (elem y l) g) (elem_in l))

flipped : (x y : ℕ) → T (not (eqb x y)) → T (not (eqb y x))
flipped x y h = not_T (eqb y x) (λ t. T_not (eqb x y) h (subst (λ z. T (eqb x z)) (sym (eqb→eq y x t)) (eqb_refl x)))

-- of a list of which no two are alike, what comes after n is not among the first n
pub elem_out : {l : List ℕ} (n : ℕ) → Distinct l → All (λ y. T (not (elem y (take n l)))) (drop n l)
unfolding any
elem_out {l} zero s = all_any (λ y. tt) l
elem_out (suc n) Sorted.none = All.none
elem_out (suc n) (Sorted.next {x = x} {l = l} h s) =
    all_zip (λ y g k. neither (eqb y x) (elem y (take n l)) (flipped x y g) k) (all_drop n h) (elem_out n s)
