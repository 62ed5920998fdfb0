-- Words of everyday use: tests of whole numbers, lists, orders, halves, digits. They are part of what a reader of `paper` must believe; the
-- other modules of `lists` prove laws about these very words, so that a law and a definition always speak of the same thing.
-- Use: `use Rattle.lists.specs.Plain.{filter, sort, ..}`. Recursions are `unfoldable`: cite the laws of Counting, Sorting, .. and open none.
use Rattle.std.specs.Prelude.{Bool, false, ◌&&◌, ◌||◌, cond, List, [], ◌∷◌, ◌++◌, ℕ, zero, suc, ◌+◌, ◌/◌, eqb, ℤ, pos, negsuc, length, take, drop}
use Rattle.std.specs.Int.Signed.{le_z, lt_z}

-- ---- whole numbers

-- lo ≤ z ≤ hi
abbrev pub within : ℤ → ℤ → ℤ → Bool
within lo hi z = le_z lo z && le_z z hi

abbrev pub same : ℤ → ℤ → Bool
same y z = le_z y z && le_z z y

-- a size or a position that a whole number says; a negative one says none
abbrev pub to_nat : ℤ → ℕ
to_nat (pos n) = n
to_nat (negsuc n) = 0

-- ⌈n/2⌉
abbrev pub half : ℕ → ℕ
half n = (n + 1) / 2

-- the count of binary digits of n, by halving; with a bound on the halvings, since antt asks that some argument lose a constructor
unfoldable pub digits_to : ℕ → ℕ → ℕ
digits_to zero n = 0
digits_to (suc f) zero = 0
digits_to (suc f) (suc n) = suc (digits_to f (suc n / 2))

abbrev pub digits : ℕ → ℕ
digits n = digits_to n n

-- ---- lists

-- 0 to n − 1
unfoldable pub positions : ℕ → List ℕ
positions zero = []
positions (suc n) = positions n ++ (n ∷ [])

module _ {A : Type 0} where
  -- those of a list that pass a test, in the list's order
  unfoldable pub filter : (A → Bool) → List A → List A
  filter q [] = []
  filter q (x ∷ xs) = cond (q x) (x ∷ filter q xs) (filter q xs)

  -- how many of a list pass a test
  unfoldable pub count : (A → Bool) → List A → ℕ
  count q [] = 0
  count q (x ∷ xs) = cond (q x) 1 0 + count q xs

  unfoldable pub any : (A → Bool) → List A → Bool
  any q [] = false
  any q (x ∷ xs) = q x || any q xs

  -- the last of a list, d where there is none
  unfoldable pub last : A → List A → A
  last d [] = d
  last d (x ∷ xs) = last x xs

  unfoldable pub joined : List (List A) → List A
  joined [] = []
  joined (xs ∷ xss) = xs ++ joined xss

  -- the first ⌈s/2⌉ of s, and the rest
  abbrev pub first_half : List A → List A
  first_half xs = take (half (length xs)) xs

  abbrev pub second_half : List A → List A
  second_half xs = drop (half (length xs)) xs

abbrev pub elem : ℕ → List ℕ → Bool
elem p ps = any (eqb p) ps

unfoldable pub sum : List ℕ → ℕ
sum [] = 0
sum (k ∷ ks) = k + sum ks

-- ---- orders: a strict order is a test, "x comes before y"

module _ {A : Type 0} where
  -- by a key, and where the keys are equal by what follows
  abbrev pub by : (A → ℤ) → (A → A → Bool) → A → A → Bool
  by key next x y = lt_z (key x) (key y) || (same (key x) (key y) && next x y)

  -- the same with the greatest key first
  abbrev pub by_greatest : (A → ℤ) → (A → A → Bool) → A → A → Bool
  by_greatest key next x y = lt_z (key y) (key x) || (same (key x) (key y) && next x y)

  unfoldable pub insert : (A → A → Bool) → A → List A → List A
  insert before x [] = x ∷ []
  insert before x (y ∷ ys) = cond (before y x) (y ∷ insert before x ys) (x ∷ y ∷ ys)

  unfoldable pub sort : (A → A → Bool) → List A → List A
  sort before [] = []
  sort before (x ∷ xs) = insert before x (sort before xs)
