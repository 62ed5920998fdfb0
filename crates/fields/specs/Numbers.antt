-- A field of a line as a number: what its bytes are, one by one, against paper's Lines.
use Rattle.std.specs.Prelude.{◌≡◌, refl, Bool, true, false, not, ◌||◌, List, [], ◌∷◌, ℕ, zero, suc, ◌+◌, ◌-◌, ◌*◌, ◌≤◌, ◌<◌, ℤ, length, drop, get_or, slice_index, EachIndex, IsTrue, ◌↔◌}
use Rattle.std.proofs.Common.{sym, ap, subst, arith, add-one, drop_of_length-le, drop-cons}
use Rattle.std.proofs.Math.Option.{Option, none, some}
use Rattle.lists.specs.Plain.{any}
use Rattle.lists.specs.Tests.{by_test}
use Rattle.paper.specs.Lines.{is_digit, value_from}
use Rattle.std.specs.Prelude.{Option as Maybe, Some, None}

-- the code's option as `paper`'s
abbrev pub shown : Maybe ℤ → Option ℤ
shown (Some z) = some z
shown None = none

-- all bytes are digits
abbrev pub all_digits : List ℕ → Bool
all_digits xs = not (any (λ c. not (is_digit c)) xs)

-- a digit at each place, or none at some place
digits_all : (xs : List ℕ) → ((k : ℕ) → k < length xs → is_digit (get_or xs k 0) ≡ true) → all_digits xs ≡ true
unfolding any
digits_all [] h = refl
digits_all (x ∷ xs) h = let e = h 0 (omega arith) in rw e (digits_all xs (λ k l. h (suc k) (omega arith)))

all_parts : (d r : Bool) → not (not d || r) ≡ true → (d ≡ true) × (not r ≡ true)
all_parts true r e = (refl, e)
all_parts false r e = let e : false ≡ true = e in cc

all_digits_at : (xs : List ℕ) → all_digits xs ≡ true → (k : ℕ) → k < length xs → is_digit (get_or xs k 0) ≡ true
unfolding any
all_digits_at [] h k l = absurd (omega arith)
all_digits_at (x ∷ xs) h zero l = (all_parts (is_digit x) (any (λ c. not (is_digit c)) xs) h).0
all_digits_at (x ∷ xs) h (suc k) l = all_digits_at xs (all_parts (is_digit x) (any (λ c. not (is_digit c)) xs) h).1 k (omega arith)

pub digits_told : (b : Bool) (xs : List ℕ) → (IsTrue b ↔ EachIndex xs (λ k. is_digit (slice_index xs k) ≡ true)) → b ≡ all_digits xs
digits_told true xs e = sym (digits_all xs (e.0 refl))
digits_told false xs e = by_test (all_digits xs) (λ t. let f : false ≡ true = e.1 (all_digits_at xs t) in cc) (λ t. sym t)

-- ---- the value
abbrev pub pow10 : ℕ → ℕ
pow10 zero = 1
pow10 (suc k) = 10 * pow10 k

pub pow10_next : (k : ℕ) → pow10 (k + 1) ≡ 10 * pow10 k
pow10_next k = rw (add-one k) refl

up_to : (j k : ℕ) → pow10 k ≤ pow10 (j + k)
up_to zero k = omega (arith, ap pow10 (zero_is k))
  where
    zero_is : (k : ℕ) → 0 + k ≡ k
    zero_is k = omega arith
up_to (suc j) k = omega (arith, up_to j k, ap pow10 (suc_is j k))
  where
    suc_is : (j k : ℕ) → suc j + k ≡ suc (j + k)
    suc_is j k = omega arith

pub pow10_most : (k : ℕ) → k ≤ 10 → pow10 k ≤ 10000000000
pow10_most k h = let e : (10 - k) + k ≡ 10 = omega arith in subst (λ m. pow10 k ≤ pow10 m) e (up_to (10 - k) k)

pub value_more : (f : List ℕ) (i v : ℕ) → i < length f → value_from (10 * v + (get_or f i 0 - 48)) (drop (i + 1) f) ≡ value_from v (drop i f)
unfolding value_from
value_more f i v h = rw (add-one i, drop-cons f i 0 h) refl

pub value_end : (f : List ℕ) (i v : ℕ) → length f ≤ i → value_from v (drop i f) ≡ v
unfolding value_from
value_end f i v h = rw (drop_of_length-le f h) refl

-- the value stays small
pub bound_more : (i v x : ℕ) → x ≤ 207 → v + 23 ≤ 23 * pow10 i → 10 * v + x + 23 ≤ 23 * pow10 (i + 1)
bound_more i v x g b = omega (arith, pow10_next i)
