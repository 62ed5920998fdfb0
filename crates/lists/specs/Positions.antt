-- Plain's `positions` (0 to n − 1, each once), `joined` (lists one after another) and `sum`: lengths, what they hold, and where they fall apart.
-- Use: `positions_count` and Counting's `count_at_is` say how often a number stands among the positions that pass a test; `joined_keeps` for a function
-- that keeps lengths, `numbered_length` for numbered parts of one length. Assumes nothing.
use Rattle.std.specs.Prelude.{◌≡◌, Bool, true, false, not, length, T, eqb, ltb}
use Rattle.std.proofs.Math.Path.{refl, sym, ap}
use Rattle.std.proofs.Common.{subst, ◌∙◌, T_not, eqb→eq, ltb→lt, nltb→le}
use mathlib.Core.List.{List, [], ◌∷◌, ◌++◌, map, append_assoc, append-nil, map-append}
use Prim.Native.Nat.{ℕ, zero, suc, ◌+◌, ◌*◌, ◌≤◌, ◌<◌}
use native.Mathlib.Omega.{arith}
use Rattle.std.proofs.Math.ListN.{length-append}
use Rattle.std.proofs.Math.Dec.{eqb_refl}
use Rattle.lists.specs.Plain.{positions, joined, sum, count}
use Rattle.lists.specs.Tests.{gate}
use Rattle.lists.specs.Every.{All, all_append}
use Rattle.lists.specs.Counting.{count_append}

-- ---- positions

pub positions_length : (n : ℕ) → length (positions n) ≡ n
unfolding positions
positions_length zero = refl
positions_length (suc n) = omega (arith, length-append (positions n) (n ∷ []), positions_length n)

pub positions_below : (n m : ℕ) → m ≤ n → All (λ p. p < n) (positions m)
unfolding positions
positions_below n zero h = All.none
positions_below n (suc m) h = all_append (positions_below n m (omega arith)) (All.also {x = m} (omega arith) All.none)

below_suc : (p n : ℕ) → gate (ltb p n) 1 + gate (eqb p n) 1 ≡ gate (ltb p (suc n)) 1
below_suc p n =
    go (ltb p n) (eqb p n) (ltb p (suc n)) (ltb→lt p n) (nltb→le p n) (eqb→eq p n)
    (λ h e. T_not (eqb p n) h (subst (λ (k : ℕ). T (eqb p k)) e (eqb_refl p))) (ltb→lt p (suc n)) (nltb→le p (suc n))
  where
    go : (a b c : Bool) → (T a → p < n) → (T (not a) → n ≤ p) → (T b → p ≡ n) → (T (not b) → p ≡ n → ⊥) → (T c → p < suc n) → (T (not c) → suc n ≤ p)
        → gate a 1 + gate b 1 ≡ gate c 1
    go true true c f g h k l m = absurd (omega (arith, f tt, h tt))
    go true false true f g h k l m = refl
    go true false false f g h k l m = absurd (omega (arith, f tt, m tt))
    go false true true f g h k l m = refl
    go false true false f g h k l m = absurd (omega (arith, h tt, m tt))
    go false false true f g h k l m = absurd (k tt (omega (arith, g tt, l tt)))
    go false false false f g h k l m = refl

-- a number stands among them once if it is below n, and otherwise never
pub positions_count : (p n : ℕ) → count (eqb p) (positions n) ≡ gate (ltb p n) 1
unfolding positions count
positions_count p zero = sym (none (ltb p 0) (ltb→lt p 0))
  where
    none : (b : Bool) → (T b → p < 0) → gate b 1 ≡ 0
    none true f = absurd (omega (arith, f tt))
    none false f = refl
positions_count p (suc n) =
    omega (arith, count_append (eqb p) (positions n) (n ∷ []), positions_count p n, below_suc p n)

-- ---- lists one after another

module _ {A : Type 0} where
  pub joined_append : (l m : List (List A)) → joined (l ++ m) ≡ joined l ++ joined m
  unfolding joined
  joined_append [] m = refl
  joined_append (x ∷ l) m = ap (λ (t : List A). x ++ t) (joined_append l m) ∙ sym (append_assoc x (joined l) (joined m))

  pub joined_one : (l : List A) → joined (l ∷ []) ≡ l
  unfolding joined
  joined_one l = append-nil l

  -- a list of lists whose each is made anew without a change of its length
  pub joined_keeps : {B : Type 0} (f : List A → List B) → ((r : List A) → length (f r) ≡ length r)
      → (l : List (List A)) → length (joined (map f l)) ≡ length (joined l)
  unfolding joined
  joined_keeps f keeps [] = refl
  joined_keeps f keeps (x ∷ l) = omega (arith, length-append (f x) (joined (map f l)), length-append x (joined l), joined_keeps f keeps l, keeps x)

  -- one numbered part more
  pub numbered_suc : (f : ℕ → List A) (m : ℕ) → joined (map f (positions (suc m))) ≡ joined (map f (positions m)) ++ f m
  unfolding positions
  numbered_suc f m = ap joined (map-append f (positions m) (m ∷ [])) ∙ joined_append (map f (positions m)) (f m ∷ []) ∙ ap (λ (t : List A). joined (map f (positions m)) ++ t) (joined_one (f m))

  -- numbered parts of one length
  pub numbered_length : (f : ℕ → List A) (size : ℕ) → ((k : ℕ) → length (f k) ≡ size) → (m : ℕ) → length (joined (map f (positions m))) ≡ size * m
  unfolding positions joined
  numbered_length f size each zero = omega arith
  numbered_length f size each (suc m) =
      rw (numbered_suc f m) (omega (arith, length-append (joined (map f (positions m))) (f m), numbered_length f size each m, each m))

  -- as long as the lists together
  pub joined_length : (l : List (List A)) → length (joined l) ≡ sum (map length l)
  unfolding joined sum
  joined_length [] = refl
  joined_length (x ∷ l) = omega (arith, length-append x (joined l), joined_length l)

-- ---- sums

pub sum_append : (l m : List ℕ) → sum (l ++ m) ≡ sum l + sum m
unfolding sum
sum_append [] m = omega arith
sum_append (k ∷ l) m = omega (arith, sum_append l m)
