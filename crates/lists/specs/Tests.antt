-- Laws of tests (Bool) and of numbers behind a test: what passes or fails with what, and `gate b n`, which is n where b holds and otherwise 0.
-- Use: push case analysis into a lemma over Bool variables and ℕ; then the proof at hand is one application. `T b` is "b is true" (lib.Dec).
-- Booleans are explicit arguments, since nothing under T or gate can be inferred. Assumes nothing.
use Rattle.std.specs.Prelude.{◌≡◌, refl, Bool, true, false, not, ◌&&◌, ◌||◌, cond, ℕ, ◌+◌, ◌≤◌, T, ℤ, ◌≤ℤ◌}
use Rattle.std.proofs.Common.{sym, subst, arith}
use Rattle.std.specs.Int.Signed.{le_z}
use Rattle.lists.specs.Plain.{within}

-- what holds on either side of a test holds of the choice
pub cases {ℓ κ} : {X : Type ℓ} (P : X → Type κ) (b : Bool) (u v : X) → (T b → P u) → (T (not b) → P v) → P (cond b u v)
cases P true u v f g = f tt
cases P false u v f g = g tt

-- either way of a test, with what it says
pub by_test {ℓ} : {X : Type ℓ} (b : Bool) → (b ≡ true → X) → (b ≡ false → X) → X
by_test true f g = f refl
by_test false f g = g refl

pub clash {ℓ} : {X : Type ℓ} → true ≡ false → X
clash e = absurd (subst T e tt)

pub is_true : (b : Bool) → T b → b ≡ true
is_true true h = refl
is_true false h = absurd h

pub is_false : (b : Bool) → T (not b) → b ≡ false
is_false true h = absurd h
is_false false h = refl

pub holds : {b : Bool} → b ≡ true → T b
holds e = subst T (sym e) tt

pub fails : {b : Bool} → b ≡ false → T (not b)
fails e = subst (λ c. T (not c)) (sym e) tt

-- two tests that follow from each other are one
pub agree : (s t : Bool) → (T s → T t) → (T t → T s) → s ≡ t
agree true true f g = refl
agree true false f g = absurd (f tt)
agree false true f g = absurd (g tt)
agree false false f g = refl

-- ---- and, or, not

pub not_not : (b : Bool) → T (not (not b)) → T b
not_not true h = tt
not_not false h = h

pub yes_not : (b : Bool) → T b → T (not (not b))
yes_not true h = tt
yes_not false h = h

pub not_twice : (b : Bool) → not (not b) ≡ b
not_twice true = refl
not_twice false = refl

pub both : (p q : Bool) → T p → T q → T (p && q)
both true q g k = k
both false q g k = g

pub fst_of : (p q : Bool) → T (p && q) → T p
fst_of true q h = tt
fst_of false q h = h

pub snd_of : (p q : Bool) → T (p && q) → T q
snd_of true q h = h
snd_of false q h = absurd h

pub fail_left : (p q : Bool) → T (not p) → T (not (p && q))
fail_left true q h = absurd h
fail_left false q h = tt

pub fail_right : (p q : Bool) → T (not q) → T (not (p && q))
fail_right true q h = h
fail_right false q h = tt

pub and_left : (p q : Bool) → T p → (p && q) ≡ q
and_left true q h = refl
and_left false q h = absurd h

pub and_right : (p q : Bool) → T q → (p && q) ≡ p
and_right true true h = refl
and_right false true h = refl
and_right p false h = absurd h

pub and_comm : (p q : Bool) → (p && q) ≡ (q && p)
and_comm true true = refl
and_comm true false = refl
and_comm false true = refl
and_comm false false = refl

pub or_cases : {Z : Type 0} (p q : Bool) → T (p || q) → (T p → Z) → (T q → Z) → Z
or_cases true q h f g = f tt
or_cases false q h f g = g h

pub or_in : (p q : Bool) → T p → T (p || q)
or_in true q h = tt
or_in false q h = absurd h

pub or_more : (p q : Bool) → T q → T (p || q)
or_more true q h = tt
or_more false q h = h

pub neither : (p q : Bool) → T (not p) → T (not q) → T (not (p || q))
neither true q g k = g
neither false q g k = k

-- the same by equations
pub or_false : (p q : Bool) → (p || q) ≡ false → (p ≡ false) × (q ≡ false)
or_false true q e = clash e
or_false false q e = (refl, e)

pub and_true : (p q : Bool) → (p && q) ≡ true → (p ≡ true) × (q ≡ true)
and_true true q e = (refl, e)
and_true false q e = clash (sym e)

pub or_left : {p : Bool} (q : Bool) → p ≡ true → (p || q) ≡ true
or_left q e = rw e refl

pub or_right : (p : Bool) {q : Bool} → q ≡ true → (p || q) ≡ true
or_right true e = refl
or_right false e = e

pub or_assoc : (p q r : Bool) → (p || (q || r)) ≡ (p || q || r)
or_assoc true q r = refl
or_assoc false q r = refl

pub or_none : (p : Bool) → (p || false) ≡ p
or_none true = refl
or_none false = refl

-- lo ≤ z ≤ hi as orders
pub within_true : (lo hi z : ℤ) → within lo hi z ≡ true → (lo ≤ℤ z) × (z ≤ℤ hi)
within_true lo hi z e = let p = and_true (le_z lo z) (le_z z hi) e in (record { le = holds p.0 }, record { le = holds p.1 })

-- a flag a that b may lower: what holds where the flag was down, and where b holds, holds where it is down now
pub by_flag : {X : Type 0} (a b : Bool) → (T (not a) → X) → (T b → X) → T (not (a && not b)) → X
by_flag true true f g h = g tt
by_flag true false f g h = absurd h
by_flag false b f g h = f tt

-- ---- numbers behind a test

-- n where b holds, otherwise 0
abbrev pub gate : Bool → ℕ → ℕ
gate b n = cond b n 0

pub gate_le : (b : Bool) (n : ℕ) → gate b n ≤ n
gate_le true n = omega arith
gate_le false n = omega arith

pub gate_skip : (b : Bool) (n : ℕ) → (T (not b) → n ≡ 0) → gate b n ≡ n
gate_skip true n h = refl
gate_skip false n h = sym (h tt)

pub gate_zero : (b : Bool) → gate b 0 ≡ 0
gate_zero true = refl
gate_zero false = refl

pub gate_one : (b : Bool) → T b → gate b 1 ≡ 1
gate_one true h = refl
gate_one false h = absurd h

pub gate_none : (b : Bool) (n : ℕ) → T (not b) → n ≡ 0 → gate b 1 + n ≡ 0
gate_none true n h e = absurd h
gate_none false n h e = omega arith

pub gate_add : (b : Bool) (m n : ℕ) → gate b (m + n) ≡ gate b m + gate b n
gate_add true m n = refl
gate_add false m n = refl

pub gate_yes : (b : Bool) (n : ℕ) → T b → gate b n ≡ n
gate_yes true n h = refl
gate_yes false n h = absurd h

-- what is counted as 0 fails
pub gate_closed : (b : Bool) → gate b 1 ≡ 0 → T (not b)
gate_closed true e = absurd (omega arith)
gate_closed false e = tt
