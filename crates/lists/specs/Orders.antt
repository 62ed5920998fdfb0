-- Orders that are given by a test `le` ("no later than"): their laws (`Order`, and `Linear` where only equal values are alike), an order turned
-- round, one behind another, those of ℕ and ℤ, and of document-like sort keys: `by_order`, `greatest_order` for Plain's `by`, `by_greatest`.
-- Use: for a strict test `before`, `up_to before x y` is "x comes no later than y"; build its Linear from `ltb_linear` by `by_linear`, one call a key. Assumes nothing.
use Rattle.std.specs.Prelude.{◌≡◌, refl, Bool, true, false, not, ◌&&◌, ◌||◌, ℕ, ◌≤◌, ◌<◌, ℤ, pos, negsuc, T, leb, ltb}
use Rattle.std.proofs.Common.{sym, ap, ◌∙◌, subst, le_trans, arith, T_not, leb→le, le→leb, ltb→lt, nltb→le}
use Rattle.std.specs.Int.Signed.{le_z, lt_z}
use Rattle.std.proofs.Math.Dec.{not_T, nleb→lt}
use Rattle.lists.specs.Plain.{same, by, by_greatest}
use Rattle.lists.specs.Tests.{fst_of, snd_of, not_twice, agree}

-- on the values of which P holds: `le` is transitive and total
pub record OrderOn {K : Type 0} (P : K → Type 0) (le : K → K → Bool) : Type 0 where
  pub trans_on : (a b c : K) → P a → P b → P c → T (le a b) → T (le b c) → T (le a c)
  pub total_on : (a b : K) → P a → P b → T (not (le a b)) → T (le b a)

-- and values that are alike are equal
pub record LinearOn {K : Type 0} (P : K → Type 0) (le : K → K → Bool) : Type 0 where
  pub order_on : OrderOn P le
  pub equal_on : (a b : K) → P a → P b → T (le a b) → T (le b a) → a ≡ b

-- the same on all values
pub record Order {K : Type 0} (le : K → K → Bool) : Type 0 where
  pub trans : (a b c : K) → T (le a b) → T (le b c) → T (le a c)
  pub total : (a b : K) → T (not (le a b)) → T (le b a)

pub record Linear {K : Type 0} (le : K → K → Bool) : Type 0 where
  pub order : Order le
  pub equal : (a b : K) → T (le a b) → T (le b a) → a ≡ b

abbrev pub Any : {K : Type 0} → K → Type 0
Any k = Unit {0}

pub order_on_is : {K : Type 0} {le : K → K → Bool} → Order le → OrderOn Any le
order_on_is o = record { trans_on = λ a b c x y z. o.trans a b c; total_on = λ a b x y. o.total a b }

pub linear_on : {K : Type 0} {le : K → K → Bool} → Linear le → LinearOn Any le
linear_on o = record { order_on = order_on_is o.order; equal_on = λ a b x y. o.equal a b }

-- x comes no later than y
abbrev pub up_to : {A : Type 0} → (A → A → Bool) → A → A → Bool
up_to before x y = not (before y x)

module _ {K : Type 0} (P : K → Type 0) (le : K → K → Bool) (o : OrderOn P le) where
  pub self_on : (a : K) → P a → T (le a a)
  self_on a p = go (le a a) (o.total_on a a p p)
    where
      go : (b : Bool) → (T (not b) → T b) → T b
      go true f = tt
      go false f = f tt

module _ {K : Type 0} (le : K → K → Bool) (o : Order le) where
  pub le_self : (a : K) → T (le a a)
  le_self a = self_on Any le (order_on_is o) a tt

  -- a ≤ b fails and c ≤ b, so a ≤ c fails; and the same from the left
  pub fail_down : (a b c : K) → T (not (le a b)) → T (le c b) → T (not (le a c))
  fail_down a b c h k = not_T (le a c) (λ t. T_not (le a b) h (o.trans a c b t k))

  pub fail_up : (a b c : K) → T (not (le a b)) → T (le a c) → T (not (le c b))
  fail_up a b c h k = not_T (le c b) (λ t. T_not (le a b) h (o.trans a c b k t))

-- the order turned round
abbrev pub flip : {K : Type 0} → (K → K → Bool) → K → K → Bool
flip le a b = le b a

pub flip_order : {K : Type 0} (le : K → K → Bool) → Order le → Order (flip le)
flip_order le o = record { trans = λ a b c h k. o.trans c b a k h; total = λ a b h. o.total b a h }

-- ---- ℤ and ℕ
pub ℤ_order : Order le_z
ℤ_order = record { trans = tr; total = tot }
  where
    tr : (a b c : ℤ) → T (le_z a b) → T (le_z b c) → T (le_z a c)
    tr (pos a) (pos b) (pos c) h k = le→leb a c (le_trans (leb→le a b h) (leb→le b c k))
    tr (pos a) (pos b) (negsuc c) h k = k
    tr (pos a) (negsuc b) c h k = absurd h
    tr (negsuc a) b (pos c) h k = tt
    tr (negsuc a) (pos b) (negsuc c) h k = absurd k
    tr (negsuc a) (negsuc b) (negsuc c) h k = le→leb c a (le_trans (leb→le c b k) (leb→le b a h))

    tot : (a b : ℤ) → T (not (le_z a b)) → T (le_z b a)
    tot (pos a) (pos b) h = le→leb b a (omega (arith, nleb→lt a b h))
    tot (pos a) (negsuc b) h = tt
    tot (negsuc a) (pos b) h = h
    tot (negsuc a) (negsuc b) h = le→leb a b (omega (arith, nleb→lt b a h))

pub ℤ_linear : Linear le_z
ℤ_linear = record { order = ℤ_order; equal = eq }
  where
    eq : (a b : ℤ) → T (le_z a b) → T (le_z b a) → a ≡ b
    eq (pos a) (pos b) h k = ap pos (omega (arith, leb→le a b h, leb→le b a k))
    eq (pos a) (negsuc b) h k = absurd h
    eq (negsuc a) (pos b) h k = absurd k
    eq (negsuc a) (negsuc b) h k = ap negsuc (omega (arith, leb→le b a h, leb→le a b k))

pub ℕ_order : Order leb
ℕ_order = record { trans = λ a b c h k. le→leb a c (le_trans (leb→le a b h) (leb→le b c k)); total = λ a b h. le→leb b a (omega (arith, nleb→lt a b h)) }

pub ℕ_linear : Linear leb
ℕ_linear = record { order = ℕ_order; equal = λ a b h k. omega (arith, leb→le a b h, leb→le b a k) }

-- the strict tests
pub ltb_not : (m n : ℕ) → ltb m n ≡ not (leb n m)
ltb_not m n = go (ltb m n) (leb n m) (ltb→lt m n) (nltb→le m n) (leb→le n m) (nleb→lt n m)
  where
    go : (s t : Bool) → (T s → m < n) → (T (not s) → n ≤ m) → (T t → n ≤ m) → (T (not t) → m < n) → s ≡ not t
    go true true f g h k = absurd (omega (arith, f tt, h tt))
    go true false f g h k = refl
    go false true f g h k = refl
    go false false f g h k = absurd (omega (arith, g tt, k tt))

pub lt_z_not : (a b : ℤ) → lt_z a b ≡ not (le_z b a)
lt_z_not (pos a) (pos b) = ltb_not a b
lt_z_not (pos a) (negsuc b) = refl
lt_z_not (negsuc a) (pos b) = refl
lt_z_not (negsuc a) (negsuc b) = ltb_not b a

pub lt_z_up : (a b : ℤ) → up_to lt_z a b ≡ le_z a b
lt_z_up a b = ap not (lt_z_not b a) ∙ not_twice (le_z a b)

pub ltb_linear : Linear (up_to ltb)
ltb_linear = subst Linear (sym (λ i x y. (ap not (ltb_not y x) ∙ not_twice (leb x y)) i)) ℕ_linear

pub lt_z_linear : Linear (up_to lt_z)
lt_z_linear = subst Linear (sym (λ i x y. lt_z_up x y i)) ℤ_linear

-- Plain's `same` is equality
pub same_equal : (y z : ℤ) → T (same y z) → y ≡ z
same_equal y z h = ℤ_linear.equal y z (fst_of (le_z y z) (le_z z y) h) (snd_of (le_z y z) (le_z z y) h)

pub same_self : (z : ℤ) → T (same z z)
same_self z = subst (λ b. T (b && b)) (agree true (le_z z z) (λ t. le_self le_z ℤ_order z) (λ t. tt)) tt

-- ---- by the key first, and where the keys are alike by le₂
module _ {A K : Type 0} (key : A → K) (le₁ : K → K → Bool) (le₂ : A → A → Bool) where
  abbrev pub then : A → A → Bool
  then x y = le₁ (key x) (key y) && (not (le₁ (key y) (key x)) || le₂ x y)

  pub then_key : (x y : A) → T (then x y) → T (le₁ (key x) (key y))
  then_key x y h = fst_of (le₁ (key x) (key y)) _ h

  imp : (p q r : Bool) → T (p && (not q || r)) → T q → T r
  imp true true r h k = h
  imp true false r h k = absurd k
  imp false q r h k = absurd h

  pub then_order : Order le₁ → Order le₂ → Order then
  then_order o₁ o₂ = record { trans = tr; total = λ x y. tot (le₁ (key x) (key y)) (le₁ (key y) (key x)) (le₂ x y) (le₂ y x) (o₁.total (key x) (key y)) (o₂.total x y) }
    where
      tot : (p q r s : Bool) → (T (not p) → T q) → (T (not r) → T s) → T (not (p && (not q || r))) → T (q && (not p || s))
      tot true true true s f g h = absurd h
      tot true true false s f g h = g tt
      tot true false r s f g h = absurd h
      tot false true r s f g h = tt
      tot false false r s f g h = f tt

      mk : (p q r : Bool) → T p → (T q → T r) → T (p && (not q || r))
      mk true true r h f = f tt
      mk true false r h f = tt
      mk false q r h f = h

      tr : (x y w : A) → T (then x y) → T (then y w) → T (then x w)
      tr x y w h k =
          let xy = then_key x y h in
          let yw = then_key y w k in
          mk (le₁ (key x) (key w)) (le₁ (key w) (key x)) (le₂ x w) (o₁.trans (key x) (key y) (key w) xy yw) (λ g.
          o₂.trans x y w
          (imp (le₁ (key x) (key y)) (le₁ (key y) (key x)) (le₂ x y) h (o₁.trans (key y) (key w) (key x) yw g))
          (imp (le₁ (key y) (key w)) (le₁ (key w) (key y)) (le₂ y w) k (o₁.trans (key w) (key x) (key y) g xy)))

  pub then_linear : Order le₁ → Linear le₂ → Linear then
  then_linear o₁ o₂ = record {
    order = then_order o₁ o₂.order;
    equal = λ x y h k.
        o₂.equal x y
        (imp (le₁ (key x) (key y)) (le₁ (key y) (key x)) (le₂ x y) h (then_key y x k))
        (imp (le₁ (key y) (key x)) (le₁ (key x) (key y)) (le₂ y x) k (then_key x y h));
  }

-- ---- Plain's `by` and `by_greatest`
up_shape : (a b n : Bool) → not (not a || ((b && a) && n)) ≡ (a && (not b || not n))
up_shape true true n = refl
up_shape true false n = refl
up_shape false b n = refl

down_shape : (a b n : Bool) → not (not a || ((a && b) && n)) ≡ (a && (not b || not n))
down_shape true true n = refl
down_shape true false n = refl
down_shape false b n = refl

module _ {A : Type 0} (key : A → ℤ) (next : A → A → Bool) where
  by_then : (x y : A) → up_to (by key next) x y ≡ then key le_z (up_to next) x y
  by_then x y = rw (lt_z_not (key y) (key x)) (up_shape (le_z (key x) (key y)) (le_z (key y) (key x)) (next y x))

  greatest_then : (x y : A) → up_to (by_greatest key next) x y ≡ then key (flip le_z) (up_to next) x y
  greatest_then x y = rw (lt_z_not (key x) (key y)) (down_shape (le_z (key y) (key x)) (le_z (key x) (key y)) (next y x))

  pub by_order : Order (up_to next) → Order (up_to (by key next))
  by_order o = subst Order (sym (λ i x y. by_then x y i)) (then_order key le_z (up_to next) ℤ_order o)

  pub greatest_order : Order (up_to next) → Order (up_to (by_greatest key next))
  greatest_order o = subst Order (sym (λ i x y. greatest_then x y i)) (then_order key (flip le_z) (up_to next) (flip_order le_z ℤ_order) o)

  pub by_linear : Linear (up_to next) → Linear (up_to (by key next))
  by_linear o = subst Linear (sym (λ i x y. by_then x y i)) (then_linear key le_z (up_to next) ℤ_order o)

  pub greatest_linear : Linear (up_to next) → Linear (up_to (by_greatest key next))
  greatest_linear o = subst Linear (sym (λ i x y. greatest_then x y i)) (then_linear key (flip le_z) (up_to next) (flip_order le_z ℤ_order) o)

  -- what comes no later has no greater key, or no smaller one
  pub by_key : (x y : A) → T (up_to (by key next) x y) → T (le_z (key x) (key y))
  by_key x y h = then_key key le_z (up_to next) x y (subst T (by_then x y) h)

  pub greatest_key : (x y : A) → T (up_to (by_greatest key next) x y) → T (le_z (key y) (key x))
  greatest_key x y h = then_key key (flip le_z) (up_to next) x y (subst T (greatest_then x y) h)
