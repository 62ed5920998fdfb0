-- Words as the code reads them: a whole number, a position, a count.
use Rattle.std.specs.Prelude.{◌≡◌, refl, Bool, true, false, cond, not, ◌&&◌, List, [], ◌∷◌, ℕ, ◌+◌, ◌-◌, ◌≤◌, ◌<◌, leb, ltb, ℤ, pos, negsuc, ◌+ℤ◌, length, Option, Some, None, Result, Ok, Err}
use Rattle.std.proofs.Common.{sym, ap, ◌∙◌, true≢false, arith, le-leb, leb-true}
use Rattle.std.proofs.lemmas.Bool.{lt-leb}
use Rattle.std.specs.Int.Signed.{le_z, lt_z}
use Rattle.std.specs.Option.{unwrap_or}
use Rattle.lists.specs.Orders.{lt_z_not}
use Rattle.lists.specs.Plain.{same, to_nat}
use Rattle.paper.specs.Limits.{lower_fits}
use Rattle.paper.specs.Words.{levels_at}
use Rattle.paper.specs.Walk.{Event, spoiled, sound, as_position, as_count, sizes_fit}
use Rattle.tally.specs.declared.Spoiled.{Spoiled}

-- what an index has: n and lower bound within limits, and n records
pub record Ready (ws : List ℤ) (n : ℕ) (first : ℤ) : Type 0 where
  pub small : n ≤ 65536
  pub lower : lower_fits first ≡ true
  pub records : levels_at n ≤ length ws

-- the whole number that a word says
abbrev pub natural : ℤ → Option ℕ
natural (pos k) = Some k
natural (negsuc k) = None

-- a word that is read as a whole number of which a test holds
abbrev pub tested : (ℕ → Bool) → ℤ → Result ℕ Spoiled
tested ok (pos k) = cond (ok k) (Ok k) (Err (record {}))
tested ok (negsuc k) = Err (record {})

-- a word that is read as a position
abbrev pub position : ℕ → ℤ → Result ℕ Spoiled
position n z = tested (λ p. ltb p n) z

-- a word that is read as the count at slot p of a node
abbrev pub count : (p left right : ℕ) → ℤ → Result ℕ Spoiled
count p left right z = tested (λ k. leb k p && leb k left && leb (p - k) right) z

-- what follows a word that was read
abbrev pub follow : Result ℕ Spoiled → (ℕ → List Event) → List Event
follow (Ok k) next = next k
follow (Err x) next = spoiled ∷ []

module _ (ok : ℕ → Bool) (next : ℕ → List Event) where
  abbrev followed : ℕ → List Event
  followed k = sound (ok k) (next k)

  follow_sound : (k : ℕ) → followed k ≡ follow (tested ok (pos k)) next
  follow_sound k = go (ok k)
    where
      go : (b : Bool) → sound b (next k) ≡ follow (cond {A = Result ℕ Spoiled} b (Ok k) (Err (record {}))) next
      go true = refl
      go false = refl

pub position_followed : (n : ℕ) (z : ℤ) (next : ℕ → List Event) → as_position n z next ≡ follow (position n z) next
position_followed n (pos k) next = follow_sound (λ p. ltb p n) next k
position_followed n (negsuc k) next = refl

pub count_followed : (p left right : ℕ) (z : ℤ) (next : ℕ → List Event) → as_count p left right z next ≡ follow (count p left right z) next
count_followed p left right (pos k) next = follow_sound (λ k. leb k p && leb k left && leb (p - k) right) next k
count_followed p left right (negsuc k) next = refl

-- a count that was read is within its bounds
pub count_fits : (p left right : ℕ) (z : ℤ) (k : ℕ) → count p left right z ≡ Ok k → (k ≤ p) × (k ≤ left) × (p - k ≤ right)
count_fits p left right (pos j) k e = go (leb j p) (leb j left) (leb (p - j) right) refl refl refl e
  where
    go : (a b c : Bool) → leb j p ≡ a → leb j left ≡ b → leb (p - j) right ≡ c → cond {A = Result ℕ Spoiled} (a && b && c) (Ok j) (Err (record {})) ≡ Ok k
        → (k ≤ p) × (k ≤ left) × (p - k ≤ right)
    go true true true a b c q = let d : j ≡ k = cc in rw (sym d) (leb-true j p a, leb-true j left b, leb-true (p - j) right c)
    go false b c d e f q = absurd (cc)
    go true false c d e f q = absurd (cc)
    go true true false d e f q = absurd (cc)
count_fits p left right (negsuc j) k e = absurd (cc)

module _ (n : ℕ) (z : ℤ) (next : ℕ → List Event) where
  pub is_position : (p : ℕ) → position n z ≡ Ok p → as_position n z next ≡ next p
  is_position p e = position_followed n z next ∙ ap (λ (r : Result ℕ Spoiled). follow r next) e

  pub no_position : (x : Spoiled) → position n z ≡ Err x → as_position n z next ≡ spoiled ∷ []
  no_position x e = position_followed n z next ∙ ap (λ (r : Result ℕ Spoiled). follow r next) e

-- ---- a word read as a whole number, and another one where it is negative
abbrev pub or_else : ℕ → ℤ → ℕ
or_else d (pos k) = k
or_else d (negsuc k) = d

pub or_else_is : (d : ℕ) (z : ℤ) → unwrap_or (natural z) d ≡ or_else d z
or_else_is d (pos k) = refl
or_else_is d (negsuc k) = refl

pub or_none : (z : ℤ) → or_else 0 z ≡ to_nat z
or_none (pos k) = refl
or_none (negsuc k) = refl

-- ---- three words read as the sizes of a block over m
and_no : (a : Bool) → (a && false) ≡ false
and_no true = refl
and_no false = refl

abbrev sums : (m s ml mr : ℕ) → Bool
sums m s ml mr = leb 1 s && (leb (s + ml + mr) m && leb m (s + ml + mr))

three : (m a b c : ℕ) → sizes_fit m (pos a) (pos b) (pos c) ≡ sums m a b c
three m a b c = rw (le-leb 0 b (omega arith), le-leb 0 c (omega arith)) (last (leb 1 a) _)
  where
    last : (x y : Bool) → (x && true && true && y) ≡ (x && y)
    last true y = refl
    last false y = refl

sizes_tested : (m : ℕ) (x y z : ℤ) → sizes_fit m x y z ≡ sums m (or_else 0 x) (or_else (m + 1) y) (or_else (m + 1) z)
sizes_tested m (negsuc a) y z = refl
sizes_tested m (pos a) (negsuc b) z =
    ap (λ (t : Bool). t && le_z (pos 0) z && same (pos a +ℤ negsuc b +ℤ z) (pos m)) (and_no (leb 1 a))
    ∙ sym (ap (λ (t : Bool). leb 1 a && (t && leb m (a + (m + 1) + or_else (m + 1) z))) (lt-leb (a + (m + 1) + or_else (m + 1) z) m (omega arith)) ∙ and_no (leb 1 a))
sizes_tested m (pos a) (pos b) (negsuc c) =
    ap (λ (t : Bool). t && same (pos a +ℤ pos b +ℤ negsuc c) (pos m)) (and_no (leb 1 a && leb 0 b))
    ∙ sym (ap (λ (t : Bool). leb 1 a && (t && leb m (a + b + (m + 1)))) (lt-leb (a + b + (m + 1)) m (omega arith)) ∙ and_no (leb 1 a))
sizes_tested m (pos a) (pos b) (pos c) = three m a b c

sums_are : (m s ml mr : ℕ) → sums m s ml mr ≡ true → (0 < s) × (s + ml + mr ≡ m)
sums_are m s ml mr e = go (leb 1 s) (leb (s + ml + mr) m) (leb m (s + ml + mr)) refl refl refl e
  where
    go : (t u v : Bool) → leb 1 s ≡ t → leb (s + ml + mr) m ≡ u → leb m (s + ml + mr) ≡ v → (t && (u && v)) ≡ true → (0 < s) × (s + ml + mr ≡ m)
    go true true true a b c q = (leb-true 1 s a, omega (arith, leb-true (s + ml + mr) m b, leb-true m (s + ml + mr) c))
    go true true false a b c q = absurd (true≢false (sym q))
    go true false v a b c q = absurd (true≢false (sym q))
    go false u v a b c q = absurd (true≢false (sym q))

said : (d k : ℕ) (z : ℤ) → k ≡ or_else d z → (k ≡ d → ⊥) → z ≡ pos k
said d k (pos j) e h = ap pos (sym e)
said d k (negsuc j) e h = absurd (h e)

module _ (m s ml mr : ℕ) (x y z : ℤ) (es : s ≡ or_else 0 x) (el : ml ≡ or_else (m + 1) y) (er : mr ≡ or_else (m + 1) z) where
  plainly : sizes_fit m x y z ≡ sums m s ml mr
  plainly = sizes_tested m x y z ∙ (λ i. sums m (sym es i) (sym el i) (sym er i))

  pub sizes_fit_is : 0 < s → s + ml + mr ≡ m → sizes_fit m x y z ≡ true
  sizes_fit_is h e = plainly ∙ rw (le-leb 1 s (omega arith), le-leb (s + ml + mr) m (omega arith), le-leb m (s + ml + mr) (omega arith))

  pub sizes_are : 0 < s → s + ml + mr ≡ m → (x ≡ pos s) × (y ≡ pos ml) × (z ≡ pos mr)
  sizes_are h e = (said 0 s x es (λ q. omega arith), said (m + 1) ml y el (λ q. omega arith), said (m + 1) mr z er (λ q. omega arith))

  pub sizes_none : s ≡ 0 → sizes_fit m x y z ≡ false
  sizes_none h = plainly ∙ rw (lt-leb 1 s (omega arith))

  pub sizes_differ : (s + ml + mr ≡ m → ⊥) → sizes_fit m x y z ≡ false
  sizes_differ h = plainly ∙ ap (λ (t : Bool). leb 1 s && t) (go (leb (s + ml + mr) m) (leb m (s + ml + mr)) refl refl) ∙ and_no (leb 1 s)
    where
      go : (t u : Bool) → leb (s + ml + mr) m ≡ t → leb m (s + ml + mr) ≡ u → (t && u) ≡ false
      go false u a b = refl
      go true false a b = refl
      go true true a b = absurd (h (omega (arith, leb-true (s + ml + mr) m a, leb-true m (s + ml + mr) b)))

-- sizes that fit add up
pub sizes_told : (m : ℕ) (x y z : ℤ) → sizes_fit m x y z ≡ true → (0 < to_nat x) × (to_nat x + to_nat y + to_nat z ≡ m)
sizes_told m x y z e =
    let s = or_else 0 x in
    let ml = or_else (m + 1) y in
    let mr = or_else (m + 1) z in
    let q = sums_are m s ml mr (sym (sizes_tested m x y z) ∙ e) in
    let r = sizes_are m s ml mr x y z refl refl refl q.0 q.1 in
    let es : to_nat x ≡ s = ap to_nat r.0 in
    let el : to_nat y ≡ ml = ap to_nat r.1 in
    let er : to_nat z ≡ mr = ap to_nat r.2 in
    (omega (arith, q.0), omega (arith, q.1))

-- ---- orders of whole numbers by one test
pub le_not : (a b : ℤ) → le_z a b ≡ not (lt_z b a)
le_not a b = go (le_z a b) (lt_z b a) (lt_z_not b a)
  where
    go : (x y : Bool) → y ≡ not x → x ≡ not y
    go true y e = sym (ap not e)
    go false y e = sym (ap not e)

pub lt_not : (a b : ℤ) → lt_z a b ≡ not (le_z b a)
lt_not a b = lt_z_not a b
