-- Words that stand at a place of an index: `At ws i l` says that the words of l stand in ws from word i on.
-- Use: `at_self` gives it for the whole, `at_append`, `at_numbered` take it to parts, `at_get` reads one word of a list of positions. Assumes nothing.
use Rattle.std.specs.Prelude.{◌≡◌, refl, List, [], ◌∷◌, ◌++◌, map, Bool, true, false, not, ℕ, zero, suc, ◌+◌, ◌*◌, ◌≤◌, ◌<◌, length, drop, get_or, ℤ, pos, T, ltb}
use Rattle.std.proofs.Common.{ap, subst, ◌∙◌, add-zero, arith, ltb→lt, nltb→le}
use Rattle.std.proofs.lemmas.List.{map-append, length-map}
use Rattle.lists.specs.Plain.{positions, joined}
use Rattle.lists.specs.Positions.{positions_length, numbered_suc, numbered_length}
use Rattle.lists.specs.Choosing.{at_map}

abbrev pub At : List ℤ → ℕ → List ℤ → Type 0
At ws i [] = Unit {0}
At ws i (x ∷ l) = (get_or ws i (pos 0) ≡ x) × At ws (suc i) l

-- positions as words
abbrev pub as_words : List ℕ → List ℤ
as_words l = map (λ p. pos p) l

at_shift : (x : ℤ) (ws : List ℤ) (i : ℕ) (l : List ℤ) → At ws i l → At (x ∷ ws) (suc i) l
at_shift x ws i [] a = tt
at_shift x ws i (y ∷ l) a = (a.0, at_shift x ws (suc i) l a.1)

-- whatever stands after them, words stand where they are
pub at_self : (l rest : List ℤ) → At (l ++ rest) 0 l
at_self [] rest = tt
at_self (x ∷ l) rest = (refl, at_shift x (l ++ rest) 0 l (at_self l rest))

module _ (ws : List ℤ) where
  pub at_append : (i : ℕ) (l m : List ℤ) → At ws i (l ++ m) → At ws i l × At ws (i + length l) m
  at_append i [] m a = (tt, rw add-zero a)
  at_append i (x ∷ l) m a =
      let k = at_append (suc i) l m a.1 in
      let e : suc i + length l ≡ i + suc (length l) = omega arith in
      ((a.0, k.0), rw e at k.1)

  -- of numbered parts of one length, part k
  pub at_numbered : (f : ℕ → List ℤ) (size : ℕ) → ((k : ℕ) → length (f k) ≡ size)
      → (m i k : ℕ) → k < m → At ws i (joined (map f (positions m))) → At ws (i + size * k) (f k)
  at_numbered f size each zero i k h a = absurd (omega arith)
  at_numbered f size each (suc m) i k h a =
      let t = at_append i (joined (map f (positions m))) (f m) (subst (At ws i) (numbered_suc f m) a) in
      go (ltb k m) (ltb→lt k m) (nltb→le k m) (λ u. at_numbered f size each m i k u t.0) t.1
    where
      go : (b : Bool) → (T b → k < m) → (T (not b) → m ≤ k) → (k < m → At ws (i + size * k) (f k))
          → At ws (i + length (joined (map f (positions m)))) (f m) → At ws (i + size * k) (f k)
      go true u v g t = g (u tt)
      go false u v g t =
          let e : m ≡ k = omega (arith, v tt) in
          subst (λ (j : ℕ). At ws (i + size * j) (f j)) e (subst (λ (j : ℕ). At ws (i + j) (f m)) (numbered_length f size each m) t)

  -- ---- positions as words
  pub at_cut : (i : ℕ) (l m : List ℕ) → At ws i (as_words (l ++ m)) → At ws i (as_words l) × At ws (i + length l) (as_words m)
  at_cut i l m a =
      let k = at_append i (as_words l) (as_words m) (subst (At ws i) (map-append (λ p. pos p) l m) a) in
      (k.0, subst (λ (j : ℕ). At ws (i + j) (as_words m)) (length-map l (λ p. pos p)) k.1)

  pub at_get : (i : ℕ) (l : List ℕ) (j d : ℕ) → j < length l → At ws i (as_words l) → get_or ws (i + j) (pos 0) ≡ pos (get_or l j d)
  at_get i [] j d h a = absurd (omega arith)
  at_get i (x ∷ l) zero d h a = rw add-zero a.0
  at_get i (x ∷ l) (suc j) d h a =
      let e : i + suc j ≡ suc i + j = omega arith in
      rw e (at_get (suc i) l j d (omega arith) a.1)

  pub at_drop : (i p : ℕ) (l : List ℕ) → p ≤ length l → At ws i (as_words l) → At ws (i + p) (as_words (drop p l))
  at_drop i zero l h a = rw add-zero a
  at_drop i (suc p) [] h a = absurd (omega arith)
  at_drop i (suc p) (x ∷ l) h a =
      let e : i + suc p ≡ suc i + p = omega arith in
      rw e (at_drop (suc i) p l (omega arith) a.1)

  -- of numbers that are given by their places, number j
  pub at_number : (f : ℕ → ℕ) (m i j : ℕ) → j < m → At ws i (as_words (map f (positions m))) → get_or ws (i + j) (pos 0) ≡ pos (f j)
  at_number f m i j h a =
      at_get i (map f (positions m)) j 0 (omega (arith, length-map (positions m) f, positions_length m)) a
      ∙ ap (λ (k : ℕ). pos k) (at_map f 0 m j h)
