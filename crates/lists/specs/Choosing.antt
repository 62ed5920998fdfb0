-- The positions 0 to n − 1 that pass a test, one position more at a time, as a loop goes: whether there is any, which they are, the first of them.
-- Also of numbered parts, one after the other: `parts_none`, `parts_first`.
-- Use: `any_next` and `filter_next` for a loop's invariant; `First` for a search from the front. Assumes nothing.
use Rattle.std.specs.Prelude.{◌≡◌, Bool, true, false, not, ◌||◌, cond, T, eqb, ltb}
use Rattle.std.proofs.Math.Path.{refl, ap, ap₂}
use Rattle.std.proofs.Common.{sym, ◌∙◌, subst, arith, add-one, not-suc-le-zero, lt_irrefl, le_of_lt, le_refl, lt→ltb, lt-ltb, le-ltb}
use mathlib.Core.List.{List, [], ◌∷◌, ◌++◌, map, map-append}
use Prim.Native.Nat.{ℕ, zero, suc, ◌+◌, ◌≤◌, ◌<◌}
use Rattle.std.proofs.Math.Decide.{dec_lt}
use Rattle.std.proofs.Math.ListN.{length, get_or, length-map, get_or-append}
use Rattle.lists.specs.Plain.{positions, filter, count, any, joined}
use Rattle.lists.specs.Tests.{by_test, holds, gate, gate_yes, clash, or_assoc, or_none, or_left, or_right}
use Rattle.lists.specs.Filters.{filter_none, filter_same}
use Rattle.lists.specs.Counting.{filter_count, filter_length, count_le, count_at_is}
use Rattle.lists.specs.Every.{All, Sorted, all_map, all_append}
use Rattle.lists.specs.Positions.{positions_length, positions_count, positions_below, numbered_suc}

-- ---- what is made of each position
module _ {A : Type 0} where
  get_d_last : (xs : List A) (x d : A) → get_or (xs ++ (x ∷ [])) (length xs) d ≡ x
  get_d_last [] x d = refl
  get_d_last (y ∷ xs) x d = get_d_last xs x d

  pub at_map : (f : ℕ → A) (d : A) (n p : ℕ) → p < n → get_or (map f (positions n)) p d ≡ f p
  unfolding positions
  at_map f d zero p h = absurd (not-suc-le-zero h)
  at_map f d (suc n) p h = ap (λ l. get_or l p d) (map-append f (positions n) (n ∷ [])) ∙ go (at_map f d n p) (dec_lt p n)
    where
      size : length (map f (positions n)) ≡ n
      size = length-map (positions n) f ∙ positions_length n

      go : (p < n → get_or (map f (positions n)) p d ≡ f p) → Dec (p < n) → get_or (map f (positions n) ++ (f n ∷ [])) p d ≡ f p
      go r (yes l) = get_or-append (map f (positions n)) (f n ∷ []) d p (omega (arith, size)) ∙ r l
      go r (no l) =
          let e : p ≡ n = omega arith in
          ap (λ k. get_or (map f (positions n) ++ (f n ∷ [])) k d) (e ∙ sym size) ∙ get_d_last (map f (positions n)) (f n) d ∙ ap f (sym e)

-- ---- any
module _ {A : Type 0} (q : A → Bool) where
  pub any_join : (xs ys : List A) → any q (xs ++ ys) ≡ (any q xs || any q ys)
  unfolding any
  any_join [] ys = refl
  any_join (x ∷ xs) ys = ap (λ b. q x || b) (any_join xs ys) ∙ or_assoc (q x) (any q xs) (any q ys)

  pub any_joined : (xss : List (List A)) → any q (joined xss) ≡ any (any q) xss
  unfolding any joined
  any_joined [] = refl
  any_joined (xs ∷ xss) = any_join xs (joined xss) ∙ ap (λ b. any q xs || b) (any_joined xss)

pub any_map : {A B : Type 0} (q : B → Bool) (f : A → B) (xs : List A) → any q (map f xs) ≡ any (λ x. q (f x)) xs
unfolding any
any_map q f [] = refl
any_map q f (x ∷ xs) = ap (λ b. q (f x) || b) (any_map q f xs)

module _ (q : ℕ → Bool) where
  pub any_zero : any q (positions 0) ≡ false
  unfolding positions any
  any_zero = refl

  pub any_next : (n : ℕ) → any q (positions (n + 1)) ≡ (any q (positions n) || q n)
  unfolding positions any
  any_next n = rw (add-one n) (any_join q (positions n) (n ∷ []) ∙ ap (λ b. any q (positions n) || b) (or_none (q n)))

  pub any_none : (n : ℕ) → ((p : ℕ) → p < n → q p ≡ false) → any q (positions n) ≡ false
  any_none zero h = any_zero
  any_none (suc n) h = rw (← add-one n) (any_next n ∙ ap₂ (λ x y. x || y) (any_none n (λ p l. h p (omega arith))) (h n (omega arith)))

  pub any_some : (n p : ℕ) → p < n → q p ≡ true → any q (positions n) ≡ true
  any_some zero p h e = absurd (not-suc-le-zero h)
  any_some (suc n) p h e = rw (← add-one n) (any_next n ∙ go (λ l. any_some n p l e) (dec_lt p n))
    where
      go : (p < n → any q (positions n) ≡ true) → Dec (p < n) → (any q (positions n) || q n) ≡ true
      go r (yes l) = or_left (q n) (r l)
      go r (no l) = or_right (any q (positions n)) (ap q (omega arith) ∙ e)

  -- none of them, read at one
  pub none_at : (n p : ℕ) → any q (positions n) ≡ false → p < n → q p ≡ false
  none_at n p h l = go (q p) refl
    where
      go : (b : Bool) → q p ≡ b → b ≡ false
      go true e = clash (sym (any_some n p l e) ∙ h)
      go false e = refl

-- ---- filter
pub filter_join : {A : Type 0} (q : A → Bool) (xs ys : List A) → filter q (xs ++ ys) ≡ filter q xs ++ filter q ys
unfolding filter
filter_join q [] ys = refl
filter_join {A} q (x ∷ xs) ys = go (q x) (filter q (xs ++ ys)) (filter q xs) (filter_join q xs ys)
  where
    go : (b : Bool) (l m : List A) → l ≡ m ++ filter q ys → cond b (x ∷ l) l ≡ cond b (x ∷ m) m ++ filter q ys
    go true l m e = ap (λ z. x ∷ z) e
    go false l m e = e

module _ (q : ℕ → Bool) where
  pub filter_zero : filter q (positions 0) ≡ []
  unfolding positions filter
  filter_zero = refl

  -- the next position
  pub filter_next : (n : ℕ) → filter q (positions (n + 1)) ≡ filter q (positions n) ++ cond (q n) (n ∷ []) []
  unfolding positions filter
  filter_next n = rw (add-one n) (filter_join q (positions n) (n ∷ []))

  filter_suc : (n : ℕ) → filter q (positions (suc n)) ≡ filter q (positions n) ++ cond (q n) (n ∷ []) []
  filter_suc n = rw (← add-one n) (filter_next n)

  -- no more pass than there are
  pub chosen_length : (n : ℕ) → length (filter q (positions n)) ≤ n
  chosen_length n = omega (arith, filter_length q (positions n), count_le q (positions n), positions_length n)

  pub chosen_none : (n : ℕ) → ((p : ℕ) → p < n → q p ≡ false) → filter q (positions n) ≡ []
  chosen_none n h = filter_none q (all_map (λ p l. subst (λ b. T (not b)) (sym (h p l)) tt) (positions_below n n (le_refl n)))

  -- the first that passes stands in front
  pub filter_first : (n r : ℕ) → r < n → ((k : ℕ) → k < r → q k ≡ false) → q r ≡ true → (rest : List ℕ) × (filter q (positions n) ≡ r ∷ rest)
  filter_first zero r h b e = absurd (not-suc-le-zero h)
  filter_first (suc n) r h b e = go (λ l. filter_first n r l b e) (dec_lt r n)
    where
      go : (r < n → (rest : List ℕ) × (filter q (positions n) ≡ r ∷ rest)) → Dec (r < n) → (rest : List ℕ) × (filter q (positions (suc n)) ≡ r ∷ rest)
      go i (yes l) = let s = i l in (s.0 ++ cond (q n) (n ∷ []) [], filter_suc n ∙ ap (λ m. m ++ cond (q n) (n ∷ []) []) s.1)
      go i (no l) =
          let e₁ : r ≡ n = omega arith in
          ([], filter_suc n ∙ ap₂ (λ m c. m ++ cond c (n ∷ []) []) (chosen_none n (λ k g. b k (omega arith))) (ap q (sym e₁) ∙ e) ∙ ap (λ m. m ∷ []) (sym e₁))

pub chosen_same : (q r : ℕ → Bool) (n : ℕ) → ((p : ℕ) → p < n → q p ≡ r p) → filter q (positions n) ≡ filter r (positions n)
chosen_same q r n h = filter_same (all_map h (positions_below n n (le_refl n)))

-- ---- a search from the front: r is the first number below n that q holds of, and n where there is none
pub record First (q : ℕ → Bool) (n r : ℕ) : Type 0 where
  pub within : r ≤ n
  pub before : (k : ℕ) → k < r → q k ≡ false
  pub here : r < n → q r ≡ true

module _ {q : ℕ → Bool} {n : ℕ} where
  pub stopped : {i : ℕ} → i < n → ((k : ℕ) → k < i → q k ≡ false) → q i ≡ true → First q n i
  stopped h b e = record { within = le_of_lt h; before = b; here = λ l. e }

  pub ended : {i : ℕ} → n ≤ i → ((k : ℕ) → k < i → q k ≡ false) → First q n n
  ended h b = record { within = le_refl n; before = λ k l. b k (omega arith); here = λ l. absurd (lt_irrefl n l) }

  -- none is found where none passes
  -- none passes: it is the end that is found
  pub at_end : {r : ℕ} → First q n r → ((k : ℕ) → k < n → q k ≡ false) → r ≡ n
  at_end {r = r} f h = go (dec_lt r n)
    where
      go : Dec (r < n) → r ≡ n
      go (yes l) = clash (sym (f.here l) ∙ h r l)
      go (no l) = omega (arith, f.within)

  pub none_found : any q (positions n) ≡ false → First q n n
  none_found h = ended (le_refl n) (λ k l. none_at q n k h l)

  -- the search ends before n exactly where some position passes
  pub first_any : {r : ℕ} → First q n r → ltb r n ≡ any q (positions n)
  first_any {r} s = go (dec_lt r n)
    where
      go : Dec (r < n) → ltb r n ≡ any q (positions n)
      go (yes l) = lt-ltb r n l ∙ sym (any_some q n r l (s.here l))
      go (no l) = le-ltb r n (omega arith) ∙ sym (any_none q n (λ k h. s.before k (omega arith)))

-- ---- numbered parts, one after the other: what passes in them, and where the first of it stands
module _ {A : Type 0} (q : A → Bool) (part : ℕ → List A) where
  part_suc : (n : ℕ) → filter q (joined (map part (positions (suc n)))) ≡ filter q (joined (map part (positions n))) ++ filter q (part n)
  part_suc n = ap (filter q) (numbered_suc part n) ∙ filter_join q (joined (map part (positions n))) (part n)

  pub parts_none : (n : ℕ) → ((k : ℕ) → k < n → filter q (part k) ≡ []) → filter q (joined (map part (positions n))) ≡ []
  unfolding positions joined filter
  parts_none zero h = refl
  parts_none (suc n) h = part_suc n ∙ ap₂ (λ l m. l ++ m) (parts_none n (λ k l. h k (omega arith))) (h n (omega arith))

  pub parts_first : (n r : ℕ) → r < n → ((k : ℕ) → k < r → filter q (part k) ≡ []) → (x : A) (xs : List A) → filter q (part r) ≡ x ∷ xs
      → (rest : List A) × (filter q (joined (map part (positions n))) ≡ x ∷ rest)
  parts_first zero r h b x xs e = absurd (not-suc-le-zero h)
  parts_first (suc n) r h b x xs e = go (λ l. parts_first n r l b x xs e) (dec_lt r n)
    where
      go : (r < n → (rest : List A) × (filter q (joined (map part (positions n))) ≡ x ∷ rest)) → Dec (r < n)
          → (rest : List A) × (filter q (joined (map part (positions (suc n)))) ≡ x ∷ rest)
      go i (yes l) = let s = i l in (s.0 ++ filter q (part n), part_suc n ∙ ap (λ m. m ++ filter q (part n)) s.1)
      go i (no l) =
          let here : r ≡ n = omega arith in
          (xs, part_suc n ∙ ap₂ (λ l m. l ++ m) (parts_none n (λ k g. b k (omega arith))) (ap (λ k. filter q (part k)) (sym here) ∙ e))

-- ---- how often a number is among those that pass: once if it is a position and passes, otherwise never
pub count_chosen : (q : ℕ → Bool) (n p : ℕ) → count (eqb p) (filter q (positions n)) ≡ gate (q p) (gate (ltb p n) 1)
count_chosen q n p = filter_count (eqb p) q (positions n) ∙ count_at_is q p (positions n) ∙ ap (gate (q p)) (positions_count p n)

-- where none passes, read at one
pub none_chosen : (q : ℕ → Bool) (n i : ℕ) → filter q (positions n) ≡ [] → i < n → q i ≡ false
unfolding count
none_chosen q n i e h =
    by_test (q i)
    (λ t.
    absurd
    (omega (
      arith,
      count_chosen q n i,
      ap (count (eqb i)) e,
      gate_yes (q i) (gate (ltb i n) 1) (holds t),
      gate_yes (ltb i n) 1 (lt→ltb i n h),
    )))
    (λ f. f)

-- ---- positions ascend, and so do those that pass
pub sorted_snoc : {A : Type 0} {R : A → A → Type 0} {l : List A} {z : A} → Sorted R l → All (λ x. R x z) l → Sorted R (l ++ (z ∷ []))
sorted_snoc Sorted.none h = Sorted.next All.none Sorted.none
sorted_snoc (Sorted.next k s) (All.also p h) = Sorted.next (all_append k (All.also p All.none)) (sorted_snoc s h)

pub positions_sorted : (n : ℕ) → Sorted (λ p q. p < q) (positions n)
unfolding positions
positions_sorted zero = Sorted.none
positions_sorted (suc n) = sorted_snoc (positions_sorted n) (positions_below n n (le_refl n))
