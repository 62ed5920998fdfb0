-- Plain's `filter`: of a list that passes or fails as a whole, of a map, by a test that agrees.
-- Use: cut a list where a test turns (Choosing's `filter_join`), then `filter_all` and `filter_none` for the pieces. Assumes nothing.
use Rattle.std.specs.Prelude.{◌≡◌, Bool, true, false, not, cond, List, [], ◌∷◌, map, T}
use Rattle.std.proofs.Math.Path.{refl}
use Rattle.std.proofs.Common.{ap}
use Rattle.lists.specs.Plain.{filter}
use Rattle.lists.specs.Tests.{is_true, is_false}
use Rattle.lists.specs.Every.{All}

module _ {A : Type 0} where
  pub filter_yes : (q : A → Bool) (x : A) (l : List A) → q x ≡ true → filter q (x ∷ l) ≡ x ∷ filter q l
  unfolding filter
  filter_yes q x l h = rw h

  pub filter_no : (q : A → Bool) (x : A) (l : List A) → q x ≡ false → filter q (x ∷ l) ≡ filter q l
  unfolding filter
  filter_no q x l h = rw h

  pub filter_all : (q : A → Bool) {l : List A} → All (λ x. T (q x)) l → filter q l ≡ l
  unfolding filter
  filter_all q All.none = refl
  filter_all q (All.also {x = x} {l = l} p h) = rw (is_true (q x) p) (ap (λ t. x ∷ t) (filter_all q h))

  pub filter_none : (q : A → Bool) {l : List A} → All (λ x. T (not (q x))) l → filter q l ≡ []
  unfolding filter
  filter_none q All.none = refl
  filter_none q (All.also {x = x} p h) = rw (is_false (q x) p) (filter_none q h)

  -- two tests that agree on every element
  pub filter_same : {p q : A → Bool} {l : List A} → All (λ x. p x ≡ q x) l → filter p l ≡ filter q l
  unfolding filter
  filter_same All.none = refl
  filter_same {p} {q} (All.also {x = x} {l = l} e h) = rw (e, filter_same h)

pub filter_map : {A B : Type 0} (f : A → B) (q : B → Bool) (l : List A) → filter q (map f l) ≡ map f (filter (λ x. q (f x)) l)
unfolding filter
filter_map f q [] = refl
filter_map f q (x ∷ l) = go (q (f x)) (filter_map f q l)
  where
    go : (b : Bool) → filter q (map f l) ≡ map f (filter (λ x. q (f x)) l) → cond b (f x ∷ filter q (map f l)) (filter q (map f l)) ≡ map f (cond b (x ∷ filter (λ x. q (f x)) l) (filter (λ x. q (f x)) l))
    go true e = ap (λ t. f x ∷ t) e
    go false e = e
