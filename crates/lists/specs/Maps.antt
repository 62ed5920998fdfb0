-- A function applied to each element (`map`), and the parts of a list: its first, its later ones, the one at a place, the last (Plain's `last`).
-- Use: carries what is said of the parts of a list over to the list of keys, or of words, made from it. Assumes nothing.
use Rattle.std.specs.Prelude.{◌≡◌, refl, List, [], ◌∷◌, map, ℕ, zero, suc, ◌-◌, length, get_or, take, drop}
use Rattle.std.proofs.Common.{ap, arith}
use Rattle.lists.specs.Plain.{last}
use Rattle.lists.specs.Every.{All, Sorted}

module _ {A B : Type 0} (f : A → B) where
  pub map_take : (n : ℕ) (l : List A) → map f (take n l) ≡ take n (map f l)
  map_take zero l = refl
  map_take (suc n) [] = refl
  map_take (suc n) (x ∷ l) = ap (λ t. f x ∷ t) (map_take n l)

  pub map_drop : (n : ℕ) (l : List A) → map f (drop n l) ≡ drop n (map f l)
  map_drop zero l = refl
  map_drop (suc n) [] = refl
  map_drop (suc n) (x ∷ l) = map_drop n l

  pub map_at : (l : List A) (i : ℕ) (d : A) → get_or (map f l) i (f d) ≡ f (get_or l i d)
  map_at [] i d = refl
  map_at (x ∷ l) zero d = refl
  map_at (x ∷ l) (suc i) d = map_at l i d

  pub map_sorted : {R : B → B → Type 0} {l : List A} → Sorted (λ x y. R (f x) (f y)) l → Sorted R (map f l)
  map_sorted Sorted.none = Sorted.none
  map_sorted {R} (Sorted.next {x = x} h s) = Sorted.next (go h) (map_sorted s)
    where
      go : {m : List A} → All (λ y. R (f x) (f y)) m → All (R (f x)) (map f m)
      go All.none = All.none
      go (All.also p k) = All.also p (go k)

-- the last of a list by its place
pub last_at : {A : Type 0} (d e : A) (l : List A) → (length l ≡ 0 → ⊥) → last d l ≡ get_or l (length l - 1) e
unfolding last
last_at d e [] h = absurd (h refl)
last_at d e (x ∷ []) h = refl
last_at d e (x ∷ y ∷ l) h =
    let s : suc (suc (length l)) - 1 ≡ suc (suc (length l) - 1) = omega arith in
    rw s (last_at x e (y ∷ l) (λ z. omega arith))
