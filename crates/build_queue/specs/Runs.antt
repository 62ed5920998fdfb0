-- A run of position words, and the positions that they name; a part of a list that is lent, and the run at its front.
-- Use: contracts say `named (front part.old)` for the positions at the front of a queue's words, and ask that the words `Stand` in an order; `stands` makes that of positions in order.
-- `part_length`, `part_take` and `part_front` are for what the borrow checker gives for `&mut s[a..e]`. Assumes nothing.
use Rattle.std.specs.Prelude.{◌≡◌, List, map, ℕ, ◌+◌, ◌*◌, ◌/◌, ◌≤◌, ℤ, pos, length, take, drop}
use Rattle.std.proofs.Common.{sym, ap, subst, ◌∙◌, arith, map-id, take-take}
use Rattle.std.proofs.lemmas.Simd.{map-map}
use Rattle.lists.specs.Plain.{to_nat}
use Rattle.lists.specs.Every.{Sorted}
use Rattle.lists.specs.Parts.{win, length_win}

abbrev pub named : List ℤ → List ℕ
named words = map to_nat words

-- the words are those of positions, each of which stands to all that follow it as `up` says
pub record Stands (up : ℕ → ℕ → Type 0) (words : List ℤ) : Type 0 where
  pub plain : map pos (named words) ≡ words
  pub order : Sorted up (named words)

-- positions as words, and back
pub back_named : (ps : List ℕ) → named (map pos ps) ≡ ps
back_named ps = map-map to_nat pos ps ∙ map-id ps

pub stands : (up : ℕ → ℕ → Type 0) (words : List ℤ) (ps : List ℕ) → words ≡ map pos ps → Sorted up ps → Stands up words
stands up words ps e o = record {
  plain = ap (λ k. map pos (named k)) e ∙ ap (map pos) (back_named ps) ∙ sym e;
  order = subst (Sorted up) (sym (ap named e ∙ back_named ps)) o;
}

-- ---- a queue's words, at the front of which stand its positions, one for two words
abbrev pub front : List ℤ → List ℤ
front xs = take (length xs / 2) xs

-- a part of 2 · s words with a run of s at its front
module _ (s : ℕ) (xs : List ℤ) (long : length xs ≡ 2 * s) where
  half_is : length xs / 2 ≡ s
  half_is = omega (arith, long)

  pub front_is : front xs ≡ take s xs
  front_is = rw half_is

  pub fronted : (up : ℕ → ℕ → Type 0) → Stands up (take s xs) → (length xs ≡ 2 * (length xs / 2)) × Stands up (front xs)
  fronted up run = (omega (arith, long), rw front_is run)

-- ---- a part that is lent

pub part_length : (a k : ℕ) (xs : List ℤ) → a + k ≤ length xs → length (take k (drop a xs)) ≡ k
unfolding win
part_length a k xs h = length_win a k xs h

pub part_take : (a k n : ℕ) (xs : List ℤ) → k ≤ n → take k (take n (drop a xs)) ≡ win a k xs
unfolding win
part_take a k n xs h = take-take k n (drop a xs) h

pub part_front : (a k n : ℕ) (xs : List ℤ) → k ≤ n → win 0 k (take n (drop a xs)) ≡ win a k xs
unfolding win
part_front a k n xs h = take-take k n (drop a xs) h
