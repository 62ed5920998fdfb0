-- A block's words, at the front of which stand its positions, one for eight words.
-- Use: contracts say `named (front part.old)` for those positions; `front_is` and `fronted` are for a part whose count of positions is known. Assumes nothing.
use Rattle.std.specs.Prelude.{◌≡◌, List, ℕ, ◌*◌, ◌/◌, ◌<◌, ℤ, length}
use Rattle.std.proofs.Common.{◌∙◌, arith}
use Rattle.std.proofs.Math.ListN.{length-map}
use Rattle.lists.specs.Plain.{to_nat}
use Rattle.lists.specs.Parts.{win, length_win}
use Rattle.build_queue.specs.Runs.{named, Stands}

abbrev pub front : List ℤ → List ℤ
front xs = win 0 (length xs / 8) xs

pub front_length : (xs : List ℤ) → length (named (front xs)) ≡ length xs / 8
front_length xs = length-map (front xs) to_nat ∙ length_win 0 (length xs / 8) xs (omega arith)

-- a part of 8 · m words with a run of m at its front
module _ (m : ℕ) (xs : List ℤ) (long : length xs ≡ 8 * m) where
  eighth_is : length xs / 8 ≡ m
  eighth_is = omega (arith, long)

  pub front_is : front xs ≡ win 0 m xs
  front_is = rw eighth_is

  pub fronted : (up : ℕ → ℕ → Type 0) → m < 2147483648 → Stands up (win 0 m xs) → (length xs ≡ 8 * (length xs / 8)) × (length xs / 8 < 2147483648) × Stands up (front xs)
  fronted up few run = (omega (arith, long), omega (arith, long, few), rw front_is run)
