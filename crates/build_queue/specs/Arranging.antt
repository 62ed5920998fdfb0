-- How the moves of `arrange` bring one word to the front, and the others to the fronts of their queues' words. Assumes nothing.
use Rattle.std.specs.Prelude.{◌≡◌, List, [], ◌∷◌, ◌++◌, ℕ, suc, ◌+◌, ◌-◌, ◌*◌, ◌≤◌, ◌<◌, ℤ, pos, length, get_or, set, take, drop}
use Rattle.std.proofs.Common.{sym, ap, ◌∙◌, arith, length-set, get_or-set_same, take-take, take-add, drop_at, length-take-le}
use Rattle.std.specs.List.{copy_within}
use Rattle.lists.specs.Parts.{win, put, copied, length_win, length_copy, win_add, win_put_at, win_put_left, win_put_right, put_one, get_d_put_left, take_win, drop_win}
use Rattle.build_queue.specs.Taking.{without}
use Rattle.build_queue.specs.Parting.{Arranged}

-- a front without one, by its parts
split : (b k s : ℕ) (xs : List ℤ) → s ≡ suc b + k → s ≤ length xs
    → take b (take s xs) ++ drop (suc b) (take s xs) ≡ win 0 b xs ++ win (1 + b) k xs
unfolding win
split b k s xs e h =
    let o : 1 + b ≡ suc b = omega arith in
    rw (take-take b s xs (omega arith), o, e)
    (ap (λ l. take b xs ++ l) (ap (drop (suc b)) (take-add (suc b) k xs) ∙ drop_at (take (suc b) xs) _ (suc b) (length-take-le (suc b) xs (omega arith))))

-- the lists after each statement
module _ (xs : List ℤ) (b left right : ℕ) (hb : b < 1 + left + right) (long : length xs ≡ 2 * (1 + left + right)) (few : right ≤ left) (many : left ≤ right + 1) where
  abbrev x₁ : List ℤ
  x₁ = put 1 (win 0 b xs) xs

  abbrev x₂ : List ℤ
  x₂ = set x₁ 0 (get_or xs b (pos 0))

  abbrev x₃ : List ℤ
  x₃ = put (2 + 2 * left) (win (1 + left) right x₂) x₂

  abbrev x₄ : List ℤ
  x₄ = put 2 (win 1 left x₃) x₃

  l₁ : length x₁ ≡ length xs
  l₁ = length_copy 0 1 b xs (omega arith) (omega arith)

  l₂ : length x₂ ≡ length xs
  l₂ = length-set x₁ 0 _ ∙ l₁

  l₃ : length x₃ ≡ length xs
  l₃ = length_copy (1 + left) (2 + 2 * left) right x₂ (omega arith) (omega (arith, l₂)) ∙ l₂

  abbrev others : List ℤ
  others = without b (take (1 + left + right) xs)

  -- those that are not taken stand after the front
  rest : win 1 (left + right) x₂ ≡ others
  rest =
      let k = left + right - b in
      let n : left + right ≡ b + k = omega arith in
      ap (win 1 (left + right)) (put_one 0 (get_or xs b (pos 0)) x₁ (omega (arith, l₁)))
      ∙ win_put_right 1 (left + right) 0 (get_or xs b (pos 0) ∷ []) x₁ (omega arith) (omega (arith, l₁))
      ∙ ap (λ i. win 1 i x₁) n
      ∙ win_add 1 b k x₁
      ∙ ap (λ l. l ++ win (1 + b) k x₁) (win_put_at 1 b (win 0 b xs) xs (length_win 0 b xs (omega arith)) (omega arith))
      ∙ ap (λ l. win 0 b xs ++ l) (win_put_right (1 + b) k 1 (win 0 b xs) xs (omega (arith, length_win 0 b xs (omega arith))) (omega (arith, length_win 0 b xs (omega arith))))
      ∙ sym (split b k (1 + left + right) xs (omega arith) (omega arith))

  arranged : Arranged xs x₄ b left right
  arranged = record {
    taken =
        get_d_put_left 2 0 (pos 0) _ x₃ (omega arith) (omega (arith, l₃))
        ∙ get_d_put_left (2 + 2 * left) 0 (pos 0) _ x₂ (omega arith) (omega (arith, l₂))
        ∙ get_or-set_same x₁ 0 _ (pos 0) (omega (arith, l₁));
    lefts =
        win_put_at 2 left (win 1 left x₃) x₃ (length_win 1 left x₃ (omega (arith, l₃))) (omega (arith, l₃))
        ∙ win_put_left 1 left (2 + 2 * left) _ x₂ (omega arith) (omega (arith, l₂))
        ∙ sym (take_win 1 left right x₂ (omega (arith, l₂)))
        ∙ ap (take left) rest;
    rights =
        win_put_right (2 + 2 * left) right 2 (win 1 left x₃) x₃ (omega (arith, length_win 1 left x₃ (omega (arith, l₃)))) (omega (arith, l₃, length_win 1 left x₃ (omega (arith, l₃))))
        ∙ win_put_at (2 + 2 * left) right _ x₂ (length_win (1 + left) right x₂ (omega (arith, l₂))) (omega (arith, l₂))
        ∙ sym (drop_win 1 left right x₂ (omega (arith, l₂)))
        ∙ ap (drop left) rest;
  }

  -- what the statements leave, one after the other
  pub chained : (m : ℤ) (y₁ y₃ y₄ : List ℤ) → m ≡ get_or xs b (pos 0) → y₁ ≡ copy_within xs 0 b 1
      → y₃ ≡ copy_within (set y₁ 0 m) (1 + left) (1 + left + right) (2 * (1 + left)) → y₄ ≡ copy_within y₃ 1 (1 + left) 2
      → Arranged xs y₄ b left right
  chained m y₁ y₃ y₄ e e₁ e₃ e₄ =
      let none : 0 + b ≡ b = omega arith in
      let two : 2 * (1 + left) ≡ 2 + 2 * left = omega arith in
      let f₁ : y₁ ≡ x₁ = e₁ ∙ ap (λ i. copy_within xs 0 i 1) (sym none) ∙ copied 0 1 b xs (omega arith) in
      let f₂ : set y₁ 0 m ≡ x₂ = rw (f₁, e) in
      let f₃ : y₃ ≡ x₃ = (rw (f₂, two) at e₃) ∙ copied (1 + left) (2 + 2 * left) right x₂ (omega (arith, l₂)) in
      let f₄ : y₄ ≡ x₄ = (rw f₃ at e₄) ∙ copied 1 2 left x₃ (omega (arith, l₃)) in
      rw f₄ arranged
