-- From the three runs of a division to all of a block but its queues and child blocks: header, the runs of both queues by (level, position), zeros.
-- Use: `Spread` is what stands where; `chained` proves it from what the sort, the two copies, the zeros and the header leave. Assumes nothing.
use Rattle.std.specs.Prelude.{◌≡◌, refl, List, ℕ, ◌+◌, ◌-◌, ◌*◌, ◌≤◌, ◌<◌, ℤ, pos, length, replicate}
use Rattle.std.proofs.Common.{ap₂, ◌∙◌, arith}
use Rattle.std.proofs.lemmas.List.{length-replicate}
use Rattle.std.specs.List.{copy_within}
use borrow.Rule.Slice.PartMut.{put_mid}
use Rattle.lists.specs.Parts.{win, put, copied, lent, length_win, length_put, length_copy, win_put_at, win_put_left, win_put_right}
use Rattle.build_block.specs.Blocks.{header}

-- of m, a stay and b stay or go left; S are the words of those that stay, in the order of their queues
pub record Spread (S : List ℤ) (centre : ℤ) (m a b : ℕ) (xs ys : List ℤ) : Type 0 where
  pub head : win 0 4 ys ≡ header centre a (b - a) (m - b)
  pub low : win 4 a ys ≡ S
  pub high : win (4 + 2 * a) a ys ≡ S
  pub zeros : win (4 + 4 * a) (8 * a - (4 + 4 * a)) ys ≡ replicate (8 * a - (4 + 4 * a)) (pos 0)
  pub rest : (i n : ℕ) → 8 * a ≤ i → win i n ys ≡ win i n xs

module _ (S scratch : List ℤ) (centre : ℤ) (m a b : ℕ) (xs : List ℤ) (some : 0 < a) (ab : a ≤ b) (bm : b ≤ m) (long : length xs ≡ 8 * m)
    (SL : length S ≡ a) (scratch-long : length scratch ≡ a) where
  abbrev y₀ : List ℤ
  y₀ = put 0 S xs

  abbrev y₁ : List ℤ
  y₁ = put a scratch y₀

  abbrev y₂ : List ℤ
  y₂ = put (4 + 2 * a) (win 0 a y₁) y₁

  abbrev y₃ : List ℤ
  y₃ = put 4 (win 0 a y₂) y₂

  abbrev n : ℕ
  n = 8 * a - (4 + 4 * a)

  abbrev Z : List ℤ
  Z = replicate (8 * a - (4 + 4 * a)) (pos 0)

  abbrev y₄ : List ℤ
  y₄ = put (4 + 4 * a) Z y₃

  abbrev H : List ℤ
  H = header centre a (b - a) (m - b)

  abbrev y₅ : List ℤ
  y₅ = put 0 H y₄

  ZL : length Z ≡ n
  ZL = length-replicate n (pos 0)

  l₀ : length y₀ ≡ 8 * m
  l₀ = length_put 0 S xs (omega arith) ∙ long

  l₁ : length y₁ ≡ 8 * m
  l₁ = length_put a scratch y₀ (omega (arith, l₀)) ∙ l₀

  l₂ : length y₂ ≡ 8 * m
  l₂ = length_copy 0 (4 + 2 * a) a y₁ (omega arith) (omega (arith, l₁)) ∙ l₁

  l₃ : length y₃ ≡ 8 * m
  l₃ = length_copy 0 4 a y₂ (omega arith) (omega (arith, l₂)) ∙ l₂

  l₄ : length y₄ ≡ 8 * m
  l₄ = length_put (4 + 4 * a) Z y₃ (omega (arith, ZL, l₃)) ∙ l₃

  R₂ : length (win 0 a y₁) ≡ a
  R₂ = length_win 0 a y₁ (omega (arith, l₁))

  R₃ : length (win 0 a y₂) ≡ a
  R₃ = length_win 0 a y₂ (omega (arith, l₂))

  stays₁ : win 0 a y₁ ≡ S
  stays₁ = win_put_left 0 a a scratch y₀ (omega arith) (omega (arith, l₀)) ∙ win_put_at 0 a S xs SL (omega arith)

  stays₂ : win 0 a y₂ ≡ S
  stays₂ = win_put_left 0 a (4 + 2 * a) (win 0 a y₁) y₁ (omega arith) (omega (arith, l₁)) ∙ stays₁

  all_there : Spread S centre m a b xs y₅
  all_there = record {
    head = win_put_at 0 4 H y₄ refl (omega arith);
    low =
        win_put_right 4 a 0 H y₄ (omega arith) (omega (arith, l₄))
        ∙ win_put_left 4 a (4 + 4 * a) Z y₃ (omega arith) (omega (arith, l₃))
        ∙ win_put_at 4 a (win 0 a y₂) y₂ R₃ (omega (arith, l₂))
        ∙ stays₂;
    high =
        win_put_right (4 + 2 * a) a 0 H y₄ (omega arith) (omega (arith, l₄))
        ∙ win_put_left (4 + 2 * a) a (4 + 4 * a) Z y₃ (omega arith) (omega (arith, l₃))
        ∙ win_put_right (4 + 2 * a) a 4 (win 0 a y₂) y₂ (omega (arith, R₃)) (omega (arith, R₃, l₂))
        ∙ win_put_at (4 + 2 * a) a (win 0 a y₁) y₁ R₂ (omega (arith, l₁))
        ∙ stays₁;
    zeros =
        win_put_right (4 + 4 * a) n 0 H y₄ (omega arith) (omega (arith, l₄))
        ∙ win_put_at (4 + 4 * a) n Z y₃ ZL (omega (arith, l₃));
    rest = λ i k h.
        win_put_right i k 0 H y₄ (omega arith) (omega (arith, l₄))
        ∙ win_put_right i k (4 + 4 * a) Z y₃ (omega (arith, ZL)) (omega (arith, ZL, l₃))
        ∙ win_put_right i k 4 (win 0 a y₂) y₂ (omega (arith, R₃)) (omega (arith, R₃, l₂))
        ∙ win_put_right i k (4 + 2 * a) (win 0 a y₁) y₁ (omega (arith, R₂)) (omega (arith, R₂, l₁))
        ∙ win_put_right i k a scratch y₀ (omega arith) (omega (arith, l₀))
        ∙ win_put_right i k 0 S xs (omega arith) (omega arith);
  }

  -- what the calls leave, one after the other
  pub chained : (v₁ v₂ v₃ zeros v₅ : List ℤ) → v₁ ≡ y₁ → v₂ ≡ copy_within v₁ 0 a (4 + 2 * a) → v₃ ≡ copy_within v₂ 0 a 4
      → zeros ≡ replicate (8 * a - (4 + 4 * a)) (pos 0) → v₅ ≡ put 0 H (put_mid (4 + 4 * a) (8 * a - (4 + 4 * a)) v₃ zeros)
      → Spread S centre m a b xs v₅
  chained v₁ v₂ v₃ zeros v₅ e₁ e₂ e₃ e₄ e₅ =
      let z : a ≡ 0 + a = omega arith in
      let f₂ : v₂ ≡ y₂ = e₂ ∙ ap₂ (λ v i. copy_within v 0 i (4 + 2 * a)) e₁ z ∙ copied 0 (4 + 2 * a) a y₁ (omega (arith, l₁)) in
      let f₃ : v₃ ≡ y₃ = e₃ ∙ ap₂ (λ v i. copy_within v 0 i 4) f₂ z ∙ copied 0 4 a y₂ (omega (arith, l₂)) in
      let f₄ : put_mid (4 + 4 * a) (8 * a - (4 + 4 * a)) v₃ zeros ≡ y₄ = rw (f₃, e₄) (lent (4 + 4 * a) n y₃ Z ZL) in
      let f₅ : v₅ ≡ y₅ = rw f₄ at e₅ in
      rw f₅ all_there
