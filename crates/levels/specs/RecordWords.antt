-- The records one after the other, written place by place.
-- Use: what is due from record i on, put at its place, is all (`begun`, `next`, `done`). Assumes nothing.
use Rattle.std.specs.Prelude.{◌≡◌, refl, ℤ, set}
use Rattle.std.proofs.Math.Path.{sym, ap}
use Rattle.std.proofs.Common.{◌∙◌, add-one, length-set, length-drop}
use mathlib.Core.List.{List, [], ◌∷◌, map}
use Prim.Native.Nat.{ℕ, suc, ◌+◌, ◌-◌, ◌*◌, ◌≤◌, ◌<◌}
use native.Mathlib.Omega.{arith}
use Rattle.std.proofs.Math.ListN.{length, drop, drop_of_length-le}
use Rattle.std.proofs.Math.Seq.{drop-cons}
use Rattle.lists.specs.Plain.{joined}
use Rattle.lists.specs.Parts.{put, put_nil, put_step, put_all, put_join}
use Rattle.paper.specs.Descriptor.{at}
use Rattle.paper.specs.Words.{record_of}
use Rattle.paper.specs.declared.Segment.{Segment}

abbrev pub words : List Segment → List ℤ
words rs = joined (map record_of rs)

pub words_length : (rs : List Segment) → length (words rs) ≡ 4 * length rs
unfolding joined
words_length [] = refl
words_length (r ∷ rs) = omega (arith, words_length rs)

pub four : (to : ℕ) (s : List ℤ) (x y z w : ℤ) → to + 4 ≤ length s
    → set (set (set (set s to x) (to + 1) y) (to + 2) z) (to + 3) w ≡ put to (x ∷ y ∷ z ∷ w ∷ []) s
four to s x y z w h =
    let s₁ = set s to x in
    let s₂ = set s₁ (to + 1) y in
    let s₃ = set s₂ (to + 2) z in
    let l₁ : length s₁ ≡ length s = length-set s to x in
    let l₂ : length s₂ ≡ length s = length-set s₁ (to + 1) y ∙ l₁ in
    let l₃ : length s₃ ≡ length s = length-set s₂ (to + 2) z ∙ l₂ in
    let a : suc to ≡ to + 1 = omega arith in
    let b : suc (to + 1) ≡ to + 2 = omega arith in
    let c : suc (to + 2) ≡ to + 3 = omega arith in
    sym
    (put_step to x (y ∷ z ∷ w ∷ []) s (omega arith)
    ∙ ap (λ k. put k (y ∷ z ∷ w ∷ []) s₁) a
    ∙ put_step (to + 1) y (z ∷ w ∷ []) s₁ (omega arith)
    ∙ ap (λ k. put k (z ∷ w ∷ []) s₂) b
    ∙ put_step (to + 2) z (w ∷ []) s₂ (omega arith)
    ∙ ap (λ k. put k (w ∷ []) s₃) c
    ∙ put_step (to + 3) w [] s₃ (omega arith)
    ∙ put_nil _ _)

module _ (rs : List Segment) (n : ℕ) (ln : length rs ≡ n) where
  pub begun : (s : List ℤ) → length s ≡ 4 * n → put (4 * 0) (words (drop 0 rs)) s ≡ words rs
  begun s h = put_all (words rs) s (omega (arith, words_length rs))

  pub next : (s : List ℤ) (i : ℕ) → length s ≡ 4 * n → i < n → put (4 * (i + 1)) (words (drop (i + 1) rs)) (put (4 * i) (record_of (at rs i)) s) ≡ put (4 * i) (words (drop i rs)) s
  unfolding joined
  next s i l h =
      let R = record_of (at rs i) in
      let J = words (drop (suc i) rs) in
      let e : drop i rs ≡ at rs i ∷ drop (suc i) rs = drop-cons rs i _ (omega (arith, ln)) in
      let k : 4 * suc i ≡ 4 * i + length R = omega arith in
      let lj : length J ≡ 4 * (n - suc i) = words_length (drop (suc i) rs) ∙ ap (λ m. 4 * m) (length-drop (suc i) rs ∙ ap (λ m. m - suc i) ln) in
      ap (λ m. put (4 * m) (words (drop m rs)) (put (4 * i) R s)) (add-one i)
      ∙ ap (λ m. put m J (put (4 * i) R s)) k
      ∙ put_join (4 * i) R J s (omega (arith, lj, l))
      ∙ ap (λ v. put (4 * i) (words v) s) (sym e)

  pub done : (s : List ℤ) (i : ℕ) → n ≤ i → s ≡ put (4 * i) (words (drop i rs)) s
  unfolding joined
  done s i h =
      let e : drop i rs ≡ [] = drop_of_length-le rs {i = i} (omega (arith, ln)) in
      sym (ap (λ v. put (4 * i) (words v) s) e ∙ put_nil (4 * i) s)
