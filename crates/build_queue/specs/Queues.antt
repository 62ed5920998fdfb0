-- Laws of `paper`'s words of a queue: `queue_cons` unfolds them without the bound on the depth, `queue_length` counts them, `queue_same` says that the
-- order of the positions does not matter. For every axis and either end. Assumes nothing.
use Rattle.std.specs.Prelude.{◌≡◌, Bool, true, ltb, pos, length, get_or, drop}
use Rattle.std.proofs.Math.Path.{refl, sym}
use Rattle.std.proofs.Common.{ap, ◌∙◌, arith, length-drop}
use mathlib.Core.List.{List, [], ◌∷◌, ◌++◌}
use Prim.Native.Nat.{ℕ, zero, suc, ◌+◌, ◌-◌, ◌*◌, ◌≤◌, ◌<◌}
use Rattle.std.proofs.Math.ListN.{length-append}
use Rattle.std.proofs.lemmas.List.{get_or_default}
use Rattle.lists.specs.Plain.{first_half, second_half, last, count, by, insert, sort}
use Rattle.lists.specs.Orders.{Linear, up_to, ltb_linear, by_linear, greatest_linear}
use Rattle.lists.specs.Counting.{count_length}
use Rattle.lists.specs.Halves.{first_length, second_length}
use Rattle.lists.specs.Sorting.{sort_length, sort_same}
use Rattle.paper.specs.declared.Segment.{Segment}
use Rattle.paper.specs.Words.{Axis, End, near_of, far_of, level_of, taken_before, split_of, queue_words_to, queue_words}

module _ (rs : List Segment) (axis : Axis) where
  -- by (level, position)
  abbrev pub lower : ℕ → ℕ → Bool
  lower = by (level_of rs axis) ltb

  pub lower_linear : Linear (up_to lower)
  lower_linear = by_linear (level_of rs axis) ltb ltb_linear

  pub taken_linear : (end : End) → Linear (up_to (taken_before rs axis end))
  taken_linear End.low = by_linear (near_of rs axis) lower lower_linear
  taken_linear End.high = greatest_linear (far_of rs axis) lower lower_linear

module _ (rs : List Segment) (axis : Axis) (end : End) where
  -- the one that a queue over ps takes, and the others by (level, position)
  abbrev pub first_of : List ℕ → ℕ
  first_of ps = get_or (sort (taken_before rs axis end) ps) 0 0

  abbrev pub rest_of : List ℕ → List ℕ
  rest_of ps = sort (lower rs axis) (drop 1 (sort (taken_before rs axis end) ps))

  pub rest_length : (ps : List ℕ) → length (rest_of ps) ≡ length ps - 1
  rest_length ps =
      sort_length (lower rs axis) (drop 1 (sort (taken_before rs axis end) ps))
      ∙ length-drop 1 (sort (taken_before rs axis end) ps)
      ∙ ap (λ n. n - 1) (sort_length (taken_before rs axis end) ps)

  abbrev lefts : List ℕ → List ℕ
  lefts ps = first_half (rest_of ps)

  abbrev rights : List ℕ → List ℕ
  rights ps = second_half (rest_of ps)

  sizes : (p : ℕ) (ps : List ℕ) → (length (lefts (p ∷ ps)) + length (rights (p ∷ ps)) ≡ length ps)
  sizes p ps = omega (arith, first_length (rest_of (p ∷ ps)), second_length (rest_of (p ∷ ps)), rest_length (p ∷ ps))

  words_nil : (f : ℕ) → queue_words_to rs axis f end [] ≡ []
  unfolding queue_words_to
  words_nil zero = refl
  words_nil (suc f) = refl

  -- any bound that is large enough gives the same words
  enough : (f g : ℕ) (ps : List ℕ) → length ps ≤ f → length ps ≤ g → queue_words_to rs axis f end ps ≡ queue_words_to rs axis g end ps
  unfolding queue_words_to
  enough zero g [] hf hg = sym (words_nil g)
  enough zero g (p ∷ ps) hf hg = absurd (omega arith)
  enough (suc f) g [] hf hg = sym (words_nil g)
  enough (suc f) zero (p ∷ ps) hf hg = absurd (omega arith)
  enough (suc f) (suc g) (p ∷ ps) hf hg =
      let l = enough f g (lefts (p ∷ ps)) (omega (arith, sizes p ps)) (omega (arith, sizes p ps)) in
      let r = enough f g (rights (p ∷ ps)) (omega (arith, sizes p ps)) (omega (arith, sizes p ps)) in
      rw (l, r)

  pub queue_cons : (ps : List ℕ) → 0 < length ps
      → queue_words rs axis end ps
      ≡ pos (first_of ps) ∷ split_of rs axis (first_half (rest_of ps)) ∷ (queue_words rs axis end (first_half (rest_of ps)) ++ queue_words rs axis end (second_half (rest_of ps)))
  unfolding queue_words_to
  queue_cons [] h = absurd (omega arith)
  queue_cons (p ∷ ps) h =
      let l = enough (length ps) (length (lefts (p ∷ ps))) (lefts (p ∷ ps)) (omega (arith, sizes p ps)) (omega arith) in
      let r = enough (length ps) (length (rights (p ∷ ps))) (rights (p ∷ ps)) (omega (arith, sizes p ps)) (omega arith) in
      let t = get_or_default (sort (taken_before rs axis end) (p ∷ ps)) 0 p 0 (omega (arith, sort_length (taken_before rs axis end) (p ∷ ps))) in
      rw (l, r, t)

  -- a queue of one
  pub queue_one : (p : ℕ) → queue_words rs axis end (p ∷ []) ≡ pos p ∷ pos 0 ∷ []
  unfolding queue_words_to sort insert last
  queue_one p = refl

  words_length : (f : ℕ) (ps : List ℕ) → length ps ≤ f → length (queue_words_to rs axis f end ps) ≡ 2 * length ps
  unfolding queue_words_to
  words_length zero [] h = refl
  words_length zero (p ∷ ps) h = absurd (omega arith)
  words_length (suc f) [] h = refl
  words_length (suc f) (p ∷ ps) h =
      let l = words_length f (lefts (p ∷ ps)) (omega (arith, sizes p ps)) in
      let r = words_length f (rights (p ∷ ps)) (omega (arith, sizes p ps)) in
      simp length-append (omega (arith, l, r, sizes p ps))

  pub queue_length : (ps : List ℕ) → length (queue_words rs axis end ps) ≡ 2 * length ps
  queue_length ps = words_length (length ps) ps (omega arith)

  pub queue_same : (ps qs : List ℕ) → ((q : ℕ → Bool) → count q ps ≡ count q qs) → queue_words rs axis end ps ≡ queue_words rs axis end qs
  queue_same [] [] h = refl
  queue_same [] (q ∷ qs) h = absurd (omega (arith, h (λ x. true), count_length (q ∷ qs), count_length {A = ℕ} []))
  queue_same (p ∷ ps) [] h = absurd (omega (arith, h (λ x. true), count_length (p ∷ ps), count_length {A = ℕ} []))
  queue_same (p ∷ ps) (q ∷ qs) h =
      let s = sort_same (taken_before rs axis end) (taken_linear rs axis end) (p ∷ ps) (q ∷ qs) h in
      queue_cons (p ∷ ps) (omega arith)
      ∙ ap (λ l.
      let rest = sort (lower rs axis) (drop 1 l) in
      pos (get_or l 0 0) ∷ split_of rs axis (first_half rest) ∷ (queue_words rs axis end (first_half rest) ++ queue_words rs axis end (second_half rest))) s
      ∙ sym (queue_cons (q ∷ qs) (omega arith))
