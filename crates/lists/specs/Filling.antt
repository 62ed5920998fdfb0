-- Cells with others written over their front, as many as there is room for: what a loop leaves that lists into whatever it is lent and counts on.
-- Use: `filled_none` and `filled_more` for its invariant, `filled_onward` where it goes on in the cells that are left, `filled_all` where there is room for all.
-- Assumes nothing.
use Rattle.std.specs.Prelude.{◌≡◌, refl, List, [], ◌∷◌, ◌++◌, ℕ, suc, ◌+◌, ◌-◌, ◌≤◌, ◌<◌, min, length, take, drop, get_or, set}
use Rattle.std.proofs.Common.{sym, ap, ap₂, ◌∙◌, append_assoc, append-nil, arith, length-append, length-take, length-drop, drop_of_length-le, drop-cons, drop-drop, take_all, take_at, drop_at}
use Rattle.std.proofs.Math.Decide.{dec_lt}
use Rattle.std.proofs.lemmas.List.{set_at, take-append-le}
use Rattle.std.proofs.Math.Seq.{set_out, append_snoc, take-nil, take-append-add}

module _ {A : Type 0} where
  abbrev pub filled : List A → List A → List A
  filled new cells = take (length cells) new ++ drop (length (take (length cells) new)) cells

  pub filled_all : (new cells : List A) → length new ≤ length cells → filled new cells ≡ new ++ drop (length new) cells
  filled_all new cells h = ap (λ xs. xs ++ drop (length xs) cells) (take_all (length cells) new h)

  pub filled_length : (new cells : List A) → length (filled new cells) ≡ length cells
  filled_length new cells =
      let t = take (length cells) new in
      omega (arith, length-append t (drop (length t) cells), length-take (length cells) new, length-drop (length t) cells)

  -- the front of them, where there is room for all
  pub filled_front : (new cells : List A) (k : ℕ) → k ≡ length new → k ≤ length cells → take k (filled new cells) ≡ new
  filled_front new cells k e h = ap (take k) (filled_all new cells (omega (arith, e, h))) ∙ take_at new (drop (length new) cells) k (sym e)

  -- nothing is written yet
  pub filled_none : (cells : List A) → filled [] cells ≡ cells
  filled_none cells = ap (λ xs. xs ++ drop (length xs) cells) (take-nil (length cells))

  -- one more, in the cell after the last where there is one
  pub filled_more : (xs : List A) (a : A) (cells : List A) → set (filled xs cells) (length xs) a ≡ filled (xs ++ (a ∷ [])) cells
  filled_more xs a cells = go (dec_lt (length xs) (length cells))
    where
      g : length (xs ++ (a ∷ [])) ≡ suc (length xs)
      g = omega (arith, length-append xs (a ∷ []))

      go : Dec (length xs < length cells) → set (filled xs cells) (length xs) a ≡ filled (xs ++ (a ∷ [])) cells
      go (yes h) =
          ap (λ ys. set ys (length xs) a) (filled_all xs cells (omega arith))
          ∙ ap (λ ys. set (xs ++ ys) (length xs) a) (drop-cons cells (length xs) a h)
          ∙ set_at xs (get_or cells (length xs) a) (drop (suc (length xs)) cells) a (length xs) refl
          ∙ sym (append_snoc xs a (drop (suc (length xs)) cells))
          ∙ ap (λ (k : ℕ). xs ++ (a ∷ []) ++ drop k cells) (sym g)
          ∙ sym (filled_all (xs ++ (a ∷ [])) cells (omega (arith, g)))
      go (no h) =
          let full : length cells ≤ length xs = omega arith in
          set_out (filled xs cells) (length xs) a (omega (arith, filled_length xs cells))
          ∙ ap (λ ys. ys ++ drop (length ys) cells) (sym (take-append-le (length cells) xs (a ∷ []) full))

  -- more of them, in the cells that are left after s: after the first ones, or none
  pub filled_onward : (xs ys cells : List A) (s : ℕ) → s ≡ min (length xs) (length cells)
      → take s (filled xs cells) ++ filled ys (drop s (filled xs cells)) ≡ filled (xs ++ ys) cells
  filled_onward xs ys cells s e = go (dec_lt (length cells) (length xs))
    where
      size : length (filled xs cells) ≡ length cells
      size = filled_length xs cells

      full : length cells < length xs → s ≡ length cells
      full h = omega arith

      after : length xs ≤ length cells → drop s (filled xs cells) ≡ drop (length xs) cells
      after h = ap (drop s) (filled_all xs cells h) ∙ drop_at xs (drop (length xs) cells) s (omega arith)

      before : length xs ≤ length cells → take s (filled xs cells) ≡ xs
      before h = ap (take s) (filled_all xs cells h) ∙ take_at xs (drop (length xs) cells) s (omega arith)

      go : Dec (length cells < length xs) → take s (filled xs cells) ++ filled ys (drop s (filled xs cells)) ≡ filled (xs ++ ys) cells
      go (yes h) =
          ap (λ zs. take s (filled xs cells) ++ filled ys zs) (drop_of_length-le (filled xs cells) {i = s} (omega (arith, size, full h)))
          ∙ append-nil (take s (filled xs cells))
          ∙ take_all s (filled xs cells) (omega (arith, size, full h))
          ∙ ap (λ zs. zs ++ drop (length zs) cells) (sym (take-append-le (length cells) xs ys (omega arith)))
      go (no h) =
          let k : ℕ = length cells - length xs in
          let fits : length cells ≡ length xs + k = omega arith in
          let kept = take k ys in
          ap₂ (λ us vs. us ++ filled ys vs) (before (omega arith)) (after (omega arith))
          ∙ ap (λ (j : ℕ). xs ++ (take j ys ++ drop (length (take j ys)) (drop (length xs) cells))) (length-drop (length xs) cells)
          ∙ ap (λ zs. xs ++ (kept ++ zs)) (drop-drop (length kept) (length xs) cells)
          ∙ sym (append_assoc xs kept (drop (length xs + length kept) cells))
          ∙ ap (λ (j : ℕ). (xs ++ kept) ++ drop j cells) (sym (length-append xs kept))
          ∙ ap (λ zs. zs ++ drop (length zs) cells) (sym (ap (λ (j : ℕ). take j (xs ++ ys)) fits ∙ take-append-add xs ys k))
