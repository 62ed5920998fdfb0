-- Those of a run that pass a test, gathered in their order at the front of other words.
-- Use: `Going` holds while the run is gone through: what is still due, put at its place, is the whole (`begun`, `taken`, `passed`, `end_count`, `end_list`). Assumes nothing.
use Rattle.std.specs.Prelude.{◌≡◌, refl, Bool, true, false, List, [], ◌∷◌, ◌++◌, ℕ, ◌+◌, ◌≤◌, ◌<◌, ℤ, pos, length, get_or, set, drop}
use Rattle.std.proofs.Common.{sym, ap, ◌∙◌, add-one, arith, length-set, drop-cons}
use Rattle.std.proofs.Math.ListN.{drop_of_length-le}
use Rattle.lists.specs.Plain.{filter}
use Rattle.lists.specs.Filters.{filter_yes, filter_no}
use Rattle.lists.specs.Parts.{put, put_step, put_nil}
use Rattle.paper.specs.Results.{over}

-- `over` of document 01 is `put` at the front
pub put_front : (v xs : List ℤ) → put 0 v xs ≡ over v xs
unfolding put
put_front v xs = let z : 0 + length v ≡ length v = omega arith in ap (λ k. v ++ drop k xs) z

module _ (wanted : ℤ → Bool) (run s₀ : List ℤ) where
  -- i of the run gone through, o of them taken
  pub record Going (s : List ℤ) (o i : ℕ) : Type 0 where
    pub long : length s ≡ length s₀
    pub left : o + length (filter wanted (drop i run)) ≡ length (filter wanted run)
    pub due : put o (filter wanted (drop i run)) s ≡ put 0 (filter wanted run) s₀

  pub begun : Going s₀ 0 0
  begun = record { long = refl; left = omega arith; due = refl }

  module _ (room : length (filter wanted run) ≤ length s₀) (s : List ℤ) (o i : ℕ) (g : Going s o i) where
    abbrev x : ℤ
    x = get_or run i (pos 0)

    abbrev rest : List ℤ
    rest = drop (i + 1) run

    module _ (more : i < length run) where
      next : drop i run ≡ x ∷ rest
      next = rw (add-one i) (drop-cons run i (pos 0) more)

      with_next : wanted x ≡ true → filter wanted (drop i run) ≡ x ∷ filter wanted rest
      with_next h = ap (filter wanted) next ∙ filter_yes wanted x rest h

      pub place : wanted x ≡ true → o < length s
      place h = omega (arith, g.left, ap length (with_next h), g.long, room)

      pub taken : wanted x ≡ true → Going (set s o x) (o + 1) (i + 1)
      taken h =
          let is : filter wanted (drop i run) ≡ x ∷ filter wanted rest = with_next h in
          record {
            long = length-set s o x ∙ g.long;
            left = omega (arith, g.left, ap length is);
            due =
                ap (λ k. put k (filter wanted rest) (set s o x)) (add-one o)
                ∙ sym (put_step o x (filter wanted rest) s (place h))
                ∙ ap (λ w. put o w s) (sym is)
                ∙ g.due;
          }

      pub passed : wanted x ≡ false → Going s o (i + 1)
      passed h =
          let is : filter wanted (drop i run) ≡ filter wanted rest = ap (filter wanted) next ∙ filter_no wanted x rest h in
          record {
            long = g.long;
            left = omega (arith, g.left, ap length is);
            due = ap (λ w. put o w s) (sym is) ∙ g.due;
          }

    ended : length run ≤ i → filter wanted (drop i run) ≡ []
    unfolding filter
    ended h = ap (filter wanted) (drop_of_length-le run {i = i} h)

    pub end_count : length run ≤ i → o ≡ length (filter wanted run)
    end_count h = omega (arith, g.left, ap length (ended h))

    pub end_list : length run ≤ i → s ≡ over (filter wanted run) s₀
    end_list h = sym (ap (λ w. put o w s) (ended h) ∙ put_nil o s) ∙ g.due ∙ put_front (filter wanted run) s₀
