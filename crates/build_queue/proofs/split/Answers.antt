-- What the check leaves of `split`.
use Rattle.std.specs.Prelude.{◌≡◌, refl, List, [], ◌∷◌, map, ℕ, ◌-◌, ℤ, pos, length, get_or, slice_get, Some, None}
use Rattle.std.proofs.Common.{rules, sym, ap, ◌∙◌, arith, w32, SFits}
use Rattle.std.proofs.Math.ListN.{length-map}
use Rattle.std.proofs.lemmas.Int.{to_z-of_z}
use Rattle.std.proofs.lemmas.Option.{none-some, slice_get-get_or, slice_get_within, get_or_from_slice_get}
use Rattle.std.proofs.lemmas.Simd.{map-map}
use Rattle.whole.specs.Whole.{kept}
use Rattle.lists.specs.Plain.{to_nat, last}
use Rattle.lists.specs.Maps.{map_at, last_at}
use Rattle.paper.specs.Words.{level_of}
use Rattle.build_queue.specs.Ends.{records_in, axis_in}
use Rattle.build_queue.proofs.split.Goals as goal

module _ (level : ℕ → ℤ) (xs : List ℤ) where
  some : (x : ℤ) → Some x ≡ slice_get xs (length xs - 1) → level (to_nat x) ≡ last (pos 0) (map level (map to_nat xs))
  some x h =
      let f : ℤ → ℤ = λ z. level (to_nat z) in
      let n : length (map f xs) ≡ length xs = length-map xs f in
      let more = slice_get_within xs (length xs - 1) x (sym h) in
      ap f (sym (get_or_from_slice_get xs (length xs - 1) x (pos 0) (sym h)))
      ∙ sym
      (ap (last (pos 0)) (map-map level to_nat xs)
      ∙ last_at (pos 0) (f (pos 0)) (map f xs) (λ e. omega (arith, more, n, e))
      ∙ ap (λ i. get_or (map f xs) (i - 1) (f (pos 0))) n
      ∙ map_at f xs (length xs - 1) (pos 0))

none : (level : ℕ → ℤ) (xs : List ℤ) → None ≡ slice_get xs (length xs - 1) → pos 0 ≡ last (pos 0) (map level (map to_nat xs))
unfolding last
none level [] h = refl
none level (x ∷ xs) h = absurd (none-some _ (h ∙ slice_get-get_or (x ∷ xs) (length (x ∷ xs) - 1) (pos 0) (omega arith)))

pub returns-in-None : goal.returns-in-None
returns-in-None c = none (level_of (records_in c.args.ends) (axis_in c.args.ends)) c.args.run.now c.in-None.ensures.value

pub returns-in-Some : goal.returns-in-Some
returns-in-Some c =
    let a = c.args in
    let f : SFits w32 c.in-Some.p.now = search rules in
    kept w32 _ c.level.type_inv
    ∙ (rw (to_z-of_z w32 _ f) at c.level.ensures)
    ∙ some (level_of (records_in a.ends) (axis_in a.ends)) a.run.now c.in-Some.p.now c.in-Some.ensures.value
