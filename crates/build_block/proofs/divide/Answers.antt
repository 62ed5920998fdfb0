-- What the check leaves of `divide`.
use Rattle.std.specs.Prelude.{◌≡◌, refl, List, ℕ, ◌/◌, ◌<◌, ℤ, pos, length, get_or}
use Rattle.std.proofs.Common.{rules, sym, ap, ◌∙◌, arith, w32, SFits, to_z, of_z}
use Rattle.std.proofs.Math.Seq.{get_or-take}
use Rattle.std.proofs.lemmas.Int.{to_z-of_z}
use Rattle.whole.specs.Whole.{kept}
use Rattle.lists.specs.Plain.{to_nat}
use Rattle.lists.specs.Maps.{map_at}
use Rattle.lists.specs.Parts.{win}
use Rattle.paper.specs.Words.{near_of}
use Rattle.build_queue.specs.Ends.{records_in, axis_in}
use Rattle.build_queue.specs.Runs.{named}
use Rattle.build_queue.specs.declared.Ends.{Ends}
use Rattle.build_block.specs.Straight.{tidy}
use Rattle.build_block.specs.Fronts.{front, front_length}
use Rattle.build_block.specs.Separating.{goes_left}
use Rattle.build_block.specs.Cutting.{middle_low}
use Rattle.build_block.specs.Dividing as dividing
use Rattle.build_block.proofs.divide.Goals as goal

module _ (ends : Ends) (xs : List ℤ) (some : 0 < length xs / 8) where
  abbrev m : ℕ
  m = length xs / 8

  -- the centre is near of the middle one
  middle : {r : ℤ} → r ≡ near_of (records_in ends) (axis_in ends) (to_nat (get_or xs (m / 2) (pos 0))) → r ≡ near_of (records_in ends) (axis_in ends) (get_or (named (front xs)) (m / 2) 0)
  unfolding win
  middle e =
      e
      ∙ ap (λ z. near_of (records_in ends) (axis_in ends) (to_nat z)) (sym (get_or-take m xs (m / 2) (pos 0) (omega (arith, some))))
      ∙ ap (near_of (records_in ends) (axis_in ends)) (sym (map_at to_nat (win 0 m xs) (m / 2) (pos 0)))

pub reach-cut-requires-clause-low : goal.reach-cut-requires-clause-low
unfolding win
reach-cut-requires-clause-low c =
    let a = c.args in
    let q = c.requires in
    let xs = a.part.now in
    let f : SFits w32 (get_or xs (length xs / 8 / 2) (pos 0)) = search rules in
    let mid = middle a.ends xs q.0 (kept w32 _ c.near-centre.type_inv ∙ (rw (to_z-of_z w32 _ f) at c.near-centre.ensures)) in
    middle_low (records_in a.ends) (axis_in a.ends) (to_z w32 (of_z w32 c.near-centre.result)) (named (front xs)) (length xs / 8 / 2) q.2.order (omega (arith, q.0, front_length xs)) mid

pub reach-cut-requires-clause-stands : goal.reach-cut-requires-clause-stands
unfolding win
reach-cut-requires-clause-stands c = c.requires.2

pub returns : goal.returns
unfolding win
returns c =
    let a = c.args in
    let q = c.requires in
    let xs = a.part.now in
    let centre = to_z w32 (of_z w32 c.near-centre.result) in
    let f : SFits w32 (get_or xs (length xs / 8 / 2) (pos 0)) = search rules in
    let mid = middle a.ends xs q.0 (kept w32 _ c.near-centre.type_inv ∙ (rw (to_z-of_z w32 _ f) at c.near-centre.ensures)) in
    dividing.divided (records_in a.ends) (axis_in a.ends) (tidy a.ends) (goes_left a.ends centre) (length xs / 8) c.reach-cut.result c.separate-stay.result centre xs c.move_words.new.part c.separate-stay.new.part
    q.0 q.1 q.2 mid (λ p. refl) c.reach-cut.ensures.cut c.move_words.ensures c.separate-stay.ensures.part_after c.separate-stay.ensures.value c.move_words-2.new.part c.move_words-2.ensures
