-- What the check leaves of `spread`.
use Rattle.std.specs.Prelude.{◌≡◌, ◌+◌, ◌-◌, ◌*◌, ◌/◌, length, replicate, pos}
use Rattle.std.proofs.Common.{rules, ap, ◌∙◌, arith, w32, SFits}
use Rattle.std.proofs.lemmas.Int.{to_z-of_z}
use Rattle.lists.specs.Parts.{win, length_win}
use Rattle.lists.specs.Sorting.{sort_length}
use Rattle.build_queue.specs.Runs.{part_length}
use Rattle.build_block.specs.Spreading.{chained}
use Rattle.build_block.specs.Joining.{by_level}
use Rattle.build_block.proofs.spread.Goals as goal

pub returns : goal.returns
returns c =
    let a = c.args in
    let p = c.requires in
    let m = length a.part.now / 8 in
    let stay = a.division.stay in
    let S = by_level a.ends (win 0 stay a.part.now) in
    let sorted = c.sort.new.s in
    let long : length sorted ≡ 8 * m = c.sort.auto.s ∙ p.3 in
    let f : SFits w32 a.division.centre = search rules in
    chained S (win stay stay sorted) a.division.centre m stay a.division.cut a.part.now p.0 p.1 p.2 p.3
    (sort_length _ (win 0 stay a.part.now) ∙ length_win 0 stay a.part.now (omega (arith, p)))
    (length_win stay stay sorted (omega (arith, p, long)))
    _ _ _ _ _ (rw c.level-level.ensures at c.sort.ensures) c.copy_within.ensures.after c.copy_within-2.ensures.after
    (c.fill.ensures.after (λ y k. k) ∙ ap (λ n. replicate n (pos 0)) (part_length (4 + 4 * stay) (8 * stay - (4 + 4 * stay)) c.copy_within-2.new.self (omega (arith, p, long, c.copy_within.ensures.len, c.copy_within-2.ensures.len))))
    (rw (to_z-of_z w32 a.division.centre f) at c.put_header.ensures)
