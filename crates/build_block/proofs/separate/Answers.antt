-- What the check leaves of `separate`.
use Rattle.std.specs.Prelude.{◌≡◌, Bool, ℤ, pos, get_or}
use Rattle.std.proofs.Common.{rules, sym, ap, ◌∙◌, arith, w32, SFits, to_z, of_z}
use Rattle.std.specs.Int.Signed.{lt_z}
use Rattle.std.proofs.lemmas.Int.{to_z-of_z}
use Rattle.whole.specs.Whole.{kept}
use Rattle.build_block.specs.Separating.{goes_left, stays_here, goes_on, end_count, end_list}
use Rattle.build_block.proofs.separate.Goals as goal
use Rattle.build_block.proofs.separate.Goals.{then-far-centre, else-far-centre}

pub loop-i-preserved : goal.loop-i-preserved
loop-i-preserved c =
    let a = c.args in
    let v = c.loop-i in
    let x : ℤ = get_or v.part v.i (pos 0) in
    let f : SFits w32 x = search rules in
    let word : to_z w32 (of_z w32 x) ≡ x = to_z-of_z w32 x f in
    let goes : ℤ → Bool = goes_left a.ends (to_z w32 (of_z w32 a.centre)) in
    let test : lt_z (to_z w32 (of_z w32 c.far.result)) (to_z w32 (of_z w32 a.centre)) ≡ goes x =
    ap (λ z. lt_z z (to_z w32 (of_z w32 a.centre))) (kept w32 _ c.far.type_inv ∙ (rw word at c.far.ensures)) in
    elim c.if-far-centre.branch [
      | then-far-centre w ↦
          rw (w.part-is, w.stay-is, w.left-is, word) (goes_on goes a.part.now a.cut c.requires v.part v.stay v.left v.i v.invariant c.loop-i-test.true (sym test ∙ w.if-far-centre.true))
      | else-far-centre w ↦
          rw (w.part-is, w.stay-is, w.left-is, word) (stays_here goes a.part.now a.cut c.requires v.part v.stay v.left v.i v.invariant c.loop-i-test.true (sym test ∙ w.if-far-centre.false))
    ]

pub returns-clause-few : goal.returns-clause-few
returns-clause-few c = let g = c.loop-i.invariant in omega (arith, g.within, g.above, g.all)

pub returns-clause-value : goal.returns-clause-value
returns-clause-value c =
    let a = c.args in
    let v = c.loop-i in
    rw (← to_z-of_z w32 a.centre c.ranges.centre) (end_count (goes_left a.ends (to_z w32 (of_z w32 a.centre))) a.part.now a.cut c.requires v.part v.stay v.left v.i v.invariant c.loop-i-test.false)

pub returns-clause-part_after : goal.returns-clause-part_after
returns-clause-part_after c =
    let a = c.args in
    let v = c.loop-i in
    rw (← to_z-of_z w32 a.centre c.ranges.centre) (end_list (goes_left a.ends (to_z w32 (of_z w32 a.centre))) a.part.now a.cut c.requires v.part v.stay v.left v.i v.invariant c.loop-i-test.false)
