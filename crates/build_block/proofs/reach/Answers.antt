-- What the check leaves of `reach`.
use Rattle.std.specs.Prelude.{◌≡◌, ◌+◌, ◌<◌, pos, length, get_or}
use Rattle.std.proofs.Common.{rules, sym, ap, ap₂, subst, ◌∙◌, arith, w32, SFits, to_z, of_z}
use Rattle.std.proofs.Math.ListN.{length-map}
use Rattle.std.specs.Int.Signed.{lt_z}
use Rattle.std.proofs.lemmas.Int.{to_z-of_z}
use Rattle.whole.specs.Whole.{kept}
use Rattle.lists.specs.Plain.{to_nat}
use Rattle.lists.specs.Maps.{map_at}
use Rattle.paper.specs.Words.{near_of}
use Rattle.build_queue.specs.Ends.{records_in, axis_in}
use Rattle.build_queue.specs.Runs.{named}
use Rattle.build_block.specs.Cutting.{Low, Cut, one_more, beyond, to_the_end}
use Rattle.build_block.proofs.reach.Goals as goal
use Rattle.build_block.proofs.reach.Goals.{After-near}

-- the test of the code, at the words that stand in the records
test : (c : After-near) → lt_z (to_z w32 (of_z w32 c.args.centre)) (to_z w32 (of_z w32 c.near.result))
    ≡ lt_z c.args.centre (near_of (records_in c.args.ends) (axis_in c.args.ends) (get_or (named c.args.run.now) c.loop-cut.cut 0))
test c =
    let f : SFits w32 (get_or c.args.run.now c.loop-cut.cut (pos 0)) = search rules in
    ap₂ lt_z (to_z-of_z w32 c.args.centre c.ranges.centre)
    (kept w32 _ c.near.type_inv
    ∙ (rw (to_z-of_z w32 _ f) at c.near.ensures)
    ∙ ap (near_of (records_in c.args.ends) (axis_in c.args.ends)) (sym (map_at to_nat c.args.run.now c.loop-cut.cut (pos 0))))

pub returns-then-centre-near-clause-cut : goal.returns-then-centre-near-clause-cut
returns-then-centre-near-clause-cut c =
    let rs = records_in c.args.ends in
    let axis = axis_in c.args.ends in
    let run = c.args.run.now in
    let i = c.loop-cut.cut in
    let low : Low rs axis c.args.centre (named run) i = subst (λ z. Low rs axis z (named run) i) (to_z-of_z w32 c.args.centre c.ranges.centre) c.loop-cut.invariant in
    let more : i < length (named run) = omega (arith, length-map run to_nat, c.loop-cut-test.true) in
    beyond rs axis c.args.centre (named run) i low c.requires.stands.order more (sym (test c.before) ∙ c.if-centre-near.true)

pub loop-cut-preserved : goal.loop-cut-preserved
loop-cut-preserved c =
    let rs = records_in c.args.ends in
    let axis = axis_in c.args.ends in
    let run = c.args.run.now in
    let i = c.loop-cut.cut in
    let same = to_z-of_z w32 c.args.centre c.ranges.centre in
    let low : Low rs axis c.args.centre (named run) i = subst (λ z. Low rs axis z (named run) i) same c.loop-cut.invariant in
    let more : i < length (named run) = omega (arith, length-map run to_nat, c.loop-cut-test.true) in
    subst (λ z. Low rs axis z (named run) (i + 1)) (sym same) (one_more rs axis c.args.centre (named run) i low more (sym (test c.before) ∙ c.if-centre-near.false))

pub returns-clause-cut : goal.returns-clause-cut
returns-clause-cut c =
    let rs = records_in c.args.ends in
    let axis = axis_in c.args.ends in
    let run = c.args.run.now in
    let i = c.loop-cut.cut in
    let low : Low rs axis c.args.centre (named run) i = subst (λ z. Low rs axis z (named run) i) (to_z-of_z w32 c.args.centre c.ranges.centre) c.loop-cut.invariant in
    let all : i ≡ length run = omega (arith, low.within, length-map run to_nat, c.loop-cut-test.false) in
    subst (λ k. Cut rs axis c.args.centre (named run) k) all (to_the_end rs axis c.args.centre (named run) i low (omega (arith, length-map run to_nat, all)))
