-- What the check leaves of `best`.
use Rattle.std.specs.Prelude.{◌≡◌, ◌<◌, pos, length, get_or}
use Rattle.std.proofs.Common.{rules, sym, ap, ap₂, ◌∙◌, arith, w32, SFits, to_z, of_z}
use Rattle.std.proofs.Math.ListN.{length-map}
use Rattle.std.proofs.lemmas.Int.{to_z-of_z}
use Rattle.whole.specs.Whole.{kept}
use Rattle.lists.specs.Plain.{to_nat}
use Rattle.lists.specs.Maps.{map_at}
use Rattle.axes.specs.Axes.{end_of}
use Rattle.build_queue.specs.Runs.{named}
use Rattle.build_queue.specs.Best.{key_at, ahead, seen_first, seen_better, seen_kept, seen_all}
use Rattle.build_queue.specs.Ends.{records_in, axis_in}
use Rattle.build_queue.proofs.best.Goals as goal
use Rattle.build_queue.proofs.best.Goals.{then-is_ahead, else-is_ahead}

pub loop-i-init : goal.loop-i-init
loop-i-init c =
    let rs = records_in c.args.ends in
    let axis = axis_in c.args.ends in
    let end = end_of c.args.end in
    let run = c.args.run.now in
    let f : SFits w32 (get_or run 0 (pos 0)) = search rules in (
      seen_first rs axis end (named run) (omega (arith, length-map run to_nat, c.requires.0)),
      kept w32 _ c.key-taken.type_inv ∙ (rw (to_z-of_z w32 _ f) at c.key-taken.ensures) ∙ ap (key_at rs axis end) (sym (map_at to_nat run 0 (pos 0))),
    )

pub loop-i-preserved : goal.loop-i-preserved
loop-i-preserved c =
    let rs = records_in c.args.ends in
    let axis = axis_in c.args.ends in
    let end = end_of c.args.end in
    let run = c.args.run.now in
    let l = c.loop-i in
    let f : SFits w32 (get_or run l.i (pos 0)) = search rules in
    let more : l.i < length (named run) = omega (arith, length-map run to_nat, c.loop-i-test.true) in
    let next_is : to_z w32 (of_z w32 c.key-next.result) ≡ key_at rs axis end (get_or (named run) l.i 0) =
    kept w32 _ c.key-next.type_inv ∙ (rw (to_z-of_z w32 _ f) at c.key-next.ensures) ∙ ap (key_at rs axis end) (sym (map_at to_nat run l.i (pos 0))) in
    let test : c.is_ahead.result ≡ ahead end (key_at rs axis end (get_or (named run) l.i 0)) (key_at rs axis end (get_or (named run) l.place 0)) =
    c.is_ahead.ensures ∙ ap₂ (ahead end) next_is l.invariant.1 in
    elim c.if-is_ahead.branch [
      | then-is_ahead w ↦ rw (w.place-is, w.taken-is) (seen_better rs axis end (named run) l.place l.i l.invariant.0 more (sym test ∙ w.if-is_ahead.true), next_is)
      | else-is_ahead w ↦
          rw (w.place-is, w.taken-is) (seen_kept rs axis end (named run) l.place l.i l.invariant.0 more c.requires.1.order (sym test ∙ w.if-is_ahead.false), l.invariant.1)
    ]

pub returns : goal.returns
returns c =
    let run = c.args.run.now in
    let l = c.loop-i in
    seen_all (records_in c.args.ends) (axis_in c.args.ends) (end_of c.args.end) (named run) l.place l.i l.invariant.0
    (omega (arith, length-map run to_nat, c.loop-i-test.false))
