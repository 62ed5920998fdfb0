-- What the check leaves of `boxes_overlap`.
use Rattle.std.specs.Prelude.{◌≡◌, pos}
use Rattle.std.specs.Int.Signed.{le_z}
use Rattle.paper.specs.Corners.{overlaps}
use Rattle.meeting.specs.Bounds.{clean, small_back, framed}
use Rattle.meeting.specs.Gap.{both_gaps}
use Rattle.meeting.proofs.boxes_overlap.Goals as goal

pub gap-across-requires : goal.gap-across-requires
gap-across-requires c =
    let n = c.requires in
    let f = framed c.args.frame.window c.args.frame.good in
    (small_back f.a, small_back f.b, small_back n.x1, small_back n.x2)

pub gap-along-requires : goal.gap-along-requires
gap-along-requires c =
    let n = c.requires in
    let f = framed c.args.frame.window c.args.frame.good in
    (small_back f.c, small_back f.d, small_back n.y1, small_back n.y2)

pub returns : goal.returns
returns c =
    let s = c.args.segment in
    let w = c.args.frame.window in
    let n = c.requires in
    let f = framed w c.args.frame.good in
    let p = c.gap-across in
    let q = c.gap-along in
    let x : le_z p.result (pos 0) ≡ overlaps w.a w.b s.x1 s.x2 = rw (clean f.a, clean f.b, clean n.x1, clean n.x2) at p.ensures in
    let y : le_z q.result (pos 0) ≡ overlaps w.c w.d s.y1 s.y2 = rw (clean f.c, clean f.d, clean n.y1, clean n.y2) at q.ensures in
    both_gaps p.result q.result (record { sfits = p.type_inv }) (record { sfits = q.type_inv }) (record { sfits = c.max.type_inv }) c.max.ensures.value x y
