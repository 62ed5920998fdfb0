-- What the check leaves of `meets`.
use Rattle.std.proofs.Common.{sym, ◌∙◌}
use Rattle.meeting.specs.Bounds.{near, framed, small_points}
use Rattle.meeting.specs.Sides.{met_by, not_met}
use Rattle.meeting.proofs.meets.Goals as goal

pub both_sides-requires : goal.both_sides-requires
both_sides-requires c =
    let w = framed c.args.frame.window c.args.frame.good in
    (near c.args.segment c.requires, rw c.corners.ensures (small_points (w.a, w.c, w.b, w.c, w.a, w.d, w.b, w.d)))

pub returns-then-boxes_overlap : goal.returns-then-boxes_overlap
returns-then-boxes_overlap c =
    let w = c.args.frame.window in
    met_by c.args.segment w (framed w c.args.frame.good) (sym c.boxes_overlap.ensures ∙ c.if-boxes_overlap.true) (rw c.corners.ensures at c.both_sides.ensures)

pub returns-else-boxes_overlap : goal.returns-else-boxes_overlap
returns-else-boxes_overlap c = let w = c.args.frame.window in not_met c.args.segment w (framed w c.args.frame.good) c.boxes_overlap.ensures c.if-boxes_overlap.false
