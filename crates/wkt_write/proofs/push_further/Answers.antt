-- What the check leaves of `push_further`: what is still due after each call.
use Rattle.std.proofs.Common.{[], ◌∷◌, ◌++◌, ◌+◌, drop}
use Rattle.paper.specs.Descriptor.{segment_of, segments_of}
use Rattle.paper.specs.Wkt.{space, comma, line_text, further_text}
use Rattle.wkt_write.specs.Spelling.{further_next, further_end}
use Rattle.wkt_write.specs.Todo.{due_start, due_room, due_step, due_all, due_last}
use Rattle.wkt_write.proofs.push_further.Goals as goal

pub loop-i-init : goal.loop-i-init
loop-i-init c = due_start (further_text (drop 1 (segments_of c.args.table.descriptor c.args.table.cells.now))) c.requires.1

pub push_all-requires : goal.push_all-requires
push_all-requires c =
    let t = c.args.table in
    let l = c.loop-i in
    let line = line_text (segment_of t.descriptor t.cells.now l.i) in
    let rest = further_text (drop (l.i + 1) (segments_of t.descriptor t.cells.now)) in
    let due = rw (further_next t.descriptor t.cells.now l.i c.count-i-end.ensures.0 c.loop-i-test.true) at l.invariant in
    due_room (comma ∷ space ∷ []) (line ++ rest) due

pub push_line-requires : goal.push_line-requires
push_line-requires c =
    let t = c.args.table in
    let l = c.loop-i in
    let line = line_text (segment_of t.descriptor t.cells.now l.i) in
    let rest = further_text (drop (l.i + 1) (segments_of t.descriptor t.cells.now)) in
    let due = rw (further_next t.descriptor t.cells.now l.i c.count-i-end.ensures.0 c.loop-i-test.true) at l.invariant in
    rw c.segment.ensures (due_room line rest (due_step (comma ∷ space ∷ []) (line ++ rest) due c.push_all.ensures))

pub loop-i-preserved : goal.loop-i-preserved
loop-i-preserved c =
    let t = c.args.table in
    let l = c.loop-i in
    let line = line_text (segment_of t.descriptor t.cells.now l.i) in
    let rest = further_text (drop (l.i + 1) (segments_of t.descriptor t.cells.now)) in
    let due = rw (further_next t.descriptor t.cells.now l.i c.count-i-end.ensures.0 c.loop-i-test.true) at l.invariant in
    due_step line rest (due_step (comma ∷ space ∷ []) (line ++ rest) due c.push_all.ensures) (rw c.segment.ensures at c.push_line.ensures)

pub push-requires : goal.push-requires
push-requires c =
    let t = c.args.table in
    let due = rw (further_end t.descriptor t.cells.now c.loop-i.i c.count-i-end.ensures.0 c.loop-i-test.false) at c.loop-i.invariant in
    due_all due

pub returns : goal.returns
returns c =
    let t = c.args.table in
    let due = rw (further_end t.descriptor t.cells.now c.loop-i.i c.count-i-end.ensures.0 c.loop-i-test.false) at c.loop-i.invariant in
    due_last due c.push.ensures
