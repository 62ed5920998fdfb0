-- What the check leaves of `push_body`: what is still due after each call.
use Rattle.std.proofs.Common.{◌≡◌, [], ◌∷◌, ◌++◌, ℕ, ◌<◌, length, drop, sym, ap, ◌∙◌, arith}
use Rattle.paper.specs.Descriptor.{segment_of, segments_of}
use Rattle.paper.specs.Wkt.{opening, line_text, further_text, body_text}
use Rattle.wkt_write.specs.Spelling.{empty_bytes, body_some, empty_table}
use Rattle.wkt_write.specs.Todo.{due_start, due_room, due_step, due_all, due_last}
use Rattle.wkt_write.proofs.push_body.Goals as goal

above : {n : ℕ} → (n ≡ 0 → ⊥) → 0 < n
above h = omega arith

-- a table of none
pub push_all-requires : goal.push_all-requires
push_all-requires c =
    let none = ap body_text (empty_table c.args.table.descriptor c.args.table.cells.now (sym c.if-count-eq0.true ∙ c.count.ensures.0)) ∙ empty_bytes in
    omega (arith, c.requires, ap length none)

pub returns-then-count-eq0 : goal.returns-then-count-eq0
returns-then-count-eq0 c =
    let none = ap body_text (empty_table c.args.table.descriptor c.args.table.cells.now (sym c.if-count-eq0.true ∙ c.count.ensures.0)) ∙ empty_bytes in
    rw none c.push_all.ensures

-- any other: its text, and what is still due of it after each call
pub push-requires : goal.push-requires
push-requires c =
    let t = c.args.table in
    let body = body_some t.descriptor t.cells.now c.count.ensures.0 (above c.if-count-eq0.false) in
    let room = rw body at c.requires in
    omega (arith, room)

pub push_line-requires : goal.push_line-requires
push_line-requires c =
    let t = c.args.table in
    let line = line_text (segment_of t.descriptor t.cells.now 0) in
    let further = further_text (drop 1 (segments_of t.descriptor t.cells.now)) in
    let body = body_some t.descriptor t.cells.now c.count.ensures.0 (above c.if-count-eq0.false) in
    let begun = due_start (opening ∷ (line ++ further)) (rw body at c.requires) in
    rw c.segment.ensures (due_room line further (due_step (opening ∷ []) (line ++ further) begun c.push.ensures))

pub push_further-requires : goal.push_further-requires
push_further-requires c =
    let t = c.args.table in
    let line = line_text (segment_of t.descriptor t.cells.now 0) in
    let further = further_text (drop 1 (segments_of t.descriptor t.cells.now)) in
    let body = body_some t.descriptor t.cells.now c.count.ensures.0 (above c.if-count-eq0.false) in
    let begun = due_start (opening ∷ (line ++ further)) (rw body at c.requires) in
    let opened = due_step (opening ∷ []) (line ++ further) begun c.push.ensures in
    (omega (arith, c.count.ensures.0, above c.if-count-eq0.false), due_all (due_step line further opened (rw c.segment.ensures at c.push_line.ensures)))

pub returns : goal.returns
returns c =
    let t = c.args.table in
    let line = line_text (segment_of t.descriptor t.cells.now 0) in
    let further = further_text (drop 1 (segments_of t.descriptor t.cells.now)) in
    let body = body_some t.descriptor t.cells.now c.count.ensures.0 (above c.if-count-eq0.false) in
    let begun = due_start (opening ∷ (line ++ further)) (rw body at c.requires) in
    let opened = due_step (opening ∷ []) (line ++ further) begun c.push.ensures in
    let first = due_step line further opened (rw c.segment.ensures at c.push_line.ensures) in
    rw body (due_last first c.push_further.ensures)
