-- What the check leaves of `in_room`.
use Rattle.std.proofs.Common.{replicate, pos}
use Rattle.paper.specs.Walk.{word, size_in, walk_of}
use Rattle.marks.specs.Querying.{walk_refused, room_refused, walk_done, spoilt, ended, due_in}
use Rattle.marks.proofs.listing.in_room.Goals as goal

-- where the walk was not spoiled, the room that it was walked into is what stands there first
pub returns-in_default-clause-given : goal.returns-in_default-clause-given
returns-in_default-clause-given g c =
    let a = c.args in
    let ws = a.index.words.now in
    walk_refused ws a.frame.window a.numbers.now a.index.sound a.frame.good
    (spoilt (size_in ws) (word ws 1) (replicate g.row.N (pos 0)) (walk_of ws a.frame.window) c.in_default.field-0 c.walk.new.numbers c.in_default.ensures.given)

pub returns-then-numbers-due-clause-given : goal.returns-then-numbers-due-clause-given
returns-then-numbers-due-clause-given g c =
    let a = c.args in
    let ws = a.index.words.now in
    let room = replicate g.row.N (pos 0) in
    let e = ended (size_in ws) (word ws 1) room (walk_of ws a.frame.window) c.in-Ok.tally c.walk.new.numbers c.in-Ok.ensures.given in
    room_refused ws a.frame.window a.numbers.now a.index.sound a.frame.good room c.in-Ok.tally c.walk.new.numbers e c.if-numbers-due.true

pub write-requires : goal.write-requires
write-requires g c =
    let a = c.args in
    let ws = a.index.words.now in
    let room = replicate g.row.N (pos 0) in
    let e = ended (size_in ws) (word ws 1) room (walk_of ws a.frame.window) c.in-Ok.tally c.walk.new.numbers c.in-Ok.ensures.given in
    (due_in ws a.frame.window a.numbers.now a.index.sound a.frame.good room c.in-Ok.tally c.walk.new.numbers e, c.if-numbers-due.false)

pub returns-clause-given : goal.returns-clause-given
returns-clause-given g c =
    let a = c.args in
    let ws = a.index.words.now in
    let room = replicate g.row.N (pos 0) in
    let e = ended (size_in ws) (word ws 1) room (walk_of ws a.frame.window) c.in-Ok.tally c.walk.new.numbers c.in-Ok.ensures.given in
    rw c.done.ensures (walk_done ws a.frame.window a.numbers.now a.index.sound a.frame.good room c.in-Ok.tally c.walk.new.numbers e c.write.new.numbers c.if-numbers-due.false c.write.ensures)
