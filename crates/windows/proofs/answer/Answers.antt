-- What the check leaves of `answer`.
use Rattle.std.proofs.Common.{sym, ◌∙◌, arith, pos}
use Rattle.std.proofs.Math.ListN.{length-replicate}
use Rattle.paper.specs.Windows.{window_count}
use Rattle.windows.specs.Outcome.{kept_for, few, none_asked, walk_refused, room_refused, all_done}
use Rattle.windows.proofs.answer.Goals as goal

pub returns-then-count-eq0-clause-given : goal.returns-then-count-eq0-clause-given
returns-then-count-eq0-clause-given c =
    let a = c.args in
    rw c.done.ensures
    (none_asked a.index.words.now a.windows.edges.now a.counts.now a.numbers.now a.index.sound c.requires.0 c.requires.1 (sym c.count.ensures.0 ∙ c.if-count-eq0.true))

pub returns-in-Err-clause-given : goal.returns-in-Err-clause-given
returns-in-Err-clause-given c =
    let a = c.args in
    walk_refused a.index.words.now a.windows.edges.now a.counts.now a.numbers.now a.index.sound c.requires.0 c.requires.1 c.in-Err.window c.in-Err.ensures

pub returns-then-numbers-due-clause-given : goal.returns-then-numbers-due-clause-given
returns-then-numbers-due-clause-given c =
    let a = c.args in
    room_refused a.index.words.now a.windows.edges.now a.counts.now a.numbers.now a.index.sound c.requires.0 c.requires.1 c.in-Ok.asked c.in-Ok.ensures c.if-numbers-due.true

pub returns-then-numbers-due-clause-carried : goal.returns-then-numbers-due-clause-carried
returns-then-numbers-due-clause-carried c =
    let e = few c.args.windows.edges.now (window_count c.args.windows.edges.now) c.in-Ok.asked c.in-Ok.ensures c.args.windows.few in
    (omega (arith, e.0), omega arith)

pub write-requires-clause-kept : goal.write-requires-clause-kept
write-requires-clause-kept c =
    let edges = c.args.windows.edges.now in
    kept_for edges (window_count edges) c.in-Ok.asked c.in-Ok.ensures (omega (arith, length-replicate 64 (pos 0), c.args.windows.few))

pub done-requires-2 : goal.done-requires-2
done-requires-2 c =
    let e = few c.args.windows.edges.now (window_count c.args.windows.edges.now) c.in-Ok.asked c.in-Ok.ensures c.args.windows.few in
    (omega (arith, e.0), omega (arith, e.1))

pub returns-clause-given : goal.returns-clause-given
returns-clause-given c =
    let a = c.args in
    rw c.done-2.ensures
    (all_done a.index.words.now a.windows.edges.now a.counts.now a.numbers.now a.index.sound c.requires.0 c.requires.1 c.in-Ok.asked c.in-Ok.ensures c.if-numbers-due.false
    c.write.ensures.counts_after c.write.ensures.numbers_after)
