-- What the check leaves of `finish`.
use Rattle.std.proofs.Common.{subst, arith, length-take-le}
use Rattle.lines.specs.Reading.{Judged, finished_none, finished_line, ended_owes, empty_owes}
use Rattle.lines.proofs.Reader.finish.Goals as goal

pub returns-in_default-clause-finished : goal.returns-in_default-clause-finished
returns-in_default-clause-finished c =
    let a = c.args in
    finished_none a.self a.desk.now a.out.now (ended_owes a.self a.desk.now c.in_default.is) (omega (arith, c.requires.1))

pub returns-then-n-eq0-clause-finished : goal.returns-then-n-eq0-clause-finished
returns-then-n-eq0-clause-finished c =
    let a = c.args in
    finished_none a.self a.desk.now a.out.now (empty_owes a.self c.in-Some.state a.desk.now c.in-Some.is c.if-n-eq0.true) (omega (arith, c.requires.1))

pub returns-clause-finished : goal.returns-clause-finished
returns-clause-finished c =
    let a = c.args in
    let d = a.desk.now in
    let j = c.judge in
    let l = d.lengths.carries in
    finished_line a.self c.in-Some.state d c.in-Some.is c.requires.0
    (omega (arith, c.if-n-eq0.false, length-take-le a.self.carried d.carry.now (omega (arith, c.requires.0.short))))
    (subst (λ l. Judged l c.in-Some.state a.self 0 d.cells.now a.out.now j.result j.new.desk.cells.now j.new.desk.index.now j.new.out) c.line_of-line.ensures j.ensures.judged)
