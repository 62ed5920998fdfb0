-- What the check leaves of `prepare`.
use Rattle.std.specs.Prelude.{◌/◌, length}
use Rattle.std.proofs.Common.{sym, ap, ◌∙◌, arith}
use Rattle.build_queue.specs.Runs.{named}
use Rattle.build_block.specs.Fronts.{front, front_length}
use Rattle.build_block.specs.Joining.{prepared}
use Rattle.build_block.proofs.prepare.Goals as goal

pub spread-requires : goal.spread-requires
spread-requires c =
    let p = c.requires in
    let d = c.divide-division in
    let e = d.ensures in
    let long = d.auto.part in
    (e.some, e.least, omega (arith, e.most, front_length c.args.part.now, long), omega (arith, p.1, long), omega (arith, p.2, long))

pub returns-clause-counts : goal.returns-clause-counts
returns-clause-counts c = let e = c.divide-division.ensures in (e.some, e.least, omega (arith, e.most, front_length c.args.part.now))

pub returns-clause-ready : goal.returns-clause-ready
returns-clause-ready c =
    let a = c.args in
    let d = c.divide-division in
    prepared a.ends (named (front a.part.now)) d.new.part c.spread.new.part (length d.new.part / 8) d.result (front_length a.part.now ∙ ap (λ n. n / 8) (sym d.auto.part)) d.ensures c.spread.ensures
