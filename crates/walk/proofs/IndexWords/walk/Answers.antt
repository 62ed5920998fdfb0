-- What the check leaves of `walk`.
use Rattle.std.proofs.Common.{arith}
use Rattle.walk.specs.Whole.{none_yet, none, given, given_cut}
use Rattle.walk.proofs.IndexWords.walk.Goals as goal

pub returns-then-count-eq0-clause-given : goal.returns-then-count-eq0-clause-given
returns-then-count-eq0-clause-given c =
    let t = none_yet c.default.result c.default.ensures in
    rw t (none c.args.self.words.now c.args.window c.args.numbers.now (omega (arith, c.if-count-eq0.true, c.count.ensures.value)))

pub returns-in_err-tally-clause-given : goal.returns-in_err-tally-clause-given
returns-in_err-tally-clause-given c =
    given_cut c.args.self.words.now c.args.window _ (omega (arith, c.if-count-eq0.false, c.count.ensures.value)) _ _ c.low_ends.ensures _ c.in_err-tally.was _ c.from_residual.ensures.0

pub returns-clause-given : goal.returns-clause-given
returns-clause-given c =
    given c.args.self.words.now c.args.window _ (omega (arith, c.if-count-eq0.false, c.count.ensures.value)) _ _ c.low_ends.ensures _ c.in_ok-tally.was _ _ c.crossings.ensures
