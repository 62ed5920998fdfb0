-- What the check leaves of `low_ends`.
use Rattle.std.proofs.Common.{arith}
use Rattle.walk.specs.Header.{sound_index, levels_few}
use Rattle.walk.specs.Whole.{none_yet, levels_there, low_ends_cut, low_ends_found}
use Rattle.walk.proofs.IndexWords.low_ends.Goals as goal

pub returns-in_err-found : goal.returns-in_err-found
returns-in_err-found c =
    let t = none_yet c.default.result c.default.ensures in
    let s = rw (c.index-index.ensures.words, c.index-index.ensures.n, t) at c.in_err-found.ensures in
    low_ends_cut _ _ _ s _ c.from_residual.ensures.0

pub walk-requires-clause-deep : goal.walk-requires-clause-deep
walk-requires-clause-deep c =
    let ws = c.args.self.words.now in
    rw (c.digits.ensures, c.levels_at.ensures, c.index-index.ensures.words, c.index-index.ensures.n)
    (levels_there ws c.args.window (sound_index ws c.args.self.sound) c.requires c.in_ok-found.found.p (omega (arith, c.in_ok-found.ensures.inside, c.index-index.ensures.n)))

pub walk-requires-clause-levels : goal.walk-requires-clause-levels
walk-requires-clause-levels c =
    let ws = c.args.self.words.now in
    rw (c.digits.ensures, c.index-index.ensures.n) (omega (arith, levels_few ws (sound_index ws c.args.self.sound)))

pub returns : goal.returns
returns c =
    let t = none_yet c.default.result c.default.ensures in
    let s = rw (c.index-index.ensures.words, c.index-index.ensures.n, t) at c.in_ok-found.ensures in
    let a = rw (c.digits.ensures, c.levels_at.ensures, c.index-index.ensures.words, c.index-index.ensures.n, c.index-index.ensures.lower) at c.walk.ensures in
    low_ends_found _ _ _ _ s _ _ a
