-- What the check leaves of `level`.
use Rattle.std.proofs.Common.{◌∙◌, w32}
use Rattle.std.proofs.lemmas.Int.{to_z-of_z}
use Rattle.whole.specs.Whole.{kept}
use Rattle.build_queue.specs.Ends.{level_word}
use Rattle.build_queue.proofs.Ends.level.Goals as goal

pub returns : goal.returns
returns c =
    let a = c.args in
    kept w32 _ c.word.type_inv ∙ (rw (to_z-of_z w32 a.p c.ranges.p, c.level.ensures) at c.word.ensures) ∙ level_word a.self a.p
