-- What the check leaves of `far`.
use Rattle.std.proofs.Common.{◌∙◌, w32}
use Rattle.std.proofs.lemmas.Int.{to_z-of_z}
use Rattle.whole.specs.Whole.{kept}
use Rattle.build_queue.specs.Ends.{far_word}
use Rattle.build_queue.proofs.Ends.far.Goals as goal

pub returns : goal.returns
returns c =
    let a = c.args in
    kept w32 _ c.word.type_inv ∙ (rw (to_z-of_z w32 a.p c.ranges.p, c.far.ensures) at c.word.ensures) ∙ far_word a.self a.p
