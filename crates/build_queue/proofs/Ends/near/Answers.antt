-- What the check leaves of `near`.
use Rattle.std.proofs.Common.{◌∙◌, w32}
use Rattle.std.proofs.lemmas.Int.{to_z-of_z}
use Rattle.whole.specs.Whole.{kept}
use Rattle.build_queue.specs.Ends.{near_word}
use Rattle.build_queue.proofs.Ends.near.Goals as goal

pub returns : goal.returns
returns c =
    let a = c.args in
    kept w32 _ c.word.type_inv ∙ (rw (to_z-of_z w32 a.p c.ranges.p, c.near.ensures) at c.word.ensures) ∙ near_word a.self a.p
