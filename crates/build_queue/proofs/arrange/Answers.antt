-- What the check leaves of `arrange`.
use Rattle.std.specs.Prelude.{pos, get_or}
use Rattle.std.proofs.Common.{rules, w32, SFits}
use Rattle.std.proofs.lemmas.Int.{to_z-of_z}
use Rattle.build_queue.specs.Arranging.{chained}
use Rattle.build_queue.proofs.arrange.Goals as goal

pub returns : goal.returns
returns c =
    let a = c.args in
    let f : SFits w32 (get_or a.part.now a.b (pos 0)) = search rules in
    chained a.part.now a.b a.left a.right c.requires.0 c.requires.1 c.requires.2 c.requires.3 _ _ _ _
    (to_z-of_z w32 _ f) c.copy_within.ensures.after c.copy_within-2.ensures.after c.copy_within-3.ensures.after
