-- What the check leaves of `head`.
use Rattle.std.specs.Prelude.{◌≡◌, ◌+◌, ◌-◌, ◌/◌, length}
use Rattle.std.proofs.Common.{◌∙◌, arith, w32, to_z, of_z}
use Rattle.whole.specs.Whole.{kept}
use Rattle.lists.specs.Parts.{win}
use Rattle.axes.specs.Axes.{end_of}
use Rattle.build_queue.specs.Ends.{records_in, axis_in}
use Rattle.build_queue.specs.Parting.{headed}
use Rattle.build_queue.proofs.head.Goals as goal

pub returns : goal.returns
unfolding win
returns c =
    let a = c.args in
    let p = c.requires in
    let s = length a.part.now / 2 in
    let n : 2 + s / 2 - 2 ≡ s / 2 = omega arith in
    headed (records_in a.ends) (axis_in a.ends) (end_of a.end) a.part.now c.arrange.new.part s c.best-b.result
    (to_z w32 (of_z w32 c.split.result))
    p.0 p.1 (c.arrange.auto.part ∙ p.1) p.2
    c.best-b.ensures c.arrange.ensures
    (kept w32 _ c.split.type_inv ∙ (rw n at c.split.ensures))
