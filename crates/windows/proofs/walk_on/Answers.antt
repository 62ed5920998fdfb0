-- What the check leaves of `walk_on`.
use Rattle.std.proofs.Common.{refl}
use Rattle.paper.specs.Walk.{word, size_in, walk_of}
use Rattle.windows.specs.Asking.{onward}
use Rattle.windows.proofs.walk_on.Goals as goal

pub returns-clause-onward : goal.returns-clause-onward
returns-clause-onward c =
    let ws = c.args.index.words.now in
    let o = c.walk in
    onward (size_in ws) (word ws 1) c.args.room.now c.args.taken c.min-start.result _ c.min-start.ensures refl (walk_of ws c.args.window) o.result o.new.numbers o.ensures.given
