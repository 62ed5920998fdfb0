-- What the check leaves of `push`.
use Rattle.std.proofs.Common.{refl, arith}
use Rattle.lists.specs.Parts.{put_one}
use Rattle.texts.proofs.Output.push.Goals as goal

pub returns : goal.returns
returns c =
    let o = c.args.self.now in
    record { fits = c.requires; ends = refl; wrote = put_one o.len c.args.byte o.bytes.now (omega arith); lent = refl }
