-- What the check leaves of `push_all`.
use Rattle.std.proofs.Common.{refl}
use Rattle.texts.specs.Written.{wrote_part}
use Rattle.texts.proofs.Output.push_all.Goals as goal

pub returns : goal.returns
returns c =
    let o = c.args.self.now in
    record { fits = c.requires; ends = refl; wrote = wrote_part o.len o.bytes.now c.copy_from_slice.ensures.after; lent = refl }
