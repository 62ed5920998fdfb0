-- What the check leaves of `push_digits`.
use Rattle.std.proofs.Common.{◌+◌, ◌-◌, refl, ap, ◌∙◌}
use borrow.Rule.Slice.PartMut.{put_mid}
use Rattle.texts.specs.Written.{wrote_part}
use Rattle.texts.proofs.Output.push_digits.Goals as goal

pub returns : goal.returns
returns c =
    let o = c.args.self.now in
    let e = c.width.ensures in
    record { fits = c.requires; ends = ap (λ k. o.len + k) e; wrote = ap (λ k. put_mid o.len ((o.len + k) - o.len) o.bytes.now c.put_digits.new.bytes) e ∙ wrote_part o.len o.bytes.now c.put_digits.ensures; lent = refl }
