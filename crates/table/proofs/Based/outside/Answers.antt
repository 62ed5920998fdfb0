-- What the check leaves of `outside`.
use Rattle.std.specs.Prelude.{◌+◌, ◌≤◌, ◌+ℤ◌}
use Rattle.std.specs.Int.{w64}
use Rattle.std.proofs.Common.{rules, ap, ◌∙◌, SFits}
use Rattle.whole.specs.Whole.{P, N}
use Rattle.paper.specs.Descriptor.{outside}
use Rattle.table.specs.Address.{cell_is, offset_size, low_fits, test_is}
use Rattle.table.proofs.Based.outside.Goals as goal

pub overflow_sub-result : goal.overflow_sub-result
overflow_sub-result c =
    let b = c.args.self in
    let f : SFits w64 b.len = search rules in
    let size : P c.offset-away.result + N c.offset-away.result ≤ 4299161600 = rw c.offset-away.ensures (offset_size b.descriptor c.args.i c.args.j (c.requires.0, c.requires.1, b.based.strides)) in
    low_fits b.len b.descriptor.base c.offset-away.result f b.based.base size

pub returns : goal.returns
returns c =
    let b = c.args.self in
    let i = c.args.i in
    let j = c.args.j in
    let r = c.offset-away.result in
    let f : SFits w64 b.len = search rules in
    let size : P r + N r ≤ 4299161600 = rw c.offset-away.ensures (offset_size b.descriptor i j (c.requires.0, c.requires.1, b.based.strides)) in
    test_is b.len b.descriptor.base r f b.based.base size
    ∙ ap (λ o. outside b.len (b.descriptor.base +ℤ o)) c.offset-away.ensures
    ∙ ap (outside b.len) (cell_is b.descriptor i j)
