-- What the check leaves of `any_outside`.
use Rattle.std.specs.Prelude.{◌-◌}
use Rattle.std.proofs.Common.{arith}
use Rattle.table.specs.Rows.{ends_decide}
use Rattle.table.proofs.Based.any_outside.Goals as goal

pub returns : goal.returns
returns c =
    let b = c.args.self in
    rw (c.outside.ensures, c.outside-2.ensures, c.outside-3.ensures) (ends_decide b.len b.descriptor c.args.n (c.args.n - 1) (omega arith) b.based.base)
