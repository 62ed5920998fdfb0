-- What the check leaves of `push_count`.
use Rattle.std.proofs.Common.{arith}
use Rattle.texts.specs.Written.{wrote_length, wrote_join}
use Rattle.texts.proofs.Output.push_count.Goals as goal

pub push_digits-requires : goal.push_digits-requires
push_digits-requires c = omega (arith, wrote_length c.push.ensures)

pub returns : goal.returns
returns c = wrote_join c.push.ensures c.push_digits.ensures
