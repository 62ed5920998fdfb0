-- What the check leaves of `push_fault`.
use Rattle.std.proofs.Common.{arith}
use Rattle.texts.specs.Digits.{count_le}
use Rattle.texts.specs.Written.{wrote_length}
use Rattle.texts.specs.Printed.{wrote_fault}
use Rattle.texts.proofs.Output.push_fault.Goals as goal

pub push_count-requires : goal.push_count-requires
push_count-requires c = omega (arith, wrote_length c.push.ensures, count_le 19 c.args.number (omega arith), count_le 19 c.args.line (omega arith))

pub push_count-requires-2 : goal.push_count-requires-2
push_count-requires-2 c =
    omega (arith, wrote_length c.push.ensures, wrote_length c.push_count.ensures, count_le 19 c.args.number (omega arith), count_le 19 c.args.line (omega arith))

pub push-requires-2 : goal.push-requires-2
push-requires-2 c =
    omega (arith, wrote_length c.push.ensures, wrote_length c.push_count.ensures, wrote_length c.push_count-2.ensures, count_le 19 c.args.number (omega arith), count_le 19 c.args.line (omega arith))

pub returns : goal.returns
returns c = wrote_fault c.args.number c.args.line c.push.ensures c.push_count.ensures c.push_count-2.ensures c.push-2.ensures
