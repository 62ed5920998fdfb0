-- What the check leaves of `print_fault`.
use Rattle.std.proofs.Common.{arith}
use Rattle.texts.specs.Written.{wrote_within}
use Rattle.wkt.proofs.print_fault.Goals as goal

pub print_text-requires : goal.print_text-requires
print_text-requires c = omega (arith, wrote_within c.push_fault.ensures)
