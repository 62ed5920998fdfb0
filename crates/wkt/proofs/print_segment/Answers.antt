-- What the check leaves of `print_segment`.
use Rattle.std.proofs.Common.{arith}
use Rattle.texts.specs.Written.{wrote_length, wrote_within}
use Rattle.wkt.proofs.print_segment.Goals as goal

pub push_tabbed-requires : goal.push_tabbed-requires
push_tabbed-requires c = omega (arith, wrote_length c.push.ensures)

pub print_text-requires : goal.print_text-requires
print_text-requires c = omega (arith, wrote_within c.push_tabbed.ensures)
