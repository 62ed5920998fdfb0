-- What the check leaves of `push_field`.
use Rattle.std.proofs.Common.{arith}
use Rattle.std.proofs.lemmas.Int.{to_z-of_z}
use mir.Syntax.{w64}
use Rattle.texts.specs.Written.{wrote_length, wrote_join}
use Rattle.texts.proofs.Output.push_field.Goals as goal

pub push_number-requires : goal.push_number-requires
push_number-requires c = let e = to_z-of_z w64 c.args.z c.ranges.z in rw e (omega (arith, wrote_length c.push.ensures))

pub returns : goal.returns
returns c = let e = to_z-of_z w64 c.args.z c.ranges.z in wrote_join c.push.ensures (rw e at c.push_number.ensures)
