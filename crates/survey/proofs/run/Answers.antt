-- What the check leaves of `run`: the reader before the input is sound.
use Rattle.std.proofs.Common.{sym, subst}
use Rattle.lines.specs.Reading.{Sound, start_sound}
use Rattle.survey.proofs.run.Goals as goal

pub loop-init : goal.loop-init
loop-init c = record { sound = subst (λ x. Sound x c.args.desk.now) (sym c.start-reader.ensures) start_sound; empty = c.requires }
