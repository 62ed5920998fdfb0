-- What the check leaves of `turn`: the reader that has stopped is sound.
use Rattle.std.proofs.Common.{sym, subst}
use Rattle.lines.specs.Reading.{Sound, over_sound}
use Rattle.survey.proofs.turn.Goals as goal

pub returns : goal.returns
returns c = (subst (λ x. Sound x c.end.new.desk) (sym c.stopped.ensures) over_sound, c.in_ok-end.ensures)
