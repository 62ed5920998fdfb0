-- The loop of `run`: the reader stays sound, and everything printed is written out.
use Rattle.lines.specs.Reading.{Sound}
use Rattle.survey.specs.Turns.{Empty}
use Rattle.survey.proofs.run.Given as goal

abbrev pub invariant-loop : goal.invariant-loop
invariant-loop l = record { sound : Sound l.reader l.desk; empty : Empty l.out }
