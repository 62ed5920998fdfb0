-- What the check leaves of `feed`.
use Rattle.lines.specs.States.{same_desk, same_join}
use Rattle.lines.specs.Reading.{turned_none, turned_more}
use Rattle.lines.proofs.Reader.feed.Goals as goal

pub loop-state-init : goal.loop-state-init
loop-state-init c = record { turned = turned_none c.requires.1 c.requires.0; lent = same_desk c.args.desk.now }

pub loop-state-preserved : goal.loop-state-preserved
loop-state-preserved c = record {
  turned = turned_more c.loop-state.invariant.turned c.cut-reader.ensures.turned;
  lent = same_join c.loop-state.invariant.lent c.cut-reader.ensures.lent;
}
