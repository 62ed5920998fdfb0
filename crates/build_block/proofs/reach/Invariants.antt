-- The loop of `reach`: up to the cut near is no farther than the centre.
use Rattle.build_queue.specs.Ends.{records_in, axis_in}
use Rattle.build_queue.specs.Runs.{named}
use Rattle.build_block.specs.Cutting.{Low}
use Rattle.build_block.proofs.reach.Given as goal

abbrev pub invariant-loop-cut : goal.invariant-loop-cut
invariant-loop-cut l = Low (records_in l.ends) (axis_in l.ends) l.centre (named l.run) l.cut
