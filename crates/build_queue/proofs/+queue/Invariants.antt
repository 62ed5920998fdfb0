-- The part gets shorter.
use Rattle.std.specs.Prelude.{length}
use Rattle.build_queue.proofs.+queue.Given as goal

abbrev pub decreases-queue : goal.decreases-queue
decreases-queue l = length l.part.now
