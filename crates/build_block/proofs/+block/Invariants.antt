-- The part gets shorter.
use Rattle.std.specs.Prelude.{length}
use Rattle.build_block.proofs.+block.Given as goal

abbrev pub decreases-block : goal.decreases-block
decreases-block l = length l.part.now
