-- The loop of `separate`: what is still due, put at its two places, is the whole.
use Rattle.build_block.specs.Separating.{goes_left, Going}
use Rattle.build_block.proofs.separate.Given as goal

abbrev pub invariant-loop-i : goal.invariant-loop-i
invariant-loop-i l = Going (goes_left l.ends l.centre) l.initial.part l.cut l.part l.stay l.left l.i
