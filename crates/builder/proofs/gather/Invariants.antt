-- The loop of `gather`.
use Rattle.builder.specs.Placing.{belongs}
use Rattle.builder.specs.Gathering.{Going}
use Rattle.builder.proofs.gather.Given as goal

abbrev pub invariant-loop-p : goal.invariant-loop-p
invariant-loop-p l = Going (belongs l.ends) l.run l.initial.words l.words l.count l.p-index
