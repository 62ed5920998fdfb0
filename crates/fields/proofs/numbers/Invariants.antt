-- The loop of `numbers`: those read so far, and those from the place on, are the numbers of the line.
use Rattle.std.proofs.Common.{◌≡◌, length, take}
use Rattle.fields.specs.Forms.{numbers_from, after}
use Rattle.fields.proofs.numbers.Given as goal

abbrev pub invariant-loop-number : goal.invariant-loop-number
invariant-loop-number g l = record { long : length l.number-items ≡ l.number-index-end; read : numbers_from l.f 2 ≡ after (take l.number-index l.number-items) (numbers_from l.f l.at) }
