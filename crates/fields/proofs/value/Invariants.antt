-- The loop of `value`: what is read so far, and the bytes that are left, make the whole.
use Rattle.std.proofs.Common.{◌≡◌, ◌+◌, ◌*◌, ◌≤◌, drop}
use Rattle.paper.specs.Lines.{value_from}
use Rattle.fields.specs.Numbers.{pow10}
use Rattle.fields.proofs.value.Given as goal

abbrev pub invariant-loop-b : goal.invariant-loop-b
invariant-loop-b l = record { rest : value_from l.v (drop l.b-index l.digits) ≡ value_from 0 l.digits; small : l.v + 23 ≤ 23 * pow10 l.b-index }
