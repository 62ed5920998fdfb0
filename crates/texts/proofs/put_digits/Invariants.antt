-- The loop of `put_digits`: the digits that are still due, and those that stand behind them, are the digits of n.
use Rattle.std.proofs.Common.{◌≡◌, ◌++◌, ◌≤◌, length, drop}
use Rattle.texts.specs.Digits.{digits_of, due}
use Rattle.texts.proofs.put_digits.Given as goal

abbrev pub invariant-loop-i : goal.invariant-loop-i
invariant-loop-i l = record { within : l.i ≤ length l.bytes; places : length (due l.i l.v) ≡ l.i; digits : due l.i l.v ++ drop l.i l.bytes ≡ digits_of l.n }
