-- The loop of `push_tabbed`: the numbers so far stand in the output, each after a tab.
use Rattle.std.proofs.Common.{◌+◌, ◌*◌, ◌≤◌, take}
use Rattle.texts.specs.Printed.{fields_text}
use Rattle.texts.specs.Written.{Wrote}
use Rattle.texts.proofs.Output.push_tabbed.Given as goal

abbrev pub invariant-loop-number : goal.invariant-loop-number
invariant-loop-number l = record { most : l.self.len ≤ l.initial.self.len + 21 * l.number-index; fields : Wrote (fields_text (take l.number-index l.number-items)) l.initial.self l.self }
