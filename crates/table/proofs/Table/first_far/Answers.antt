-- What the check leaves of `first_far`.
use Rattle.std.specs.Prelude.{None}
use Rattle.std.proofs.Common.{arith}
use Rattle.lists.specs.Choosing.{none_at}
use Rattle.paper.specs.Descriptor.{size_of}
use Rattle.paper.specs.Answers.{far_off}
use Rattle.table.specs.Segments.{first_answer, found_within}
use Rattle.table.proofs.Table.first_far.Goals as goal

pub returns-then-count-eq0-clause-answer : goal.returns-then-count-eq0-clause-answer
returns-then-count-eq0-clause-answer c = let t = c.args.self in first_answer t.descriptor t.cells.now 5 far_off None (λ p h. absurd (omega (arith, h)))

pub returns-then-all_near-clause-answer : goal.returns-then-all_near-clause-answer
returns-then-all_near-clause-answer c = let t = c.args.self in
    first_answer t.descriptor t.cells.now 5 far_off None (λ p h. none_at _ (size_of t.descriptor) p (c.all_near.ensures c.if-all_near.true) h)

pub returns-then-all_near-clause-found : goal.returns-then-all_near-clause-found
returns-then-all_near-clause-found c = λ p h. none_at _ (size_of c.args.self.descriptor) p (c.all_near.ensures c.if-all_near.true) h

pub returns-clause-answer : goal.returns-clause-answer
returns-clause-answer c = let t = c.args.self in first_answer t.descriptor t.cells.now 5 far_off _ (c.first_fault.ensures far_off (λ p l b e. e.1))

pub returns-clause-found : goal.returns-clause-found
returns-clause-found c = c.first_fault.ensures far_off (λ p l b e. e.1)

pub returns-clause-within : goal.returns-clause-within
returns-clause-within c = found_within _ _ _ (c.first_fault.ensures far_off (λ p l b e. e.1))
