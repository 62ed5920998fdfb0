-- What the check leaves of `first_slanted`.
use Rattle.paper.specs.Answers.{slanted}
use Rattle.table.specs.Segments.{first_answer, found_within}
use Rattle.table.proofs.Table.first_slanted.Goals as goal

pub returns-clause-answer : goal.returns-clause-answer
returns-clause-answer c = let t = c.args.self in first_answer t.descriptor t.cells.now 6 slanted _ (c.first_fault.ensures slanted (λ p l b e. e.1))

pub returns-clause-found : goal.returns-clause-found
returns-clause-found c = c.first_fault.ensures slanted (λ p l b e. e.1)

pub returns-clause-within : goal.returns-clause-within
returns-clause-within c = found_within _ _ _ (c.first_fault.ensures slanted (λ p l b e. e.1))
