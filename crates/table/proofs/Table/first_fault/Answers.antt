-- What the check leaves of `first_fault`.
use Rattle.std.proofs.Common.{sym, ◌∙◌, arith, below_more}
use Rattle.lists.specs.Choosing.{none_at}
use Rattle.paper.specs.Descriptor.{size_of, segment_of}
use Rattle.table.proofs.Table.first_fault.Goals as goal

pub returns-then-not-any_fault : goal.returns-then-not-any_fault
returns-then-not-any_fault g c = λ q h p l.
    let t = c.args.self in
    none_at (λ p. q (segment_of t.descriptor t.cells.now p)) (size_of t.descriptor) p (sym (c.any_fault.ensures q h) ∙ c.if-not-any_fault.true) l

pub returns-then-fault : goal.returns-then-fault
returns-then-fault g c = λ q h.
    let t = c.args.self in
    (omega arith, c.loop-i.invariant q h, sym (h c.loop-i.i (omega arith) _ (rw c.segment.ensures at c.fault.ensures)) ∙ c.if-fault.true)

pub loop-i-preserved : goal.loop-i-preserved
loop-i-preserved g c = λ q h. below_more _ _ (c.loop-i.invariant q h) (sym (h c.loop-i.i (omega arith) _ (rw c.segment.ensures at c.fault.ensures)) ∙ c.if-fault.false)

pub returns : goal.returns
returns g c = λ q h p l. c.loop-i.invariant q h p (omega arith)
