-- What the check leaves of `any_fault`.
use Rattle.std.specs.Prelude.{◌≡◌, ◌||◌, ℕ}
use Rattle.std.proofs.Common.{sym, ap, ap₂, ◌∙◌, arith}
use Rattle.lists.specs.Plain.{any, positions}
use Rattle.lists.specs.Choosing.{any_zero, any_next}
use Rattle.paper.specs.Descriptor.{size_of, segment_of}
use Rattle.table.proofs.Table.any_fault.Goals as goal

pub loop-i-init : goal.loop-i-init
loop-i-init g c = λ q h. sym (any_zero _)

pub loop-i-preserved : goal.loop-i-preserved
loop-i-preserved g c = λ q h.
    let t = c.args.self in
    let s : c.fault-bad.result ≡ q (segment_of t.descriptor t.cells.now c.loop-i.i) = h c.loop-i.i (omega arith) _ (rw c.segment.ensures at c.fault-bad.ensures) in
    ap₂ (λ x y. x || y) (c.loop-i.invariant q h) s ∙ sym (any_next (λ p. q (segment_of t.descriptor t.cells.now p)) c.loop-i.i)

pub returns : goal.returns
returns g c = λ q h.
    let t = c.args.self in
    let e : c.loop-i.i ≡ size_of t.descriptor = omega arith in
    c.loop-i.invariant q h ∙ ap (λ (n : ℕ). any (λ p. q (segment_of t.descriptor t.cells.now p)) (positions n)) e
