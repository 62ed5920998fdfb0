-- What the check leaves of `list`.
use Rattle.std.specs.Prelude.{◌≡◌, true, false, length}
use Rattle.std.specs.Int.{w32}
use Rattle.std.proofs.Common.{refl, sym, ap, ◌∙◌, arith}
use Rattle.std.proofs.lemmas.Int.{to_z-of_z}
use Rattle.lists.specs.Filling.{filled}
use Rattle.paper.specs.Descriptor.{first_number}
use Rattle.paper.specs.Corners.{weighed}
use Rattle.paper.specs.Answers.{far_off}
use Rattle.paper.specs.Results.{numbers_of}
use Rattle.scan.specs.Listing.{chosen, all_chosen, length_chosen, count_more, cells_more, none_count, none_cells}
use Rattle.scan.proofs.list.Goals as goal
use Rattle.scan.proofs.list.Goals.{then-hit, else-hit}

pub loop-i-init : goal.loop-i-init
loop-i-init c =
    let t = c.args.table in
    let w = c.args.frame.window in
    (none_count t.cells.now t.descriptor w, none_cells t.cells.now t.descriptor w c.args.numbers.now)

pub meets-hit-requires : goal.meets-hit-requires
meets-hit-requires c = ap far_off c.segment.ensures ∙ c.requires.near c.loop-i.i (omega arith)

pub overflow_add-k : goal.overflow_add-k
overflow_add-k c =
    let t = c.args.table in
    let l = c.loop-i in
    omega (arith, l.invariant.0, length_chosen t.cells.now t.descriptor c.args.frame.window l.i, c.count-i-end.ensures.1)

pub loop-i-preserved : goal.loop-i-preserved
loop-i-preserved c =
    let t = c.args.table in
    let window = c.args.frame.window in
    let l = c.loop-i in
    let met = c.meets-hit.ensures.0 ∙ ap (weighed window) c.segment.ensures in
    elim c.if-hit.branch [
      | then-hit w ↦
          let hit = sym w.if-hit.true ∙ met in
          let z = to_z-of_z w32 w.number.result (record { sfits = w.number.type_inv }) ∙ w.number.ensures in (
            w.k-is ∙ count_more t.cells.now t.descriptor window l.i l.k true l.invariant.0 hit,
            w.numbers-is ∙ w.put.ensures ∙ cells_more t.cells.now t.descriptor window l.i l.k c.args.numbers.now true l.invariant.0 hit l.invariant.1 z,
          )
      | else-hit w ↦
          let hit = sym w.if-hit.false ∙ met in (
            w.k-is ∙ count_more t.cells.now t.descriptor window l.i l.k false l.invariant.0 hit,
            w.numbers-is ∙ cells_more t.cells.now t.descriptor window l.i l.k c.args.numbers.now false l.invariant.0 hit l.invariant.1 refl,
          )
    ]

pub returns : goal.returns
returns c =
    let t = c.args.table in
    let window = c.args.frame.window in
    let l = c.loop-i in
    let n = c.count-i-end in
    let e : l.i ≡ n.result = omega arith in
    let p = ap (chosen t.cells.now t.descriptor window) (e ∙ n.ensures.0) ∙ all_chosen t.cells.now t.descriptor window in (
      l.invariant.0 ∙ ap length p,
      omega (arith, l.invariant.0, length_chosen t.cells.now t.descriptor window l.i, n.ensures.0),
      l.invariant.1 ∙ ap (λ ps. filled (numbers_of (first_number t.descriptor.kind t.descriptor.lower) ps) c.args.numbers.now) p,
    )
