-- What the check leaves of `added`.
use Rattle.std.proofs.Common.{sym, ◌∙◌, rules}
use Rattle.std.proofs.lemmas.Int.{to_z-of_z}
use mir.Syntax.{w64}
use Rattle.lines.specs.Filling.{S_many, S_far, S_slanted, S_good}
use Rattle.lines.proofs.Table.added.Goals as goal

pub returns-then-full : goal.returns-then-full
returns-then-full c = S_many c.args.self c.args.s c.args.cells.now c.if-full.true

pub returns-then-far_off : goal.returns-then-far_off
returns-then-far_off c = S_far c.args.self c.args.s c.args.cells.now c.if-full.false (sym c.far_off.ensures ∙ c.if-far_off.true)

pub returns-then-slanted : goal.returns-then-slanted
returns-then-slanted c =
    S_slanted c.args.self c.args.s c.args.cells.now c.if-full.false (sym c.far_off.ensures ∙ c.if-far_off.false) (sym c.slanted.ensures ∙ c.if-slanted.true)

pub returns : goal.returns
returns c =
    let a = c.args in
    let k = to_z-of_z w64 a.self.kind (search rules) in
    let l = to_z-of_z w64 a.self.lower (search rules) in
    rw (k, l, c.put_segment.ensures)
    (S_good a.self a.s a.cells.now c.if-full.false c.requires.0 c.requires.1 (sym c.far_off.ensures ∙ c.if-far_off.false) (sym c.slanted.ensures ∙ c.if-slanted.false))
