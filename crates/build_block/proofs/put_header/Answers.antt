-- What the check leaves of `put_header`.
use mir.Syntax.{w32}
use mir.ValLaws.{to_z-of_z}
use Rattle.whole.specs.Whole.{kept}
use Rattle.build_block.specs.Blocks.{four_words}
use Rattle.build_block.proofs.put_header.Goals as goal

pub returns : goal.returns
returns c =
    let s = c in
    let a = s.args in
    let w₁ = c.as_word in
    let w₂ = c.as_word-2 in
    let w₃ = c.as_word-3 in
    rw (
      to_z-of_z w32 a.centre s.ranges.centre,
      kept w32 w₁.result w₁.type_inv,
      w₁.ensures,
      kept w32 w₂.result w₂.type_inv,
      w₂.ensures,
      kept w32 w₃.result w₃.type_inv,
      w₃.ensures,
    )
    (four_words a.part.now _ _ _ _ s.requires.0)
