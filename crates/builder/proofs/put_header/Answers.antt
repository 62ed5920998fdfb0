-- What the check leaves of `put_header`.
use Rattle.std.proofs.Common.{w32}
use Rattle.std.proofs.lemmas.Int.{to_z-of_z}
use Rattle.whole.specs.Whole.{kept}
use Rattle.lists.specs.Parts.{put}
use Rattle.builder.proofs.put_header.Goals as goal

pub returns : goal.returns
unfolding put
returns c =
    let a = c.args in
    rw (
      c.copy_from_slice.ensures.after,
      kept w32 c.as_word.result c.as_word.type_inv,
      c.as_word.ensures,
      to_z-of_z w32 a.first c.ranges.first,
      kept w32 c.as_word-2.result c.as_word-2.type_inv,
      c.as_word-2.ensures,
      kept w32 c.as_word-3.result c.as_word-3.type_inv,
      c.as_word-3.ensures,
    )
