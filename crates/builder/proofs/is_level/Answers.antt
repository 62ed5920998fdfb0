-- What the check leaves of `is_level`.
use Rattle.std.specs.Prelude.{◌≡◌, nat_eq}
use Rattle.std.proofs.Common.{rules, ap₂, ◌∙◌, w32, of_z}
use Rattle.std.proofs.lemmas.Int.{to_z-of_z}
use Rattle.lists.specs.Plain.{same}
use Rattle.records.specs.Records.{word_at}
use Rattle.builder.proofs.is_level.Goals as goal

pub returns : goal.returns
unfolding word_at
returns c =
    let word = to_z-of_z w32 c.args.p c.ranges.p in
    let test : nat_eq (of_z w32 c.word.result) (of_z w32 c.word-2.result) ≡ same c.word.result c.word-2.result = search rules in
    test ∙ ap₂ same (rw word at c.word.ensures) (rw word at c.word-2.ensures)
