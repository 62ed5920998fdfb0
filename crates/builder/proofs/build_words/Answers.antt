-- What the check leaves of `build_words`.
use Rattle.std.specs.Prelude.{◌≡◌}
use Rattle.std.proofs.Common.{ap, ◌∙◌, w32, to_z, of_z}
use Rattle.std.specs.Int.{w64}
use Rattle.std.proofs.lemmas.Int.{to_z-of_z}
use Rattle.paper.specs.Descriptor.{first_number}
use Rattle.paper.specs.Words.{L}
use Rattle.builder.specs.Whole.{lent_on, counts, header_room, whole}
use Rattle.builder.proofs.build_words.Goals as goal

pub write_blocks-horizontals-requires : goal.write_blocks-horizontals-requires
write_blocks-horizontals-requires c =
    let a = c.args in
    let s = c.split_at_mut-before.result in
    let e = c.split_at_mut-before.ensures in
    lent_on a.marks c.count-n.result c.digits-deep.result a.index.now c.count-n.ensures (c.digits-deep.ensures ∙ ap L c.saturating_sub.ensures) c.requires.room
    c.write_records.new.s c.all_levels.new.s c.write_records.ensures c.all_levels.ensures s.0.now s.1.now e.front e.back

pub overflow_sub-n : goal.overflow_sub-n
overflow_sub-n c =
    let a = c.args in
    let s = c.split_at_mut-before.result in
    let e = c.split_at_mut-before.ensures in
    let b = c.write_blocks-horizontals in
    (counts a.marks c.count-n.result c.digits-deep.result a.index.now c.count-n.ensures (c.digits-deep.ensures ∙ ap L c.saturating_sub.ensures) c.requires.room
    c.write_records.new.s c.all_levels.new.s c.write_records.ensures c.all_levels.ensures s.0.now s.1.now e.front e.back
    b.result b.new.words b.ensures.value b.ensures.words_after).0

pub put_header-requires : goal.put_header-requires
put_header-requires c =
    let a = c.args in
    let s = c.split_at_mut-before.result in
    let e = c.split_at_mut-before.ensures in
    let b = c.write_blocks-horizontals in
    header_room a.marks c.count-n.result c.digits-deep.result a.index.now c.count-n.ensures (c.digits-deep.ensures ∙ ap L c.saturating_sub.ensures) c.requires.room
    c.write_records.new.s c.all_levels.new.s c.write_records.ensures c.all_levels.ensures s.0.now s.1.now e.front e.back
    b.result b.new.words b.ensures.value b.ensures.words_after

pub returns : goal.returns
returns c =
    let a = c.args in
    let s = c.split_at_mut-before.result in
    let e = c.split_at_mut-before.ensures in
    let b = c.write_blocks-horizontals in
    let number = first_number a.marks.descriptor.kind a.marks.descriptor.lower in
    let number_is : to_z w64 (of_z w64 c.first_number.result) ≡ number = to_z-of_z w64 c.first_number.result c.first_number.ensures.fits ∙ c.first_number.ensures.value in
    let first_is : to_z w32 (of_z w32 c.narrow-first.result) ≡ number = to_z-of_z w32 c.narrow-first.result c.narrow-first.ensures.fits ∙ c.narrow-first.ensures.value ∙ number_is in
    whole a.marks c.count-n.result c.digits-deep.result a.index.now c.count-n.ensures (c.digits-deep.ensures ∙ ap L c.saturating_sub.ensures) c.requires.room
    c.write_records.new.s c.all_levels.new.s c.write_records.ensures c.all_levels.ensures s.0.now s.1.now e.front e.back
    b.result b.new.words b.ensures.value b.ensures.words_after number c.put_header.new.index (rw first_is at c.put_header.ensures)
