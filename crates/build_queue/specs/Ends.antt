-- The records and the axis that an `Ends` stands for.
-- Use: contracts say `records_in ends` and `axis_in ends` where `paper`'s Words asks for records and an axis; `near_word`, `far_word` and `level_word` take a word that is read to what `paper` reads.
use Rattle.std.specs.Prelude.{◌≡◌, List, ℤ}
use Rattle.lists.specs.Plain.{to_nat}
use Rattle.paper.specs.declared.Segment.{Segment}
use Rattle.paper.specs.Words as words
use Rattle.axes.specs.Axes.{near_of, far_of, level_of, axis_of, near_is, far_is, level_is}
use Rattle.axes.specs.declared.Word.{Word}
use Rattle.records.specs.Records.{records_of, word_at}
use Rattle.build_queue.specs.declared.Ends.{Ends}

abbrev pub records_in : Ends → List Segment
records_in ends = records_of ends.marks.descriptor ends.marks.cells.now

abbrev pub axis_in : Ends → words.Axis
axis_in ends = axis_of ends.axis

module _ (ends : Ends) (z : ℤ) where
  -- a word of the record of the position that z stands for
  abbrev word : Word → ℤ
  word w = word_at ends.marks.cells.now ends.marks.descriptor z w

  pub near_word : word (near_of ends.axis) ≡ words.near_of (records_in ends) (axis_in ends) (to_nat z)
  unfolding word_at
  near_word = near_is _ ends.axis

  pub far_word : word (far_of ends.axis) ≡ words.far_of (records_in ends) (axis_in ends) (to_nat z)
  unfolding word_at
  far_word = far_is _ ends.axis

  pub level_word : word (level_of ends.axis) ≡ words.level_of (records_in ends) (axis_in ends) (to_nat z)
  unfolding word_at
  level_word = level_is _ ends.axis
