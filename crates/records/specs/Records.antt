-- The records of a table as the builder reads them, and the order of positions by two words of their records. These are definitions.
-- A position travels as a word of the index (ℤ); a negative word stands for position 0, and a position beyond the table has a record of zeros.
use Rattle.std.specs.Prelude.{◌≡◌, Bool, false, List, map, ℤ, pos, length}
use Rattle.std.specs.Int.Signed.{lt_z}
use Rattle.lists.specs.Plain.{to_nat, by}
use Rattle.paper.specs.Descriptor.{segments_of, at}
use Rattle.paper.specs.Answers.{bad_slant}
use Rattle.paper.specs.Words.{low_first}
use Rattle.paper.specs.declared.Descriptor.{Descriptor}
use Rattle.paper.specs.declared.Segment.{Segment}
use Rattle.axes.specs.Axes.{coordinate_of}
use Rattle.axes.specs.declared.Word.{Word}
use Rattle.table.specs.Cells.{Held}

-- low end first, in table order
abbrev pub records_of : Descriptor → List ℤ → List Segment
records_of d table = map low_first (segments_of d table)

-- a word of the record of the position that z stands for
unfoldable pub word_at : List ℤ → Descriptor → ℤ → Word → ℤ
word_at table d z word = coordinate_of word (at (records_of d table) (to_nat z))

-- a table that refusals 3, 4, 12 and 6 pass
pub record Readable (table : List ℤ) (d : Descriptor) : Type 0 where
  pub held : Held (pos (length table)) d
  pub straight : (bad_slant (segments_of d table)).given ≡ false

-- ---- orders of positions
module _ (table : List ℤ) (d : Descriptor) (key level : Word) where
  abbrev pub key_word : ℤ → ℤ
  key_word z = word_at table d z key

  abbrev pub level_word : ℤ → ℤ
  level_word z = word_at table d z level

  -- by (level, position)
  unfoldable pub level_order : ℤ → ℤ → Bool
  level_order = by level_word lt_z

  -- by the key, then by (level, position)
  unfoldable pub key_order : ℤ → ℤ → Bool
  key_order = by key_word level_order
