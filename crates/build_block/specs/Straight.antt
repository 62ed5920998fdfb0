-- Of a table that may be read, near is no farther than far in every record, along either axis: the low end comes first, and a segment is straight.
-- Use: `tidy` for the table of an `Ends`; `level_tidy` and `upright_tidy` for the axes of `paper`'s Words. Assumes nothing.
use Rattle.std.proofs.Common.{ap₂, arith}
use Rattle.std.proofs.Math.Path.{subst}
use Rattle.std.specs.Prelude.{cond, List, ℕ, ◌≤◌, ◌<◌, ℤ, pos, get_or}
use Rattle.std.proofs.Math.Decide.{dec_lt}
use Rattle.std.proofs.Math.Dec.{T}
use Rattle.std.specs.Int.Signed.{le_z, lt_z}
use Rattle.lists.specs.Plain.{to_nat}
use Rattle.lists.specs.Tests.{by_test, holds, fails}
use Rattle.lists.specs.Orders.{lt_z_not, lt_z_up, ℤ_order}
use Rattle.paper.specs.Descriptor.{cell_of, size_of}
use Rattle.paper.specs.Words.{horizontal, vertical}
use Rattle.paper.specs.declared.Descriptor.{Descriptor}
use Rattle.axes.specs.Axes.{axis_of}
use Rattle.axes.specs.declared.Axis as axes
use Rattle.axes.specs.declared.Axis.TheVariants.{Horizontal, Vertical}
use Rattle.axes.specs.declared.Word.{Word}
use Rattle.axes.specs.declared.Word.TheVariants.{X1, Y1, X2, Y2}
use Rattle.records.specs.Records.{records_of, word_at, Readable}
use Rattle.records.specs.Reading.{word_is, record_none, straight_at}
use Rattle.build_queue.specs.Ends.{records_in, axis_in}
use Rattle.build_queue.specs.declared.Ends.{Ends}
use Rattle.build_block.specs.Sides.{Tidy}

-- the smaller and the greater of two
low_high : (a b : ℤ) → T (le_z (cond (lt_z b a) b a) (cond (lt_z b a) a b))
low_high a b =
    by_test (lt_z b a)
    (λ e. rw e (ℤ_order.total a b (subst T (lt_z_not b a) (holds e))))
    (λ e. rw e (subst T (lt_z_up a b) (fails e)))

module _ (table : List ℤ) (d : Descriptor) (readable : Readable table d) where
  beyond : (p : ℕ) (low high : Word) → size_of d ≤ p → T (le_z (word_at table d (pos p) low) (word_at table d (pos p) high))
  beyond p low high h = subst T (ap₂ le_z (record_none table d (pos p) low h) (record_none table d (pos p) high h)) tt

  abbrev cell : ℕ → ℕ → ℤ
  cell p j = get_or table (to_nat (cell_of d p j)) (pos 0)

  pub level_tidy : Tidy (records_of d table) horizontal
  unfolding word_at
  level_tidy p = go (dec_lt p (size_of d))
    where
      go : Dec (p < size_of d) → T (le_z (word_at table d (pos p) X1) (word_at table d (pos p) X2))
      go (yes h) = subst T (ap₂ le_z (word_is table d p X1 h (straight_at table d readable p h)) (word_is table d p X2 h (straight_at table d readable p h))) (low_high (cell p 0) (cell p 2))
      go (no h) = beyond p X1 X2 (omega arith)

  pub upright_tidy : Tidy (records_of d table) vertical
  unfolding word_at
  upright_tidy p = go (dec_lt p (size_of d))
    where
      go : Dec (p < size_of d) → T (le_z (word_at table d (pos p) Y1) (word_at table d (pos p) Y2))
      go (yes h) = subst T (ap₂ le_z (word_is table d p Y1 h (straight_at table d readable p h)) (word_is table d p Y2 h (straight_at table d readable p h))) (low_high (cell p 1) (cell p 3))
      go (no h) = beyond p Y1 Y2 (omega arith)

  tidy_along : (axis : axes.Axis) → Tidy (records_of d table) (axis_of axis)
  tidy_along Horizontal = level_tidy
  tidy_along Vertical = upright_tidy

pub tidy : (ends : Ends) → Tidy (records_in ends) (axis_in ends)
tidy ends = tidy_along ends.marks.cells.now ends.marks.descriptor ends.marks.readable ends.axis
