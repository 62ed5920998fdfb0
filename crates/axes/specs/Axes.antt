-- What the names of `axes` stand for: a coordinate of a record, and the axis and the end of `paper`'s Words.
-- Use: a contract says `axis_of a` and `end_of e` where `paper` speaks of an axis and an end; `near_is`, `far_is`, `level_is` take a word to what `paper` reads.
use Rattle.std.specs.Prelude.{◌≡◌, refl, ℕ, ℤ}
use Rattle.paper.specs.Words as words
use Rattle.paper.specs.declared.Segment.{Segment}
use Rattle.axes.specs.declared.Word.{Word}
use Rattle.axes.specs.declared.Word.TheVariants.{X1, Y1, X2, Y2}
use Rattle.axes.specs.declared.Axis.{Axis}
use Rattle.axes.specs.declared.Axis.TheVariants.{Horizontal, Vertical}
use Rattle.axes.specs.declared.End.{End}
use Rattle.axes.specs.declared.End.TheVariants.{Low, High}

-- ---- a word of a record: its place, and the coordinate that it is

abbrev pub place_of : Word → ℕ
place_of X1 = 0
place_of Y1 = 1
place_of X2 = 2
place_of Y2 = 3

abbrev pub coordinate_of : Word → Segment → ℤ
coordinate_of X1 s = s.x1
coordinate_of Y1 s = s.y1
coordinate_of X2 s = s.x2
coordinate_of Y2 s = s.y2

-- ---- the words of an axis

abbrev pub near_of : Axis → Word
near_of Horizontal = X1
near_of Vertical = Y1

abbrev pub far_of : Axis → Word
far_of Horizontal = X2
far_of Vertical = Y2

abbrev pub level_of : Axis → Word
level_of Horizontal = Y1
level_of Vertical = X1

abbrev pub end_word : Axis → End → Word
end_word a Low = near_of a
end_word a High = far_of a

-- ---- as `paper` speaks of them

abbrev pub axis_of : Axis → words.Axis
axis_of Horizontal = words.horizontal
axis_of Vertical = words.vertical

abbrev pub end_of : End → words.End
end_of Low = words.End.low
end_of High = words.End.high

module _ (s : Segment) where
  pub near_is : (a : Axis) → coordinate_of (near_of a) s ≡ (axis_of a).near s
  near_is Horizontal = refl
  near_is Vertical = refl

  pub far_is : (a : Axis) → coordinate_of (far_of a) s ≡ (axis_of a).far s
  far_is Horizontal = refl
  far_is Vertical = refl

  pub level_is : (a : Axis) → coordinate_of (level_of a) s ≡ (axis_of a).level s
  level_is Horizontal = refl
  level_is Vertical = refl
