-- The lines that are left where a `let .. else` has asked for a T line, or for a W line.
use Rattle.std.proofs.Common.{◌≡◌, refl, ℤ}
use Rattle.paper.specs.Lines.{Line, table, segment, window, other}
use Rattle.paper.specs.declared.Segment.{Segment}
use Rattle.paper.specs.declared.Window.{Window}
use Rattle.fields.specs.declared.Line.{Line as Parsed}
use Rattle.fields.specs.declared.Line.TheVariants as parsed
use Rattle.fields.specs.Forms.{shown_line}

module _ (P : Line → Type 0) where
  pub no_table : (line : Parsed) → ((k l : ℤ) → line ≡ parsed.Table k l → ⊥) → ((s : Segment) → P (segment s)) → ((w : Window) → P (window w)) → P other → P (shown_line line)
  no_table (parsed.Table k l) h s w o = absurd (h k l refl)
  no_table (parsed.Segment x) h s w o = s x
  no_table (parsed.Window x) h s w o = w x
  no_table parsed.Other h s w o = o

  pub no_window : (line : Parsed) → ((w : Window) → line ≡ parsed.Window w → ⊥) → ((k l : ℤ) → P (table k l)) → ((s : Segment) → P (segment s)) → P other → P (shown_line line)
  no_window (parsed.Table k l) h t s o = t k l
  no_window (parsed.Segment x) h t s o = s x
  no_window (parsed.Window x) h t s o = absurd (h x refl)
  no_window parsed.Other h t s o = o

  -- where an S line has been taken out before
  pub no_segment_window : (line : Parsed) → ((s : Segment) → line ≡ parsed.Segment s → ⊥) → ((w : Window) → line ≡ parsed.Window w → ⊥) → ((k l : ℤ) → P (table k l)) → P other → P (shown_line line)
  no_segment_window (parsed.Table k l) n h t o = t k l
  no_segment_window (parsed.Segment x) n h t o = absurd (n x refl)
  no_segment_window (parsed.Window x) n h t o = absurd (h x refl)
  no_segment_window parsed.Other n h t o = o
