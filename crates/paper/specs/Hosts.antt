-- Document 01, "Answer numbers", last paragraph: C hosts get plain numbers, a refusal as its negative.
use Rattle.std.specs.Prelude.{◌≡◌, Bool, cond, ℤ, pos, neg_ℤ}
use Rattle.lists.specs.Plain.{to_nat}
use Rattle.paper.specs.Descriptor.{cell_of}
use Rattle.paper.specs.Answers.{Answer, judged}
use Rattle.paper.specs.Words.{W}
use Rattle.paper.specs.Orders.{cell_order, words_order, meet_order}
use Rattle.paper.specs.Results.{Decides}
use Rattle.paper.specs.declared.Descriptor.{Descriptor}
use Rattle.paper.specs.declared.Segment.{Segment}
use Rattle.paper.specs.declared.Window.{Window}

abbrev pub refused_to_c : Answer → ℤ
refused_to_c x = neg_ℤ (pos x.number)

-- the part of a descriptor that addresses cells; kind and lower bound are not judged
abbrev pub addressing : (base n segment coordinate : ℤ) → Descriptor
addressing base n segment coordinate = record { kind = pos 1; base = base; lower = pos 0; extent = n; segment_stride = segment; coordinate_stride = coordinate }

-- the cell of position i and coordinate j; takes table length, base, n, strides
unfoldable pub host_cell : (len base n segment coordinate i j : ℤ) → ℤ
host_cell len base n segment coordinate i j =
    let d = addressing base n segment coordinate in
    judged (cell_order len d i j) refused_to_c (cell_of d (to_nat i) (to_nat j))

-- W(n)
unfoldable pub host_words : ℤ → ℤ
host_words n = judged (words_order n) refused_to_c (pos (W (to_nat n)))

-- whether one segment meets one window, 1 or 0, by a test of meeting
unfoldable pub host_meet : (Segment → Bool) → Segment → Window → ℤ
host_meet meets s w = judged (meet_order s w) refused_to_c (cond (meets s) (pos 1) (pos 0))

pub record HostMeet (s : Segment) (w : Window) (r : ℤ) : Type 0 where
  pub meets : Segment → Bool
  pub decides : Decides w meets
  pub result : r ≡ host_meet meets s w
