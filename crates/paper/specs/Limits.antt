-- Document 01, "Descriptor and numbers": the limits.
use Rattle.std.specs.Prelude.{Bool, ℕ, ℤ, pos, neg_ℤ}
use Rattle.lists.specs.Plain.{within}

-- n 0 to 4,096
abbrev pub most_segments : ℕ
most_segments = 4096

abbrev pub extent_fits : ℤ → Bool
extent_fits n = within (pos 0) (pos most_segments) n

abbrev pub lower_fits : ℤ → Bool
lower_fits l = within (neg_ℤ (pos 1000000)) (pos 1000000) l

abbrev pub stride_fits : ℤ → Bool
stride_fits s = within (neg_ℤ (pos 1048576)) (pos 1048576) s

-- coordinates and window edges
abbrev pub coordinate_fits : ℤ → Bool
coordinate_fits z = within (neg_ℤ (pos 536870912)) (pos 536870912) z

-- windows in one call (request E5)
abbrev pub most_windows : ℕ
most_windows = 64
