-- Request E5: windows in one slice, four numbers each, in the order a b c d.
use Rattle.std.specs.Prelude.{Bool, List, map, ℕ, ◌+◌, ◌*◌, ◌/◌, ℤ, pos, length, get_or}
use Rattle.lists.specs.Plain.{filter, positions}
use Rattle.paper.specs.declared.Window.{Window}

-- how many whole windows a slice of edges holds
abbrev pub window_count : List ℤ → ℕ
window_count edges = length edges / 4

abbrev pub window_at : List ℤ → ℕ → Window
window_at edges i = record { a = get_or edges (4 * i) (pos 0); b = get_or edges (4 * i + 1) (pos 0); c = get_or edges (4 * i + 2) (pos 0); d = get_or edges (4 * i + 3) (pos 0) }

abbrev pub windows_of : List ℤ → List Window
windows_of edges = map (window_at edges) (positions (window_count edges))

-- where the windows stand that pass a test, counted from 0, ascending
abbrev pub windows_where : (Window → Bool) → List ℤ → List ℕ
windows_where q edges = filter (λ i. q (window_at edges i)) (positions (window_count edges))
