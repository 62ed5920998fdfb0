-- Request E3: computed examples of writing, one statement; a row that does not hold makes this crate fail. Strings stand for bytes and for cells.
-- Examples of reading are in crate wkt_table, above the automaton that decides what is accepted.
use Rattle.std.specs.Prelude.{◌≡◌, refl}
use Prim.Native.String.{String}
use Rattle.lists.specs.Plain.{filter, positions, any, joined}
use Rattle.paper.specs.Descriptor.{segments_of, addressed}
use Rattle.paper.specs.Lines.{parts, value_from, decimal_to, bytes}
use Rattle.paper.specs.Rows.{cells, descriptor, reply}
use Rattle.paper.specs.Wkt.{further_text, written}

-- a table, its descriptor, and a lent text: the reply, and the text afterwards
abbrev Writes : String → String → String → String → String → Type 0
Writes table d text r after = written (cells table) (descriptor d) (bytes text) ≡ (reply r, bytes after)

pub writings :
    Writes "0 2 6 2 4 0 4 5" "2 0 1 2 4 1" "........................................." "0 40 0 0" "MULTILINESTRING ((0 2, 6 2), (4 0, 4 5))."
    × Writes "5" "3 9 0 0 1 1" "......................" "0 21 0 0" "MULTILINESTRING EMPTY."
    -- a negative stride, a stride of 0, and a minus
    × Writes "4 0 4 -5" "1 3 0 1 0 -1" ".............................." "0 29 0 0" "MULTILINESTRING ((-5 4, 0 4))."
    × Writes "8" "1 0 0 2 0 0" "........................................." "0 40 0 0" "MULTILINESTRING ((8 8, 8 8), (8 8, 8 8))."
    -- the refusals, each with all later faults; 12 returns position and coordinate
    × Writes "" "4 0 1000001 4097 1048577 1" "..." "1 0 0 0" "..."
    × Writes "" "3 0 1 4097 1048577 1" "..." "2 0 0 0" "..."
    × Writes "" "1 0 0 4097 1048577 1" "..." "3 0 0 0" "..."
    × Writes "536870913" "1 0 0 1 1048577 1" "..." "4 0 0 0" "..."
    × Writes "536870913 0 0 0 0" "1 0 0 2 3 1" "..." "12 2 0 1" "..."
    × Writes "1 2 3 4 1 2 3 536870913" "1 0 0 2 4 1" "..." "5 0 0 1" "..."
    -- 7: one byte short
    × Writes "0 2 6 2 4 0 4 5" "2 0 1 2 4 1" "......................................." "7 0 0 0" "......................................."
    × Writes "" "1 0 0 0 1 1" "...................." "7 0 0 0" "...................."
unfolding written bytes parts value_from decimal_to segments_of addressed further_text positions filter any joined
writings = (refl, refl, refl, refl, refl, refl, refl, refl, refl, refl, refl, refl)
