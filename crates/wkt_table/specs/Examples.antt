-- Request E3: examples of reading on both sides of each test, one statement; antt computes them. Strings stand for bytes and for cells.
-- Examples of writing are in `paper`'s WktExamples.
use Rattle.std.specs.Prelude.{List, [], ℕ, ℤ}
use Prim.Native.String.{String}
use Rattle.lists.specs.Plain.{filter, positions}
use Rattle.paper.specs.Rows.{cells, sevens, reply}
use Rattle.paper.specs.Lines.{parts, value_from, bytes}
use Rattle.paper.specs.Wkt.{Read, coordinates_of}
use Rattle.wkt_read.specs.Machine.{run}
use Rattle.wkt_read.specs.Decision.{grouped, place_from, read_decided}

-- a text read into so many cells that each hold 7: the reply, and the cells afterwards
abbrev Reads : String → ℕ → String → List ℤ → Type 0
Reads text n r after = Read (bytes text) (sevens n) (reply r, after)

pub readings :
    -- accepted
    Reads "MULTILINESTRING ((0 2, 6 2), (4 0, 4 5))" 9 "0 2 0 0" (cells "0 2 6 2 4 0 4 5 7")
    -- spaces around any token, letters in either case, signs, leading zeros; a mark needs no space
    × Reads "  multiLineString ( ( -1   +2 , 0003 -0 ) )  " 4 "0 1 0 0" (cells "-1 2 3 0")
    × Reads "MULTILINESTRING((1 2,3 4),(5 6,7 8))" 8 "0 2 0 0" (cells "1 2 3 4 5 6 7 8")
    × Reads "MULTILINESTRING EMPTY" 1 "0 0 0 0" (sevens 1)
    × Reads " MultilinestrinG  empty " 0 "0 0 0 0" []
    -- 13: the length where the text stops short
    × Reads "" 1 "13 0 0 0" (sevens 1)
    × Reads "MULTILINE" 1 "13 0 0 9" (sevens 1)
    × Reads "MULTILINESTRING" 1 "13 0 0 15" (sevens 1)
    × Reads "MULTILINESTRING EMPT" 1 "13 0 0 20" (sevens 1)
    × Reads "MULTILINESTRING ((0 0,1 2)" 4 "13 0 0 26" (sevens 4)
    × Reads "MULTILINESTRING ((0 0,1 2), " 4 "13 0 0 28" (sevens 4)
    -- 13: the first byte after which no accepted text can follow
    × Reads "MULTIPOINT" 1 "13 0 0 5" (sevens 1)
    × Reads "MULTILINESTRINGEMPTY" 1 "13 0 0 15" (sevens 1)
    × Reads "MULTILINESTRING Z ((0 0 0,1 1 1))" 6 "13 0 0 16" (sevens 6)
    × Reads "MULTILINESTRING M EMPTY" 6 "13 0 0 16" (sevens 6)
    × Reads "MULTILINESTRING (EMPTY)" 1 "13 0 0 17" (sevens 1)
    × Reads "MULTILINESTRING ()" 1 "13 0 0 17" (sevens 1)
    × Reads "MULTILINESTRING ((0 0,1 1),EMPTY)" 4 "13 0 0 27" (sevens 4)
    × Reads "MULTILINESTRING EMPTY," 1 "13 0 0 21" (sevens 1)
    × Reads "MULTILINESTRING\t((0 0,1 1))" 4 "13 0 0 15" (sevens 4)
    -- .. in a number or after it
    × Reads "MULTILINESTRING ((0 0,1-2))" 4 "13 0 0 23" (sevens 4)
    × Reads "MULTILINESTRING ((0 0,- 1 2))" 4 "13 0 0 23" (sevens 4)
    × Reads "MULTILINESTRING ((0 0,+-1 2))" 4 "13 0 0 23" (sevens 4)
    × Reads "MULTILINESTRING ((0 0,1.0 2))" 4 "13 0 0 23" (sevens 4)
    × Reads "MULTILINESTRING ((0 0,1e1 2))" 4 "13 0 0 23" (sevens 4)
    × Reads "MULTILINESTRING ((0 0,1,2))" 4 "13 0 0 23" (sevens 4)
    -- .. lines of one point and of three, a third number, and what follows the end
    × Reads "MULTILINESTRING ((0 0))" 4 "13 0 0 21" (sevens 4)
    × Reads "MULTILINESTRING ((0 0,1 2,3 4))" 4 "13 0 0 25" (sevens 4)
    × Reads "MULTILINESTRING ((0 0 0,1 2))" 4 "13 0 0 22" (sevens 4)
    × Reads "MULTILINESTRING ((0 0,1 2)) x" 4 "13 0 0 28" (sevens 4)
    -- 13 before 5 and 7
    × Reads "MULTILINESTRING((536870913 0,1 1);" 0 "13 0 0 33" []
    -- 5: the limit itself, and one more; the first position; before 7; any number of digits
    × Reads "MULTILINESTRING((0 0,1 1),(536870912 -536870912,0 0))" 8 "0 2 0 0" (cells "0 0 1 1 536870912 -536870912 0 0")
    × Reads "MULTILINESTRING((0 0,1 1),(0 0,0 -536870913),(536870913 0,0 0))" 12 "5 0 0 1" (sevens 12)
    × Reads "MULTILINESTRING((0 99999999999999999999999,1 1))" 0 "5 0 0 0" []
    × Reads "MULTILINESTRING((0 00000000000000000000009,1 1))" 4 "0 1 0 0" (cells "0 9 1 1")
    -- 7: four cells for each line, and one fewer
    × Reads "MULTILINESTRING((1 2,3 4))" 4 "0 1 0 0" (cells "1 2 3 4")
    × Reads "MULTILINESTRING((1 2,3 4))" 3 "7 0 0 0" (sevens 3)
unfolding bytes run parts value_from grouped place_from coordinates_of filter positions
readings = (
  read_decided _ _,
  read_decided _ _,
  read_decided _ _,
  read_decided _ _,
  read_decided _ _,
  read_decided _ _,
  read_decided _ _,
  read_decided _ _,
  read_decided _ _,
  read_decided _ _,
  read_decided _ _,
  read_decided _ _,
  read_decided _ _,
  read_decided _ _,
  read_decided _ _,
  read_decided _ _,
  read_decided _ _,
  read_decided _ _,
  read_decided _ _,
  read_decided _ _,
  read_decided _ _,
  read_decided _ _,
  read_decided _ _,
  read_decided _ _,
  read_decided _ _,
  read_decided _ _,
  read_decided _ _,
  read_decided _ _,
  read_decided _ _,
  read_decided _ _,
  read_decided _ _,
  read_decided _ _,
  read_decided _ _,
  read_decided _ _,
  read_decided _ _,
  read_decided _ _,
  read_decided _ _,
)
