-- Document 01: computed examples over its definitions, one table, one statement (`examples`). A row that does not hold makes this crate fail.
-- The starred examples of the document, those about Meeting among them, are one table of their own in crate `examples`.
-- Rows: a text stands for the numbers in it, or for its bytes. Refusals stand in the rows of their order with all later faults present too, so that each row
-- is also the pair of its number with the next.
use Rattle.std.specs.Prelude.{List, [], ◌∷◌, ◌++◌, ℤ, pos, neg_ℤ, replicate, set}
use Rattle.lists.specs.Plain.{digits_to, positions, filter, count, any, last, joined, sum, insert, sort}
use Rattle.paper.specs.Descriptor.{addressed, segments_of}
use Rattle.paper.specs.Words.{nodes, level_words, levels_words, queue_words_to, block_words_to, index_words}
use Rattle.paper.specs.Walk.{search_to, slots_walk, node_at, node_walk, queue_at, queue_walk_to, block_at, block_walk_to, walk, step, run, walk_of}
use Rattle.paper.specs.Results.{built, listing, queried, in_turn, queried_many, scanned}
use Rattle.paper.specs.Hosts.{host_cell, host_words, host_meet}
use Rattle.paper.specs.Lines.{parts, without_empty_last, value_from, numbers_in, line_of, decimal_to, tabbed, read, from_line, program, bytes}
use Rattle.paper.specs.Rows.{
  Row,
  build,
  query,
  many,
  ask,
  scan,
  words,
  cell_to_c,
  words_to_c,
  meet_to_c,
  prints,
  All,
  every,
  cells,
  sevens,
  zeros,
  descriptor,
  segment,
  window,
  reply,
}

-- ---- the calls of "Examples on both sides"

abbrev example_rows : List Row
example_rows =
    -- base 8, segment stride −4, coordinate stride 1, n = 3, 12 cells: accepted
    scan (cells "0 1 2 3 4 5 6 7 8 9 10 11") (descriptor "1 8 0 3 -4 1") (window "0 4 0 4") (sevens 3) (reply "0 1 0 0", cells "2 7 7")
    -- base 7: document 01 said 4; by request E1 it is 12, position 2, count 0
    ∷ scan (cells "0 1 2 3 4 5 6 7 8 9 10 11") (descriptor "1 7 0 3 -4 1") (window "0 4 0 4") (sevens 3) (reply "12 0 0 2", sevens 3)
    -- (0,2)-(6,2), kind 2, lower bound 1; the words after W(n) keep their values
    ∷ build (cells "0 2 6 2") (descriptor "2 0 1 1 4 1") (sevens 20) (reply "0 18 0 0", cells "1 1 1 0 0 2 6 2 0 0 0 1 0 0 0 0 0 0 7 7")
    -- the program's table and window: count 2, visits 13, numbers 1 and 2; the cell after keeps its value
    ∷ ask (cells "0 2 6 2 4 0 4 5 9 9 9 9") (descriptor "2 0 1 3 4 1") (zeros 58) (window "3 5 1 3") (sevens 3) (reply "0 2 13 0", cells "1 2 7")
    ∷ prints (bytes "T\t2\t1\nS\t0\t2\t6\t2\nS\t4\t0\t4\t5\nS\t9\t9\t9\t9\nW\t3\t5\t1\t3\n") (bytes "A\t2\t13\t1\t2\n")
    ∷ []

-- ---- nine marks with ties in every key: equal x, y, near, far and level, a turned segment, a point, a left and a right block

abbrev tied : List ℤ
tied = cells "1 2 7 2 0 4 6 4 6 2 0 2 0 2 6 2 3 5 3 0 3 8 4 8 2 6 4 6 0 7 0 7 4 1 8 1"

abbrev tied_words : List ℤ
tied_words =
    cells "9 10 8 1"
    ++ (cells "1 2 7 2 0 4 6 4 0 2 6 2 0 2 6 2 3 0 3 5 3 8 4 8 2 6 4 6 0 7 0 7 4 1 8 1"
    -- five levels, positions then counts
    ++ (cells "4 8 0 2 3 1 6 7 5 0 0 0 1 2 3 4 4 5"
    ++ (cells "0 2 3 1 7 4 8 6 5 0 0 1 2 3 0 1 1 2"
    ++ (cells "2 3 1 0 7 4 6 8 5 0 1 2 0 0 0 0 0 0"
    ++ (cells "2 3 1 7 0 6 4 5 8 0 1 0 0 0 0 0 0 0"
    ++ (cells "2 3 1 7 0 6 4 5 8 0 0 0 0 0 0 0 0 0"
    -- the horizontals: centre and sizes, low queue, high queue, zeros; the left block; the right block and its own right block
    ++ (cells "1 4 1 3" ++ (cells "2 2 3 2 0 0 1 0" ++ (cells "0 2 2 2 3 0 1 0" ++ (zeros 12
    ++ (cells "0 1 0 0 7 0 7 0"
    ++ (cells "3 2 0 1 6 8 5 0 6 8 5 0 0 0 0 0"
    ++ (cells "4 1 0 0 8 0 8 0"
    -- the verticals
    ++ cells "0 1 0 0 4 0 4 0")))))))))))))

-- ---- words

abbrev word_rows : List Row
word_rows =
    words 0 4
    ∷ words 1 18
    ∷ words 2 36
    ∷ words 3 58
    ∷ words 4 76
    -- n = 4,096 fits, 4,097 gives 3
    ∷ words_to_c (pos 4096) (pos 155652)
    ∷ words_to_c (pos 4097) (neg_ℤ (pos 3))
    ∷ []

-- ---- the builder's order: 1, 2, 3, 4, 12, 7, 5, 6

abbrev builder_rows : List Row
builder_rows =
    -- kind 4; with it a lower bound, n and a stride beyond their limits, and no index words
    build (cells "0 2 6 2") (descriptor "4 0 1000001 4097 1048577 1") [] (reply "1 0 0 0", [])
    -- kind 3 and lower bound 1
    ∷ build (cells "0 2 6 2") (descriptor "3 0 1 4097 1048577 1") [] (reply "2 0 0 0", [])
    ∷ build (cells "0 2 6 2") (descriptor "3 0 0 4097 1048577 1") [] (reply "3 0 0 0", [])
    ∷ build (cells "0 2 6 2") (descriptor "3 0 0 1 1048577 1") [] (reply "4 0 0 0", [])
    -- 4 stands before 12: a stride beyond its limits that also leads outside, and one within them
    ∷ build (cells "0 2 6 2") (descriptor "3 0 0 2 -1048577 1") (sevens 36) (reply "4 0 0 0", sevens 36)
    ∷ build (cells "0 2 6 2") (descriptor "3 0 0 2 -1048576 1") (sevens 36) (reply "12 0 0 1", sevens 36)
    -- 12: each coordinate as the first outside, at position 0 or a later one
    ∷ build (cells "0 2 6 2") (descriptor "3 1 0 1 4 1") (sevens 17) (reply "12 3 0 0", sevens 17)
    ∷ build (cells "0 2 6 2 0 2 6") (descriptor "3 0 0 3 4 1") (sevens 58) (reply "12 3 0 1", sevens 58)
    ∷ build (cells "0 2 6 2 0 2") (descriptor "3 0 0 3 4 1") (sevens 58) (reply "12 2 0 1", sevens 58)
    ∷ build (cells "0 2 6 2 0") (descriptor "3 0 0 3 4 1") (sevens 58) (reply "12 1 0 1", sevens 58)
    ∷ build (cells "0 2 6 2") (descriptor "3 0 0 3 4 1") (sevens 58) (reply "12 0 0 1", sevens 58)
    ∷ build (cells "0 2 6 2") (descriptor "3 2 0 1 4 -1") (sevens 18) (reply "12 3 0 0", sevens 18)
    ∷ build (cells "0 2") (descriptor "3 0 0 1 4 3") (sevens 18) (reply "12 1 0 0", sevens 18)
    ∷ build (cells "0 2 6 2") (descriptor "3 4 0 1 4 1") (sevens 18) (reply "12 0 0 0", sevens 18)
    -- a base at the ends of 64 bits
    ∷ build (cells "0 2 6 2") (descriptor "3 9223372036854775807 0 1 4 1") (sevens 18) (reply "12 0 0 0", sevens 18)
    ∷ build (cells "0 2 6 2") (descriptor "3 -9223372036854775808 0 1 4 1") (sevens 18) (reply "12 0 0 0", sevens 18)
    -- a word too few, and a slanted segment with a coordinate beyond its limits
    ∷ build (cells "0 0 1 536870913") (descriptor "3 0 0 1 4 1") (sevens 17) (reply "7 0 0 0", sevens 17)
    -- 5 at position 1, though 6 would be given at position 0
    ∷ build (cells "0 0 1 1 0 0 0 536870913") (descriptor "3 0 0 2 4 1") (sevens 36) (reply "5 0 0 1", sevens 36)
    -- 6, the first such position
    ∷ build (cells "0 0 1 0 0 0 1 1 0 0 2 2") (descriptor "3 0 0 3 4 1") (sevens 58) (reply "6 0 0 1", sevens 58)
    -- with n = 0 base may be anything and 12 is never given, but strides are judged
    ∷ build [] (descriptor "1 -9223372036854775808 5 0 0 0") (sevens 5) (reply "0 4 0 0", cells "0 5 0 0 7")
    ∷ build [] (descriptor "1 0 5 0 0 -1048577") (sevens 5) (reply "4 0 0 0", sevens 5)
    -- lower bounds at their limits
    ∷ build [] (descriptor "1 0 -1000000 0 0 0") (sevens 4) (reply "0 4 0 0", cells "0 -1000000 0 0")
    ∷ build [] (descriptor "1 0 -1000001 0 0 0") (sevens 4) (reply "2 0 0 0", sevens 4)
    -- kind 3: 1 in word 1, though the descriptor carries 0; 1 in its place is refused
    ∷ build (cells "0 2 6 2") (descriptor "3 0 0 1 4 1") (sevens 18) (reply "0 18 0 0", cells "1 1 1 0 0 2 6 2 0 0 0 1 0 0 0 0 0 0")
    ∷ build (cells "0 2 6 2") (descriptor "3 0 1 1 4 1") (sevens 18) (reply "2 0 0 0", sevens 18)
    -- the end smaller in (x, y) first; a point counts as horizontal
    ∷ build (cells "6 2 0 2") (descriptor "1 0 0 1 4 1") (sevens 18) (reply "0 18 0 0", cells "1 0 1 0 0 2 6 2 0 0 0 1 0 0 0 0 0 0")
    ∷ build (cells "4 5 4 0") (descriptor "1 0 0 1 4 1") (sevens 18) (reply "0 18 0 0", cells "1 0 0 1 4 0 4 5 0 0 0 1 0 0 0 0 0 0")
    ∷ build (cells "9 9 9 9") (descriptor "1 0 0 1 4 1") (sevens 18) (reply "0 18 0 0", cells "1 0 1 0 9 9 9 9 0 0 9 1 0 0 0 0 0 0")
    ∷ build tied (descriptor "1 0 10 9 4 1") (sevens 203) (reply "0 202 0 0", tied_words ++ sevens 1)
    ∷ []

-- ---- the scan's order: 1, 2, 3, 4, 12, 8, 5, 7

abbrev scan_rows : List Row
scan_rows =
    scan (cells "0 2 6 2") (descriptor "0 0 1000001 -1 0 1048577") (window "1 0 0 0") [] (reply "1 0 0 0", [])
    ∷ scan (cells "0 2 6 2") (descriptor "1 0 1000001 -1 0 1048577") (window "1 0 0 0") [] (reply "2 0 0 0", [])
    ∷ scan (cells "0 2 6 2") (descriptor "1 0 0 -1 0 1048577") (window "1 0 0 0") [] (reply "3 0 0 0", [])
    ∷ scan (cells "0 2 6 2") (descriptor "1 0 0 1 0 1048577") (window "1 0 0 0") [] (reply "4 0 0 0", [])
    ∷ scan (cells "0 2 6 2") (descriptor "1 0 0 2 0 2") (window "1 0 0 0") [] (reply "12 2 0 0", [])
    ∷ scan (cells "0 0 0 536870913") (descriptor "1 0 0 1 0 1") (window "1 0 0 0") [] (reply "8 0 0 0", [])
    ∷ scan (cells "0 0 0 0 0 0 0 536870913") (descriptor "1 0 0 2 4 1") (window "0 0 0 0") [] (reply "5 0 0 1", [])
    -- 7 exactly where the buffer is shorter than the numbers due, which it counts; of three segments two meet, or none
    ∷ scan (cells "0 0 0 0 9 9 9 9 0 0 0 5") (descriptor "1 0 0 3 4 1") (window "0 0 0 0") [] (reply "7 2 0 0", [])
    ∷ scan (cells "0 0 0 0 9 9 9 9 0 0 0 5") (descriptor "1 0 0 3 4 1") (window "0 0 0 0") (sevens 1) (reply "7 2 0 0", sevens 1)
    ∷ scan (cells "0 0 0 0 9 9 9 9 0 0 0 5") (descriptor "1 0 0 3 4 1") (window "0 0 0 0") (sevens 2) (reply "0 2 0 0", cells "0 2")
    ∷ scan (cells "0 0 0 0 9 9 9 9 0 0 0 5") (descriptor "1 0 0 3 4 1") (window "1 1 1 1") [] (reply "0 0 0 0", [])
    -- slanted segments, listed ascending from the lower bound; the cell after keeps its value
    ∷ scan (cells "-2 2 2 6 -2 3 2 7 4 4 9 9") (descriptor "1 0 -1 3 4 1") (window "0 4 0 4") (sevens 3) (reply "0 2 0 0", cells "-1 1 7")
    -- the same segments from coordinate to coordinate, and the last position first; the coordinate limits themselves are no fault
    ∷ scan (cells "-2 -2 4 2 3 4 2 2 9 6 7 9") (descriptor "1 0 -1 3 1 3") (window "0 4 0 4") (sevens 3) (reply "0 2 0 0", cells "-1 1 7")
    ∷ scan (cells "-2 2 2 6 -2 3 2 7 4 4 9 9") (descriptor "1 8 -1 3 -4 1") (window "0 4 0 4") (sevens 3) (reply "0 2 0 0", cells "-1 1 7")
    ∷ scan (cells "-536870912 0 536870912 0") (descriptor "1 0 0 1 4 1") (window "536870912 536870912 0 0") (sevens 1) (reply "0 1 0 0", cells "0")
    -- kind 3 carries lower bound 0 and numbers from 1; kinds 1 and 2 number from their lower bound, 0 too
    ∷ scan (cells "0 2 6 2 0 2 6 2") (descriptor "3 0 0 2 4 1") (window "0 0 2 2") (sevens 2) (reply "0 2 0 0", cells "1 2")
    ∷ scan (cells "0 2 6 2 0 2 6 2") (descriptor "2 0 0 2 4 1") (window "0 0 2 2") (sevens 2) (reply "0 2 0 0", cells "0 1")
    ∷ scan (cells "0 2 6 2 0 2 6 2") (descriptor "1 0 0 2 4 1") (window "0 0 2 2") (sevens 2) (reply "0 2 0 0", cells "0 1")
    ∷ []

-- ---- the query's order: 9, 8, 10, 7; below, the index of one segment (0,2)-(6,2) with a word changed

abbrev query_rows : List Row
query_rows =
    -- 9: three words; n beyond its limits; a lower bound; a negative count; counts that do not add to n; fewer than W(n)
    query (cells "1 1 1") (window "1 0 0 0") [] (reply "9 0 0 0", [])
    ∷ query (cells "4097 1 1 0 0 2 6 2 0 0 0 1 0 0 0 0 0 0") (window "1 0 0 0") [] (reply "9 0 0 0", [])
    ∷ query (cells "1 1000001 1 0 0 2 6 2 0 0 0 1 0 0 0 0 0 0") (window "1 0 0 0") [] (reply "9 0 0 0", [])
    ∷ query (cells "1 1 -1 2 0 2 6 2 0 0 0 1 0 0 0 0 0 0") (window "1 0 0 0") [] (reply "9 0 0 0", [])
    ∷ query (cells "1 1 2 -1 0 2 6 2 0 0 0 1 0 0 0 0 0 0") (window "1 0 0 0") [] (reply "9 0 0 0", [])
    ∷ query (cells "1 1 1 1 0 2 6 2 0 0 0 1 0 0 0 0 0 0") (window "1 0 0 0") [] (reply "9 0 0 0", [])
    ∷ query (cells "1 1 1 0 0 2 6 2 0 0 0 1 0 0 0 0 0") (window "1 0 0 0") [] (reply "9 0 0 0", [])
    -- 8 with a spoiled position word; 8 with too few cells; 10 with too few cells
    ∷ query (cells "1 1 1 0 0 2 6 2 1 0 0 1 0 0 0 0 0 0") (window "1 0 0 0") [] (reply "8 0 0 0", [])
    ∷ query (cells "1 1 1 0 0 2 6 2 0 0 0 1 0 0 0 0 0 0") (window "1 0 0 0") [] (reply "8 0 0 0", [])
    ∷ query (cells "1 1 1 0 0 2 6 2 1 0 0 1 0 0 0 0 0 0") (window "3 5 1 3") [] (reply "10 0 0 0", [])
    -- 10: the position word; every cell keeps its value
    ∷ query (cells "1 1 1 0 0 2 6 2 1 0 0 1 0 0 0 0 0 0") (window "3 5 1 3") (sevens 2) (reply "10 0 0 0", sevens 2)
    -- 10: s + ml + mr ≠ m; s < 1 though the sum fits; ml or mr negative though the sum fits
    ∷ query (cells "1 1 1 0 0 2 6 2 0 0 0 2 0 0 0 0 0 0") (window "3 5 1 3") (sevens 2) (reply "10 0 0 0", sevens 2)
    ∷ query (cells "1 1 1 0 0 2 6 2 0 0 0 0 1 0 0 0 0 0") (window "3 5 1 3") (sevens 2) (reply "10 0 0 0", sevens 2)
    ∷ query (cells "1 1 1 0 0 2 6 2 0 0 0 1 -1 1 0 0 0 0") (window "3 5 1 3") (sevens 2) (reply "10 0 0 0", sevens 2)
    ∷ query (cells "1 1 1 0 0 2 6 2 0 0 0 1 1 -1 0 0 0 0") (window "3 5 1 3") (sevens 2) (reply "10 0 0 0", sevens 2)
    -- 10: a number is due and n are listed: the centre is changed, so that the segment comes twice
    ∷ query (cells "1 1 1 0 0 2 6 2 0 0 -5 1 0 0 0 0 0 0") (window "0 5 1 3") (sevens 2) (reply "10 0 0 0", sevens 2)
    -- a record's level is taken from its low end: a vertical and a horizontal whose other word is changed
    ∷ query (cells "1 1 0 1 4 0 9 5 0 0 0 1 0 0 0 0 0 0") (window "3 5 1 3") (sevens 1) (reply "0 1 4 0", cells "1")
    ∷ query (cells "1 1 1 0 0 2 6 9 0 0 0 1 0 0 0 0 0 0") (window "3 5 1 3") (sevens 1) (reply "0 1 4 0", cells "1")
    -- 10: a count that leaves more than the right size (slot 2 of three, 0 to the left, so 2 to a right side of one)
    ∷ query (cells "3 1 2 1 0 2 6 2 4 0 4 5 9 9 9 9 1 0 2 0 1 0 1 0 2 0 0 0 0 1 2 0 0 0 9 1 1 0 2 0 2 0 0 1 0 0 0 0 0 0 0 1 0 0 1 0 1 0") (window "3 5 3 9") (sevens 3) (reply "10 0 0 0", sevens 3)
    -- a sound index, and one that goes on after W(n)
    ∷ query (cells "1 1 1 0 0 2 6 2 0 0 0 1 0 0 0 0 0 0") (window "3 5 1 3") (sevens 2) (reply "0 1 4 0", cells "1 7")
    ∷ query (cells "1 1 1 0 0 2 6 2 0 0 0 1 0 0 0 0 0 0 5 5") (window "3 5 1 3") (sevens 2) (reply "0 1 4 0", cells "1 7")
    -- 7 exactly where the buffer is shorter than the numbers due, which it counts; visits are 0
    ∷ query (cells "1 1 1 0 0 2 6 2 0 0 0 1 0 0 0 0 0 0") (window "3 5 1 3") [] (reply "7 1 0 0", [])
    ∷ query (cells "1 1 1 0 0 2 6 2 0 0 0 1 0 0 0 0 0 0") (window "3 5 3 3") [] (reply "0 0 4 0", [])
    ∷ query tied_words (window "1 3 2 2") (sevens 3) (reply "7 4 0 0", sevens 3)
    ∷ query tied_words (window "1 3 2 2") (sevens 4) (reply "0 4 26 0", cells "10 12 13 14")
    -- an index answers by the word it holds: one of kind 3 that was built before request E4 still from 0
    ∷ query (cells "1 0 1 0 0 2 6 2 0 0 0 1 0 0 0 0 0 0") (window "3 5 1 3") (sevens 2) (reply "0 1 4 0", cells "0 7")
    -- with n = 0 there are no visits
    ∷ query (cells "0 1 0 0") (window "3 5 1 3") (sevens 1) (reply "0 0 0 0", sevens 1)
    -- ties: a band that begins and ends at a split; an edge at a far end; an edge at a centre; y beyond all; a point; a column; all
    ∷ query tied_words (window "1 3 2 2") (sevens 9) (reply "0 4 26 0", cells "10 12 13 14 7 7 7 7 7")
    ∷ query tied_words (window "7 9 2 2") (sevens 9) (reply "0 1 14 0", cells "10 7 7 7 7 7 7 7 7")
    ∷ query tied_words (window "2 3 9 9") (sevens 9) (reply "0 0 17 0", sevens 9)
    ∷ query tied_words (window "0 0 7 7") (sevens 9) (reply "0 1 17 0", cells "17 7 7 7 7 7 7 7 7")
    ∷ query tied_words (window "4 4 0 9") (sevens 9) (reply "0 7 24 0", cells "18 10 12 13 11 16 15 7 7")
    ∷ query tied_words (window "0 8 0 8") (sevens 9) (reply "0 9 20 0", cells "14 18 10 12 13 11 16 17 15")
    -- 10: a count above its place; a count above the left size
    ∷ query (cells "3 1 2 1 0 2 6 2 4 0 4 5 9 9 9 9 1 0 2 0 2 2 1 0 2 0 0 0 0 1 2 0 0 0 9 1 1 0 2 0 2 0 0 1 0 0 0 0 0 0 0 1 0 0 1 0 1 0") (window "3 5 1 3") (sevens 3) (reply "10 0 0 0", sevens 3)
    ∷ query (set tied_words 56 (pos 6)) (window "2 3 7 9") (sevens 9) (reply "10 0 0 0", sevens 9)
    ∷ []

-- ---- many windows: 9, 14, 8, 10, 7

-- the index of one segment, and with its centre changed, so that a window that lists it lists it twice: 10
abbrev one_words : List ℤ
one_words = cells "1 1 1 0 0 2 6 2 0 0 0 1 0 0 0 0 0 0"

abbrev spoiled_words : List ℤ
spoiled_words = cells "1 1 1 0 0 2 6 2 0 0 -5 1 0 0 0 0 0 0"

abbrev many_rows : List Row
many_rows =
    -- 9 before 14
    many (cells "1 1 1") (cells "1 0 0") [] [] (reply "9 0 0 0", [], [])
    -- 14: three numbers, or five; 65 windows; a count cell too few; each with a bad window too
    ∷ many one_words (cells "1 0 0") (sevens 1) [] (reply "14 0 0 0", sevens 1, [])
    ∷ many one_words (cells "1 0 0 0 0") (sevens 2) [] (reply "14 0 0 0", sevens 2, [])
    ∷ many one_words (cells "1 0 0 0" ++ zeros 256) (sevens 65) [] (reply "14 0 0 0", sevens 65, [])
    ∷ many one_words (cells "1 0 0 0 0 0 0 0") (sevens 1) [] (reply "14 0 0 0", sevens 1, [])
    -- 8: the first bad window is returned, also where the walk of one before it is spoiled
    ∷ many spoiled_words (cells "0 5 1 3 1 0 0 0 2 0 0 0") (sevens 3) [] (reply "8 0 0 1", sevens 3, [])
    -- 10: the first whose walk is spoiled is returned, also where there are too few number cells for one before it
    ∷ many spoiled_words (cells "0 5 3 3 0 5 1 3 0 5 1 3") (sevens 3) [] (reply "10 0 0 1", sevens 3, [])
    ∷ many spoiled_words (cells "3 5 1 3 0 5 1 3") (sevens 3) [] (reply "10 0 0 1", sevens 3, [])
    -- 7: the total due is returned as count; one cell more holds it. A window's count is its own
    ∷ many one_words (cells "3 5 1 3 3 5 3 3 3 5 1 3") (sevens 4) (sevens 1) (reply "7 2 0 0", sevens 4, sevens 1)
    ∷ many one_words (cells "3 5 1 3 3 5 3 3 3 5 1 3") (sevens 4) (sevens 2) (reply "0 2 12 0", cells "1 0 1 7", cells "1 1")
    ∷ many one_words (cells "3 5 3 3") (sevens 1) [] (reply "0 0 4 0", cells "0", [])
    -- the single queries joined, their visits added; what stands after keeps its value
    ∷ many tied_words (cells "1 3 2 2 2 3 9 9 7 9 2 2") (sevens 4) (sevens 7) (reply "0 5 57 0", cells "4 0 1 7", cells "10 12 13 14 10 7 7")
    -- no windows: done with 0, but 9 is still judged; 64 windows
    ∷ many one_words [] (sevens 1) (sevens 1) (reply "0 0 0 0", sevens 1, sevens 1)
    ∷ many (cells "1 1 1") [] [] [] (reply "9 0 0 0", [], [])
    ∷ many (cells "0 1 0 0") (zeros 256) (sevens 65) (sevens 1) (reply "0 0 0 0", zeros 64 ++ sevens 1, sevens 1)
    ∷ []

-- ---- C hosts: 3, 4, 12, 11, there without a place; a length below 0 holds no cell; 8, 5

abbrev host_rows : List Row
host_rows =
    cell_to_c "12 8 3 -4 1 2 3" (pos 3)
    ∷ cell_to_c "12 7 3 -4 1 0 0" (neg_ℤ (pos 12))
    ∷ cell_to_c "12 8 -1 1048577 1 3 0" (neg_ℤ (pos 3))
    ∷ cell_to_c "12 8 3 1048577 1 3 0" (neg_ℤ (pos 4))
    ∷ cell_to_c "12 7 3 -4 1 3 0" (neg_ℤ (pos 12))
    ∷ cell_to_c "12 8 3 -4 1 3 0" (neg_ℤ (pos 11))
    ∷ cell_to_c "12 8 3 -4 1 -1 0" (neg_ℤ (pos 11))
    ∷ cell_to_c "12 8 3 -4 1 0 4" (neg_ℤ (pos 11))
    ∷ cell_to_c "-1 0 1 0 0 0 0" (neg_ℤ (pos 12))
    -- with n = 0 no position is there
    ∷ cell_to_c "0 0 0 0 0 0 0" (neg_ℤ (pos 11))
    ∷ meet_to_c (segment "0 0 0 536870913") (window "1 0 0 0") (neg_ℤ (pos 8))
    ∷ meet_to_c (segment "0 0 0 536870913") (window "0 1 0 0") (neg_ℤ (pos 5))
    ∷ meet_to_c (segment "0 0 6 6") (window "3 3 3 3") (pos 1)
    ∷ meet_to_c (segment "0 0 6 5") (window "3 3 3 3") (pos 0)
    ∷ []

-- ---- the program

abbrev program_rows : List Row
program_rows =
    -- empty input prints nothing, and so does a T line alone
    prints (bytes "") (bytes "")
    ∷ prints (bytes "T\t1\t0\n") (bytes "")
    -- 0: an empty line, -0, a leading zero, 11 digits, +1, a carriage return, a further field, a line in another place
    ∷ prints (bytes "\n") (bytes "R\t0\t1\n")
    ∷ prints (bytes "T\t-0\t0") (bytes "R\t0\t1\n")
    ∷ prints (bytes "T\t1\t00") (bytes "R\t0\t1\n")
    ∷ prints (bytes "T\t1\t12345678901") (bytes "R\t0\t1\n")
    ∷ prints (bytes "T\t1\t+1") (bytes "R\t0\t1\n")
    ∷ prints (bytes "T\t1\t1\r\n") (bytes "R\t0\t1\n")
    ∷ prints (bytes "T\t1\t1\t1\n") (bytes "R\t0\t1\n")
    ∷ prints (bytes "T\t1\t0\nT\t1\t0\n") (bytes "R\t0\t2\n")
    -- with no S each W prints count 0 and visits 0 and no further tab; what was printed before a fault stays
    ∷ prints (bytes "T\t1\t0\nW\t0\t0\t0\t0\nS\t0\t0\t0\t0\n") (bytes "A\t0\t0\nR\t0\t3\n")
    -- ten digits are a number: 2, as is kind 3 with lower bound 1; 1 before 2
    ∷ prints (bytes "T\t1\t1234567890\n") (bytes "R\t2\t1\n")
    ∷ prints (bytes "T\t3\t1\n") (bytes "R\t2\t1\n")
    -- T 3 0 numbers from 1
    ∷ prints (bytes "T\t3\t0\nS\t0\t0\t0\t0\nW\t0\t0\t0\t0\n") (bytes "A\t1\t5\t1\n")
    ∷ prints (bytes "T\t4\t-1000001\n") (bytes "R\t1\t1\n")
    -- 5 before 6; 6; 8
    ∷ prints (bytes "T\t1\t1\nS\t0\t0\t1\t536870913\n") (bytes "R\t5\t2\n")
    ∷ prints (bytes "T\t1\t1\nS\t0\t0\t1\t1\n") (bytes "R\t6\t2\n")
    ∷ prints (bytes "T\t1\t1\nW\t1\t0\t0\t0\n") (bytes "R\t8\t2\n")
    -- the last line feed may be missing; numbers below 0 are printed with a minus
    ∷ prints (bytes "T\t1\t-1\nS\t0\t0\t0\t0\nW\t0\t0\t0\t0") (bytes "A\t1\t5\t-1\n")
    -- the 257th S line, after one T line: 3
    ∷ prints (bytes "T\t1\t1\n" ++ joined (replicate 257 (bytes "S\t0\t0\t0\t0\n"))) (bytes "R\t3\t258\n")
    ∷ []

abbrev table : List Row
table = example_rows ++ (word_rows ++ (builder_rows ++ (scan_rows ++ (query_rows ++ (many_rows ++ (host_rows ++ program_rows))))))

pub examples : All table
unfolding bytes positions filter count any last joined sum insert sort addressed segments_of digits_to nodes level_words levels_words queue_words_to block_words_to index_words search_to slots_walk node_at node_walk queue_at queue_walk_to block_at block_walk_to walk step run walk_of built listing queried in_turn queried_many scanned host_cell host_words host_meet parts without_empty_last value_from numbers_in line_of decimal_to tabbed read from_line program
examples = every table tt
