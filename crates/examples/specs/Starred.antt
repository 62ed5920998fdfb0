-- Document 01, "Examples on both sides": all starred examples as one table (`table`), proved by one statement (`starred`). What a row says is in `Says`
-- alone, over the definitions of `paper`; the rest is proof. A row that is flipped is refused (must-fail/).
use Rattle.std.specs.Prelude.{◌≡◌, refl, Bool, true, false, not, ◌&&◌, List, [], ◌∷◌, ◌++◌, ◌↔◌, T}
use Rattle.std.proofs.Common.{sym}
use Rattle.lists.specs.Plain.{digits_to, positions, filter, count, any, last, joined, insert, sort}
use Rattle.lists.specs.Tests.{clash, fst_of, snd_of}
use Rattle.paper.specs.Descriptor.{addressed, segments_of}
use Rattle.paper.specs.Meeting.{Meets}
use Rattle.paper.specs.Words.{nodes, level_words, levels_words, queue_words_to, block_words_to, index_words}
use Rattle.paper.specs.Walk.{search_to, slots_walk, node_at, node_walk, queue_at, queue_walk_to, block_at, block_walk_to, walk, step, run, walk_of}
use Rattle.paper.specs.Results.{built, listing, queried, scanned}
use Rattle.paper.specs.Lines.{parts, without_empty_last, value_from, numbers_in, line_of, decimal_to, tabbed, read, from_line, program, bytes}
use Rattle.paper.specs.Rows.{Row, build, ask, scan, prints, Says as CallSays, holds as callHolds, row_says, cells, sevens, descriptor, segment, window, reply}
use Rattle.paper.specs.declared.Segment.{Segment}
use Rattle.paper.specs.declared.Window.{Window}
use Rattle.meeting.specs.Determined.{tested, decided}

pub data Example : Type 0 where
  -- a window and a segment that meets it, and one that does not
  meets : Window → Segment → Example
  misses : Window → Segment → Example
  -- a call and all that it gives: the reply and the lent cells afterwards
  call : Row → Example

abbrev pub Says : Example → Type 0
Says (meets w s) = Meets s w
Says (misses w s) = Meets s w → ⊥
Says (call row) = CallSays row

-- a text stands for the numbers in it, or for its bytes; lent cells are sevens
abbrev pub table : List Example
table =
    -- window 0..4 by 0..4
    meets (window "0 4 0 4") (segment "-2 2 2 6")
    ∷ misses (window "0 4 0 4") (segment "-2 3 2 7")
    ∷ meets (window "0 4 0 4") (segment "4 4 9 9")
    ∷ misses (window "0 4 0 4") (segment "5 0 5 4")
    ∷ meets (window "0 4 0 4") (segment "-1 2 7 2")
    ∷ misses (window "0 4 0 4") (segment "4 5 4 5")
    -- window 1..1 by 0..4, at y = 1/2; window 3..3 by 3..3
    ∷ meets (window "1 1 0 4") (segment "0 0 2 1")
    ∷ meets (window "3 3 3 3") (segment "0 0 6 6")
    ∷ misses (window "3 3 3 3") (segment "0 0 6 5")
    -- 12 cells; kind 1, base 8, lower bound 0, n = 3, segment stride −4, coordinate stride 1: accepted; base 7: document 01 said 4, and by request E1 it is 12, position 2, count 0
    ∷ call (scan (cells "0 1 2 3 4 5 6 7 8 9 10 11") (descriptor "1 8 0 3 -4 1") (window "0 4 0 4") (sevens 3) (reply "0 1 0 0", cells "2 7 7"))
    ∷ call (scan (cells "0 1 2 3 4 5 6 7 8 9 10 11") (descriptor "1 7 0 3 -4 1") (window "0 4 0 4") (sevens 3) (reply "12 0 0 2", cells "7 7 7"))
    -- (0,2)-(6,2), kind 2, lower bound 1: 18 words, and the words after them keep their values
    ∷ call (build (cells "0 2 6 2") (descriptor "2 0 1 1 4 1") (sevens 20) (reply "0 18 0 0", cells "1 1 1 0" ++ (cells "0 2 6 2" ++ (cells "0 0" ++ (cells "0 1 0 0 0 0 0 0" ++ cells "7 7")))))
    -- the program's table and window: count 2, visits 13, numbers 1 and 2; and the program itself
    ∷ call (ask (cells "0 2 6 2 4 0 4 5 9 9 9 9") (descriptor "2 0 1 3 4 1") (sevens 58) (window "3 5 1 3") (sevens 3) (reply "0 2 13 0", cells "1 2 7"))
    ∷ call (prints (bytes "T\t2\t1\nS\t0\t2\t6\t2\nS\t4\t0\t4\t5\nS\t9\t9\t9\t9\nW\t3\t5\t1\t3\n") (bytes "A\t2\t13\t1\t2\n"))
    ∷ []

-- ---- what antt computes of a row, and that it then says a true thing

abbrev holds : Example → Bool
holds (meets w s) = tested w s
holds (misses w s) = not (tested w s)
holds (call row) = callHolds row

decide : (b : Bool) {A : Type 0} → (b ≡ true) ↔ A → T b → A
decide true k t = k.0 refl
decide false k t = absurd t

refute : (b : Bool) {A : Type 0} → (b ≡ true) ↔ A → T (not b) → A → ⊥
refute true k t a = t
refute false k t a = clash (sym (k.1 a))

says : (e : Example) → T (holds e) → Says e
says (meets w s) t = decide (tested w s) ((decided w).exactly s) t
says (misses w s) t = refute (tested w s) ((decided w).exactly s) t
says (call row) t = row_says row t

abbrev pub All : List Example → Type 0
All [] = Unit {0}
All (e ∷ es) = Says e × All es

abbrev all : List Example → Bool
all [] = true
all (e ∷ es) = holds e && all es

every : (es : List Example) → T (all es) → All es
every [] t = tt
every (e ∷ es) t = (says e (fst_of (holds e) (all es) t), every es (snd_of (holds e) (all es) t))

pub starred : All table
unfolding bytes positions filter count any last joined insert sort addressed segments_of digits_to nodes level_words levels_words queue_words_to block_words_to index_words search_to slots_walk node_at node_walk queue_at queue_walk_to block_at block_walk_to walk step run walk_of built listing queried scanned parts without_empty_last value_from numbers_in line_of decimal_to tabbed read from_line program
starred = every table tt
