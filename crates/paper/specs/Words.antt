-- Document 01, "Words of the index": what the builder writes.
-- A recursion whose sizes halve takes a bound on its depth as its first number, since antt asks that some argument lose a constructor; the
-- definition below it gives a bound that is enough (the size itself).
use Rattle.std.specs.Prelude.{Bool, not, ◌&&◌, ◌||◌, cond, List, [], ◌∷◌, ◌++◌, map, ℕ, zero, suc, ◌+◌, ◌-◌, ◌*◌, ◌/◌, leb, ltb, ℤ, pos, length, get_or, take, drop, replicate}
use Rattle.std.specs.Int.Signed.{lt_z}
use Rattle.lists.specs.Plain.{same, within, digits, positions, filter, count, last, joined, first_half, second_half, elem, by, by_greatest, sort}
use Rattle.paper.specs.Descriptor.{at}
use Rattle.paper.specs.declared.Segment.{Segment}

-- ---- L, D, W

-- the count of binary digits, L(0) = 0
abbrev pub L : ℕ → ℕ
L n = digits n

abbrev pub D : ℕ → ℕ
D n = L (n - 1) + 1

-- words of a segment's record
abbrev pub record_words : ℕ
record_words = 4

-- where the records, the levels and the blocks begin: after the header's four words, after n records, after D levels
abbrev pub records_at : ℕ
records_at = 4

abbrev pub levels_at : ℕ → ℕ
levels_at n = records_at + record_words * n

abbrev pub blocks_at : ℕ → ℕ
blocks_at n = levels_at n + 2 * n * D n

-- 4 + 12n + 2nD: the blocks take 8n; 4 where n = 0
abbrev pub W : ℕ → ℕ
W n = blocks_at n + 8 * n

-- ---- 1. four words

-- a point counts as horizontal
abbrev pub is_horizontal : Segment → Bool
is_horizontal s = same s.y1 s.y2

abbrev pub horizontals : List Segment → List ℕ
horizontals rs = filter (λ p. is_horizontal (at rs p)) (positions (length rs))

abbrev pub verticals : List Segment → List ℕ
verticals rs = filter (λ p. not (is_horizontal (at rs p))) (positions (length rs))

-- word 0 of an index of n segments
abbrev pub size_word : ℕ → ℤ
size_word n = pos n

abbrev pub header_words : ℤ → List Segment → List ℤ
header_words first rs = size_word (length rs) ∷ first ∷ pos (length (horizontals rs)) ∷ pos (length (verticals rs)) ∷ []

-- ---- 2. the records: the end smaller in (x, y) first; that end is the low end

abbrev pub turned : Segment → Segment
turned s = record { x1 = s.x2; y1 = s.y2; x2 = s.x1; y2 = s.y1 }

abbrev pub low_first : Segment → Segment
low_first s = cond (lt_z s.x2 s.x1 || (same s.x2 s.x1 && lt_z s.y2 s.y1)) (turned s) s

abbrev pub record_of : Segment → List ℤ
record_of s = s.x1 ∷ s.y1 ∷ s.x2 ∷ s.y2 ∷ []

-- ---- 3. the levels: a node is a run of the order of all low ends

-- a node of size s ≥ 2 gives its first ⌈s/2⌉ to the left and the rest to the right one level down; a node of one is repeated
abbrev pub children : List ℕ → List (List ℕ)
children node = cond (leb 2 (length node)) (first_half node ∷ second_half node ∷ []) (node ∷ [])

abbrev pub goes_left : List ℕ → ℕ → Bool
goes_left node p = elem p (first_half node)

-- below, rs are the records, low end first, and a position stands for its record
module _ (rs : List Segment) where
  abbrev pub low_x : ℕ → ℤ
  low_x p = (at rs p).x1

  abbrev pub low_y : ℕ → ℤ
  low_y p = (at rs p).y1

  -- all low ends by (x, y, position)
  abbrev pub x_order : List ℕ
  x_order = sort (by low_x (by low_y ltb)) (positions (length rs))

  -- the nodes of a level; level 0 is one node
  unfoldable pub nodes : ℕ → List (List ℕ)
  nodes zero = x_order ∷ []
  nodes (suc level) = joined (map children (nodes level))

  -- inside a node positions stand by (y of low end, position)
  abbrev pub slots : List ℕ → List ℕ
  slots node = sort (by low_y ltb) node

  -- the count at slot j: how many earlier slots of that node go left (so 0 in a node of one)
  abbrev pub count_at : List ℕ → ℕ → ℕ
  count_at node j = count (goes_left node) (take j (slots node))

  abbrev pub counts : List ℕ → List ℕ
  counts node = map (count_at node) (positions (length node))

  -- n position words, then n count words
  unfoldable pub level_words : ℕ → List ℤ
  level_words level = map (λ p. pos p) (joined (map slots (nodes level)) ++ joined (map counts (nodes level)))

  unfoldable pub levels_words : List ℤ
  levels_words = joined (map level_words (positions (D (length rs))))

-- ---- 4. the blocks

-- near, far and level of a record
pub record Axis : Type 0 where
  pub near : Segment → ℤ
  pub far : Segment → ℤ
  pub level : Segment → ℤ

abbrev pub horizontal : Axis
horizontal = record { near = λ s. s.x1; far = λ s. s.x2; level = λ s. s.y1 }

abbrev pub vertical : Axis
vertical = record { near = λ s. s.y1; far = λ s. s.y2; level = λ s. s.x1 }

-- a block has two queues
pub data End : Type 0 where
  low : End
  high : End

module _ (rs : List Segment) (axis : Axis) where
  abbrev pub near_of : ℕ → ℤ
  near_of p = axis.near (at rs p)

  abbrev pub far_of : ℕ → ℤ
  far_of p = axis.far (at rs p)

  abbrev pub level_of : ℕ → ℤ
  level_of p = axis.level (at rs p)

  -- the low queue takes the smallest near, the high queue the greatest far, ties by smaller level, then position
  abbrev pub taken_before : End → ℕ → ℕ → Bool
  taken_before low = by near_of (by level_of ltb)
  taken_before high = by_greatest far_of (by level_of ltb)

  abbrev pub ranked : End → List ℕ → List ℕ
  ranked end ps = sort (taken_before end) ps

  -- the first of them is taken; the others by (level, position)
  abbrev pub taken : End → ℕ → List ℕ → ℕ
  taken end p ps = get_or (ranked end (p ∷ ps)) 0 p

  abbrev pub others : End → ℕ → List ℕ → List ℕ
  others end p ps = sort (by level_of ltb) (drop 1 (ranked end (p ∷ ps)))

  -- the level of the last one sent left, 0 if there is none
  abbrev pub split_of : List ℕ → ℤ
  split_of left = last (pos 0) (map level_of left)

  -- position taken, split; left queue; right queue
  unfoldable pub queue_words_to : ℕ → End → List ℕ → List ℤ
  queue_words_to zero end ps = []
  queue_words_to (suc f) end [] = []
  queue_words_to (suc f) end (p ∷ ps) =
      let left = first_half (others end p ps) in
      let right = second_half (others end p ps) in
      pos (taken end p ps) ∷ split_of left ∷ (queue_words_to f end left ++ queue_words_to f end right)

  abbrev pub queue_words : End → List ℕ → List ℤ
  queue_words end ps = queue_words_to (length ps) end ps

  -- order by (near, position); centre is near of place ⌊m/2⌋ from 0
  abbrev pub centre_of : ℕ → List ℕ → ℤ
  centre_of p ps = near_of (get_or (sort (by near_of ltb) (p ∷ ps)) (length (p ∷ ps) / 2) p)

  -- near ≤ centre ≤ far stay, far < centre go left, near > centre go right
  abbrev pub stays : ℤ → List ℕ → List ℕ
  stays centre ps = filter (λ p. within (near_of p) (far_of p) centre) ps

  abbrev pub lefts : ℤ → List ℕ → List ℕ
  lefts centre ps = filter (λ p. lt_z (far_of p) centre) ps

  abbrev pub rights : ℤ → List ℕ → List ℕ
  rights centre ps = filter (λ p. lt_z centre (near_of p)) ps

  -- centre, s, ml, mr; the low queue; the high queue; 4s − 4 zeros; the left block; the right block
  unfoldable pub block_words_to : ℕ → List ℕ → List ℤ
  block_words_to zero ps = []
  block_words_to (suc f) [] = []
  block_words_to (suc f) (p ∷ ps) =
      let centre = centre_of p ps in
      let stay = stays centre (p ∷ ps) in
      let left = lefts centre (p ∷ ps) in
      let right = rights centre (p ∷ ps) in
      (centre ∷ pos (length stay) ∷ pos (length left) ∷ pos (length right) ∷ [])
      ++ (queue_words low stay
      ++ (queue_words high stay
      ++ (replicate (4 * length stay - 4) (pos 0)
      ++ (block_words_to f left
      ++ block_words_to f right))))

  abbrev pub block_words : List ℕ → List ℤ
  block_words ps = block_words_to (length ps) ps

-- ---- the whole: the words of the segments of a table, whose position 0 has the number `first`
unfoldable pub index_words : ℤ → List Segment → List ℤ
index_words first segments =
    let rs = map low_first segments in
    header_words first rs
    ++ (joined (map record_of rs)
    ++ (levels_words rs
    ++ (block_words rs horizontal (horizontals rs)
    ++ block_words rs vertical (verticals rs))))
