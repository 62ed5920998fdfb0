-- Document 01, "The walk and its visits": over any words, as the list of what happens, in order; then what has come of it.
-- Words of an index are read by place, and a word that is not there reads 0 (answer 9 has then been given).
use Rattle.std.specs.Prelude.{Bool, not, ◌&&◌, ◌||◌, cond, List, [], ◌∷◌, ◌++◌, ℕ, zero, suc, ◌+◌, ◌-◌, ◌*◌, ◌/◌, eqb, leb, ltb, ℤ, pos, negsuc, ◌+ℤ◌, length, get_or}
use Rattle.std.specs.Int.Signed.{le_z, lt_z}
use Rattle.lists.specs.Plain.{same, within, to_nat, half}
use Rattle.paper.specs.Words.{D, record_words, records_at, levels_at, blocks_at, Axis, horizontal, vertical, End, low, high}
use Rattle.paper.specs.declared.Segment.{Segment}
use Rattle.paper.specs.declared.Window.{Window}

pub data Kind : Type 0 where
  atSearch atNode atSlot at_block atQueue : Kind

pub data Event : Type 0 where
  -- a visit, and the word that it stands at
  visit : Kind → ℕ → Event
  -- the number of a position is due
  due : ℕ → Event
  -- a spoiled word is read
  spoiled : Event

module _ (ws : List ℤ) where
  abbrev pub word : ℕ → ℤ
  word i = get_or ws i (pos 0)

  -- the record of a position
  abbrev pub record_at : ℕ → Segment
  record_at p =
      let i = records_at + record_words * p in
      record { x1 = word i; y1 = word (i + 1); x2 = word (i + 2); y2 = word (i + 3) }

abbrev pub when : Bool → List Event → List Event
when b es = cond b es []

-- a read word is spoiled unless a test passes; what follows then
abbrev pub sound : Bool → List Event → List Event
sound b es = cond b es (spoiled ∷ [])

-- a word that is read as a position; spoiled if it is outside 0 to n − 1
abbrev pub as_position : ℕ → ℤ → (ℕ → List Event) → List Event
as_position n (pos p) next = sound (ltb p n) (next p)
as_position n (negsuc k) next = spoiled ∷ []

-- a word that is read as the count at slot p of a node; spoiled if it is negative, above p or the left size, or leaves more than the right size
abbrev pub as_count : (p left right : ℕ) → ℤ → (ℕ → List Event) → List Event
as_count p left right (pos k) next = sound (leb k p && leb k left && leb (p - k) right) (next k)
as_count p left right (negsuc k) next = spoiled ∷ []

-- three words that are read as s, ml, mr of a block over m; spoiled if s < 1, ml or mr < 0, or s + ml + mr ≠ m
abbrev pub sizes_fit : ℕ → (s ml mr : ℤ) → Bool
sizes_fit m s ml mr = le_z (pos 1) s && le_z (pos 0) ml && le_z (pos 0) mr && same (s +ℤ ml +ℤ mr) (pos m)

-- a node by the x of its first and its last low end: last < a or first > b: stop. First ≥ a and last ≤ b: its slots. Otherwise what lies below it
abbrev pub by_ends : Window → (first last : ℤ) → (slots below : List Event) → List Event
by_ends w first last slots below =
    when (not (lt_z last w.a || lt_z w.b first)) (cond (le_z w.a first && le_z last w.b) slots below)

-- a queue's condition under the edge e: the low queue is walked under near < e, the high queue under far ≥ e
abbrev pub condition : Axis → (e : ℤ) → End → Segment → Bool
condition axis e low s = lt_z (axis.near s) e
condition axis e high s = le_z e (axis.far s)

-- the level is in the band lo..hi
abbrev pub in_band : Axis → (lo hi : ℤ) → Segment → Bool
in_band axis lo hi s = within lo hi (axis.level s)

-- left p of a node of a size that begins at word i of its level: the count at slot p, or the left size if p is the node's size
abbrev pub count_word : List ℤ → (n size p i : ℕ) → ℤ
count_word ws n size p i = cond (eqb p size) (pos (half size)) (word ws (i + n + p))

module _ (ws : List ℤ) (n : ℕ) (w : Window) where
  -- ---- search: p is the first slot of level 0 with y ≥ c, by lo = 0, hi = n, mid = ⌊(lo+hi)/2⌋, y ≥ c giving hi = mid, else lo = mid+1,
  -- until lo = hi. Each mid is a visit. `next` is what is walked from p
  unfoldable pub search_to : ℕ → (lo hi : ℕ) → (next : ℕ → List Event) → List Event
  search_to zero lo hi next = next lo
  search_to (suc f) lo hi next =
      let mid = (lo + hi) / 2 in
      let i = levels_at n + mid in
      cond (eqb lo hi) (next lo)
      (visit atSearch i ∷ as_position n (word ws i) λ q.
      cond (le_z w.c (record_at ws q).y1) (search_to f lo mid next) (search_to f (mid + 1) hi next))

  abbrev pub search : (ℕ → List Event) → List Event
  search next = search_to n 0 n next

  -- ---- slots: from word i on at most r, each a visit, listing while y ≤ d, until one is above or the node ends
  unfoldable pub slots_walk : (r i : ℕ) → List Event
  slots_walk zero i = []
  slots_walk (suc r) i =
      visit atSlot i ∷ as_position n (word ws i) λ q.
      when (le_z (record_at ws q).y1 w.d) (due q ∷ slots_walk r (i + 1))

  -- ---- node: one node, with the last level's words of it from z on, and the walks of its left and right, each from its own p; right p is the rest
  unfoldable pub node_at : (size p i z : ℕ) → (left right : ℕ → List Event) → List Event
  node_at size p i z left right =
      visit atNode i ∷ as_position n (word ws z) λ f. as_position n (word ws (z + size - 1)) λ l.
      by_ends w (record_at ws f).x1 (record_at ws l).x1
      (slots_walk (size - p) (i + p))
      (as_count p (half size) (size - half size) (count_word ws n size p i) λ k. left k ++ right (p - k))

  -- with the number of levels below its own. On the last level first and last are one word, so that nothing lies below
  unfoldable pub node_walk : (levels size p i : ℕ) → List Event
  node_walk zero size p i = node_at size p i i (λ k. []) (λ k. [])
  node_walk (suc levels) size p i =
      node_at size p i (i + 2 * n * suc levels)
      (λ k. node_walk levels (half size) k (i + 2 * n))
      (λ k. node_walk levels (size - half size) k (i + 2 * n + half size))

  -- ---- blocks and queues: edge e, and the band lo..hi of levels
  module _ (axis : Axis) (e lo hi : ℤ) where
    -- condition false: stop. List if the level is in the band. Then left when band low ≤ split; then right when band high ≥ split
    unfoldable pub queue_at : End → (i : ℕ) → (left right : List Event) → List Event
    queue_at end i left right =
        let split = word ws (i + 1) in
        visit atQueue i ∷ as_position n (word ws i) λ q.
        when (condition axis e end (record_at ws q)) (when (in_band axis lo hi (record_at ws q)) (due q ∷ []) ++ (when (le_z lo split) left ++ when (le_z split hi) right))

    -- a queue over s at word i: one taken, ⌈(s−1)/2⌉ left, the rest right; none where s is 0
    unfoldable pub queue_walk_to : ℕ → End → (s i : ℕ) → List Event
    queue_walk_to zero end s i = []
    queue_walk_to (suc f) end zero i = []
    queue_walk_to (suc f) end (suc r) i =
        queue_at end i (queue_walk_to f end (half r) (i + 2)) (queue_walk_to f end (r - half r) (i + 2 + 2 * half r))

    abbrev pub queue_walk : End → (s i : ℕ) → List Event
    queue_walk end s i = queue_walk_to s end s i

    -- e ≤ centre walks the low queue, then the left block; otherwise the high queue, then the right
    unfoldable pub block_at : (m i : ℕ) → (left right : List Event) → List Event
    block_at m i left right =
        let s = to_nat (word ws (i + 1)) in
        visit at_block i ∷ sound (sizes_fit m (word ws (i + 1)) (word ws (i + 2)) (word ws (i + 3)))
        (cond (le_z e (word ws i)) (queue_walk low s (i + 4) ++ left) (queue_walk high s (i + 4 + 2 * s) ++ right))

    -- a block over m at word i: 8s words of its own, then the left block's, then the right block's; none where m is 0
    unfoldable pub block_walk_to : ℕ → (m i : ℕ) → List Event
    block_walk_to zero m i = []
    block_walk_to (suc f) zero i = []
    block_walk_to (suc f) (suc t) i =
        let s = to_nat (word ws (i + 1)) in
        let ml = to_nat (word ws (i + 2)) in
        let mr = to_nat (word ws (i + 3)) in
        block_at (suc t) i (block_walk_to f ml (i + 8 * s)) (block_walk_to f mr (i + 8 * s + 8 * ml))

    abbrev pub block_walk : (m i : ℕ) → List Event
    block_walk m i = block_walk_to m m i

-- ---- the whole walk

-- n as an index has it, in word 0
abbrev pub extent_in : List ℤ → ℤ
extent_in ws = word ws 0

abbrev pub size_in : List ℤ → ℕ
size_in ws = to_nat (extent_in ws)

-- the groups in this order: low end in the window; horizontals; verticals. With n = 0 there are no visits
unfoldable pub walk : List ℤ → Window → List Event
walk ws w =
    let n = size_in ws in
    let mh = to_nat (word ws 2) in
    let mv = to_nat (word ws 3) in
    when (not (eqb n 0)) (search ws n w λ p.
    node_walk ws n w (D n - 1) n p (levels_at n)
    ++ (block_walk ws n w horizontal w.a w.c w.d mh (blocks_at n)
    ++ block_walk ws n w vertical w.c w.a w.b mv (blocks_at n + 8 * mh)))

-- ---- what comes of it: the positions listed so far, in order, and the visits so far; or a spoiled word has been read,
-- which a number that is due where n are listed is too
pub data Walked : Type 0 where
  walked : List ℕ → ℕ → Walked
  stopped : Walked

unfoldable pub step : ℕ → Walked → Event → Walked
step n stopped e = stopped
step n (walked ps v) (visit k i) = walked ps (v + 1)
step n (walked ps v) (due p) = cond (ltb (length ps) n) (walked (ps ++ (p ∷ [])) v) stopped
step n (walked ps v) spoiled = stopped

unfoldable pub run : ℕ → Walked → List Event → Walked
run n s [] = s
run n s (e ∷ es) = run n (step n s e) es

unfoldable pub walk_of : List ℤ → Window → Walked
walk_of ws w = run (size_in ws) (walked [] 0) (walk ws w)
