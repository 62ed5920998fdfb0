-- Examples as rows of a table: what a row says, a test of it that antt computes, and that a table whose rows all pass says true things.
-- Meaning is in `Says` alone; the rest is proof.
use Rattle.std.specs.Prelude.{◌≡◌, refl, Bool, true, false, ◌&&◌, cond, List, [], ◌∷◌, map, ℕ, T, eqb, ℤ, pos, neg_ℤ, get_or, replicate}
use Rattle.std.proofs.Common.{ap₂, eqb→eq}
use Prim.Native.String.{String}
use Rattle.lists.specs.Plain.{same}
use Rattle.lists.specs.Tests.{fst_of, snd_of}
use Rattle.lists.specs.Orders.{same_equal}
use Rattle.paper.specs.Words.{W}
use Rattle.paper.specs.Results.{Result, ManyResult, built, queried, queried_many, scanned}
use Rattle.paper.specs.Hosts.{host_cell, host_words, host_meet}
use Rattle.paper.specs.Lines.{minus, parts, value_from, program, bytes}
use Rattle.paper.specs.Corners.{weighed}
use Rattle.paper.specs.declared.Descriptor.{Descriptor}
use Rattle.paper.specs.declared.Segment.{Segment}
use Rattle.paper.specs.declared.Window.{Window}
use Rattle.paper.specs.declared.Reply.{Reply}

pub data Row : Type 0 where
  -- a builder's call, and its result
  build : List ℤ → Descriptor → List ℤ → Result → Row
  -- a query's call, and its result
  query : List ℤ → Window → List ℤ → Result → Row
  -- a query of the index that a builder's call wrote
  ask : List ℤ → Descriptor → List ℤ → Window → List ℤ → Result → Row
  -- a query of many windows: index, edges, count cells, number cells, and its result
  many : List ℤ → (edges counts numbers : List ℤ) → ManyResult → Row
  -- a scan's call, by the corner test, and its result
  scan : List ℤ → Descriptor → Window → List ℤ → Result → Row
  -- W(n)
  words : ℕ → ℕ → Row
  -- a C host's call for the cell of a position and coordinate: length, base, n, strides, position, coordinate
  cell : (len base n segment coordinate i j : ℤ) → ℤ → Row
  -- a C host's call for W(n)
  words_to_c : ℤ → ℤ → Row
  -- a C host's call for one segment and one window, by the corner test
  meet_to_c : Segment → Window → ℤ → Row
  -- the program's input and what it prints
  prints : List ℕ → List ℕ → Row

abbrev pub Says : Row → Type 0
Says (build table d index r) = built table d index ≡ r
Says (query ws w numbers r) = queried ws w numbers ≡ r
Says (ask table d index w numbers r) = queried (built table d index).1 w numbers ≡ r
Says (many ws edges counts numbers r) = queried_many ws edges counts numbers ≡ r
Says (scan table d w numbers r) = scanned (weighed w) table d w numbers ≡ r
Says (words n k) = W n ≡ k
Says (cell len base n segment coordinate i j r) = host_cell len base n segment coordinate i j ≡ r
Says (words_to_c n r) = host_words n ≡ r
Says (meet_to_c s w r) = host_meet (weighed w) s w ≡ r
Says (prints text r) = program text ≡ r

-- ---- the test

abbrev pub same_list : List ℤ → List ℤ → Bool
same_list [] [] = true
same_list [] (y ∷ ys) = false
same_list (x ∷ xs) [] = false
same_list (x ∷ xs) (y ∷ ys) = same x y && same_list xs ys

abbrev pub same_bytes : List ℕ → List ℕ → Bool
same_bytes [] [] = true
same_bytes [] (y ∷ ys) = false
same_bytes (x ∷ xs) [] = false
same_bytes (x ∷ xs) (y ∷ ys) = eqb x y && same_bytes xs ys

abbrev pub same_reply : Reply → Reply → Bool
same_reply r s = same r.number s.number && (same r.count s.count && (same r.visits s.visits && same r.position s.position))

abbrev pub same_result : Result → Result → Bool
same_result r s = same_reply r.0 s.0 && same_list r.1 s.1

abbrev pub same_many : ManyResult → ManyResult → Bool
same_many r s = same_reply r.0 s.0 && (same_list r.1 s.1 && same_list r.2 s.2)

abbrev pub holds : Row → Bool
holds (build table d index r) = same_result (built table d index) r
holds (query ws w numbers r) = same_result (queried ws w numbers) r
holds (ask table d index w numbers r) = same_result (queried (built table d index).1 w numbers) r
holds (many ws edges counts numbers r) = same_many (queried_many ws edges counts numbers) r
holds (scan table d w numbers r) = same_result (scanned (weighed w) table d w numbers) r
holds (words n k) = eqb (W n) k
holds (cell len base n segment coordinate i j r) = same (host_cell len base n segment coordinate i j) r
holds (words_to_c n r) = same (host_words n) r
holds (meet_to_c s w r) = same (host_meet (weighed w) s w) r
holds (prints text r) = same_bytes (program text) r

-- ---- a test that passes says a true thing

both : (x y : Bool) → T (x && y) → T x × T y
both x y t = (fst_of x y t, snd_of x y t)

pub list_eq : (xs ys : List ℤ) → T (same_list xs ys) → xs ≡ ys
list_eq [] [] t = refl
list_eq [] (y ∷ ys) t = absurd t
list_eq (x ∷ xs) [] t = absurd t
list_eq (x ∷ xs) (y ∷ ys) t = let b = both (same x y) (same_list xs ys) t in ap₂ (λ (u : ℤ) (v : List ℤ). u ∷ v) (same_equal x y b.0) (list_eq xs ys b.1)

pub bytes_eq : (xs ys : List ℕ) → T (same_bytes xs ys) → xs ≡ ys
bytes_eq [] [] t = refl
bytes_eq [] (y ∷ ys) t = absurd t
bytes_eq (x ∷ xs) [] t = absurd t
bytes_eq (x ∷ xs) (y ∷ ys) t = let b = both (eqb x y) (same_bytes xs ys) t in ap₂ (λ (u : ℕ) (v : List ℕ). u ∷ v) (eqb→eq x y b.0) (bytes_eq xs ys b.1)

reply_eq : (r s : Reply) → T (same_reply r s) → r ≡ s
reply_eq r s t =
    let a = both (same r.number s.number) _ t in
    let b = both (same r.count s.count) _ a.1 in
    let c = both (same r.visits s.visits) _ b.1 in
    let e = same_equal r.number s.number a.0 in
    let f = same_equal r.count s.count b.0 in
    let g = same_equal r.visits s.visits c.0 in
    let h = same_equal r.position s.position c.1 in
    λ i. record { number = e i; count = f i; visits = g i; position = h i }

result_eq : (r s : Result) → T (same_result r s) → r ≡ s
result_eq r s t =
    let b = both (same_reply r.0 s.0) (same_list r.1 s.1) t in
    λ i. (reply_eq r.0 s.0 b.0 i, list_eq r.1 s.1 b.1 i)

many_eq : (r s : ManyResult) → T (same_many r s) → r ≡ s
many_eq r s t =
    let b = both (same_reply r.0 s.0) _ t in
    let c = both (same_list r.1 s.1) (same_list r.2 s.2) b.1 in
    λ i. (reply_eq r.0 s.0 b.0 i, list_eq r.1 s.1 c.0 i, list_eq r.2 s.2 c.1 i)

pub row_says : (r : Row) → T (holds r) → Says r
row_says (build table d index r) t = result_eq (built table d index) r t
row_says (query ws w numbers r) t = result_eq (queried ws w numbers) r t
row_says (ask table d index w numbers r) t = result_eq (queried (built table d index).1 w numbers) r t
row_says (many ws edges counts numbers r) t = many_eq (queried_many ws edges counts numbers) r t
row_says (scan table d w numbers r) t = result_eq (scanned (weighed w) table d w numbers) r t
row_says (words n k) t = eqb→eq (W n) k t
row_says (cell len base n segment coordinate i j r) t = same_equal (host_cell len base n segment coordinate i j) r t
row_says (words_to_c n r) t = same_equal (host_words n) r t
row_says (meet_to_c s w r) t = same_equal (host_meet (weighed w) s w) r t
row_says (prints text r) t = bytes_eq (program text) r t

abbrev pub All : List Row → Type 0
All [] = Unit {0}
All (r ∷ rs) = Says r × All rs

abbrev pub all : List Row → Bool
all [] = true
all (r ∷ rs) = holds r && all rs

pub every : (rs : List Row) → T (all rs) → All rs
every [] t = tt
every (r ∷ rs) t = let b = both (holds r) (all rs) t in (row_says r b.0, every rs b.1)

-- ---- short forms for rows: a text stands for its bytes, or for the whole numbers in it, parted by single spaces

abbrev pub signed : List ℕ → ℤ
signed [] = pos 0
signed (b ∷ ds) = cond (eqb b minus) (neg_ℤ (pos (value_from 0 ds))) (pos (value_from 0 (b ∷ ds)))

abbrev pub cells : String → List ℤ
cells text = map signed (parts 32 (bytes text))

-- a lent buffer of which every cell is 7, and one of zeros
abbrev pub sevens : ℕ → List ℤ
sevens n = replicate n (pos 7)

abbrev pub zeros : ℕ → List ℤ
zeros n = replicate n (pos 0)

abbrev pub number : String → ℕ → ℤ
number text i = get_or (cells text) i (pos 0)

-- kind, base, lower bound, n, segment stride, coordinate stride
abbrev pub descriptor : String → Descriptor
descriptor text = record {
  kind = number text 0;
  base = number text 1;
  lower = number text 2;
  extent = number text 3;
  segment_stride = number text 4;
  coordinate_stride = number text 5;
}

-- x1 y1 x2 y2
abbrev pub segment : String → Segment
segment text = record { x1 = number text 0; y1 = number text 1; x2 = number text 2; y2 = number text 3 }

-- a b c d
abbrev pub window : String → Window
window text = record { a = number text 0; b = number text 1; c = number text 2; d = number text 3 }

-- number, count, visits, position
abbrev pub reply : String → Reply
reply text = record { number = number text 0; count = number text 1; visits = number text 2; position = number text 3 }

-- C hosts: what a text of seven numbers asks (length, base, n, strides, position, coordinate)
abbrev pub cell_to_c : String → ℤ → Row
cell_to_c text r = cell (number text 0) (number text 1) (number text 2) (number text 3) (number text 4) (number text 5) (number text 6) r
