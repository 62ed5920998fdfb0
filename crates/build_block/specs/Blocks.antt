-- Laws of `paper`'s words of a block: `block_cons` unfolds them without the bound on the depth, `block_length` counts them, `block_same` says that the order
-- of the positions does not matter. For every axis whose records are `Tidy`. Assumes nothing.
use Rattle.std.specs.Prelude.{◌≡◌, Bool, true, ◌&&◌, ℤ, pos, set, get_or, replicate}
use Rattle.std.proofs.Math.Path.{refl, sym, ap}
use Rattle.std.proofs.Common.{ap₂, ◌∙◌, arith, length-append}
use mathlib.Core.List.{List, [], ◌∷◌, ◌++◌}
use Prim.Native.Nat.{ℕ, zero, suc, ◌-◌, ◌*◌, ◌/◌, ◌≤◌, ◌<◌}
use Rattle.std.proofs.Math.ListN.{length}
use Rattle.std.proofs.lemmas.List.{get_or_default, length-replicate}
use Rattle.lists.specs.Parts.{put}
use Rattle.lists.specs.Plain.{count, filter, sort}
use Rattle.lists.specs.Counting.{count_length, filter_count}
use Rattle.lists.specs.Sorting.{sort_length, sort_same}
use Rattle.build_queue.specs.Queues.{queue_length, queue_same}
use Rattle.build_block.specs.Sides.{Tidy, by_near, near_linear, centre_at, sides, somebody}
use Rattle.paper.specs.declared.Segment.{Segment}
use Rattle.paper.specs.Words.{Axis, End, near_of, stays, lefts, rights, queue_words, block_words_to, block_words}

-- the first four words
abbrev pub header : ℤ → (stay left right : ℕ) → List ℤ
header centre stay left right = centre ∷ pos stay ∷ pos left ∷ pos right ∷ []

-- the first four words written one by one
pub four_words : (s : List ℤ) (x y z w : ℤ) → 4 ≤ length s → set (set (set (set s 0 x) 1 y) 2 z) 3 w ≡ put 0 (x ∷ y ∷ z ∷ w ∷ []) s
unfolding put
four_words [] x y z w h = absurd (omega arith)
four_words (a ∷ []) x y z w h = absurd (omega arith)
four_words (a ∷ b ∷ []) x y z w h = absurd (omega arith)
four_words (a ∷ b ∷ c ∷ []) x y z w h = absurd (omega arith)
four_words (a ∷ b ∷ c ∷ d ∷ s) x y z w h = refl

module _ (rs : List Segment) (axis : Axis) (tidy : Tidy rs axis) where
  -- the words of a block of a centre and three sides
  abbrev pub block_of : ℤ → (stay left right : List ℕ) → List ℤ
  block_of centre stay left right =
      header centre (length stay) (length left) (length right)
      ++ (queue_words rs axis End.low stay
      ++ (queue_words rs axis End.high stay
      ++ (replicate (4 * length stay - 4) (pos 0)
      ++ (block_words rs axis left
      ++ block_words rs axis right))))

  abbrev stay : List ℕ → List ℕ
  stay ps = stays rs axis (centre_at rs axis ps) ps

  abbrev left : List ℕ → List ℕ
  left ps = lefts rs axis (centre_at rs axis ps) ps

  abbrev right : List ℕ → List ℕ
  right ps = rights rs axis (centre_at rs axis ps) ps

  -- fewer go on than came
  pub fewer : (ps : List ℕ) → 0 < length ps → (length (left ps) < length ps) × (length (right ps) < length ps)
  fewer ps h =
      let all = sides rs axis tidy (centre_at rs axis ps) ps in
      let some = somebody rs axis tidy ps h in
      (omega (arith, all, some), omega (arith, all, some))

  words_nil : (f : ℕ) → block_words_to rs axis f [] ≡ []
  unfolding block_words_to
  words_nil zero = refl
  words_nil (suc f) = refl

  centre_any : (p : ℕ) (ps : List ℕ) → near_of rs axis (get_or (sort (by_near rs axis) (p ∷ ps)) (length (p ∷ ps) / 2) p) ≡ centre_at rs axis (p ∷ ps)
  centre_any p ps =
      ap (near_of rs axis) (get_or_default (sort (by_near rs axis) (p ∷ ps)) (length (p ∷ ps) / 2) p 0 (omega (arith, sort_length (by_near rs axis) (p ∷ ps))))

  -- any bound that is large enough gives the same words
  enough : (f g : ℕ) (ps : List ℕ) → length ps ≤ f → length ps ≤ g → block_words_to rs axis f ps ≡ block_words_to rs axis g ps
  unfolding block_words_to
  enough zero g [] hf hg = sym (words_nil g)
  enough zero g (p ∷ ps) hf hg = absurd (omega arith)
  enough (suc f) g [] hf hg = sym (words_nil g)
  enough (suc f) zero (p ∷ ps) hf hg = absurd (omega arith)
  enough (suc f) (suc g) (p ∷ ps) hf hg =
      let few = fewer (p ∷ ps) (omega arith) in
      let l = enough f g (left (p ∷ ps)) (omega (arith, few)) (omega (arith, few)) in
      let r = enough f g (right (p ∷ ps)) (omega (arith, few)) (omega (arith, few)) in
      rw (centre_any p ps, l, r)

  pub block_nil : block_words rs axis [] ≡ []
  unfolding block_words_to
  block_nil = refl

  pub block_cons : (ps : List ℕ) → 0 < length ps
      → block_words rs axis ps
      ≡ block_of (centre_at rs axis ps) (stays rs axis (centre_at rs axis ps) ps) (lefts rs axis (centre_at rs axis ps) ps) (rights rs axis (centre_at rs axis ps) ps)
  unfolding block_words_to
  block_cons [] h = absurd (omega arith)
  block_cons (p ∷ ps) h =
      let few = fewer (p ∷ ps) (omega arith) in
      let l = enough (length ps) (length (left (p ∷ ps))) (left (p ∷ ps)) (omega (arith, few)) (omega arith) in
      let r = enough (length ps) (length (right (p ∷ ps))) (right (p ∷ ps)) (omega (arith, few)) (omega arith) in
      rw (centre_any p ps, l, r)

  words_length : (f : ℕ) (ps : List ℕ) → length ps ≤ f → length (block_words rs axis ps) ≡ 8 * length ps
  unfolding block_words_to
  words_length zero [] h = refl
  words_length zero (p ∷ ps) h = absurd (omega arith)
  words_length (suc f) [] h = refl
  words_length (suc f) (p ∷ ps) h =
      let few = fewer (p ∷ ps) (omega arith) in
      let all = sides rs axis tidy (centre_at rs axis (p ∷ ps)) (p ∷ ps) in
      let some = somebody rs axis tidy (p ∷ ps) (omega arith) in
      let l = words_length f (left (p ∷ ps)) (omega (arith, few)) in
      let r = words_length f (right (p ∷ ps)) (omega (arith, few)) in
      let ql = queue_length rs axis End.low (stay (p ∷ ps)) in
      let qh = queue_length rs axis End.high (stay (p ∷ ps)) in
      ap length (block_cons (p ∷ ps) (omega arith)) ∙ simp (length-append, length-replicate) (omega (arith, l, r, ql, qh, all, some))

  pub block_length : (ps : List ℕ) → length (block_words rs axis ps) ≡ 8 * length ps
  block_length ps = words_length (length ps) ps (omega arith)

  alike_length : (ps qs : List ℕ) → ((q : ℕ → Bool) → count q ps ≡ count q qs) → length ps ≡ length qs
  alike_length ps qs h = sym (count_length ps) ∙ h (λ x. true) ∙ count_length qs

  alike_filter : (t : ℕ → Bool) (ps qs : List ℕ) → ((q : ℕ → Bool) → count q ps ≡ count q qs) → (q : ℕ → Bool) → count q (filter t ps) ≡ count q (filter t qs)
  alike_filter t ps qs h q = filter_count q t ps ∙ h (λ x. q x && t x) ∙ sym (filter_count q t qs)

  same_to : (f : ℕ) (ps qs : List ℕ) → length ps ≤ f → ((q : ℕ → Bool) → count q ps ≡ count q qs) → block_words rs axis ps ≡ block_words rs axis qs
  same_to zero [] [] b h = refl
  same_to zero [] (q ∷ qs) b h = absurd (omega (arith, alike_length [] (q ∷ qs) h))
  same_to zero (p ∷ ps) qs b h = absurd (omega arith)
  same_to (suc f) [] [] b h = refl
  same_to (suc f) [] (q ∷ qs) b h = absurd (omega (arith, alike_length [] (q ∷ qs) h))
  same_to (suc f) (p ∷ ps) [] b h = absurd (omega (arith, alike_length (p ∷ ps) [] h))
  same_to (suc f) (p ∷ ps) (q ∷ qs) b h =
      let xs = p ∷ ps in
      let ys = q ∷ qs in
      let few = fewer xs (omega arith) in
      let n : length xs ≡ length ys = alike_length xs ys h in
      let c : centre_at rs axis xs ≡ centre_at rs axis ys =
      ap₂ (λ l i. near_of rs axis (get_or l (i / 2) 0)) (sort_same (by_near rs axis) (near_linear rs axis) xs ys h) n in
      let e = centre_at rs axis xs in
      let s = queue_same rs axis End.low (stays rs axis e xs) (stays rs axis e ys) (alike_filter _ xs ys h) in
      let t = queue_same rs axis End.high (stays rs axis e xs) (stays rs axis e ys) (alike_filter _ xs ys h) in
      let l = same_to f (lefts rs axis e xs) (lefts rs axis e ys) (omega (arith, few)) (alike_filter _ xs ys h) in
      let r = same_to f (rights rs axis e xs) (rights rs axis e ys) (omega (arith, few)) (alike_filter _ xs ys h) in
      let ns = alike_length (stays rs axis e xs) (stays rs axis e ys) (alike_filter _ xs ys h) in
      let nl = alike_length (lefts rs axis e xs) (lefts rs axis e ys) (alike_filter _ xs ys h) in
      let nr = alike_length (rights rs axis e xs) (rights rs axis e ys) (alike_filter _ xs ys h) in
      block_cons xs (omega arith)
      ∙ rw (s, t, l, r, ns, nl, nr)
      (ap (λ z. block_of z (stays rs axis z ys) (lefts rs axis z ys) (rights rs axis z ys)) c)
      ∙ sym (block_cons ys (omega arith))

  pub block_same : (ps qs : List ℕ) → ((q : ℕ → Bool) → count q ps ≡ count q qs) → block_words rs axis ps ≡ block_words rs axis qs
  block_same ps qs h = same_to (length ps) ps qs (omega arith) h
