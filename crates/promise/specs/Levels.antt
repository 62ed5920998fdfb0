-- The search and the node walk over the levels' words: they are those over the lists, and no word that they read is spoiled.
-- Use: `search_walk`, then `node_walk_is` from the root; both ask that the levels' words and the records stand at their places. Assumes nothing else.
use Rattle.std.specs.Prelude.{◌≡◌, Bool, not, ◌&&◌, ◌||◌, drop, ℤ, ltb, eqb}
use Rattle.std.proofs.Math.Path.{refl, ap, ap₂, subst}
use Rattle.std.proofs.Common.{sym, ◌∙◌, add-zero, eqb→eq}
use mathlib.Core.List.{List, [], ◌∷◌, ◌++◌}
use Rattle.std.proofs.Math.Bool.{true, false, cond}
use Prim.Native.Nat.{ℕ, zero, suc, ◌+◌, ◌-◌, ◌*◌, ◌/◌, ◌^◌, ◌≤◌, ◌<◌}
use Rattle.std.proofs.Math.Nat.{two-pow-succ}
use native.Mathlib.Omega.{arith}
use Rattle.std.proofs.Math.ListN.{length, get_or, length-drop}
use Rattle.std.proofs.Math.IntN.{pos}
use Rattle.std.specs.Int.Signed.{le_z, lt_z}
use Rattle.std.proofs.Math.Dec.{T}
use Rattle.lists.specs.Plain.{half, first_half, second_half, count, by}
use Rattle.lists.specs.Tests.{cases}
use Rattle.lists.specs.Every.{All, all_take, all_drop, all_get_d}
use Rattle.lists.specs.Counting.{count_nil, count_cons}
use Rattle.lists.specs.Positions.{positions_below}
use Rattle.lists.specs.Sorting.{sort_all}
use Rattle.lists.specs.Halves.{first_length, second_length}
use Rattle.lists.specs.Searching.{found, looks, unequal}
use Rattle.paper.specs.Descriptor.{at}
use Rattle.paper.specs.Words.{D, levels_at, low_y, x_order, count_at, nodes, slots, levels_words}
use Rattle.paper.specs.Walk.{Kind, atSearch, atNode, atSlot, Event, visit, due, when, as_count, word, record_at, search_to, slots_walk, by_ends, count_word, node_at, node_walk}
use Rattle.paper.specs.declared.Segment.{Segment}
use Rattle.paper.specs.declared.Window.{Window}
use Rattle.promise.specs.Places.{At, as_words, at_get, at_drop, at_number}
use Rattle.promise.specs.Events.{position_read, count_read}
use Rattle.promise.specs.Nodes.{Stands, root_stands, left_stands, right_stands, order_length, slots_length, slots_at, counts_at, run_at}
use Rattle.promise.specs.Tree.{first_x, last_x, left_of, slot_events, events, Run, left_run, right_run, wide, left_full, left_sound}

pub order_below : (rs : List Segment) → All (λ p. p < length rs) (x_order rs)
order_below rs = sort_all _ (positions_below (length rs) (length rs) (omega arith))

-- a node's events differ at most in what lies below it, and only where the node is neither outside nor inside
below_alike : (w : Window) (x y : ℤ) (A B C : List Event)
    → (T (not (lt_z y w.a || lt_z w.b x)) → T (not (le_z w.a x && le_z y w.b)) → B ≡ C) → by_ends w x y A B ≡ by_ends w x y A C
below_alike w x y A B C h = go (lt_z y w.a || lt_z w.b x) (le_z w.a x && le_z y w.b) h
  where
    go : (o n : Bool) → (T (not o) → T (not n) → B ≡ C) → when (not o) (cond n A B) ≡ when (not o) (cond n A C)
    go true n h = refl
    go false true h = refl
    go false false h = h tt tt

-- ---- the search over the slots of level 0
module _ (rs : List Segment) (w : Window) where
  abbrev pub up : ℕ → Bool
  up i = le_z w.c (low_y rs (get_or (slots rs (x_order rs)) i 0))

  unfoldable pub search_events : ℕ → (lo hi : ℕ) → List Event
  search_events zero lo hi = []
  search_events (suc f) lo hi =
      let mid = (lo + hi) / 2 in
      cond (eqb lo hi) [] (visit atSearch (levels_at (length rs) + mid) ∷ cond (up mid) (search_events f lo mid) (search_events f (suc mid) hi))

  -- it visits and does nothing else: one for each look
  pub search_tally : (q : Event → Bool) (b : Bool) → ((k : Kind) (i : ℕ) → q (visit k i) ≡ b) → (f lo hi : ℕ) → count q (search_events f lo hi) ≡ cond b (looks up f lo hi) 0
  unfolding search_events looks
  search_tally q true h zero lo hi = count_nil q
  search_tally q false h zero lo hi = count_nil q
  search_tally q b h (suc f) lo hi =
      let mid = (lo + hi) / 2 in
      go b (search_events f lo mid) (search_events f (suc mid) hi) (looks up f lo mid) (looks up f (suc mid) hi) (eqb lo hi) (up mid) (h atSearch (levels_at (length rs) + mid))
      (search_tally q b h f lo mid) (search_tally q b h f (suc mid) hi)
    where
      go : (b : Bool) (A B : List Event) (j k : ℕ) (e u : Bool) → q (visit atSearch (levels_at (length rs) + (lo + hi) / 2)) ≡ b → count q A ≡ cond b j 0 → count q B ≡ cond b k 0
          → count q (cond e [] (visit atSearch (levels_at (length rs) + (lo + hi) / 2) ∷ cond u A B)) ≡ cond b (cond e 0 (suc (cond u j k))) 0
      go true A B j k true u h f g = count_nil q
      go true A B j k false true h f g = rw (count_cons q, h) (omega (arith, f))
      go true A B j k false false h f g = rw (count_cons q, h) (omega (arith, g))
      go false A B j k true u h f g = count_nil q
      go false A B j k false true h f g = rw (count_cons q, h) (omega (arith, f))
      go false A B j k false false h f g = rw (count_cons q, h) (omega (arith, g))

-- ---- the words are read as the lists say
module _ (rs : List Segment) (w : Window) (ws : List ℤ) (reads : (p : ℕ) → p < length rs → record_at ws p ≡ at rs p) (stand : At ws (levels_at (length rs)) (levels_words rs)) where
  abbrev n : ℕ
  n = length rs

  abbrev place : ℕ → ℕ
  place k = levels_at n + 2 * n * k

  root_at : At ws (levels_at n) (as_words (slots rs (x_order rs)))
  root_at =
      let e : place 0 + 0 ≡ levels_at n = omega arith in
      subst (λ (i : ℕ). At ws i (as_words (slots rs (x_order rs)))) e (slots_at rs ws stand 0 0 (x_order rs) (omega arith) (root_stands rs))

  pub search_walk : (next : ℕ → List Event) (f lo hi : ℕ) → lo ≤ hi → hi ≤ n → search_to ws n w f lo hi next ≡ search_events rs w f lo hi ++ next (found (up rs w) f lo hi)
  unfolding search_to search_events found
  search_walk next zero lo hi l h = refl
  search_walk next (suc f) lo hi l h =
      let mid = (lo + hi) / 2 in
      let q = get_or (slots rs (x_order rs)) mid 0 in
      let size : length (slots rs (x_order rs)) ≡ n = slots_length rs (x_order rs) ∙ order_length rs in
      step (eqb lo hi) (up rs w mid) (visit atSearch (levels_at n + mid)) _ (search_to ws n w f lo mid next) (search_to ws n w f (mid + 1) hi next)
      (search_events rs w f lo mid) (search_events rs w f (suc mid) hi) lo (found (up rs w) f lo mid) (found (up rs w) f (suc mid) hi)
      (λ t.
      let ne = unequal (λ x. true) lo hi t in
      let g : q < n = all_get_d mid 0 (omega arith) (sort_all (by (low_y rs) ltb) (order_below rs)) in
      position_read n (word ws (levels_at n + mid)) q _ (at_get ws (levels_at n) (slots rs (x_order rs)) mid 0 (omega arith) root_at) g
      ∙ ap (λ (s : Segment). cond (le_z w.c s.y1) (search_to ws n w f lo mid next) (search_to ws n w f (mid + 1) hi next)) (reads q g))
      (λ t u. let ne = unequal (λ x. true) lo hi t in search_walk next f lo mid (omega arith) (omega arith))
      (λ t u.
      let ne = unequal (λ x. true) lo hi t in
      let e : suc mid ≡ mid + 1 = omega arith in
      subst (λ (m : ℕ). search_to ws n w f m hi next ≡ search_events rs w f (suc mid) hi ++ next (found (up rs w) f (suc mid) hi)) e (search_walk next f (suc mid) hi (omega arith) h))
    where
      step : (e u : Bool) (v : Event) (A A1 A2 B1 B2 : List Event) (lo n1 n2 : ℕ) → (T (not e) → A ≡ cond u A1 A2)
          → (T (not e) → T u → A1 ≡ B1 ++ next n1) → (T (not e) → T (not u) → A2 ≡ B2 ++ next n2)
          → cond e (next lo) (v ∷ A) ≡ cond e [] (v ∷ cond u B1 B2) ++ next (cond e lo (cond u n1 n2))
      step true u v A A1 A2 B1 B2 lo n1 n2 h f g = refl
      step false true v A A1 A2 B1 B2 lo n1 n2 h f g = ap (λ (es : List Event). v ∷ es) (h tt ∙ f tt tt)
      step false false v A A1 A2 B1 B2 lo n1 n2 h f g = ap (λ (es : List Event). v ∷ es) (h tt ∙ g tt tt)

  slots_walk_is : (l : List ℕ) (i : ℕ) → All (λ p. p < n) l → At ws i (as_words l) → slots_walk ws n w (length l) i ≡ slot_events rs w l i
  unfolding slots_walk slot_events
  slots_walk_is [] i h a = refl
  slots_walk_is (q ∷ l) i (All.also g h) a =
      let e : suc i ≡ i + 1 = omega arith in
      ap (λ (es : List Event). visit atSlot i ∷ es)
      (position_read n (word ws i) q _ a.0 g
      ∙ ap₂ (λ (s : Segment) (es : List Event). when (le_z s.y1 w.d) (due q ∷ es)) (reads q g) (slots_walk_is l (i + 1) h (rw e at a.1)))

  -- one node, with z the place of its run on the last level; B is what lies below it
  at_node : (r : List ℕ) (p i z : ℕ) (left right : ℕ → List Event) (B : List Event) → Run rs w r → All (λ q. q < n) r → p ≤ length r
      → At ws z (as_words r) → At ws i (as_words (slots rs r))
      → (T (not (lt_z (last_x rs w r) w.a || lt_z w.b (first_x rs w r))) → T (not (le_z w.a (first_x rs w r) && le_z (last_x rs w r) w.b))
      → as_count p (half (length r)) (length r - half (length r)) (count_word ws n (length r) p i) (λ k. left k ++ right (p - k)) ≡ B)
      → node_at ws n w (length r) p i z left right ≡ visit atNode i ∷ by_ends w (first_x rs w r) (last_x rs w r) (slot_events rs w (drop p (slots rs r)) (i + p)) B
  unfolding node_at
  at_node r p i z left right B v a hp az ai below =
      let some = v.some in
      let f = get_or r 0 0 in
      let l = get_or r (length r - 1) 0 in
      let gf : f < n = all_get_d 0 0 (omega arith) a in
      let gl : l < n = all_get_d (length r - 1) 0 (omega arith) a in
      let z1 : z + (length r - 1) ≡ z + length r - 1 = omega arith in
      let wf : word ws z ≡ pos f = rw (add-zero z) at (at_get ws z r 0 0 (omega arith) az) in
      let wl : word ws (z + length r - 1) ≡ pos l = rw z1 at (at_get ws z r (length r - 1) 0 (omega arith) az) in
      let rest : length (drop p (slots rs r)) ≡ length r - p = length-drop p (slots rs r) ∙ ap (λ (k : ℕ). k - p) (slots_length rs r) in
      let fits : p ≤ length (slots rs r) = omega (arith, slots_length rs r) in
      let sw = slots_walk_is (drop p (slots rs r)) (i + p) (all_drop p (sort_all (by (low_y rs) ltb) a)) (at_drop ws i p (slots rs r) fits ai) in
      let sw2 : slots_walk ws n w (length r - p) (i + p) ≡ slot_events rs w (drop p (slots rs r)) (i + p) = rw rest at sw in
      let below-words = as_count p (half (length r)) (length r - half (length r)) (count_word ws n (length r) p i) (λ k. left k ++ right (p - k)) in
      let slot-words = slots_walk ws n w (length r - p) (i + p) in
      ap (λ (es : List Event). visit atNode i ∷ es)
      (position_read n (word ws z) f _ wf gf
      ∙ position_read n (word ws (z + length r - 1)) l _ wl gl
      ∙ ap₂ (λ (s t : Segment). by_ends w s.x1 t.x1 slot-words below-words) (reads f gf) (reads l gl)
      ∙ below_alike w (first_x rs w r) (last_x rs w r) slot-words below-words B below
      ∙ ap (λ (A : List Event). by_ends w (first_x rs w r) (last_x rs w r) A B) sw2)

  -- the word that says how many go left
  count_word_is : (k o : ℕ) (r : List ℕ) (p : ℕ) → k < D n → Stands (nodes rs k) o r → Run rs w r → p ≤ length r → count_word ws n (length r) p (place k + o) ≡ pos (left_of rs w r p)
  count_word_is k o r p h s v hp =
      cases (λ z. z ≡ pos (left_of rs w r p)) (eqb p (length r)) _ _
      (λ t. ap (λ (x : ℕ). pos x) (sym (left_full rs w v) ∙ ap (λ (x : ℕ). left_of rs w r x) (sym (eqb→eq p (length r) t))))
      (λ t.
      let ne = unequal (λ x. true) p (length r) t in
      let e : place k + n + o + p ≡ place k + o + n + p = omega arith in
      subst (λ (x : ℕ). word ws x ≡ pos (left_of rs w r p)) e (at_number ws (count_at rs r) (length r) (place k + n + o) p (omega arith) (counts_at rs ws stand k o r h s)))

  -- the same at another name of the place and of the size
  pub moved : (levels : ℕ) (r : List ℕ) (p : ℕ) {i j m : ℕ} → i ≡ j → length r ≡ m → node_walk ws n w levels (length r) p i ≡ events rs w (suc levels) r p i
      → node_walk ws n w levels m p j ≡ events rs w (suc levels) r p j
  moved levels r p {i} {j} {m} ei em h =
      subst (λ (x : ℕ). node_walk ws n w levels x p j ≡ events rs w (suc levels) r p j) em
      (subst (λ (x : ℕ). node_walk ws n w levels (length r) p x ≡ events rs w (suc levels) r p x) ei h)

  -- a node of level k with `levels` below it
  pub node_walk_is : (levels k o : ℕ) (r : List ℕ) (p : ℕ) → suc (k + levels) ≡ D n → Stands (nodes rs k) o r → Run rs w r → length r ≤ 2 ^ levels → All (λ q. q < n) r → p ≤ length r
      → node_walk ws n w levels (length r) p (place k + o) ≡ events rs w (suc levels) r p (place k + o)
  unfolding node_walk events
  node_walk_is zero k o r p e s v d a hp =
      let i = place k + o in
      at_node r p i i (λ k. []) (λ k. []) [] v a hp (run_at rs ws stand k o r k (omega arith) s) (slots_at rs ws stand k o r (omega arith) s)
      (λ t u. absurd (omega (arith, wide rs w v t u)))
  node_walk_is (suc levels) k o r p e s v d a hp =
      let i = place k + o in
      let m = half (length r) in
      let oz : place (k + suc levels) + o ≡ i + 2 * n * suc levels = omega arith in
      let ol : place (suc k) + o ≡ i + 2 * n = omega arith in
      let or : place (suc k) + (o + m) ≡ i + 2 * n + m = omega arith in
      let az = subst (λ (z : ℕ). At ws z (as_words r)) oz (run_at rs ws stand k o r (k + suc levels) (omega arith) s) in
      at_node r p i (i + 2 * n * suc levels) _ _ _ v a hp az (slots_at rs ws stand k o r (omega arith) s)
      (λ t u.
      let two = wide rs w v t u in
      let ok = left_sound rs w p v hp in
      let lf = first_length r in
      let ls = second_length r in
      let goes = left_of rs w r p in
      let il =
      node_walk_is levels (suc k) o (first_half r) goes (omega arith) (left_stands rs k o r two s) (left_run rs w two v) (omega (arith, two-pow-succ levels)) (all_take m a) (omega (arith, ok.1.0)) in
      let ir =
      node_walk_is levels (suc k) (o + m) (second_half r) (p - goes) (omega arith) (right_stands rs k o r two s) (right_run rs w two v) (omega (arith, two-pow-succ levels)) (all_drop m a) (omega (arith, ok.1.1)) in
      count_read p m (length r - m) _ (left_of rs w r p) _ (count_word_is k o r p (omega arith) s v hp) ok.0 ok.1.0 ok.1.1
      ∙ ap₂ (λ (x y : List Event). x ++ y) (moved levels (first_half r) (left_of rs w r p) ol lf il) (moved levels (second_half r) (p - left_of rs w r p) or ls ir))
