-- One queue: what it does itself, before its left and its right.
use Rattle.std.specs.Prelude.{◌≡◌, refl, Bool, true, false, not, ◌&&◌, cond, List, [], ◌∷◌, ◌++◌, ℕ, zero, suc, ◌+◌, ◌-◌, ◌*◌, ◌/◌, ◌≤◌, ◌<◌, ltb, ℤ, Option, Some, None, Result, Ok, Err, IsErr, IfOk}
use Rattle.std.proofs.Common.{sym, ap, ap₂, ◌∙◌, arith, ltb-true, ltb-false}
use Rattle.std.specs.Bool.{beq}
use Rattle.std.specs.Int.Signed.{le_z, lt_z}
use Rattle.lists.specs.Plain.{half}
use Rattle.paper.specs.Walk.{Event, due, spoiled, atQueue, as_position, word, record_at, when, condition, in_band, queue_at, queue_walk_to, queue_walk}
use Rattle.paper.specs.declared.Segment.{Segment}
use Rattle.paper.specs.declared.Window.{Window}
use Rattle.axes.specs.Axes.{coordinate_of, end_word, axis_of, end_of, near_is, far_is}
use Rattle.axes.specs.declared.Axis.{Axis}
use Rattle.axes.specs.declared.End.{End}
use Rattle.axes.specs.declared.End.TheVariants.{Low, High}
use Rattle.tally.specs.State.{State, seen, listing, after, after_visit, after_due, after_spoiled, after_stopped, listing_visits}
use Rattle.tally.specs.Reads.{position, is_position, no_position, lt_not}
use Rattle.tally.specs.declared.Spoiled.{Spoiled}
use Rattle.tally.specs.declared.Tally.{Tally}
use Rattle.queues.specs.declared.Band.{Band}
use Rattle.queues.specs.declared.Queue.{Queue}
use Rattle.queues.specs.declared.Head.{Head}

-- ---- the test of a position

-- which queue it is
abbrev pub is_high : End → Bool
is_high Low = false
is_high High = true

same_true : (r : Bool) → beq r true ≡ r
same_true true = refl
same_true false = refl

same_false : (r : Bool) → beq r false ≡ not r
same_false true = refl
same_false false = refl

-- the key reaches the edge or not, as the queue is high or low
pub key_holds : (a : Axis) (edge : ℤ) (end : End) (s : Segment) (r : Bool) → r ≡ le_z edge (coordinate_of (end_word a end) s) → beq r (is_high end) ≡ condition (axis_of a) edge (end_of end) s
key_holds a edge Low s r e = same_false r ∙ ap not e ∙ sym (lt_not _ edge) ∙ ap (λ (z : ℤ). lt_z z edge) (near_is s a)
key_holds a edge High s r e = same_true r ∙ e ∙ ap (le_z edge) (far_is s a)

-- ---- the parts of a queue

abbrev pub left_of : Queue → Queue
left_of q = record { at = q.at + 2; size = q.size / 2 }

abbrev pub right_of : Queue → Queue
right_of q = record { at = q.at + 2 + 2 * (q.size / 2); size = q.size - 1 - q.size / 2 }

-- a queue that the walk goes on to, where it is over some
abbrev pub due_of : Bool → Queue → Option Queue
due_of b q = cond (b && ltb 0 q.size) (Some q) None

abbrev pub size_of : Option Queue → ℕ
size_of None = 0
size_of (Some q) = q.size

abbrev pub of_some : (Queue → List Event) → Option Queue → List Event
of_some f None = []
of_some f (Some q) = f q

-- a part of a queue: it is over some, of at most half as many
abbrev pub Part : Queue → Option Queue → Type 0
Part q None = Unit {0}
Part q (Some p) = (0 < p.size) × (2 * p.size ≤ q.size) × (p.at + 2 * p.size ≤ q.at + 2 * q.size)

due_part : (q p : Queue) → 2 * p.size ≤ q.size → p.at + 2 * p.size ≤ q.at + 2 * q.size → (b : Bool) → Part q (due_of b p)
due_part q p h i false = tt
due_part q p h i true = go (ltb 0 p.size) refl
  where
    go : (t : Bool) → ltb 0 p.size ≡ t → Part q (cond t (Some p) None)
    go true e = (ltb-true 0 p.size e, h, i)
    go false e = tt

pub due_size : (b : Bool) (p : Queue) → size_of (due_of b p) ≤ p.size
due_size false p = omega arith
due_size true p = go (ltb 0 p.size)
  where
    go : (t : Bool) → size_of (cond t (Some p) None) ≤ p.size
    go true = omega arith
    go false = omega arith

-- ---- a queue, for any window: its walk does not look at one
module _ (ws : List ℤ) (n : ℕ) (band : Band) (end : End) where
  abbrev walk_over : Window → (s i : ℕ) → List Event
  walk_over w s i = queue_walk ws n w (axis_of band.axis) band.edge band.low band.high (end_of end) s i

  abbrev pub queue_of : Window → Queue → List Event
  queue_of w q = walk_over w q.size q.at

  abbrev one_queue : Window → (i : ℕ) → (left right : List Event) → List Event
  one_queue w i left right = queue_at ws n w (axis_of band.axis) band.edge band.low band.high (end_of end) i left right

  -- ---- a queue over s is one queue with its left and its right
  module _ (w : Window) where
    abbrev by : (f s i : ℕ) → List Event
    by f s i = queue_walk_to ws n w (axis_of band.axis) band.edge band.low band.high f (end_of end) s i

    none : (f i : ℕ) → by f 0 i ≡ []
    unfolding queue_walk_to
    none zero i = refl
    none (suc f) i = refl

    enough : (f g s i : ℕ) → s ≤ f → s ≤ g → by f s i ≡ by g s i
    unfolding queue_walk_to
    enough zero g zero i a b = sym (none g i)
    enough zero g (suc r) i a b = absurd (omega arith)
    enough (suc f) g zero i a b = sym (none g i)
    enough (suc f) zero (suc r) i a b = absurd (omega arith)
    enough (suc f) (suc g) (suc r) i a b =
        ap₂ (one_queue w i) (enough f g (half r) (i + 2) (omega arith) (omega arith)) (enough f g (r - half r) (i + 2 + 2 * half r) (omega arith) (omega arith))

    parts : (s i : ℕ) → 0 < s → walk_over w s i ≡ one_queue w i (walk_over w (s / 2) (i + 2)) (walk_over w (s - 1 - s / 2) (i + 2 + 2 * (s / 2)))
    unfolding queue_walk_to
    parts zero i h = absurd (omega arith)
    parts (suc r) i h =
        let e : half r ≡ suc r / 2 = omega arith in
        let o : r - half r ≡ suc r - 1 - suc r / 2 = omega arith in
        ap₂ (one_queue w i)
        (enough r (half r) (half r) (i + 2) (omega arith) (omega arith) ∙ ap (λ (k : ℕ). walk_over w k (i + 2)) e)
        (enough r (r - half r) (r - half r) (i + 2 + 2 * half r) (omega arith) (omega arith) ∙ ap₂ (λ (k j : ℕ). walk_over w k (i + 2 + 2 * j)) o e)

    queue_parts : (q : Queue) → 0 < q.size → queue_of w q ≡ one_queue w q.at (queue_of w (left_of q)) (queue_of w (right_of q))
    queue_parts q h = parts q.size q.at h

    pub queue_due : (q : Queue) (b : Bool) → when b (queue_of w q) ≡ of_some (queue_of w) (due_of b q)
    queue_due q false = refl
    queue_due q true = go (ltb 0 q.size) refl
      where
        go : (t : Bool) → ltb 0 q.size ≡ t → queue_of w q ≡ of_some (queue_of w) (cond t (Some q) None)
        go true e = refl
        go false e = let z : q.size ≡ 0 = omega (arith, ltb-false 0 q.size e) in ap (λ (k : ℕ). walk_over w k q.at) z ∙ none 0 q.at

  -- ---- what one queue leaves to do
  module _ (first : ℤ) where
    abbrev onto : (Queue → List Event) → Result Head Spoiled → List ℤ → State
    onto f (Ok h) new = after n first (of_some f h.left ++ of_some f h.right) (Ok h.tally, new)
    onto f (Err x) new = (Err x, new)

    pub record Below (q : Queue) (t : Tally) (h : Head) : Type 0 where
      pub left : Part q h.left
      pub right : Part q h.right
      pub sizes : size_of h.left + size_of h.right < q.size
      pub visits : h.tally.visits ≤ t.visits + 1

    pub record Headed (q : Queue) (t : Tally) (cells : List ℤ) (r : Result Head Spoiled) (new : List ℤ) : Type 0 where
      pub rest : (w : Window) → after n first (queue_of w q) (Ok t, cells) ≡ onto (queue_of w) r new
      pub below : IfOk r (Below q t)

    abbrev holds_at : ℕ → Bool
    holds_at p = condition (axis_of band.axis) band.edge (end_of end) (record_at ws p)

    abbrev band_at : ℕ → Bool
    band_at p = in_band (axis_of band.axis) band.low band.high (record_at ws p)

    module _ (q : Queue) (some : 0 < q.size) (t : Tally) (cells : List ℤ) where
      -- its left and its right, and before them itself, where its condition holds
      abbrev parts_of : Window → List Event
      parts_of w = when (le_z band.low (word ws (q.at + 1))) (queue_of w (left_of q)) ++ when (le_z (word ws (q.at + 1)) band.high) (queue_of w (right_of q))

      abbrev whole_of : Window → ℕ → List Event
      whole_of w p = when (holds_at p) (when (band_at p) (due p ∷ []) ++ parts_of w)

      visited : (w : Window) (es : List Event) → es ≡ as_position n (word ws q.at) (whole_of w) → after n first (queue_of w q) (Ok t, cells) ≡ after n first es (Ok (seen t), cells)
      unfolding queue_at
      visited w es e =
          ap (λ (x : List Event). after n first x (Ok t, cells)) (queue_parts w q some)
          ∙ after_visit n first t cells atQueue q.at _
          ∙ ap (λ (x : List Event). after n first x (Ok (seen t), cells)) (sym e)

      -- its first word is no position
      pub head_spoiled : (x : Spoiled) → position n (word ws q.at) ≡ Err x → (r : Result Head Spoiled) → IsErr r → Headed q t cells r cells
      head_spoiled x e (Ok h) i = cc
      head_spoiled x e (Err y) i = record {
        rest = λ w. visited w (spoiled ∷ []) (sym (no_position n (word ws q.at) (whole_of w) x e)) ∙ after_spoiled n first (seen t) cells;
        below = tt;
      }

      module _ (p : ℕ) (e : position n (word ws q.at) ≡ Ok p) where
        pub head_false : false ≡ holds_at p → Headed q t cells (Ok (record { tally = seen t; left = None; right = None })) cells
        head_false c = record {
          rest = λ w. visited w [] (ap (λ (b : Bool). when b (when (band_at p) (due p ∷ []) ++ parts_of w)) c ∙ sym (is_position n (word ws q.at) (whole_of w) p e));
          below = record { left = tt; right = tt; sizes = some; visits = omega arith };
        }

        module _ (c : true ≡ holds_at p) (l r : Bool) (el : l ≡ le_z band.low (word ws (q.at + 1))) (er : r ≡ le_z (word ws (q.at + 1)) band.high) where
          abbrev headed : Tally → Head
          headed u = record { tally = u; left = due_of l (left_of q); right = due_of r (right_of q) }

          below : (u : Tally) → u.visits ≤ t.visits + 1 → Below q t (headed u)
          below u v = record {
            left = due_part q (left_of q) (omega arith) (omega arith) l;
            right = due_part q (right_of q) (omega arith) (omega arith) r;
            sizes = omega (arith, due_size l (left_of q), due_size r (right_of q));
            visits = v;
          }

          holding : (b : Bool) → b ≡ band_at p → (w : Window) → after n first (queue_of w q) (Ok t, cells)
              ≡ after n first (when b (due p ∷ []) ++ (of_some (queue_of w) (due_of l (left_of q)) ++ of_some (queue_of w) (due_of r (right_of q)))) (Ok (seen t), cells)
          holding b eb w = visited w _
              ((λ k. when (c k) (when (eb k) (due p ∷ []) ++ (when (el k) (queue_of w (left_of q)) ++ when (er k) (queue_of w (right_of q)))))
              ∙ sym (is_position n (word ws q.at) (whole_of w) p e))
              ∙ ap₂ (λ (x y : List Event). after n first (when b (due p ∷ []) ++ (x ++ y)) (Ok (seen t), cells)) (queue_due w (left_of q) l) (queue_due w (right_of q) r)

          pub head_beside : false ≡ band_at p → Headed q t cells (Ok (headed (seen t))) cells
          head_beside b = record { rest = λ w. holding false b w; below = below (seen t) (omega arith) }

          module _ (b : true ≡ band_at p) (new : List ℤ) where
            pub head_due : (u : Tally) → (Ok u, new) ≡ listing n first p (seen t) cells → Headed q t cells (Ok (headed u)) new
            head_due u e = record {
              rest = λ w. holding true b w ∙ after_due n first (seen t) cells p _ ∙ ap (after n first (of_some (queue_of w) (due_of l (left_of q)) ++ of_some (queue_of w) (due_of r (right_of q)))) (sym e);
              below = below u (omega (arith, listing_visits n first (seen t) cells p u new e));
            }

            -- as many are listed as there are
            pub head_full : (x : Spoiled) → (Err x, new) ≡ listing n first p (seen t) cells → (r : Result Head Spoiled) → IsErr r → Headed q t cells r new
            head_full x e (Ok h) i = cc
            head_full x e (Err y) i = record {
              rest = λ w. holding true b w ∙ after_due n first (seen t) cells p _ ∙ ap (after n first (of_some (queue_of w) (due_of l (left_of q)) ++ of_some (queue_of w) (due_of r (right_of q)))) (sym e) ∙ after_stopped n first _ x new;
              below = tt;
            }
