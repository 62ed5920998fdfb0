-- Blocks: one block, and the chain of blocks that a walk goes down.
use Rattle.std.specs.Prelude.{◌≡◌, refl, Bool, true, false, cond, List, [], ◌∷◌, ◌++◌, ℕ, zero, suc, ◌+◌, ◌*◌, ◌^◌, ◌≤◌, ◌<◌, eqb, length, ℤ, pos, Option, Some, None, Result, Ok, Err, IsErr, IfOk}
use Rattle.std.proofs.Common.{sym, ap, ap₂, ◌∙◌, subst, arith, eqb-true}
use Rattle.std.proofs.lemmas.Bool.{eqb-false}
use Rattle.std.specs.Int.Signed.{le_z}
use Rattle.lists.specs.Plain.{to_nat}
use Rattle.paper.specs.Walk.{at_block, Event, visit, word, sound, sizes_fit, block_at, block_walk_to, block_walk}
use Rattle.paper.specs.declared.Window.{Window}
use Rattle.axes.specs.Axes.{axis_of}
use Rattle.axes.specs.declared.End.{End}
use Rattle.axes.specs.declared.End.TheVariants.{Low, High}
use Rattle.tally.specs.State.{State, seen, after, after_end, after_append, after_stopped, after_visit, after_spoiled, Along}
use Rattle.tally.specs.Reads.{or_else, sizes_fit_is, sizes_told}
use Rattle.tally.specs.declared.Spoiled.{Spoiled}
use Rattle.tally.specs.declared.Tally.{Tally}
use Rattle.queues.specs.Queues.{queue_of}
use Rattle.queues.specs.declared.Band.{Band}
use Rattle.queues.specs.declared.Queue.{Queue}
use Rattle.blocks.specs.declared.Block.{Block}
use Rattle.blocks.specs.declared.Sizes.{Sizes}
use Rattle.blocks.specs.declared.Step.{Step}

-- ---- the parts of a block

-- where its low or its high queue stands
abbrev pub place_in : Block → Sizes → End → ℕ
place_in b s Low = b.at + 4
place_in b s High = b.at + 4 + 2 * s.stay

abbrev pub queue_in : Block → Sizes → End → Queue
queue_in b s e = record { at = place_in b s e; size = s.stay }

-- its left or its right block
abbrev pub below_of : Block → Sizes → End → Block
below_of b s Low = record { at = b.at + 8 * s.stay; size = s.left }
below_of b s High = record { at = b.at + 8 * s.stay + 8 * s.left; size = s.right }

-- which of the two is walked
abbrev pub end_at : List ℤ → Band → Block → End
end_at ws band b = cond (le_z band.edge (word ws b.at)) Low High

-- a block, where it is over some
abbrev pub some_of : Block → Option Block
some_of b = cond (eqb b.size 0) None (Some b)

abbrev pub size_of : Option Block → ℕ
size_of None = 0
size_of (Some b) = b.size

some_size : (b : Block) → size_of (some_of b) ≡ b.size
some_size b = go (eqb b.size 0) refl
  where
    go : (t : Bool) → eqb b.size 0 ≡ t → size_of (cond t None (Some b)) ≡ b.size
    go true e = sym (eqb-true b.size 0 e)
    go false e = refl

abbrev pub of_some : (Block → List Event) → Option Block → List Event
of_some f None = []
of_some f (Some b) = f b

-- it is over some, and ends before a word
abbrev pub Ends : ℕ → Option Block → Type 0
Ends k None = Unit {0}
Ends k (Some b) = (0 < b.size) × (b.at + 8 * b.size ≤ k)

some_ends : (k : ℕ) (b : Block) → b.at + 8 * b.size ≤ k → Ends k (some_of b)
some_ends k b h = go (eqb b.size 0) refl
  where
    go : (t : Bool) → eqb b.size 0 ≡ t → Ends k (cond t None (Some b))
    go true e = tt
    go false e = let z : b.size ≡ 0 → ⊥ = eqb-false b.size 0 e in (omega arith, h)

module _ (ws : List ℤ) (b : Block) where
  abbrev pub Unfit : Type 0
  Unfit = sizes_fit b.size (word ws (b.at + 1)) (word ws (b.at + 2)) (word ws (b.at + 3)) ≡ false

  -- what its words say: some stay, and all make up the block
  pub record Fit (s : Sizes) : Type 0 where
    pub stay : word ws (b.at + 1) ≡ pos s.stay
    pub left : word ws (b.at + 2) ≡ pos s.left
    pub right : word ws (b.at + 3) ≡ pos s.right
    pub some : 0 < s.stay
    pub all : s.stay + s.left + s.right ≡ b.size

  module _ (s : Sizes) (f : Fit s) where
    pub fits : sizes_fit b.size (word ws (b.at + 1)) (word ws (b.at + 2)) (word ws (b.at + 3)) ≡ true
    fits = sizes_fit_is b.size s.stay s.left s.right (word ws (b.at + 1)) (word ws (b.at + 2)) (word ws (b.at + 3)) (sym (ap (or_else 0) f.stay)) (sym (ap (or_else (b.size + 1)) f.left)) (sym (ap (or_else (b.size + 1)) f.right)) f.some f.all

-- a window, for the visits of a walk that does not look at one
abbrev none : Window
none = record { a = pos 0; b = pos 0; c = pos 0; d = pos 0 }

-- ---- a block, for any window: its walk does not look at one
module _ (ws : List ℤ) (n : ℕ) (band : Band) where
  abbrev walk_over : Window → (m i : ℕ) → List Event
  walk_over w m i = block_walk ws n w (axis_of band.axis) band.edge band.low band.high m i

  abbrev pub blocks_of : Window → Block → List Event
  blocks_of w b = walk_over w b.size b.at

  abbrev one_block : Window → (m i : ℕ) → (left right : List Event) → List Event
  one_block w m i left right = block_at ws n w (axis_of band.axis) band.edge band.low band.high m i left right

  abbrev low_queue : Window → (s i : ℕ) → List Event
  low_queue w s i = queue_of ws n band Low w (record { at = i + 4; size = s })

  abbrev high_queue : Window → (s i : ℕ) → List Event
  high_queue w s i = queue_of ws n band High w (record { at = i + 4 + 2 * s; size = s })

  abbrev fit : (m i : ℕ) → Bool
  fit m i = sizes_fit m (word ws (i + 1)) (word ws (i + 2)) (word ws (i + 3))

  module _ (w : Window) where
    abbrev by : (f m i : ℕ) → List Event
    by f m i = block_walk_to ws n w (axis_of band.axis) band.edge band.low band.high f m i

    empty : (f i : ℕ) → by f 0 i ≡ []
    unfolding block_walk_to
    empty zero i = refl
    empty (suc f) i = refl

    some_events : (b : Block) → of_some (blocks_of w) (some_of b) ≡ blocks_of w b
    some_events b = go (eqb b.size 0) refl
      where
        go : (t : Bool) → eqb b.size 0 ≡ t → of_some (blocks_of w) (cond t None (Some b)) ≡ blocks_of w b
        go true e = sym (ap (λ (m : ℕ). walk_over w m b.at) (eqb-true b.size 0 e) ∙ empty 0 b.at)
        go false e = refl

    -- what lies below a block matters only where its sizes fit
    below : (m i : ℕ) (x x' y y' : List Event) → (fit m i ≡ true → x ≡ x') → (fit m i ≡ true → y ≡ y') → one_block w m i x y ≡ one_block w m i x' y'
    unfolding block_at
    below m i x x' y y' ex ey = go (fit m i) refl
      where
        s : ℕ
        s = to_nat (word ws (i + 1))

        go : (t : Bool) → fit m i ≡ t
            → visit at_block i ∷ sound t (cond (le_z band.edge (word ws i)) (low_queue w s i ++ x) (high_queue w s i ++ y))
            ≡ visit at_block i ∷ sound t (cond (le_z band.edge (word ws i)) (low_queue w s i ++ x') (high_queue w s i ++ y'))
        go true e = ap₂ (λ (a b : List Event). visit at_block i ∷ cond (le_z band.edge (word ws i)) (low_queue w s i ++ a) (high_queue w s i ++ b)) (ex e) (ey e)
        go false e = refl

    enough : (f g m i : ℕ) → m ≤ f → m ≤ g → by f m i ≡ by g m i
    unfolding block_walk_to
    enough zero g zero i a b = sym (empty g i)
    enough zero g (suc t) i a b = absurd (omega arith)
    enough (suc f) g zero i a b = sym (empty g i)
    enough (suc f) zero (suc t) i a b = absurd (omega arith)
    enough (suc f) (suc g) (suc t) i a b =
        below (suc t) i _ _ _ _
        (λ e. let q = sizes_told (suc t) (word ws (i + 1)) (word ws (i + 2)) (word ws (i + 3)) e in enough f g _ _ (omega arith) (omega arith))
        (λ e. let q = sizes_told (suc t) (word ws (i + 1)) (word ws (i + 2)) (word ws (i + 3)) e in enough f g _ _ (omega arith) (omega arith))

    parts : (m i : ℕ) → 0 < m
        → walk_over w m i ≡ one_block w m i (walk_over w (to_nat (word ws (i + 2))) (i + 8 * to_nat (word ws (i + 1))))
        (walk_over w (to_nat (word ws (i + 3))) (i + 8 * to_nat (word ws (i + 1)) + 8 * to_nat (word ws (i + 2))))
    unfolding block_walk_to
    parts zero i h = absurd (omega arith)
    parts (suc t) i h =
        below (suc t) i _ _ _ _
        (λ e. let q = sizes_told (suc t) (word ws (i + 1)) (word ws (i + 2)) (word ws (i + 3)) e in enough t (to_nat (word ws (i + 2))) _ _ (omega arith) (omega arith))
        (λ e. let q = sizes_told (suc t) (word ws (i + 1)) (word ws (i + 2)) (word ws (i + 3)) e in enough t (to_nat (word ws (i + 3))) _ _ (omega arith) (omega arith))

  -- ---- what one block leaves to do
  module _ (first : ℤ) where
    abbrev onto : (Block → List Event) → Result Step Spoiled → List ℤ → State
    onto f (Ok s) new = after n first (of_some f s.next) (Ok s.tally, new)
    onto f (Err x) new = (Err x, new)

    pub record Below (b : Block) (t : Tally) (s : Step) : Type 0 where
      pub ends : Ends (b.at + 8 * b.size) s.next
      pub less : size_of s.next < b.size
      pub visits : s.tally.visits + 2 * size_of s.next ≤ t.visits + 2 * b.size

    pub record Stepped (b : Block) (t : Tally) (cells : List ℤ) (r : Result Step Spoiled) (new : List ℤ) : Type 0 where
      pub rest : (w : Window) → after n first (blocks_of w b) (Ok t, cells) ≡ onto (blocks_of w) r new
      pub below : IfOk r (Below b t)

    module _ (b : Block) (some : 0 < b.size) (t : Tally) (cells : List ℤ) where
      opened : (w : Window) → after n first (blocks_of w b) (Ok t, cells)
          ≡ after n first
          (sound (fit b.size b.at) (cond (le_z band.edge (word ws b.at))
          (low_queue w (to_nat (word ws (b.at + 1))) b.at ++ walk_over w (to_nat (word ws (b.at + 2))) (b.at + 8 * to_nat (word ws (b.at + 1))))
          (high_queue w (to_nat (word ws (b.at + 1))) b.at
          ++ walk_over w (to_nat (word ws (b.at + 3))) (b.at + 8 * to_nat (word ws (b.at + 1)) + 8 * to_nat (word ws (b.at + 2))))))
          (Ok (seen t), cells)
      unfolding block_at
      opened w = ap (λ (es : List Event). after n first es (Ok t, cells)) (parts w b.size b.at some) ∙ after_visit n first t cells at_block b.at _

      -- its sizes are not those of a block
      pub block_spoiled : Unfit ws b → (r : Result Step Spoiled) → IsErr r → Stepped b t cells r cells
      block_spoiled e (Ok s) i = cc
      block_spoiled e (Err y) i = record { rest = λ w. opened w ∙ rw e (after_spoiled n first (seen t) cells); below = tt }

      module _ (s : Sizes) (f : Fit ws b s) where
        turned : (w : Window) → after n first (blocks_of w b) (Ok t, cells)
            ≡ after n first (cond (le_z band.edge (word ws b.at)) (low_queue w s.stay b.at ++ blocks_of w (below_of b s Low)) (high_queue w s.stay b.at ++ blocks_of w (below_of b s High))) (Ok (seen t), cells)
        turned w =
            opened w
            ∙ (λ k. after n first
            (sound (fits ws b s f k) (cond (le_z band.edge (word ws b.at))
            (low_queue w (to_nat (f.stay k)) b.at ++ walk_over w (to_nat (f.left k)) (b.at + 8 * to_nat (f.stay k)))
            (high_queue w (to_nat (f.stay k)) b.at ++ walk_over w (to_nat (f.right k)) (b.at + 8 * to_nat (f.stay k) + 8 * to_nat (f.left k)))))
            (Ok (seen t), cells))

        by_end : (w : Window) (e : End) → e ≡ end_at ws band b → after n first (blocks_of w b) (Ok t, cells)
            ≡ after n first (queue_of ws n band e w (queue_in b s e) ++ blocks_of w (below_of b s e)) (Ok (seen t), cells)
        by_end w e q = turned w ∙ rw q (go (le_z band.edge (word ws b.at)))
          where
            go : (c : Bool) → after n first (cond c (low_queue w s.stay b.at ++ blocks_of w (below_of b s Low)) (high_queue w s.stay b.at ++ blocks_of w (below_of b s High))) (Ok (seen t), cells)
                ≡ after n first (queue_of ws n band (cond c Low High) w (queue_in b s (cond c Low High)) ++ blocks_of w (below_of b s (cond c Low High))) (Ok (seen t), cells)
            go true = refl
            go false = refl

        below_ends : (e : End) → (below_of b s e).at + 8 * (below_of b s e).size ≤ b.at + 8 * b.size
        below_ends Low = omega (arith, f.all)
        below_ends High = omega (arith, f.all)

        below_less : (e : End) → (below_of b s e).size + s.stay ≤ b.size
        below_less Low = omega (arith, f.all)
        below_less High = omega (arith, f.all)

        -- after its queue, low or high
        module _ (e : End) (turn : e ≡ end_at ws band b) (r : Result Tally Spoiled) (new : List ℤ) (q : (w : Window) → Along n first (queue_of ws n band e w (queue_in b s e)) s.stay (seen t) cells r new) where
          queued : (w : Window) → after n first (blocks_of w b) (Ok t, cells) ≡ after n first (blocks_of w (below_of b s e)) (r, new)
          queued w =
              by_end w e turn
              ∙ after_append n first (queue_of ws n band e w (queue_in b s e)) (blocks_of w (below_of b s e)) (Ok (seen t), cells)
              ∙ ap (after n first (blocks_of w (below_of b s e))) (sym (q w).came)

          pub block_cut : (y : Spoiled) → r ≡ Err y → (r' : Result Step Spoiled) → IsErr r' → Stepped b t cells r' new
          block_cut y d (Ok h) i = cc
          block_cut y d (Err z) i = record {
            rest = λ w. queued w ∙ ap (λ (x : Result Tally Spoiled). after n first (blocks_of w (below_of b s e)) (x, new)) d ∙ after_stopped n first _ y new;
            below = tt;
          }

          pub block_next : (u : Tally) → r ≡ Ok u → Stepped b t cells (Ok (record { tally = u; next = some_of (below_of b s e) })) new
          block_next u d = record {
            rest = λ w. queued w
                ∙ ap (λ (x : Result Tally Spoiled). after n first (blocks_of w (below_of b s e)) (x, new)) d
                ∙ ap (λ (es : List Event). after n first es (Ok u, new)) (sym (some_events w (below_of b s e)));
            below = record {
              ends = some_ends _ (below_of b s e) (below_ends e);
              less = omega (arith, some_size (below_of b s e), below_less e, f.some);
              visits =
                  let v : u.visits ≤ t.visits + 1 + s.stay = subst (λ (x : Result Tally Spoiled). IfOk x (λ (y : Tally). y.visits ≤ t.visits + 1 + s.stay)) d (q none).visits in
                  omega (arith, v, some_size (below_of b s e), below_less e, f.some);
            };
          }

    -- ---- the chain: what is left of the walk does what the whole of it does
    module _ (b₀ : Block) (t₀ : Tally) (cells₀ : List ℤ) where
      pub record Chain (o : Option Block) (t : Tally) (cells : List ℤ) : Type 0 where
        pub rest : (w : Window) → after n first (blocks_of w b₀) (Ok t₀, cells₀) ≡ after n first (of_some (blocks_of w) o) (Ok t, cells)
        pub inside : Ends (length ws) o
        pub visits : t.visits + 2 * size_of o ≤ t₀.visits + 2 * b₀.size
        pub few : t₀.visits + 2 * b₀.size < 2 ^ 20

      pub chain_start : (o : Option Block) → o ≡ some_of b₀ → b₀.at + 8 * b₀.size ≤ length ws → t₀.visits + 2 * b₀.size < 2 ^ 20 → Chain o t₀ cells₀
      chain_start o e h v = rw e (record {
        rest = λ w. ap (λ (es : List Event). after n first es (Ok t₀, cells₀)) (sym (some_events w b₀));
        inside = some_ends (length ws) b₀ h;
        visits = omega (arith, some_size b₀);
        few = v;
      })

      module _ (o : Option Block) (t : Tally) (cells : List ℤ) (x : Chain o t cells) where
        pub chain_end : o ≡ None → (w : Window) → Along n first (blocks_of w b₀) (2 * b₀.size) t₀ cells₀ (Ok t) cells
        chain_end e w = record {
          came = sym (x.rest w ∙ ap (λ (q : Option Block). after n first (of_some (blocks_of w) q) (Ok t, cells)) e ∙ after_end n first (Ok t, cells));
          visits = omega (arith, x.visits);
        }

        module _ (b : Block) (e : o ≡ Some b) where
          pub chain_inside : (0 < b.size) × (b.at + 8 * b.size ≤ length ws)
          chain_inside = subst (Ends (length ws)) e x.inside

          pub chain_few : t.visits + 2 * b.size < 2 ^ 20
          chain_few = omega (arith, x.visits, x.few, ap size_of e)

          module _ (r : Result Step Spoiled) (new : List ℤ) (h : Stepped b t cells r new) where
            entered : (w : Window) → after n first (blocks_of w b₀) (Ok t₀, cells₀) ≡ onto (blocks_of w) r new
            entered w = x.rest w ∙ ap (λ (q : Option Block). after n first (of_some (blocks_of w) q) (Ok t, cells)) e ∙ h.rest w

            pub chain_cut : (y : Spoiled) → r ≡ Err y → (r' : Result Tally Spoiled) → IsErr r' → (w : Window) → Along n first (blocks_of w b₀) (2 * b₀.size) t₀ cells₀ r' new
            chain_cut y d (Ok u) i w = absurd (cc)
            chain_cut y d (Err z) i w = record { came = sym (entered w ∙ ap (λ (q : Result Step Spoiled). onto (blocks_of w) q new) d); visits = tt }

            module _ (s : Step) (d : r ≡ Ok s) where
              told : Below b t s
              told = subst (λ (q : Result Step Spoiled). IfOk q (Below b t)) d h.below

              pub chain_step : Chain s.next s.tally new
              chain_step = record {
                rest = λ w. entered w ∙ ap (λ (q : Result Step Spoiled). onto (blocks_of w) q new) d;
                inside = ends_more s.next told.ends;
                visits = omega (arith, told.visits, x.visits, ap size_of e);
                few = x.few;
              }
                where
                  ends_more : (q : Option Block) → Ends (b.at + 8 * b.size) q → Ends (length ws) q
                  ends_more None g = tt
                  ends_more (Some p) g = (g.0, omega (arith, g.1, chain_inside.1))

              pub chain_less : size_of s.next < size_of o
              chain_less = omega (arith, told.less, ap size_of e)
