-- The whole walk from its groups.
use Rattle.std.specs.Prelude.{◌≡◌, refl, Bool, not, List, [], ◌∷◌, ◌++◌, ℕ, zero, suc, ◌+◌, ◌-◌, ◌*◌, ◌^◌, ◌≤◌, ◌<◌, length, get_or, ℤ, Result, Ok, Err, IsErr, IfOk}
use Rattle.std.proofs.Common.{sym, ap, ◌∙◌, subst, arith, mul-suc, eq-eqb, ne_eqb}
use Rattle.paper.specs.Words.{L, D, levels_at, blocks_at}
use Rattle.paper.specs.Walk.{Event, word, when, search, node_walk, size_in, walk, walk_of}
use Rattle.paper.specs.declared.Window.{Window}
use Rattle.axes.specs.declared.Axis.{Axis}
use Rattle.axes.specs.declared.Axis.TheVariants.{Horizontal, Vertical}
use Rattle.tally.specs.State.{State, after, after_end, after_append, after_stopped, Along}
use Rattle.tally.specs.Fold.{tally, Given, given_after}
use Rattle.tally.specs.declared.Spoiled.{Spoiled}
use Rattle.tally.specs.declared.Tally.{Tally}
use Rattle.queues.specs.declared.Band.{Band}
use Rattle.blocks.specs.Blocks.{blocks_of}
use Rattle.slots.specs.declared.Found.{Found}
use Rattle.slots.specs.Search.{Searched, SearchCut}
use Rattle.nodes.specs.Nodes.{Deep, node_events}
use Rattle.nodes.specs.declared.Node.{Node}
use Rattle.walk.specs.Header.{along_in, Sound, levels_enough}

-- what is looked for along an axis
abbrev pub band_of : Window → Axis → Band
band_of w Horizontal = record { axis = Horizontal; edge = w.a; low = w.c; high = w.d }
band_of w Vertical = record { axis = Vertical; edge = w.c; low = w.a; high = w.b }

-- a tally of which each part is 0
pub none_yet : (t : Tally) → (t.listed ≡ 0) × (t.visits ≡ 0) → t ≡ tally 0 0
none_yet t h = λ i. record { listed = h.0 i; visits = h.1 i }

module _ (ws : List ℤ) (w : Window) where
  abbrev n : ℕ
  n = size_in ws

  abbrev first : ℤ
  first = word ws 1

  abbrev does : List Event → State → State
  does es s = after n first es s

  abbrev nodes_from : ℕ → List Event
  nodes_from p = node_walk ws n w (D n - 1) n p (levels_at n)

  abbrev start : List ℤ → State
  start cells = (Ok (tally 0 0), cells)

  -- ---- the low ends, before whatever follows them
  pub record LowEnds (cells : List ℤ) (r : Result Tally Spoiled) (new : List ℤ) : Type 0 where
    pub rest : (x : List Event) → does (search ws n w (λ p. nodes_from p ++ x)) (start cells) ≡ does x (r, new)
    pub visits : IfOk r (λ t. t.visits ≤ 4 * n)

  -- the node of all, from slot p on, with the levels that the code counts
  abbrev pub whole_from : (k p : ℕ) → Node
  whole_from k p = record { levels = k; size = n; p = p; at = levels_at n }

  pub levels_there : Sound ws → 0 < n → (p : ℕ) → p ≤ n → Deep ws n (whole_from (L (n - 1)) p)
  levels_there s z p h = record {
    some = z;
    tall = levels_enough ws s;
    from = h;
    inside =
        let e : D n ≡ suc (L (n - 1)) = omega arith in
        omega (arith, s.words, ap (λ (k : ℕ). 2 * n * k) e, mul-suc (2 * n) (L (n - 1)));
  }

  -- the search read a spoiled word
  pub low_ends_cut : (cells : List ℤ) → SearchCut ws n w (tally 0 0) → (r : Result Tally Spoiled) → IsErr r → LowEnds cells r cells
  low_ends_cut cells s (Ok t) i = cc
  low_ends_cut cells s (Err y) i = record {
    rest = λ x. s.rest first (λ p. nodes_from p ++ x) cells ∙ sym (after_stopped n first x y cells);
    visits = tt;
  }

  -- the nodes from the slot found
  pub low_ends_found : (cells : List ℤ) (f : Found) → Searched ws n w (tally 0 0) f → (r : Result Tally Spoiled) (new : List ℤ)
      → Along n first (node_events ws n w (whole_from (L (n - 1)) f.p)) (3 * n) f.tally cells r new → LowEnds cells r new
  low_ends_found cells f s r new a = record {
    rest = λ x.
        s.rest first (λ p. nodes_from p ++ x) cells
        ∙ ap (λ (k : ℕ). does (node_walk ws n w k n f.p (levels_at n) ++ x) (Ok f.tally, cells)) depth
        ∙ after_append n first (node_events ws n w (whole_from (L (n - 1)) f.p)) x (Ok f.tally, cells)
        ∙ ap (does x) (sym a.came);
    visits = few r a.visits;
  }
    where
      depth : D n - 1 ≡ L (n - 1)
      depth = omega arith

      few : (q : Result Tally Spoiled) → IfOk q (λ t. t.visits ≤ f.tally.visits + 3 * n) → IfOk q (λ t. t.visits ≤ 4 * n)
      few (Ok t) h = omega (arith, s.visits)
      few (Err y) h = tt

  -- ---- the horizontals and the verticals
  abbrev blocks_along : Axis → ℕ → List Event
  blocks_along axis at = blocks_of ws n (band_of w axis) w (record { at = at; size = along_in ws axis })

  abbrev across : List Event
  across = blocks_along Horizontal (blocks_at n)

  abbrev upright : List Event
  upright = blocks_along Vertical (blocks_at n + 8 * along_in ws Horizontal)

  abbrev pub Crossed : Tally → List ℤ → Result Tally Spoiled → List ℤ → Type 0
  Crossed t cells r new = Along n first (across ++ upright) (2 * n) t cells r new

  -- the loop over the axes: from one on, the events, where they begin, and over how many they are
  abbrev blocks_from : ℕ → List Event
  blocks_from zero = across ++ upright
  blocks_from (suc zero) = upright
  blocks_from (suc (suc k)) = []

  abbrev place_from : ℕ → ℕ
  place_from zero = blocks_at n
  place_from (suc zero) = blocks_at n + 8 * along_in ws Horizontal
  place_from (suc (suc k)) = blocks_at n + 8 * along_in ws Horizontal + 8 * along_in ws Vertical

  abbrev over_from : ℕ → ℕ
  over_from zero = along_in ws Horizontal + along_in ws Vertical
  over_from (suc zero) = along_in ws Vertical
  over_from (suc (suc k)) = 0

  abbrev axis_at : ℕ → Axis
  axis_at k = get_or (Horizontal ∷ Vertical ∷ []) k Horizontal

  module _ (t₀ : Tally) (cells₀ : List ℤ) where
    pub record Crossing (k at : ℕ) (t : Tally) (cells : List ℤ) : Type 0 where
      pub rest : does (across ++ upright) (Ok t₀, cells₀) ≡ does (blocks_from k) (Ok t, cells)
      pub place : at ≡ place_from k
      pub visits : t.visits + 2 * over_from k ≤ t₀.visits + 2 * n

    pub crossing_start : Sound ws → (at : ℕ) → at ≡ blocks_at n → Crossing 0 at t₀ cells₀
    crossing_start sound at e = record { rest = refl; place = e; visits = omega (arith, sound.counts) }

    pub crossing_end : (k at : ℕ) (t : Tally) (cells : List ℤ) → Crossing k at t cells → 2 ≤ k → Crossed t₀ cells₀ (Ok t) cells
    crossing_end zero at t cells x h = absurd (omega arith)
    crossing_end (suc zero) at t cells x h = absurd (omega arith)
    crossing_end (suc (suc k)) at t cells x h = record { came = sym (x.rest ∙ after_end n first (Ok t, cells)); visits = omega (arith, x.visits) }

    -- the words of the blocks along an axis are there, and their visits are few
    pub crossing_inside : Sound ws → (k at : ℕ) (t : Tally) (cells : List ℤ) → Crossing k at t cells → k < 2 → at + 8 * along_in ws (axis_at k) ≤ length ws
    crossing_inside sound zero at t cells x h = omega (arith, x.place, sound.words, sound.counts)
    crossing_inside sound (suc zero) at t cells x h = omega (arith, x.place, sound.words, sound.counts)
    crossing_inside sound (suc (suc k)) at t cells x h = absurd (omega arith)

    pub crossing_few : Sound ws → t₀.visits ≤ 4 * n → (k at : ℕ) (t : Tally) (cells : List ℤ) → Crossing k at t cells → k < 2 → t.visits + 2 * along_in ws (axis_at k) < 2 ^ 20
    crossing_few sound v zero at t cells x h = omega (arith, x.visits, sound.counts, sound.most)
    crossing_few sound v (suc zero) at t cells x h = omega (arith, x.visits, sound.counts, sound.most)
    crossing_few sound v (suc (suc k)) at t cells x h = absurd (omega arith)

    -- after the blocks along an axis
    entered : (k at : ℕ) (t : Tally) (cells : List ℤ) → Crossing k at t cells → k < 2 → (r : Result Tally Spoiled) (new : List ℤ) → Along n first (blocks_along (axis_at k) at) (2 * along_in ws (axis_at k)) t cells r new
        → does (across ++ upright) (Ok t₀, cells₀) ≡ does (blocks_from (suc k)) (r, new)
    entered zero at t cells x h r new a =
        x.rest ∙ after_append n first across upright (Ok t, cells)
        ∙ ap (does upright) (sym (a.came ∙ ap (λ (i : ℕ). does (blocks_along Horizontal i) (Ok t, cells)) x.place))
    entered (suc zero) at t cells x h r new a =
        x.rest ∙ sym (a.came ∙ ap (λ (i : ℕ). does (blocks_along Vertical i) (Ok t, cells)) x.place) ∙ sym (after_end n first (r, new))
    entered (suc (suc k)) at t cells x h r new a = absurd (omega arith)

    pub crossing_step : (k at : ℕ) (t : Tally) (cells : List ℤ) → Crossing k at t cells → k < 2 → (r : Result Tally Spoiled) (new : List ℤ) → Along n first (blocks_along (axis_at k) at) (2 * along_in ws (axis_at k)) t cells r new
        → (u : Tally) → r ≡ Ok u → Crossing (suc k) (at + 8 * along_in ws (axis_at k)) u new
    crossing_step k at t cells x h r new a u d = record {
      rest = entered k at t cells x h r new a ∙ ap (λ (q : Result Tally Spoiled). does (blocks_from (suc k)) (q, new)) d;
      place = place k x.place h;
      visits = visits k x.visits h (subst (λ (q : Result Tally Spoiled). IfOk q (λ v. v.visits ≤ t.visits + 2 * along_in ws (axis_at k))) d a.visits);
    }
      where
        place : (k : ℕ) → at ≡ place_from k → k < 2 → at + 8 * along_in ws (axis_at k) ≡ place_from (suc k)
        place zero e h = omega (arith, e)
        place (suc zero) e h = omega (arith, e)
        place (suc (suc k)) e h = absurd (omega arith)

        visits : (k : ℕ) → t.visits + 2 * over_from k ≤ t₀.visits + 2 * n → k < 2 → u.visits ≤ t.visits + 2 * along_in ws (axis_at k) → u.visits + 2 * over_from (suc k) ≤ t₀.visits + 2 * n
        visits zero v h w = omega (arith, v, w)
        visits (suc zero) v h w = omega (arith, v, w)
        visits (suc (suc k)) v h w = absurd (omega arith)

    pub crossing_cut : (k at : ℕ) (t : Tally) (cells : List ℤ) → Crossing k at t cells → k < 2 → (r : Result Tally Spoiled) (new : List ℤ) → Along n first (blocks_along (axis_at k) at) (2 * along_in ws (axis_at k)) t cells r new
        → (y : Spoiled) → r ≡ Err y → (r' : Result Tally Spoiled) → IsErr r' → Crossed t₀ cells₀ r' new
    crossing_cut k at t cells x h r new a y d (Ok u) i = absurd (cc)
    crossing_cut k at t cells x h r new a y d (Err z) i = record {
      came = sym (entered k at t cells x h r new a ∙ ap (λ (q : Result Tally Spoiled). does (blocks_from (suc k)) (q, new)) d ∙ after_stopped n first (blocks_from (suc k)) y new);
      visits = tt;
    }

  -- ---- the whole
  module _ (cells : List ℤ) where
    pub none : n ≡ 0 → Given n first cells (walk_of ws w) (Ok (tally 0 0)) cells
    unfolding walk_of walk
    none e =
        given_after n first cells (walk ws w) (Ok (tally 0 0)) cells
        (sym (ap (λ (b : Bool). does (when (not b) (search ws n w (λ p. nodes_from p ++ (across ++ upright)))) (start cells)) (eq-eqb n 0 e) ∙ after_end n first (start cells)))

    module _ (some : 0 < n) (one : Result Tally Spoiled) (mid : List ℤ) (low : LowEnds cells one mid) where
      begun : does (walk ws w) (start cells) ≡ does (across ++ upright) (one, mid)
      unfolding walk
      begun =
          ap (λ (b : Bool). does (when (not b) (search ws n w (λ p. nodes_from p ++ (across ++ upright)))) (start cells)) (ne_eqb n 0 (λ e. omega arith))
          ∙ low.rest (across ++ upright)

      pub given_cut : (y : Spoiled) → one ≡ Err y → (r : Result Tally Spoiled) → IsErr r → Given n first cells (walk_of ws w) r mid
      unfolding walk_of
      given_cut y d (Ok u) i = absurd (cc)
      given_cut y d (Err z) i =
          given_after n first cells (walk ws w) (Err z) mid
          (sym (begun ∙ ap (λ (q : Result Tally Spoiled). does (across ++ upright) (q, mid)) d ∙ after_stopped n first (across ++ upright) y mid))

      module _ (t : Tally) (d : one ≡ Ok t) (r : Result Tally Spoiled) (new : List ℤ) (crossed : Crossed t mid r new) where
        pub given : Given n first cells (walk_of ws w) r new
        unfolding walk_of
        given = given_after n first cells (walk ws w) r new
            (crossed.came ∙ sym (begun ∙ ap (λ (q : Result Tally Spoiled). does (across ++ upright) (q, mid)) d))
