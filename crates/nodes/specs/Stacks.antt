-- Nodes walked with a stack: what is left to do is the current node's walk, then that of each node on the stack, the last one first.
use Rattle.std.specs.Prelude.{◌≡◌, refl, List, [], ◌∷◌, ◌++◌, ℕ, zero, suc, ◌+◌, ◌-◌, ◌*◌, ◌^◌, ◌≤◌, ◌<◌, length, sum_by, ℤ, Option, Some, None, Ok, Err}
use Rattle.std.proofs.Common.{sym, ap, ◌∙◌, arith, append-nil, append_assoc, pow-suc, mul-suc, length-append}
use Rattle.std.specs.Prelude.{◌↔◌, IsSome}
use Rattle.std.specs.Option.{option_to_list}
use Rattle.std.proofs.Common.{true≢false}
use Rattle.std.proofs.lemmas.List.Sums.{sum_by_push}
use Rattle.lists.specs.Plain.{half}
use Rattle.paper.specs.Walk.{Event, node_at, node_walk}
use Rattle.paper.specs.declared.Window.{Window}
use Rattle.tally.specs.State.{State, after, after_end, after_append, after_stopped, Along}
use Rattle.tally.specs.Stack.{pending, pending_none, pending_more}
use Rattle.tally.specs.declared.Spoiled.{Spoiled}
use Rattle.tally.specs.declared.Tally.{Tally}
use Rattle.nodes.specs.declared.Node.{Node}
use Rattle.nodes.specs.declared.Turn.{Turn}
use Rattle.nodes.specs.Nodes.{node_events, left_of, right_of, run_of, below, Deep, Turned, TurnCut}

-- visits that a node may take; the loop's measure is those that are left, and the stack's height
abbrev pub weight : Node → ℕ
weight x = 3 * x.size - 1

abbrev pub weights : List Node → ℕ
weights xs = sum_by weight xs

abbrev pub work : List Node → Option Node → ℕ
work xs None = 0
work xs (Some x) = 2 * (weight x + weights xs) + length xs + 1

halves : (n : ℕ) (x : Node) (k : ℕ) → 1 < x.size → weight (left_of n x k) + weight (right_of n x k) + 1 ≡ weight x
halves n x k h = omega arith

module _ (xs : List Node) (y : Node) where
  length_more : length (xs ++ (y ∷ [])) ≡ length xs + 1
  length_more = length-append xs (y ∷ [])

  weights_more : weights (xs ++ (y ∷ [])) ≡ weights xs + weight y
  weights_more = sum_by_push weight xs y

module _ (ws : List ℤ) (n : ℕ) (first : ℤ) (w : Window) where
  abbrev does : List Event → State → State
  does es s = after n first es s

  abbrev walk : Node → List Event
  walk x = node_events ws n w x

  -- the stacked nodes: their words are there, and they lie the higher the fewer their levels
  abbrev pub Held : ℕ → List Node → Type 0
  Held levels [] = Unit {0}
  Held levels (x ∷ xs) = Deep ws n x × (x.levels < levels) × Held (levels - 1) xs

  held_more : (levels : ℕ) (xs : List Node) (y : Node) → Held levels xs → Deep ws n y → y.levels + length xs < levels → Held levels (xs ++ (y ∷ []))
  held_more levels [] y h d l = (d, omega arith, tt)
  held_more levels (x ∷ xs) y h d l = (h.0, h.1, held_more (levels - 1) xs y h.2 d (omega arith))

  held_last : (levels : ℕ) (xs : List Node) (y : Node) → Held levels (xs ++ (y ∷ [])) → Held levels xs × Deep ws n y × (y.levels + length xs < levels)
  held_last levels [] y h = (tt, h.0, omega (arith, h.1))
  held_last levels (x ∷ xs) y h = let r = held_last (levels - 1) xs y h.2 in ((h.0, h.1, r.0), r.1, omega (arith, r.2))

  -- one node, with its left and its right one level below; the right one begins at the slots that are not left of p
  abbrev lefts : Node → ℕ → List Event
  lefts x k = node_walk ws n w (x.levels - 1) (half x.size) k (x.at + 2 * n)

  abbrev rights : Node → ℕ → List Event
  rights x r = node_walk ws n w (x.levels - 1) (x.size - half x.size) r (x.at + 2 * n + half x.size)

  flat : (x : Node) → x.levels ≡ 0 → walk x ≡ node_at ws n w x.size x.p x.at (run_of n x) (λ k. []) (λ k. [])
  unfolding node_walk
  flat x e = go x.levels e
    where
      go : (l : ℕ) → l ≡ 0 → node_walk ws n w l x.size x.p x.at ≡ node_at ws n w x.size x.p x.at (x.at + 2 * n * l) (λ k. []) (λ k. [])
      go zero q = let z : x.at ≡ x.at + 2 * n * 0 = omega arith in ap (λ (i : ℕ). node_at ws n w x.size x.p x.at i (λ k. []) (λ k. [])) z
      go (suc l) q = absurd (omega arith)

  deepen : (x : Node) → 0 < x.levels → walk x ≡ node_at ws n w x.size x.p x.at (run_of n x) (lefts x) (rights x)
  unfolding node_walk
  deepen x h = go x.levels h
    where
      go : (l : ℕ) → 0 < l → node_walk ws n w l x.size x.p x.at
          ≡ node_at ws n w x.size x.p x.at (x.at + 2 * n * l) (λ k. node_walk ws n w (l - 1) (half x.size) k (x.at + 2 * n)) (λ k. node_walk ws n w (l - 1) (x.size - half x.size) k (x.at + 2 * n + half x.size))
      go zero q = absurd (omega arith)
      go (suc l) q =
          let e : l ≡ suc l - 1 = omega arith in
          ap (λ (d : ℕ). node_at ws n w x.size x.p x.at (x.at + 2 * n * suc l) (λ k. node_walk ws n w d (half x.size) k (x.at + 2 * n)) (λ k. node_walk ws n w d (x.size - half x.size) k (x.at + 2 * n + half x.size))) e

  -- ---- the loop's invariant
  pub record Stacked (x₀ : Node) (t₀ : Tally) (c₀ : List ℤ) (xs : List Node) (x : Node) (t : Tally) (c : List ℤ) : Type 0 where
    pub rest : does (walk x₀) (Ok t₀, c₀) ≡ does (walk x ++ pending walk xs) (Ok t, c)
    pub deep : Deep ws n x
    pub held : Held x₀.levels xs
    pub low : x.levels + length xs ≤ x₀.levels
    pub visits : t.visits + weight x + weights xs ≤ t₀.visits + 3 * x₀.size

  -- none is next where all are walked
  abbrev pub Walking : (x₀ : Node) (t₀ : Tally) (c₀ : List ℤ) (xs : List Node) (next : Option Node) (t : Tally) (c : List ℤ) → Type 0
  Walking x₀ t₀ c₀ xs (Some x) t c = Stacked x₀ t₀ c₀ xs x t c
  Walking x₀ t₀ c₀ xs None t c = Along n first (walk x₀) (3 * x₀.size) t₀ c₀ (Ok t) c

  module _ (x₀ : Node) (t₀ : Tally) (c₀ : List ℤ) where
    pub stack_start : Deep ws n x₀ → (xs : List Node) → xs ≡ [] → Stacked x₀ t₀ c₀ xs x₀ t₀ c₀
    stack_start d xs e = rw e (record {
      rest = ap (λ (es : List Event). does es (Ok t₀, c₀)) (sym (append-nil (walk x₀)) ∙ ap (λ (es : List Event). walk x₀ ++ es) (sym (pending_none walk)));
      deep = d;
      held = tt;
      low = omega arith;
      visits = omega arith;
    })

    module _ (xs : List Node) (x : Node) (t : Tally) (c : List ℤ) (s : Stacked x₀ t₀ c₀ xs x t c) (new : List ℤ) where
      split : does (walk x₀) (Ok t₀, c₀) ≡ does (pending walk xs) (does (walk x) (Ok t, c))
      split = s.rest ∙ after_append n first (walk x) (pending walk xs) (Ok t, c)

      -- it read a spoiled word
      pub stack_cut : (y : Spoiled) → TurnCut ws n first w x t c new → Along n first (walk x₀) (3 * x₀.size) t₀ c₀ (Err y) new
      stack_cut y cut = record { came = sym (split ∙ ap (does (pending walk xs)) (stopped x.levels refl) ∙ after_stopped n first (pending walk xs) y new); visits = tt }
        where
          stopped : (l : ℕ) → x.levels ≡ l → does (walk x) (Ok t, c) ≡ (Err y, new)
          stopped zero e = ap (λ (es : List Event). does es (Ok t, c)) (flat x e) ∙ cut.rest (λ k. []) (λ k. [])
          stopped (suc l) e = ap (λ (es : List Event). does es (Ok t, c)) (deepen x (omega arith)) ∙ cut.rest (lefts x) (rights x)

      module _ (h : Turn) (turned : Turned ws n first w x t c h new) where
        -- the walk does not go on below it
        module _ (e : h.left ≡ None) where
          done : does (walk x₀) (Ok t₀, c₀) ≡ does (pending walk xs) (Ok h.tally, new)
          done = split ∙ ap (does (pending walk xs)) (own x.levels refl)
            where
              ended : (left right : ℕ → List Event) → does (below h.left left right x.p) (Ok h.tally, new) ≡ (Ok h.tally, new)
              ended left right = ap (λ (o : Option ℕ). does (below o left right x.p) (Ok h.tally, new)) e ∙ after_end n first _

              own : (l : ℕ) → x.levels ≡ l → does (walk x) (Ok t, c) ≡ (Ok h.tally, new)
              own zero q = ap (λ (es : List Event). does es (Ok t, c)) (flat x q) ∙ turned.rest (λ k. []) (λ k. []) ∙ ended (λ k. []) (λ k. [])
              own (suc l) q = ap (λ (es : List Event). does es (Ok t, c)) (deepen x (omega arith)) ∙ turned.rest (lefts x) (rights x) ∙ ended (lefts x) (rights x)

          pub stack_end : xs ≡ [] → Along n first (walk x₀) (3 * x₀.size) t₀ c₀ (Ok h.tally) new
          stack_end q = record {
            came = sym (done ∙ ap (λ (ys : List Node). does (pending walk ys) (Ok h.tally, new)) q ∙ ap (λ (es : List Event). does es (Ok h.tally, new)) (pending_none walk) ∙ after_end n first _);
            visits = omega (arith, s.visits, turned.few, s.deep.some);
          }

          -- the next is taken from the stack
          pub stack_pop : (ys : List Node) (y : Node) → xs ≡ ys ++ (y ∷ []) → Stacked x₀ t₀ c₀ ys y h.tally new
          stack_pop ys y q =
              let k = held_last x₀.levels ys y (rw q at s.held) in
              record {
                rest = done ∙ ap (λ (zs : List Node). does (pending walk zs) (Ok h.tally, new)) q ∙ ap (λ (es : List Event). does es (Ok h.tally, new)) (pending_more walk ys y);
                deep = k.1;
                held = k.0;
                low = omega (arith, k.2);
                visits = omega (arith, s.visits, turned.few, s.deep.some, ap weights q, weights_more ys y);
              }

          pub stack_next : (ys : List Node) (o : Option Node) → xs ≡ ys ++ option_to_list o → IsSome o ↔ (0 < length xs) → Walking x₀ t₀ c₀ ys o h.tally new
          stack_next ys (Some y) q some = stack_pop ys y q
          stack_next ys None q some = stack_end (nothing xs some)
            where
              nothing : (zs : List Node) → IsSome {T = Node} None ↔ (0 < length zs) → zs ≡ []
              nothing [] g = refl
              nothing (z ∷ zs) g = absurd (true≢false (sym (g.1 (omega arith))))

        -- the walk goes on below it: its right one goes on the stack, its left one is next
        module _ (k : ℕ) (e : h.left ≡ Some k) where
          fits : (1 < x.size) × (k ≤ x.p) × (k ≤ half x.size) × (x.p - k ≤ x.size - half x.size) × (h.tally.visits ≤ t.visits + 1)
          fits = rw e at turned.fits

          levels_left : 0 < x.levels
          levels_left = go x.levels s.deep.tall
            where
              go : (l : ℕ) → x.size ≤ 2 ^ l → 0 < l
              go zero q = absurd (omega (arith, fits.0))
              go (suc l) q = omega arith

          down_inside : x.at + 2 * n + 2 * n * (x.levels - 1) ≡ run_of n x
          down_inside =
              let q : x.levels ≡ suc (x.levels - 1) = omega (arith, levels_left) in
              omega (arith, ap (λ (b : ℕ). 2 * n * b) q, mul-suc (2 * n) (x.levels - 1))

          twice : 2 ^ x.levels ≡ 2 ^ (x.levels - 1) * 2
          twice = let q : x.levels ≡ suc (x.levels - 1) = omega (arith, levels_left) in ap (λ (b : ℕ). 2 ^ b) q ∙ pow-suc 2 (x.levels - 1)

          deep_left : Deep ws n (left_of n x k)
          deep_left = record { some = omega (arith, fits.0); tall = omega (arith, s.deep.tall, twice); from = fits.2; inside = omega (arith, s.deep.inside, down_inside) }

          deep_right : Deep ws n (right_of n x k)
          deep_right = record { some = omega (arith, fits.0); tall = omega (arith, s.deep.tall, twice); from = fits.3; inside = omega (arith, s.deep.inside, down_inside) }

          under : does (walk x) (Ok t, c) ≡ does (walk (left_of n x k) ++ walk (right_of n x k)) (Ok h.tally, new)
          under =
              ap (λ (es : List Event). does es (Ok t, c)) (deepen x levels_left)
              ∙ turned.rest (lefts x) (rights x)
              ∙ ap (λ (o : Option ℕ). does (below o (lefts x) (rights x) x.p) (Ok h.tally, new)) e

          pub stack_push : Stacked x₀ t₀ c₀ (xs ++ (right_of n x k ∷ [])) (left_of n x k) h.tally new
          stack_push = record {
            rest = split ∙ ap (does (pending walk xs)) under ∙ sym (after_append n first _ (pending walk xs) (Ok h.tally, new))
                ∙ ap (λ (es : List Event). does es (Ok h.tally, new))
                (append_assoc (walk (left_of n x k)) (walk (right_of n x k)) (pending walk xs)
                ∙ ap (λ (es : List Event). walk (left_of n x k) ++ es) (sym (pending_more walk xs (right_of n x k))));
            deep = deep_left;
            held = held_more x₀.levels xs (right_of n x k) s.held deep_right (omega (arith, s.low, levels_left));
            low = omega (arith, s.low, levels_left, length_more xs (right_of n x k));
            visits = omega (arith, s.visits, fits.4, halves n x k fits.0, weights_more xs (right_of n x k));
          }
