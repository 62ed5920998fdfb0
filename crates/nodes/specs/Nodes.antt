-- One node: what it does itself, and whether the walk goes on below it.
use Rattle.std.specs.Prelude.{◌≡◌, List, [], ◌++◌, ℕ, ◌+◌, ◌-◌, ◌*◌, ◌^◌, ◌≤◌, ◌<◌, length, ℤ, Option, Some, None, Result, Ok, Err, IfSome}
use Rattle.std.proofs.Common.{sym, ap, ◌∙◌, arith}
use Rattle.lists.specs.Plain.{half}
use Rattle.paper.specs.Walk.{atNode, Event, as_count, count_word, slots_walk, node_at, node_walk}
use Rattle.paper.specs.declared.Window.{Window}
use Rattle.tally.specs.State.{State, seen, spoilt, after, after_end, after_visit, after_spoiled, Along}
use Rattle.tally.specs.Reads.{count, count_followed, count_fits, follow}
use Rattle.tally.specs.declared.Spoiled.{Spoiled}
use Rattle.tally.specs.declared.Tally.{Tally}
use Rattle.nodes.specs.declared.Node.{Node}
use Rattle.nodes.specs.declared.Turn.{Turn}
use Rattle.nodes.specs.declared.Ends.{Ends}
use Rattle.nodes.specs.declared.Ends.TheVariants.{Out, In, Across}
use Rattle.nodes.specs.Ends.{by_case, Ended, EndsCut}

abbrev pub node_events : List ℤ → ℕ → Window → Node → List Event
node_events ws n w x = node_walk ws n w x.levels x.size x.p x.at

-- the nodes one level below, where left p is k
abbrev pub left_of : ℕ → Node → ℕ → Node
left_of n x k = record { levels = x.levels - 1; size = half x.size; p = k; at = x.at + 2 * n }

abbrev pub right_of : ℕ → Node → ℕ → Node
right_of n x k = record { levels = x.levels - 1; size = x.size - half x.size; p = x.p - k; at = x.at + 2 * n + half x.size }

-- where its last level's words begin
abbrev pub run_of : ℕ → Node → ℕ
run_of n x = x.at + 2 * n * x.levels

-- a node is not empty, the levels below it are enough for its size, slot p is one of its own or its size, and its words are there
pub record Deep (ws : List ℤ) (n : ℕ) (x : Node) : Type 0 where
  pub some : 0 < x.size
  pub tall : x.size ≤ 2 ^ x.levels
  pub from : x.p ≤ x.size
  pub inside : x.at + 2 * n * x.levels + n + x.size ≤ length ws

-- what is walked below a node
abbrev pub below : Option ℕ → (left right : ℕ → List Event) → (p : ℕ) → List Event
below None left right p = []
below (Some k) left right p = left k ++ right (p - k)

module _ (ws : List ℤ) (n : ℕ) (first : ℤ) (w : Window) where
  abbrev does : List Event → State → State
  does es s = after n first es s

  module _ (x : Node) (t : Tally) (c : List ℤ) where
    abbrev node : (left right : ℕ → List Event) → List Event
    node left right = node_at ws n w x.size x.p x.at (run_of n x) left right

    pub record Turned (h : Turn) (new : List ℤ) : Type 0 where
      pub rest : (left right : ℕ → List Event) → does (node left right) (Ok t, c) ≡ does (below h.left left right x.p) (Ok h.tally, new)
      pub fits : IfSome h.left (λ k. (1 < x.size) × (k ≤ x.p) × (k ≤ half x.size) × (x.p - k ≤ x.size - half x.size) × (h.tally.visits ≤ t.visits + 1))
      pub few : h.tally.visits ≤ t.visits + 1 + x.size

    -- a spoiled word was read
    pub record TurnCut (new : List ℤ) : Type 0 where
      pub rest : (left right : ℕ → List Event) → does (node left right) (Ok t, c) ≡ (spoilt, new)

    abbrev own : List Event
    own = slots_walk ws n w (x.size - x.p) (x.at + x.p)

    abbrev counted : (left right : ℕ → List Event) → List Event
    counted left right = as_count x.p (half x.size) (x.size - half x.size) (count_word ws n x.size x.p x.at) (λ k. left k ++ right (x.p - k))

    pub turn_bad : EndsCut ws n w x.size (run_of n x) → TurnCut c
    unfolding node_at
    turn_bad e = record { rest = λ left right. after_visit n first t c atNode x.at _ ∙ ap (λ (es : List Event). does es (Ok (seen t), c)) (e.told own (counted left right)) ∙ after_spoiled n first (seen t) c }

    module _ (e : Ends) (ended : Ended ws n w x.size (run_of n x) e) where
      opened : (v : Ends) → e ≡ v → (left right : ℕ → List Event) → does (node left right) (Ok t, c) ≡ does (by_case v own (counted left right)) (Ok (seen t), c)
      unfolding node_at
      opened v q left right =
          after_visit n first t c atNode x.at _
          ∙ ap (λ (es : List Event). does es (Ok (seen t), c)) (ended.told own (counted left right))
          ∙ ap (λ (u : Ends). does (by_case u own (counted left right)) (Ok (seen t), c)) q

      pub turn_out : e ≡ Out → Turned (record { tally = seen t; left = None }) c
      turn_out q = record { rest = opened Out q; fits = tt; few = omega arith }

      module _ (q : e ≡ In) (new : List ℤ) where
        pub turn_in : (u : Tally) → Along n first own (x.size - x.p) (seen t) c (Ok u) new → Turned (record { tally = u; left = None }) new
        turn_in u a = record { rest = λ left right. opened In q left right ∙ sym a.came ∙ sym (after_end n first (Ok u, new)); fits = tt; few = omega (arith, a.visits) }

        pub turn_cut : (y : Spoiled) → Along n first own (x.size - x.p) (seen t) c (Err y) new → TurnCut new
        turn_cut y a = record { rest = λ left right. opened In q left right ∙ sym a.came }

      module _ (q : e ≡ Across) where
        abbrev said : Result ℕ Spoiled
        said = count x.p (half x.size) (x.size - half x.size) (count_word ws n x.size x.p x.at)

        followed : (next : ℕ → List Event) → as_count x.p (half x.size) (x.size - half x.size) (count_word ws n x.size x.p x.at) next ≡ follow said next
        followed next = count_followed x.p (half x.size) (x.size - half x.size) (count_word ws n x.size x.p x.at) next

        pub turn_spoiled : (y : Spoiled) → said ≡ Err y → TurnCut c
        turn_spoiled y g = record {
          rest = λ left right. opened Across q left right
              ∙ ap (λ (es : List Event). does es (Ok (seen t), c)) (followed (λ k. left k ++ right (x.p - k)) ∙ ap (λ (r : Result ℕ Spoiled). follow r (λ k. left k ++ right (x.p - k))) g)
              ∙ after_spoiled n first (seen t) c;
        }

        pub turn_below : (k : ℕ) → said ≡ Ok k → Turned (record { tally = seen t; left = Some k }) c
        turn_below k g = record {
          rest = λ left right. opened Across q left right
              ∙ ap (λ (es : List Event). does es (Ok (seen t), c)) (followed (λ k. left k ++ right (x.p - k)) ∙ ap (λ (r : Result ℕ Spoiled). follow r (λ k. left k ++ right (x.p - k))) g);
          fits = let f = count_fits x.p (half x.size) (x.size - half x.size) (count_word ws n x.size x.p x.at) k g in (ended.many q, f.0, f.1, f.2, omega arith);
          few = omega arith;
        }
