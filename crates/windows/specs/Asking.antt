-- What the walks of many windows leave in the cells that they are listed into, one after another.
-- Use: `nothing_asked` and `one_more` for a loop over the windows; `onward` for one walk into what is left of a room.
use Rattle.std.specs.Prelude.{◌≡◌, refl, Bool, true, false, List, [], ◌∷◌, ◌++◌, map, ℕ, ◌+◌, ◌-◌, ◌*◌, ◌≤◌, ◌<◌, min, ℤ, pos, length, take, drop, set, Option, Some, None, Result, Ok, Err, is_ok, IsErr}
use Rattle.std.proofs.Math.Path.{sym}
use Rattle.std.proofs.Common.{ap, ap₂, ◌∙◌, append-nil, add-one, length-append, length-drop, drop_of_length-le, take_all}
use Rattle.std.proofs.lemmas.List.{map-append, length-map}
use native.Mathlib.Omega.{arith}
use Rattle.lists.specs.Plain.{joined, positions, sum}
use Rattle.lists.specs.Positions.{positions_length, joined_append, joined_one, sum_append}
use Rattle.lists.specs.Tests.{clash}
use Rattle.lists.specs.Filling.{filled, filled_none, filled_more, filled_length, filled_onward}
use Rattle.paper.specs.Orders.{is_stopped, due_by, due_to_all}
use Rattle.paper.specs.Results.{numbers_of}
use Rattle.paper.specs.Walk.{word, size_in, Walked, walked, stopped, walk_of}
use Rattle.paper.specs.Windows.{window_at}
use Rattle.paper.specs.declared.Window.{Window}
use Rattle.promise.specs.Calls.{listed_in, visits_in}
use Rattle.promise.specs.Many.{due_to, all_due}
use Rattle.tally.specs.Fold.{Given, tally}
use Rattle.tally.specs.declared.Spoiled.{Spoiled}
use Rattle.tally.specs.declared.Tally.{Tally}

-- what a walk gives that lists after others, into a room of which they have taken the first cells: as many numbers and visits as are its own, and a room
-- that they have filled holds its numbers after theirs
abbrev pub Onward : ℕ → ℤ → (room : List ℤ) → (taken : ℕ) → Walked → Result Tally Spoiled → (after : List ℤ) → Type 0
Onward n first room taken (walked ps v) r after =
    (r ≡ Ok (tally (length ps) v)) × (length ps ≤ n)
    × ((xs cells : List ℤ) → taken ≡ length xs → room ≡ filled xs cells → after ≡ filled (xs ++ numbers_of first ps) cells)
Onward n first room taken stopped r after = IsErr r

-- the two numbers of a tally that there is
abbrev listed_of : Result Tally Spoiled → ℕ
listed_of (Ok t) = t.listed
listed_of (Err x) = 0

abbrev visits_of : Result Tally Spoiled → ℕ
visits_of (Ok t) = t.visits
visits_of (Err x) = 0

-- the first i windows of a slice
abbrev pub first_windows : List ℤ → ℕ → List Window
first_windows edges i = map (window_at edges) (positions i)

pub next_window : (edges : List ℤ) (i : ℕ) → first_windows edges (i + 1) ≡ first_windows edges i ++ (window_at edges i ∷ [])
unfolding positions
next_window edges i = rw (add-one i) (map-append (window_at edges) (positions i) (i ∷ []))

pub windows_length : (edges : List ℤ) (i : ℕ) → length (first_windows edges i) ≡ i
windows_length edges i = length-map (positions i) (window_at edges) ∙ positions_length i

-- a walk into the cells that are left: from s on, k of them
pub onward : (n : ℕ) (first : ℤ) (room : List ℤ) (taken s k : ℕ) → s ≡ min taken (length room) → k ≡ length room - s
    → (o : Walked) (r : Result Tally Spoiled) (part : List ℤ) → Given n first (take k (drop s room)) o r part → Onward n first room taken o r (take s room ++ (part ++ drop k (drop s room)))
onward n first room taken s k e h (walked ps v) r part g = (
  g.0,
  g.2,
  λ xs cells at q.
      let size : length room ≡ length cells = ap length q ∙ filled_length xs cells in
      ap₂ (λ (us vs : List ℤ). take s room ++ (us ++ vs)) g.1 (drop_of_length-le (drop s room) {i = k} (omega (arith, rest)))
      ∙ ap (λ (us : List ℤ). take s room ++ us) (append-nil (filled (numbers_of first ps) (take k (drop s room))))
      ∙ ap (λ (us : List ℤ). take s room ++ filled (numbers_of first ps) us) (take_all k (drop s room) (omega (arith, rest)))
      ∙ ap (λ (us : List ℤ). take s us ++ filled (numbers_of first ps) (drop s us)) q
      ∙ filled_onward xs (numbers_of first ps) cells s (e ∙ ap₂ min at size),
)
  where
    rest : length (drop s room) ≡ k
    rest = length-drop s room ∙ sym h
onward n first room taken s k e h stopped r part g = g.0

module _ (n : ℕ) (first : ℤ) (room : List ℤ) (taken : ℕ) where
  pub spoilt : (o : Walked) (x : Spoiled) (after : List ℤ) → Onward n first room taken o (Err x) after → is_stopped o ≡ true
  spoilt (walked ps v) x after g = clash (ap (λ (r : Result Tally Spoiled). is_ok r) (sym g.0))
  spoilt stopped x after g = refl

  -- a walk that is not spoiled, and lists at most n
  pub ended : (o : Walked) (t : Tally) (after : List ℤ) → Onward n first room taken o (Ok t) after → (is_stopped o ≡ false) × (t.listed ≤ n)
  ended (walked ps v) t after g = (refl, omega (arith, ap (λ (r : Result Tally Spoiled). listed_of r) g.0, g.1))
  ended stopped t after g = clash (sym g)

module _ (ws : List ℤ) where
  -- what the walks of some windows come to, none of them spoiled: in cells for their counts, and in a room for their numbers
  pub record Answers (windows : List Window) (counts₀ room₀ : List ℤ) (due visits : ℕ) (counts room : List ℤ) : Type 0 where
    pub due_are : due ≡ due_to_all ws windows
    pub visits_are : visits ≡ sum (map (λ w. visits_in (walk_of ws w)) windows)
    pub counts_are : counts ≡ filled (map (λ w. pos (due_by (walk_of ws w))) windows) counts₀
    pub room_is : room ≡ filled (joined (map (due_to ws) windows)) room₀
    pub few_due : due ≤ 4096 * length windows
    pub few_visits : visits ≤ 24576 * length windows

  pub nothing_asked : (edges counts room : List ℤ) → Answers (first_windows edges 0) counts room 0 0 counts room
  unfolding positions joined sum
  nothing_asked edges counts room =
      record { due_are = refl; visits_are = refl; counts_are = sym (filled_none counts); room_is = sym (filled_none room); few_due = omega arith; few_visits = omega arith }

  module _ (windows : List Window) (w : Window) where
    sum_one : (k : ℕ) → sum (k ∷ []) ≡ k
    unfolding sum
    sum_one k = omega arith

    sum_more : (f : Window → ℕ) → sum (map f (windows ++ (w ∷ []))) ≡ sum (map f windows) + f w
    sum_more f = ap sum (map-append f windows (w ∷ [])) ∙ omega (arith, sum_append (map f windows) (f w ∷ []), sum_one (f w))

    due_more : joined (map (due_to ws) (windows ++ (w ∷ []))) ≡ joined (map (due_to ws) windows) ++ due_to ws w
    due_more =
        ap joined (map-append (due_to ws) windows (w ∷ []))
        ∙ joined_append (map (due_to ws) windows) (due_to ws w ∷ [])
        ∙ ap (λ (zs : List ℤ). joined (map (due_to ws) windows) ++ zs) (joined_one (due_to ws w))

    module _ {counts₀ room₀ : List ℤ} {due visits : ℕ} {counts room : List ℤ} (a : Answers windows counts₀ room₀ due visits counts room) where
      -- a window more, whose walk is not spoiled
      pub one_more : (t : Tally) (after : List ℤ) (i : ℕ) → i ≡ length windows → size_in ws ≤ 4096 → t.visits ≤ 6 * size_in ws
          → Onward (size_in ws) (word ws 1) room due (walk_of ws w) (Ok t) after
          → Answers (windows ++ (w ∷ [])) counts₀ room₀ (due + t.listed) (visits + t.visits) (set counts i (pos t.listed)) after
      one_more t after i at most few g = go (walk_of ws w) refl g
        where
          go : (o : Walked) → walk_of ws w ≡ o → Onward (size_in ws) (word ws 1) room due o (Ok t) after
              → Answers (windows ++ (w ∷ [])) counts₀ room₀ (due + t.listed) (visits + t.visits) (set counts i (pos t.listed)) after
          go stopped e g = clash (sym g)
          go (walked ps v) e g =
              let listed : t.listed ≡ due_by (walk_of ws w) = ap (λ (r : Result Tally Spoiled). listed_of r) g.0 ∙ ap due_by (sym e) in
              let seen : t.visits ≡ visits_in (walk_of ws w) = ap (λ (r : Result Tally Spoiled). visits_of r) g.0 ∙ ap visits_in (sym e) in
              let size : length (windows ++ (w ∷ [])) ≡ length windows + 1 = length-append windows (w ∷ []) in
              let f : Window → ℤ = λ u. pos (due_by (walk_of ws u)) in
              record {
                due_are = omega (arith, a.due_are, listed, sum_more (λ u. due_by (walk_of ws u)));
                visits_are = omega (arith, a.visits_are, seen, sum_more (λ u. visits_in (walk_of ws u)));
                counts_are =
                    ap₂ (λ (c : List ℤ) (k : ℕ). set c i (pos k)) a.counts_are listed
                    ∙ ap (λ (k : ℕ). set (filled (map f windows) counts₀) k (f w)) (at ∙ sym (length-map windows f))
                    ∙ filled_more (map f windows) (f w) counts₀
                    ∙ ap (λ (zs : List ℤ). filled zs counts₀) (sym (map-append f windows (w ∷ [])));
                room_is =
                    g.2 (joined (map (due_to ws) windows)) room₀ (a.due_are ∙ sym (all_due ws windows)) a.room_is
                    ∙ ap (λ (o : Walked). filled (joined (map (due_to ws) windows) ++ numbers_of (word ws 1) (listed_in o)) room₀) (sym e)
                    ∙ ap (λ (zs : List ℤ). filled zs room₀) (sym due_more);
                few_due = omega (arith, a.few_due, size, ap (λ (r : Result Tally Spoiled). listed_of r) g.0, g.1);
                few_visits = omega (arith, a.few_visits, size, few);
              }

-- the first of m that has a fault, if one has
abbrev pub Sought : (ℕ → Bool) → ℕ → Option ℕ → Type 0
Sought q m None = (k : ℕ) → k < m → q k ≡ false
Sought q m (Some i) = (i < m) × ((k : ℕ) → k < i → q k ≡ false) × (q i ≡ true)

-- what is found when windows are asked in turn: the first whose walk is spoiled; where there is none, what the walks come to
abbrev pub Found : (ws edges : List ℤ) → ℕ → (counts₀ room₀ : List ℤ) → Result Tally ℕ → (counts room : List ℤ) → Type 0
Found ws edges m counts₀ room₀ (Ok t) counts room =
    Sought (λ i. is_stopped (walk_of ws (window_at edges i))) m None × Answers ws (first_windows edges m) counts₀ room₀ t.listed t.visits counts room
Found ws edges m counts₀ room₀ (Err i) counts room = Sought (λ i. is_stopped (walk_of ws (window_at edges i))) m (Some i)
