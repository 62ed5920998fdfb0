-- What the call for many windows gives along its order 9, 14, 8, 10, 7, from what is found when the windows are asked in turn; and that what `queried_many`
-- gives keeps the promises (`with_promise`).
use Rattle.std.specs.Prelude.{◌≡◌, refl, Bool, true, false, not, ◌||◌, List, [], map, ℕ, ◌*◌, ◌≤◌, ◌<◌, eqb, ltb, ℤ, pos, length, take, Some, None, Result, Ok, Err}
use Rattle.std.proofs.Common.{sym, ap, subst, ◌∙◌, arith, ltb-false}
use Rattle.std.proofs.lemmas.List.{length-map}
use Rattle.lists.specs.Plain.{joined, filter, positions}
use Rattle.lists.specs.Tests.{clash, or_false}
use Rattle.lists.specs.Choosing.{filter_first, chosen_none}
use Rattle.lists.specs.Filling.{filled, filled_all, filled_front, filled_length}
use Rattle.paper.specs.Limits.{most_windows}
use Rattle.paper.specs.Answers.{answer_at, bad_slice, bad_window, bad_windows, refused, done}
use Rattle.paper.specs.Windows.{window_count, window_at, windows_of}
use Rattle.paper.specs.Orders.{bad_index, bad_walks, is_stopped, due_by, due_to_all}
use Rattle.paper.specs.Results.{ManyResult, over, queried_many}
use Rattle.paper.specs.Demands.{ManyPromise, ManyPromises}
use Rattle.paper.specs.Walk.{walk_of}
use Rattle.promise.proofs.Demands.{many_promise}
use Rattle.promise.specs.Many.{due_to, all_due, many_done, many_short}
use Rattle.refusals.specs.Orders.{answer_of}
use Rattle.refusals.specs.declared.Refusal.{Refusal}
use Rattle.tally.specs.declared.Tally.{Tally}
use Rattle.windows.specs.Asking.{first_windows, windows_length, Answers, nothing_asked, Sought, Found}

-- a slice that 14 passes has a count cell for each window
pub slice_cells : (edges counts : List ℤ) → (bad_slice edges (length counts)).given ≡ false → window_count edges ≤ length counts
slice_cells edges counts e =
    let m = window_count edges in
    ltb-false (length counts) m (or_false (not (eqb (4 * m) (length edges)) || ltb most_windows m) (ltb (length counts) m) e).1

-- ---- what was found, kept for the cells lent

-- of the first m windows: one count for each, and the numbers one after another
abbrev pub counts_due : (ws edges : List ℤ) → ℕ → List ℤ
counts_due ws edges m = map (λ w. pos (due_by (walk_of ws w))) (first_windows edges m)

abbrev pub numbers_due : (ws edges : List ℤ) → ℕ → List ℤ
numbers_due ws edges m = joined (map (due_to ws) (first_windows edges m))

none_counted : (ws edges counts : List ℤ) → counts ≡ over (counts_due ws edges 0) counts
unfolding positions
none_counted ws edges counts = refl

none_listed : (ws edges numbers : List ℤ) → numbers ≡ over (numbers_due ws edges 0) numbers
unfolding positions joined
none_listed ws edges numbers = refl

counts_length : (ws edges : List ℤ) (m : ℕ) → length (counts_due ws edges m) ≡ m
counts_length ws edges m = length-map (first_windows edges m) (λ w. pos (due_by (walk_of ws w))) ∙ windows_length edges m

-- the counts of m windows at the front of some cells, and their numbers at the front of others where these hold them all
pub record Kept (ws edges : List ℤ) (m : ℕ) (kept room : List ℤ) (due : ℕ) : Type 0 where
  pub ends : (k : ℕ) → k < m → is_stopped (walk_of ws (window_at edges k)) ≡ false
  pub due_are : due ≡ due_to_all ws (first_windows edges m)
  pub enough : m ≤ length kept
  pub counts : take m kept ≡ counts_due ws edges m
  pub front : due ≤ length room → take due room ≡ numbers_due ws edges m

module _ {ws : List ℤ} (edges : List ℤ) (m : ℕ) {counts₀ room₀ : List ℤ} (t : Tally) {counts room : List ℤ} (f : Found ws edges m counts₀ room₀ (Ok t) counts room) where
  pub kept_for : m ≤ length counts₀ → Kept ws edges m counts room t.listed
  kept_for enough =
      let a = f.1 in
      record {
        ends = f.0;
        due_are = a.due_are;
        enough = omega (arith, ap length a.counts_are, filled_length (counts_due ws edges m) counts₀);
        counts = ap (take m) a.counts_are ∙ filled_front (counts_due ws edges m) counts₀ m (sym (counts_length ws edges m)) enough;
        front = λ l.
            ap (take t.listed) a.room_is
            ∙ filled_front (numbers_due ws edges m) room₀ t.listed (a.due_are ∙ sym (all_due ws (first_windows edges m)))
            (omega (arith, l, ap length a.room_is, filled_length (numbers_due ws edges m) room₀));
      }

  -- neither the numbers nor the visits of 64 windows are many
  pub few : m ≤ 64 → (t.listed ≤ 262144) × (t.visits ≤ 1572864)
  few most =
      let n = windows_length edges m in
      (omega (arith, f.1.few_due, n, most), omega (arith, f.1.few_visits, n, most))

-- the cells lent, from what was kept or by asking again
module _ {ws edges : List ℤ} {m : ℕ} {kept room : List ℤ} {due : ℕ} (k : Kept ws edges m kept room due) (counts numbers : List ℤ) (cells : m ≤ length counts) (fits : due ≤ length numbers) where
  count_cells : filled (counts_due ws edges m) counts ≡ over (counts_due ws edges m) counts
  count_cells = filled_all (counts_due ws edges m) counts (omega (arith, counts_length ws edges m, cells))

  number_cells : filled (numbers_due ws edges m) numbers ≡ over (numbers_due ws edges m) numbers
  number_cells = filled_all (numbers_due ws edges m) numbers (omega (arith, all_due ws (first_windows edges m), k.due_are, fits))

  pub copied_counts : filled (take m kept) counts ≡ over (counts_due ws edges m) counts
  copied_counts = ap (λ (xs : List ℤ). filled xs counts) k.counts ∙ count_cells

  pub copied_numbers : due ≤ length room → filled (take due room) numbers ≡ over (numbers_due ws edges m) numbers
  copied_numbers h = ap (λ (xs : List ℤ). filled xs numbers) (k.front h) ∙ number_cells

  pub asked_again : (r : Result Tally ℕ) {counts₁ numbers₁ : List ℤ} → Found ws edges m counts numbers r counts₁ numbers₁
      → (counts₁ ≡ over (counts_due ws edges m) counts) × (numbers₁ ≡ over (numbers_due ws edges m) numbers)
  asked_again (Ok t) f = (f.1.counts_are ∙ count_cells, f.1.room_is ∙ number_cells)
  asked_again (Err i) f = clash (sym f.2 ∙ k.ends i f.0)

-- ---- an answer that is sought over the windows
module _ (edges : List ℤ) (number : ℕ) (q : ℕ → Bool) where
  found : (i : ℕ) → Sought q (window_count edges) (Some i) → answer_at number (filter q (positions (window_count edges))) ≡ record { number = number; given = true; count = 0; position = i }
  found i s = ap (answer_at number) (filter_first q (window_count edges) i s.0 s.1 s.2).1

  pub not_found : Sought q (window_count edges) None → (answer_at number (filter q (positions (window_count edges)))).given ≡ false
  not_found s = ap (λ ps. (answer_at number ps).given) (chosen_none q (window_count edges) s)

-- ---- along the order

module _ (ws edges counts numbers : List ℤ) where
  -- what is given keeps the promises
  abbrev pub GivenMany : ManyResult → Type 0
  GivenMany r = (r ≡ queried_many ws edges counts numbers) × ManyPromises ws edges counts numbers r

  pub with_promise : {r : ManyResult} → r ≡ queried_many ws edges counts numbers → GivenMany r
  with_promise e = (
    e,
    λ first segments index slice good.
        subst (ManyPromise first segments (windows_of edges) (length numbers)) (sym e) (many_promise first segments ws edges counts numbers index slice good),
  )

  pub index_refused : (bad_index ws).given ≡ true → (refused (answer_of Refusal.Index), counts, numbers) ≡ queried_many ws edges counts numbers
  unfolding queried_many
  index_refused e = rw e

  module _ (e9 : (bad_index ws).given ≡ false) where
    pub slice_refused : (bad_slice edges (length counts)).given ≡ true → (refused (answer_of Refusal.Slice), counts, numbers) ≡ queried_many ws edges counts numbers
    unfolding queried_many
    slice_refused e = rw (e9, e)

    module _ (e14 : (bad_slice edges (length counts)).given ≡ false) where
      pub window_refused : (i : ℕ) → Sought (λ i. (bad_window (window_at edges i)).given) (window_count edges) (Some i)
          → (refused (answer_of (Refusal.Window i)), counts, numbers) ≡ queried_many ws edges counts numbers
      unfolding queried_many
      window_refused i s = rw (e9, e14, found edges 8 (λ i. (bad_window (window_at edges i)).given) i s)

      module _ (e8 : (bad_windows edges).given ≡ false) where
        pub walk_refused : (i : ℕ) → Sought (λ i. is_stopped (walk_of ws (window_at edges i))) (window_count edges) (Some i)
            → (refused (answer_of (Refusal.Spoiled i)), counts, numbers) ≡ queried_many ws edges counts numbers
        unfolding queried_many
        walk_refused i s = rw (e9, e14, e8, found edges 10 (λ i. is_stopped (walk_of ws (window_at edges i))) i s)

        module _ {counts₀ room₀ : List ℤ} (t : Tally) {kept room : List ℤ} (f : Found ws edges (window_count edges) counts₀ room₀ (Ok t) kept room) where
          e10 : (bad_walks ws edges).given ≡ false
          e10 = not_found edges 10 (λ i. is_stopped (walk_of ws (window_at edges i))) f.0

          answers : Answers ws (windows_of edges) counts₀ room₀ t.listed t.visits kept room
          answers = f.1

          pub room_refused : length numbers < t.listed → (refused (answer_of (Refusal.Room t.listed)), counts, numbers) ≡ queried_many ws edges counts numbers
          room_refused h =
              ap (λ (k : ℕ). (refused (answer_of (Refusal.Room k)), counts, numbers)) answers.due_are
              ∙ sym (many_short ws e9 edges counts numbers e14 e8 e10 (omega (arith, answers.due_are, h)))

          pub all_done : {counts₁ numbers₁ : List ℤ} → t.listed ≤ length numbers
              → counts₁ ≡ over (counts_due ws edges (window_count edges)) counts → numbers₁ ≡ over (numbers_due ws edges (window_count edges)) numbers
              → (done t.listed t.visits, counts₁, numbers₁) ≡ queried_many ws edges counts numbers
          all_done h c n =
              (λ i. (done (answers.due_are i) (answers.visits_are i), c i, n i))
              ∙ sym (many_done ws e9 edges counts numbers e14 e8 e10 (omega (arith, answers.due_are, h)))

        -- no windows: nothing is asked, and no cell changes
        pub none_asked : window_count edges ≡ 0 → (done 0 0, counts, numbers) ≡ queried_many ws edges counts numbers
        none_asked z =
            all_done {counts₀ = counts} {room₀ = numbers} (record { listed = 0; visits = 0 }) {kept = counts} {room = numbers} (rw z (λ k h. absurd (omega arith), nothing_asked ws edges counts numbers)) (omega arith)
            (rw z (none_counted ws edges counts)) (rw z (none_listed ws edges numbers))
