-- Many windows in one call (request E5): where no window and no walk is refused, the single queries in turn come to the walks of the windows, joined (`in_turn_is`).
-- Use: `many_done` and `many_short` for a call that has gone through its order; `walks_end` for an index, on which no walk is spoiled.
use Rattle.std.specs.Prelude.{◌≡◌, Bool, ℕ, ◌+◌, ◌≤◌, ◌<◌, pos, length, take, drop}
use Rattle.std.proofs.Math.Path.{refl, ap, ap₂}
use Rattle.std.proofs.Common.{sym, ◌∙◌, arith, le_refl, length-append, take_at, drop_at, drop-drop}
use Rattle.std.proofs.Math.Bool.{false}
use mathlib.Core.List.{List, ◌∷◌, ◌++◌, map, map-map, append_assoc}
use borrow.Author.Tests.{le-ltb, lt-ltb}
use Rattle.std.proofs.Math.IntN.{ℤ}
use Rattle.std.proofs.lemmas.List.{length-map}
use Rattle.std.proofs.Math.ListN.{length-drop}
use Rattle.lists.specs.Plain.{to_nat, joined, sum}
use Rattle.lists.specs.Tests.{clash}
use Rattle.lists.specs.Every.{All, all_map, all_zip}
use Rattle.lists.specs.Positions.{positions_below, joined_length}
use Rattle.lists.specs.Choosing.{none_chosen}
use Rattle.paper.specs.Descriptor.{number_of}
use Rattle.paper.specs.Answers.{answer_at, bad_room, bad_slice, bad_window, bad_windows, refused, done}
use Rattle.paper.specs.Windows.{window_count, window_at, windows_of, windows_where}
use Rattle.paper.specs.Orders.{bad_index, bad_walks, is_stopped, due_by, due_to_all, query_order, many_order}
use Rattle.paper.specs.Walk.{word, Walked, walked, stopped, walk_of}
use Rattle.paper.specs.Results.{Result, ManyResult, over, numbers_of, listing, queried, in_turn, queried_many}
use Rattle.paper.specs.declared.Reply.{Reply}
use Rattle.paper.specs.declared.Window.{Window}
use Rattle.promise.specs.Index.{none_given}
use Rattle.promise.specs.Calls.{listed_in, visits_in, not_judged}

-- ---- what an order says that has passed over windows

-- an answer that is not given for any window is not given for one
each_window : (number : ℕ) (q : Window → Bool) (edges : List ℤ) → (answer_at number (windows_where q edges)).given ≡ false → All (λ w. q w ≡ false) (windows_of edges)
each_window number q edges e =
    mapped (all_map (λ k h. none_chosen (λ i. q (window_at edges i)) (window_count edges) k (none_given number (windows_where q edges) e) h) (positions_below (window_count edges) (window_count edges) (le_refl (window_count edges))))
  where
    mapped : {ks : List ℕ} → All (λ k. q (window_at edges k) ≡ false) ks → All (λ w. q w ≡ false) (map (window_at edges) ks)
    mapped All.none = All.none
    mapped (All.also h hs) = All.also h (mapped hs)

-- ---- cells written over twice, the second time after the first
over_join : (xs ys cells : List ℤ) → xs ++ over ys (drop (length xs) cells) ≡ over (xs ++ ys) cells
over_join xs ys cells =
    ap (λ zs. xs ++ (ys ++ zs)) (drop-drop (length ys) (length xs) cells)
    ∙ sym (append_assoc xs ys (drop (length xs + length ys) cells))
    ∙ ap (λ (k : ℕ). (xs ++ ys) ++ drop k cells) (sym (length-append xs ys))

module _ (ws : List ℤ) where
  -- the numbers due to a window, and its reply
  abbrev pub due_to : Window → List ℤ
  due_to w = numbers_of (word ws 1) (listed_in (walk_of ws w))

  abbrev pub reply_to : Window → Reply
  reply_to w = done (due_by (walk_of ws w)) (visits_in (walk_of ws w))

  pub due_length : (w : Window) → length (due_to w) ≡ due_by (walk_of ws w)
  due_length w = length-map (listed_in (walk_of ws w)) (number_of (word ws 1)) ∙ go (walk_of ws w)
    where
      go : (o : Walked) → length (listed_in o) ≡ due_by o
      go (walked ps v) = refl
      go stopped = refl

  -- all that is due to some windows
  pub all_due : (windows : List Window) → length (joined (map due_to windows)) ≡ due_to_all ws windows
  all_due windows =
      joined_length (map due_to windows)
      ∙ ap sum (map-map length due_to windows ∙ ap (λ (f : Window → ℕ). map f windows) (λ i w. due_length w i))

  -- a window that neither 8 nor 10 refuses
  pub record Answered (w : Window) : Type 0 where
    pub good : (bad_window w).given ≡ false
    pub ends : is_stopped (walk_of ws w) ≡ false

  module _ (sound : (bad_index ws).given ≡ false) where
    -- asked alone, with cells for all that is due
    pub alone : (w : Window) (numbers : List ℤ) → Answered w → length (due_to w) ≤ length numbers → queried ws w numbers ≡ (reply_to w, over (due_to w) numbers)
    unfolding queried listing
    alone w numbers a room =
        not_judged (query_order ws w numbers) (λ x. (refused x, numbers)) (listing (word ws 1) numbers (walk_of ws w))
        (All.also sound (All.also a.good (All.also a.ends (All.also (le-ltb (length numbers) (due_by (walk_of ws w)) (omega (arith, due_length w, room))) All.none))))
        ∙ shown (walk_of ws w) a.ends
      where
        shown : (o : Walked) → is_stopped o ≡ false → listing (word ws 1) numbers o ≡ (done (due_by o) (visits_in o), over (numbers_of (word ws 1) (listed_in o)) numbers)
        shown (walked ps v) e = refl
        shown stopped e = clash e

    -- asked in turn, with cells for all that is due
    pub in_turn_is : {windows : List Window} → All Answered windows → (numbers : List ℤ) → length (joined (map due_to windows)) ≤ length numbers
        → in_turn ws windows numbers ≡ (map reply_to windows, over (joined (map due_to windows)) numbers)
    unfolding in_turn joined
    in_turn_is All.none numbers h = refl
    in_turn_is (All.also {x = w} {l = rest} a others) numbers h =
        ap (λ (r : Result). after (to_nat r.0.count) r) (alone w numbers a (omega (arith, both)))
        ∙ ap₂ (λ (us : List ℤ) (r : List Reply × List ℤ). (reply_to w ∷ r.0, us ++ r.1))
        (take_at xs (drop (length xs) numbers) (due_by (walk_of ws w)) (due_length w))
        (ap (in_turn ws rest) (drop_at xs (drop (length xs) numbers) (due_by (walk_of ws w)) (due_length w))
        ∙ in_turn_is others (drop (length xs) numbers) (omega (arith, both, h, length-drop (length xs) numbers)))
        ∙ ap (λ (zs : List ℤ). (reply_to w ∷ map reply_to rest, zs)) (over_join xs (joined (map due_to rest)) numbers)
      where
        xs : List ℤ
        xs = due_to w

        both : length (xs ++ joined (map due_to rest)) ≡ length xs + length (joined (map due_to rest))
        both = length-append xs (joined (map due_to rest))

        after : ℕ → Result → List Reply × List ℤ
        after k r = let later = in_turn ws rest (drop k r.1) in (r.0 ∷ later.0, take k r.1 ++ later.1)

    module _ (edges counts numbers : List ℤ) (slice : (bad_slice edges (length counts)).given ≡ false) (windows : (bad_windows edges).given ≡ false) (walks : (bad_walks ws edges).given ≡ false) where
      answered : All Answered (windows_of edges)
      answered =
          all_zip (λ w g e. record { good = g; ends = e })
          (each_window 8 (λ w. (bad_window w).given) edges windows)
          (each_window 10 (λ w. is_stopped (walk_of ws w)) edges walks)

      -- where the numbers fit: the single queries joined
      pub many_done : due_to_all ws (windows_of edges) ≤ length numbers
          → queried_many ws edges counts numbers
          ≡ (
            done (due_to_all ws (windows_of edges)) (sum (map (λ w. visits_in (walk_of ws w)) (windows_of edges))),
            over (map (λ w. pos (due_by (walk_of ws w))) (windows_of edges)) counts,
            over (joined (map due_to (windows_of edges))) numbers,
          )
      unfolding queried_many
      many_done room =
          not_judged (many_order ws edges counts numbers) (λ x. (refused x, counts, numbers)) (shown (in_turn ws asked numbers))
          (All.also sound (All.also slice (All.also windows (All.also walks (All.also (le-ltb (length numbers) (due_to_all ws asked) room) All.none)))))
          ∙ ap shown (in_turn_is answered numbers (omega (arith, all_due asked, room)))
          ∙ (λ i. (
            done (sum (map-map (λ x. to_nat x.count) reply_to asked i)) (sum (map-map (λ x. to_nat x.visits) reply_to asked i)),
            over (map-map (λ x. x.count) reply_to asked i) counts,
            over (joined (map due_to asked)) numbers,
          ))
        where
          asked : List Window
          asked = windows_of edges

          shown : List Reply × List ℤ → ManyResult
          shown r = (done (sum (map (λ x. to_nat x.count) r.0)) (sum (map (λ x. to_nat x.visits) r.0)), over (map (λ x. x.count) r.0) counts, r.1)

      -- where they do not
      pub many_short : length numbers < due_to_all ws (windows_of edges)
          → queried_many ws edges counts numbers ≡ (refused (bad_room (due_to_all ws (windows_of edges)) (length numbers)), counts, numbers)
      unfolding queried_many
      many_short h = rw (sound, slice, windows, walks, lt-ltb (length numbers) (due_to_all ws (windows_of edges)) h) refl
