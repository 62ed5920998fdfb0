-- What the public query gives along its order 9, 8, 10, 7, from what the walk gives; and that what `queried` gives keeps the promises (`with_promise`).
use Rattle.std.specs.Prelude.{◌≡◌, refl, true, false, List, [], ◌∷◌, ℕ, ◌≤◌, ◌<◌, ℤ, length, take, Some, Result as Outcome, Ok, Err, is_ok}
use Rattle.std.proofs.Common.{sym, subst, ◌∙◌, arith}
use Rattle.std.proofs.Math.Path.{ap}
use Rattle.std.specs.Result.{result_unwrap_or}
use borrow.Author.Tests.{lt-ltb, le-ltb}
use Rattle.std.proofs.lemmas.List.{length-map}
use Rattle.lists.specs.Tests.{clash}
use Rattle.lists.specs.Filling.{filled, filled_all, filled_front, filled_length}
use Rattle.paper.specs.Descriptor.{number_of}
use Rattle.paper.specs.Answers.{Answer, bad_window, bad_room, refused, done}
use Rattle.paper.specs.Orders.{bad_index, bad_walk, is_stopped, due_by}
use Rattle.paper.specs.Walk.{word, size_in, Walked, walked, stopped, walk_of}
use Rattle.paper.specs.Results.{Result, over, numbers_of, listing, queried}
use Rattle.paper.specs.Demands.{QueryPromise, QueryPromises}
use Rattle.promise.proofs.Demands.{query_promise}
use Rattle.promise.specs.Calls.{listed_in}
use Rattle.paper.specs.declared.Window.{Window}
use Rattle.tally.specs.Fold.{Given, tally}
use Rattle.tally.specs.declared.Spoiled.{Spoiled}
use Rattle.tally.specs.declared.Tally.{Tally}
use Rattle.refusals.specs.Orders.{answer_of, first_given, refuse, first_decides}
use Rattle.refusals.specs.declared.Refusal.{Refusal}

-- a walk that has ended, and the room that it was walked into: where that holds the `due` numbers, they stand at its front
pub record Due (ws : List ℤ) (w : Window) (room : List ℤ) (due : ℕ) : Type 0 where
  pub sound : (bad_index ws).given ≡ false
  pub ends : is_stopped (walk_of ws w) ≡ false
  pub count : due ≡ length (listed_in (walk_of ws w))
  pub front : due ≤ length room → take due room ≡ numbers_of (word ws 1) (listed_in (walk_of ws w))

module _ (n : ℕ) (first : ℤ) (room : List ℤ) where
  pub spoilt : (o : Walked) (x : Spoiled) (cells : List ℤ) → Given n first room o (Err x) cells → is_stopped o ≡ true
  spoilt (walked ps v) x cells g = clash (sym (ap (λ r. is_ok r) g.0))
  spoilt stopped x cells g = refl

  -- what a walk that was not spoiled gives
  pub record Ended (o : Walked) (t : Tally) (cells : List ℤ) : Type 0 where
    pub ends : is_stopped o ≡ false
    pub count : t.listed ≡ length (listed_in o)
    pub due : t.listed ≡ due_by o
    pub few : t.listed ≤ n
    pub cells_are : cells ≡ filled (numbers_of first (listed_in o)) room
    pub shows : (numbers : List ℤ) → (done t.listed t.visits, over (numbers_of first (listed_in o)) numbers) ≡ listing first numbers o

  pub ended : (o : Walked) (t : Tally) (cells : List ℤ) → Given n first room o (Ok t) cells → Ended o t cells
  unfolding listing
  ended (walked ps v) t cells g =
      let is : t ≡ tally (length ps) v = ap (λ r. result_unwrap_or r t) g.0 in
      let e = ap (λ (x : Tally). x.listed) is in
      record {
        ends = refl;
        count = e;
        due = e;
        few = omega (arith, e, g.2);
        cells_are = g.1;
        shows = λ numbers. ap (λ (x : Tally). (done x.listed x.visits, over (numbers_of first ps) numbers)) is;
      }
  ended stopped t cells g = clash (sym g.0)

module _ (ws : List ℤ) (w : Window) (numbers : List ℤ) where
  -- what is given keeps the promises
  abbrev pub GivenQuery : Result → Type 0
  GivenQuery r = (r ≡ queried ws w numbers) × QueryPromises ws w numbers r

  pub with_promise : {r : Result} → r ≡ queried ws w numbers → GivenQuery r
  with_promise e = (e, λ first segments index good. subst (QueryPromise first segments w (length numbers)) (sym e) (query_promise first segments w ws numbers index good))

  pub index_refused : (bad_index ws).given ≡ true → (refused (answer_of Refusal.Index), numbers) ≡ queried ws w numbers
  unfolding queried
  index_refused e = rw e

  module _ (e9 : (bad_index ws).given ≡ false) where
    pub window_refused : {x : Answer} → first_given (bad_window w ∷ []) ≡ Some x → (refused x, numbers) ≡ queried ws w numbers
    unfolding queried
    window_refused e = first_decides (bad_walk (walk_of ws w) ∷ bad_room (due_by (walk_of ws w)) (length numbers) ∷ []) (refuse numbers) (listing (word ws 1) numbers (walk_of ws w)) (bad_window w ∷ []) e ∙ rw e9 refl

    module _ (e8 : (bad_window w).given ≡ false) where
      pub walk_refused : is_stopped (walk_of ws w) ≡ true → (refused (answer_of (Refusal.Spoiled 0)), numbers) ≡ queried ws w numbers
      unfolding queried
      walk_refused e = rw (e9, e8, e)

      module _ (room : List ℤ) (t : Tally) (cells : List ℤ) (o : Ended (size_in ws) (word ws 1) room (walk_of ws w) t cells) where
        pub room_refused : length numbers < t.listed → (refused (answer_of (Refusal.Room t.listed)), numbers) ≡ queried ws w numbers
        unfolding queried
        room_refused h = rw (e9, e8, o.ends, ← o.due, lt-ltb (length numbers) t.listed h)

        pub walk_done : (c : List ℤ) → t.listed ≤ length numbers → c ≡ over (numbers_of (word ws 1) (listed_in (walk_of ws w))) numbers
            → (done t.listed t.visits, c) ≡ queried ws w numbers
        unfolding queried
        walk_done c h e = rw (e9, e8, o.ends, ← o.due, le-ltb (length numbers) t.listed h, e) (o.shows numbers)

        -- what the numbers are written from
        pub due_in : Due ws w cells t.listed
        due_in = record {
          sound = e9;
          ends = o.ends;
          count = o.count;
          front = λ h. ap (take t.listed) o.cells_are ∙ filled_front (numbers_of (word ws 1) (listed_in (walk_of ws w))) room t.listed size (omega (arith, h, kept));
        }
          where
            size : t.listed ≡ length (numbers_of (word ws 1) (listed_in (walk_of ws w)))
            size = o.count ∙ sym (length-map (listed_in (walk_of ws w)) (number_of (word ws 1)))

            kept : length cells ≡ length room
            kept = ap length o.cells_are ∙ filled_length (numbers_of (word ws 1) (listed_in (walk_of ws w))) room

-- ---- the numbers in the cells lent: copied from the room, or by a second walk
module _ {ws : List ℤ} {w : Window} {room : List ℤ} {due : ℕ} (h : Due ws w room due) (numbers : List ℤ) (l : due ≤ length numbers) where
  size : length (numbers_of (word ws 1) (listed_in (walk_of ws w))) ≡ due
  size = length-map (listed_in (walk_of ws w)) (number_of (word ws 1)) ∙ sym h.count

  pub copied : due ≤ length room → filled (take due room) numbers ≡ over (numbers_of (word ws 1) (listed_in (walk_of ws w))) numbers
  copied g = ap (λ xs. filled xs numbers) (h.front g) ∙ filled_all (numbers_of (word ws 1) (listed_in (walk_of ws w))) numbers (omega (arith, size))

  pub walked_again : (r : Outcome Tally Spoiled) (cells : List ℤ) → Given (size_in ws) (word ws 1) numbers (walk_of ws w) r cells
      → cells ≡ over (numbers_of (word ws 1) (listed_in (walk_of ws w))) numbers
  walked_again r cells g = again (walk_of ws w) h.ends g ∙ filled_all (numbers_of (word ws 1) (listed_in (walk_of ws w))) numbers (omega (arith, size))
    where
      again : (o : Walked) → is_stopped o ≡ false → Given (size_in ws) (word ws 1) numbers o r cells → cells ≡ filled (numbers_of (word ws 1) (listed_in o)) numbers
      again (walked ps v) e g = g.1
      again stopped e g = clash e
