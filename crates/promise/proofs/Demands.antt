-- The promises, proved: what `paper`'s Demands states holds of every index, whatever its segments, crossing or not, equal or not.
-- Demand 2 is in `once` and `groups`, demand 3 in `few`; `ends` says that the walk is never stopped. `low_ends` (LowEnds) has the first group by itself.
use Rattle.std.specs.Prelude.{◌≡◌, refl, false, List, map, ℕ, ℤ, pos, length}
use Rattle.std.proofs.Common.{sym, ap, ap₂, subst, ◌∙◌, arith, take_at, le→leb}
use Rattle.std.proofs.lemmas.List.{length-map}
use Rattle.lists.specs.Plain.{joined}
use Rattle.paper.specs.Descriptor.{number_of}
use Rattle.paper.specs.Answers.{bad_slice, bad_window, bad_windows}
use Rattle.paper.specs.Windows.{windows_of}
use Rattle.paper.specs.Orders.{bad_index, bad_walks, due_by}
use Rattle.paper.specs.Walk.{Walked, walk_of}
use Rattle.paper.specs.Results.{Result, ManyResult, numbers_of, queried, queried_many}
use Rattle.paper.specs.Demands.{IndexOf, IndexDemands, ListsNumbers, most_visits, QueryDone, QueryPromise, ManyDone, ManyPromise}
use Rattle.paper.specs.declared.Segment.{Segment}
use Rattle.paper.specs.declared.Window.{Window}
use Rattle.promise.specs.Index.{Walks, first_word}
use Rattle.promise.proofs.Index.{index_walks, groups_once}
use Rattle.promise.specs.Many.{due_to, due_length, all_due, many_done, many_short}
use Rattle.promise.proofs.Many.{walks_end}
use Rattle.promise.specs.Calls.{listed_in, visits_in, index_sound, once_numbers, listed_numbers, query_done, query_short}

-- demands 2 and 3 on the words of an index
pub index_demands : IndexDemands
index_demands first segments w ws index good =
    let r = index_walks first segments w ws index in
    record {
      listed = r.listed;
      visits = r.visits;
      ends = r.ends;
      within = r.within;
      once = groups_once segments w index.accepted good r.listed r.groups;
      groups = r.groups;
      few = r.few;
    }

-- the same as a caller of the query sees it: in the reply and in the number cells
pub query_promise : (first : ℤ) (segments : List Segment) (w : Window) (ws numbers : List ℤ)
    → IndexOf first segments ws → (bad_window w).given ≡ false
    → QueryPromise first segments w (length numbers) (queried ws w numbers)
query_promise first segments w ws numbers index good =
    let r = index_demands first segments w ws index good in
    let ns = numbers_of first r.listed in
    let size : length ns ≡ length r.listed = length-map r.listed (number_of first) in
    let once = once_numbers first segments w r.listed r.once in
    record {
      due = ns;
      due_once = once;
      due_few = omega (arith, size, r.within);
      fits = λ h.
          subst (QueryDone first segments w) (sym (query_done first segments ws index w numbers good r.listed r.visits r.ends (omega (arith, size, h))))
          (record {
            is_done = refl;
            lists = subst (ListsNumbers first segments w) (sym (listed_numbers ns numbers (length r.listed) r.visits size)) once;
            few = record { le = le→leb r.visits (most_visits (length segments) (length r.listed)) r.few };
          });
      short = λ h.
          let e = query_short first segments ws index w numbers good r.listed r.visits r.ends (omega (arith, size, h)) in
          (ap (λ (x : Result). x.0.number) e, ap (λ (x : Result). x.0.count) e ∙ ap (λ (k : ℕ). pos k) (sym size));
    }

-- the same of many windows in one call (request E5), each as if it were asked alone
pub many_promise : (first : ℤ) (segments : List Segment) (ws edges counts numbers : List ℤ)
    → IndexOf first segments ws → (bad_slice edges (length counts)).given ≡ false → (bad_windows edges).given ≡ false
    → ManyPromise first segments (windows_of edges) (length numbers) (queried_many ws edges counts numbers)
many_promise first segments ws edges counts numbers index slice good = record {
  due = due_to ws;
  visits = λ w. visits_in (walk_of ws w);
  due_once = λ w g.
      subst (ListsNumbers first segments w) (sym (due_are_is w))
      (once_numbers first segments w (walks w).listed (groups_once segments w index.accepted g (walks w).listed (walks w).groups));
  due_few = λ w g. omega (arith, ap length (due_are_is w), length-map (walks w).listed (number_of first), (walks w).within);
  few = λ w g. rw (ap length (due_are_is w) ∙ length-map (walks w).listed (number_of first), ap visits_in (walks w).ends) (walks w).few;
  fits = λ h. subst (ManyDone asked (due_to ws) (λ w. visits_in (walk_of ws w))) (sym (many_done ws sound edges counts numbers slice good spoilt (omega (arith, all_due ws asked, h)))) (record {
    is_done = refl;
    total = ap (λ (k : ℕ). pos k) (sym (all_due ws asked));
    all_visits = refl;
    counts = take_at (map (λ w. pos (due_by (walk_of ws w))) asked) _ (length asked) (length-map asked (λ w. pos (due_by (walk_of ws w))))
        ∙ ap (λ (f : Window → ℕ). map (λ w. pos (f w)) asked) (λ i w. sym (due_length ws w) i);
    numbers = take_at (joined (map (due_to ws) asked)) _ (length (joined (map (due_to ws) asked))) refl;
  });
  short = λ h.
      let e = many_short ws sound edges counts numbers slice good spoilt (omega (arith, all_due ws asked, h)) in
      (ap (λ (x : ManyResult). x.0.number) e, ap (λ (x : ManyResult). x.0.count) e ∙ ap (λ (k : ℕ). pos k) (sym (all_due ws asked)));
}
  where
    asked : List Window
    asked = windows_of edges

    sound : (bad_index ws).given ≡ false
    sound = index_sound first segments ws index

    spoilt : (bad_walks ws edges).given ≡ false
    spoilt = walks_end first segments ws edges index

    walks : (w : Window) → Walks segments w (walk_of ws w)
    walks w = index_walks first segments w ws index

    due_are_is : (w : Window) → due_to ws w ≡ numbers_of first (walks w).listed
    due_are_is w = ap₂ (λ (z : ℤ) (o : Walked). numbers_of z (listed_in o)) (first_word first segments ws index) (walks w).ends
