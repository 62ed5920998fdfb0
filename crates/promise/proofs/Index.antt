-- From the words of an index to the walk over it (`index_walks`, for any edges of the window), and from the groups to demand 2 (`groups_once`, where
-- the edges are in order).
use Rattle.std.specs.Prelude.{◌≡◌, refl, Bool, true, false, ◌&&◌, ◌||◌, ℕ, zero, suc, ◌+◌, ◌≤◌, length, ℤ, T, eqb, ltb}
use Rattle.std.proofs.Math.Path.{sym, subst}
use Rattle.std.proofs.Common.{ap, ◌∙◌, arith, ltb→lt, lt→ltb}
use mathlib.Core.List.{List, [], ◌++◌, map}
use Rattle.std.proofs.lemmas.List.{length-map}
use Rattle.std.specs.Int.Signed.{le_z, lt_z}
use Rattle.lists.specs.Plain.{positions, filter, count}
use Rattle.lists.specs.Tests.{gate, gate_yes, gate_zero, fails, or_false}
use Rattle.lists.specs.Orders.{lt_z_up}
use Rattle.lists.specs.Counting.{count_append, filter_count}
use Rattle.lists.specs.Choosing.{count_chosen}
use Rattle.paper.specs.Descriptor.{at}
use Rattle.paper.specs.Meeting.{Meets}
use Rattle.paper.specs.Answers.{bad_window}
use Rattle.paper.specs.Words.{low_first}
use Rattle.paper.specs.Walk.{Event, walk_of}
use Rattle.paper.specs.Demands.{ListsOnce, Straight, IndexOf, most_visits, low_end_inside, Group, InGroups}
use Rattle.paper.specs.declared.Segment.{Segment}
use Rattle.paper.specs.declared.Window.{Window}
use Rattle.promise.specs.Index.{at_low, rises, placed, Walks}
use Rattle.promise.specs.Events.{is_due, visits_of, dues, dues_count}
use Rattle.promise.specs.Groups.{Rises, meets_low, is_across, is_along, in_group, one_group, group_meets, meets_group}
use Rattle.promise.specs.Whole.{listed, inside_events, across_events, along_events, whole, across_lists, along_lists, none_ends}
use Rattle.promise.proofs.Whole.{inside_lists, whole_few, whole_visits, walk_ends}

zero_or : {Z : Type 0} (n : ℕ) → (n ≡ 0 → Z) → (1 ≤ n → Z) → Z
zero_or zero f g = f refl
zero_or (suc n) f g = g (omega arith)

module _ (first : ℤ) (segments : List Segment) (w : Window) (ws : List ℤ) (index : IndexOf first segments ws) where
  same_size : length (map low_first segments) ≡ length segments
  same_size = length-map segments low_first

  -- what is due counts as the positions of a group do
  group : (q : Segment → Bool) (ps : List ℕ) → ((p : ℕ) → count (eqb p) ps ≡ count (λ x. eqb p x && q (at (map low_first segments) x)) (positions (length (map low_first segments))))
      → Group segments q ps
  group q ps h p =
      h p
      ∙ ap (λ (k : ℕ). count (λ x. eqb p x && q (at (map low_first segments) x)) (positions k)) same_size
      ∙ ap (λ (u : ℕ → Bool). count u (positions (length segments))) (λ i x. eqb p x && q (at_low segments x i))
      ∙ sym (filter_count (eqb p) (λ x. q (low_first (at segments x))) (positions (length segments)))

  none : length (map low_first segments) ≡ 0 → Walks segments w (walk_of ws w)
  unfolding positions filter
  none e = record {
    listed = [];
    visits = 0;
    ends = none_ends ws w ((placed first segments ws index).size ∙ e);
    groups = record { inside = []; across = []; along = []; order = refl; insides = empty (low_end_inside w); acrosses = empty (is_across w); alongs = empty (is_along w) };
    few = omega arith;
    within = omega arith;
  }
    where
      empty : (q : Segment → Bool) → Group segments q []
      empty q p = sym (ap (λ (k : ℕ). count (eqb p) (filter (λ x. q (low_first (at segments x))) (positions k))) (sym same_size ∙ e))

  some : 1 ≤ length (map low_first segments) → Walks segments w (walk_of ws w)
  some h =
      let rs = map low_first segments in
      let rise = rises segments index.accepted in
      let due : (es : List Event) (p : ℕ) → count (eqb p) (dues es) ≡ count (is_due (eqb p)) es = λ es p. dues_count (eqb p) es in
      record {
        listed = listed rs w rise;
        visits = visits_of (whole rs w rise);
        ends = walk_ends rs w rise h ws (placed first segments ws index);
        groups = record {
          inside = dues (inside_events rs w rise);
          across = dues (across_events rs w rise);
          along = dues (along_events rs w rise);
          order = refl;
          insides = group (low_end_inside w) _ (λ p. due (inside_events rs w rise) p ∙ inside_lists rs w rise h (eqb p));
          acrosses = group (is_across w) _ (λ p. due (across_events rs w rise) p ∙ across_lists rs w rise (eqb p));
          alongs = group (is_along w) _ (λ p. due (along_events rs w rise) p ∙ along_lists rs w rise (eqb p));
        };
        few = subst (λ (k : ℕ). visits_of (whole rs w rise) ≤ most_visits k (length (listed rs w rise))) same_size (whole_visits rs w rise h);
        within = subst (λ (k : ℕ). length (listed rs w rise) ≤ k) same_size (whole_few rs w rise h);
      }

  pub index_walks : Walks segments w (walk_of ws w)
  index_walks = zero_or (length (map low_first segments)) none some

-- ---- demand 2 from the groups: any meeting segment is in exactly one group, and no other is in any
module _ (segments : List Segment) (w : Window) (s : Straight segments) (good : (bad_window w).given ≡ false) where
  abbrev record_in : ℕ → Segment
  record_in p = low_first (at segments p)

  edges : (T (le_z w.a w.b)) × (T (le_z w.c w.d))
  edges =
      let x = or_false (lt_z w.b w.a || lt_z w.d w.c) _ good in
      let y = or_false (lt_z w.b w.a) (lt_z w.d w.c) x.0 in
      (subst T (lt_z_up w.a w.b) (fails y.0), subst T (lt_z_up w.c w.d) (fails y.1))

  record_rises : (p : ℕ) → Rises (record_in p)
  record_rises p = subst Rises (at_low segments p) (rises segments s p)

  meets_in : (p : ℕ) → Meets (at segments p) w → T (in_group w (record_in p))
  meets_in p m = meets_group w (record_in p) (record_rises p) ((meets_low (at segments p) w).0 m)

  meets_out : (p : ℕ) → T (in_group w (record_in p)) → Meets (at segments p) w
  meets_out p t = (meets_low (at segments p) w).1 (group_meets w (record_in p) (record_rises p) edges.0 edges.1 t)

  module _ (ps : List ℕ) (g : InGroups segments w ps) where
    listed_count : (p : ℕ) → count (eqb p) ps ≡ gate (in_group w (record_in p)) (gate (ltb p (length segments)) 1)
    listed_count p =
        let i = low_end_inside w (record_in p) in
        let j = is_across w (record_in p) in
        let k = is_along w (record_in p) in
        let c = ltb p (length segments) in
        ap (λ (l : List ℕ). count (eqb p) l) g.order
        ∙ omega (
          arith,
          count_append (eqb p) g.inside (g.across ++ g.along),
          count_append (eqb p) g.across g.along,
          g.insides p,
          g.acrosses p,
          g.alongs p,
          count_chosen (λ x. low_end_inside w (record_in x)) (length segments) p,
          count_chosen (λ x. is_across w (record_in x)) (length segments) p,
          count_chosen (λ x. is_along w (record_in x)) (length segments) p,
          gates i j k (in_group w (record_in p)) c (one_group w (record_in p)),
        )
      where
        gates : (i j k m c : Bool) → gate i 1 + (gate j 1 + gate k 1) ≡ gate m 1 → gate i (gate c 1) + (gate j (gate c 1) + gate k (gate c 1)) ≡ gate m (gate c 1)
        gates i j k m true e = e
        gates i j k m false e = rw (gate_zero i, gate_zero j, gate_zero k, gate_zero m) refl

    pub groups_once : ListsOnce segments w ps
    groups_once = record {
      once = λ p h m.
          listed_count p
          ∙ gate_yes (in_group w (record_in p)) (gate (ltb p (length segments)) 1) (meets_in p m)
          ∙ gate_yes (ltb p (length segments)) 1 (lt→ltb p (length segments) h);
      never = λ p f. listed_count p ∙ neither (in_group w (record_in p)) (ltb p (length segments)) (λ t u. f (ltb→lt p (length segments) u) (meets_out p t));
    }
      where
        neither : (b c : Bool) → (T b → T c → ⊥) → gate b (gate c 1) ≡ 0
        neither true true f = absurd (f tt tt)
        neither true false f = refl
        neither false c f = refl
