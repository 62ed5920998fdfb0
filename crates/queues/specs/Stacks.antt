-- A queue walked with a stack: what is left to do is the next queue's walk, then that of each queue that waits, the last first.
use Rattle.std.specs.Prelude.{◌≡◌, refl, Bool, true, false, cond, ltb, List, [], ◌∷◌, ◌++◌, ℕ, zero, suc, ◌+◌, ◌-◌, ◌*◌, ◌^◌, ◌≤◌, ◌<◌, length, ℤ, Option, Some, None, Result, Ok, Err, IsErr}
use Rattle.std.proofs.Common.{ltb-true, sym, ap, ◌∙◌, append-nil, append_assoc, subst, add-zero, zero-add, length-append, arith, pow-suc}
use Rattle.paper.specs.Walk.{Event}
use Rattle.paper.specs.declared.Window.{Window}
use Rattle.axes.specs.declared.End.{End}
use Rattle.tally.specs.State.{State, after, after_end, after_append, after_stopped, Along}
use Rattle.tally.specs.Stack.{pending, pending_none, pending_more}
use Rattle.tally.specs.declared.Spoiled.{Spoiled}
use Rattle.tally.specs.declared.Tally.{Tally}
use Rattle.queues.specs.declared.Band.{Band}
use Rattle.queues.specs.declared.Queue.{Queue}
use Rattle.queues.specs.declared.Head.{Head}
use Rattle.queues.specs.Queues.{queue_of, due_of, size_of, due_size, of_some, queue_due, Part, Headed}

-- what waited, the parts of a queue, the queue that is walked next, and what waits then
abbrev pub Went : List Queue → (left right next : Option Queue) → List Queue → Type 0
Went old (Some l) (Some r) next new = (next ≡ Some l) × (new ≡ old ++ (r ∷ []))
Went old (Some l) None next new = (next ≡ Some l) × (new ≡ old)
Went old None (Some r) next new = (next ≡ Some r) × (new ≡ old)
Went old None None (Some q) new = old ≡ new ++ (q ∷ [])
Went old None None None new = (old ≡ []) × (new ≡ [])

unfoldable pub total : List Queue → ℕ
total [] = 0
total (q ∷ qs) = q.size + total qs

total_more : (qs : List Queue) (q : Queue) → total (qs ++ (q ∷ [])) ≡ total qs + q.size
unfolding total
total_more [] q = omega arith
total_more (p ∷ qs) q = omega (arith, total_more qs q)

-- what is walked next takes from the work that is left; what waits is not less
pub went_size : (old : List Queue) (l r o : Option Queue) (new : List Queue) → Went old l r o new → size_of o + total new ≡ size_of l + size_of r + total old
unfolding total
went_size old (Some l) (Some r) o new w = omega (arith, ap size_of w.0, ap total w.1, total_more old r)
went_size old (Some l) None o new w = omega (arith, ap size_of w.0, ap total w.1)
went_size old None (Some r) o new w = omega (arith, ap size_of w.0, ap total w.1)
went_size old None None (Some q) new w = omega (arith, ap total w, total_more new q)
went_size old None None None new w = omega (arith, ap total w.0, ap total w.1)

-- ---- a queue that waits at height k: it is over some, lies in the words, and is the smaller the higher it lies
module _ (ws : List ℤ) where
  pub record Fits (k : ℕ) (q : Queue) : Type 0 where
    pub some : 0 < q.size
    pub inside : q.at + 2 * q.size ≤ length ws
    pub small : q.size < 2 ^ (20 - k)

  abbrev pub Held : ℕ → List Queue → Type 0
  Held k [] = Unit {0}
  Held k (q ∷ qs) = Fits k q × Held (suc k) qs

  -- one is put on top, or taken from it
  held_more : (k : ℕ) (qs : List Queue) (q : Queue) → Held k qs → Fits (k + length qs) q → Held k (qs ++ (q ∷ []))
  held_more k [] q h f = (rw add-zero at f, tt)
  held_more k (p ∷ qs) q h f = let e : k + suc (length qs) ≡ suc k + length qs = omega arith in (h.0, held_more (suc k) qs q h.1 (rw e at f))

  held_rest : (k : ℕ) (qs : List Queue) (q : Queue) → Held k (qs ++ (q ∷ [])) → Held k qs × Fits (k + length qs) q
  held_rest k [] q h = (tt, rw add-zero h.0)
  held_rest k (p ∷ qs) q h =
      let r = held_rest (suc k) qs q h.1 in
      let e : k + suc (length qs) ≡ suc k + length qs = omega arith in
      ((h.0, r.0), rw e r.1)

  -- a queue over some is not at the stack's end
  shallow : (k : ℕ) (q : Queue) → Fits k q → k ≤ 19
  shallow k q f = go (20 - k) refl
    where
      go : (e : ℕ) → 20 - k ≡ e → k ≤ 19
      go zero e = absurd (omega (arith, f.some, f.small, ap (λ (b : ℕ). 2 ^ b) e))
      go (suc e) g = omega arith

  -- the next queue, above those that wait; where there is none, none waits
  abbrev Above : List Queue → Option Queue → Type 0
  Above qs (Some q) = Fits (length qs) q
  Above qs None = qs ≡ []

  -- a part of a queue lies in the words, and is smaller by half
  part_fits : (k : ℕ) (q p : Queue) → Fits k q → Part q (Some p) → Fits (suc k) p
  part_fits k q p f h = record {
    some = h.0;
    inside = omega (arith, h.2, f.inside);
    small =
        let w : 20 - k ≡ suc (20 - suc k) = omega (arith, shallow k q f) in
        omega (arith, h.1, f.small, ap (λ (b : ℕ). 2 ^ b) w ∙ pow-suc 2 (20 - suc k));
  }

  lower_fits : (k : ℕ) (q : Queue) → Fits (suc k) q → Fits k q
  lower_fits k q f = record {
    some = f.some;
    inside = f.inside;
    small =
        let w : 20 - k ≡ suc (20 - suc k) = omega (arith, shallow (suc k) q f) in
        omega (arith, f.small, ap (λ (b : ℕ). 2 ^ b) w ∙ pow-suc 2 (20 - suc k));
  }

  -- what waits, and what is walked next, after one that was next
  went_above : (q : Queue) (old new : List Queue) (l r o : Option Queue) → Fits (length old) q → Held 0 old → Part q l → Part q r → Went old l r o new → Held 0 new × Above new o
  went_above q old new (Some l) (Some r) o f h a b w =
      let g : Fits (length old) r = lower_fits (length old) r (part_fits (length old) q r f b) in
      let e : length new ≡ suc (length old) = omega (arith, ap length w.1, length-append old (r ∷ [])) in (
        subst (Held 0) (sym w.1) (held_more 0 old r h (rw zero-add g)),
        subst (Above new) (sym w.0) (rw e (part_fits (length old) q l f a)),
      )
  went_above q old new (Some l) None o f h a b w = (subst (Held 0) (sym w.1) h, subst (Above new) (sym w.0) (rw w.1 (lower_fits (length old) l (part_fits (length old) q l f a))))
  went_above q old new None (Some r) o f h a b w = (subst (Held 0) (sym w.1) h, subst (Above new) (sym w.0) (rw w.1 (lower_fits (length old) r (part_fits (length old) q r f b))))
  went_above q old new None None (Some p) f h a b w = let g = held_rest 0 new p (subst (Held 0) w h) in (g.0, rw zero-add at g.1)
  went_above q old new None None None f h a b w = (subst (Held 0) (sym w.1) tt, w.1)

-- ---- the events that are left, before and after
went_rest : (f : Queue → List Event) (old new : List Queue) (l r o : Option Queue) → Went old l r o new → (of_some f l ++ of_some f r) ++ pending f old ≡ of_some f o ++ pending f new
went_rest f old new (Some l) (Some r) o w =
    append_assoc (f l) (f r) (pending f old)
    ∙ ap (λ (x : List Event). f l ++ x) (sym (pending_more f old r))
    ∙ (λ k. of_some f (sym w.0 k) ++ pending f (sym w.1 k))
went_rest f old new (Some l) None o w = ap (λ (x : List Event). x ++ pending f old) (append-nil (f l)) ∙ (λ k. of_some f (sym w.0 k) ++ pending f (sym w.1 k))
went_rest f old new None (Some r) o w = λ k. of_some f (sym w.0 k) ++ pending f (sym w.1 k)
went_rest f old new None None (Some p) w = ap (pending f) w ∙ pending_more f new p
went_rest f old new None None None w = λ k. pending f ((w.0 ∙ sym w.1) k)

module _ (ws : List ℤ) (n : ℕ) (band : Band) (end : End) (first : ℤ) where
  abbrev todo : Window → Option Queue → List Queue → List Event
  todo w o qs = of_some (queue_of ws n band end w) o ++ pending (queue_of ws n band end w) qs

  module _ (q₀ : Queue) (t₀ : Tally) (cells₀ : List ℤ) where
    -- the loop's invariant
    pub record Stacked (qs : List Queue) (o : Option Queue) (t : Tally) (cells : List ℤ) : Type 0 where
      pub rest : (w : Window) → after n first (queue_of ws n band end w q₀) (Ok t₀, cells₀) ≡ after n first (todo w o qs) (Ok t, cells)
      pub held : Held ws 0 qs
      pub above : Above ws qs o
      pub visits : t.visits + size_of o + total qs ≤ t₀.visits + q₀.size
      pub few : t₀.visits + q₀.size < 2 ^ 20

    -- nothing waits, and the queue is next, where it is over some
    pub stack_start : (qs : List Queue) (o : Option Queue) → qs ≡ [] → o ≡ due_of true q₀ → q₀.at + 2 * q₀.size ≤ length ws → t₀.visits + q₀.size < 2 ^ 20 → Stacked qs o t₀ cells₀
    unfolding total
    stack_start qs o e d h v = rw (e, d) (record {
      rest = λ w. let f = queue_of ws n band end w in
          ap (λ (x : List Event). after n first x (Ok t₀, cells₀)) (sym (append-nil (f q₀)) ∙ (λ k. queue_due ws n band end w q₀ true k ++ sym (pending_none f) k));
      held = tt;
      above = go (ltb 0 q₀.size) refl;
      visits = omega (arith, due_size true q₀);
      few = v;
    })
      where
        go : (t : Bool) → ltb 0 q₀.size ≡ t → Above ws [] (cond t (Some q₀) None)
        go true z = record { some = ltb-true 0 q₀.size z; inside = h; small = omega (arith, v) }
        go false z = refl

    module _ (qs : List Queue) (o : Option Queue) (t : Tally) (cells : List ℤ) (x : Stacked qs o t cells) where
      pub stack_end : o ≡ None → (w : Window) → Along n first (queue_of ws n band end w q₀) q₀.size t₀ cells₀ (Ok t) cells
      stack_end e w =
          let z : qs ≡ [] = subst (Above ws qs) e x.above in
          record {
            came = sym (x.rest w
                ∙ (λ k. after n first (todo w (e k) (z k)) (Ok t, cells))
                ∙ ap (λ (y : List Event). after n first y (Ok t, cells)) (pending_none (queue_of ws n band end w))
                ∙ after_end n first (Ok t, cells));
            visits = omega (arith, x.visits);
          }

      module _ (q : Queue) (e : o ≡ Some q) where
        pub stack_fits : Fits ws (length qs) q
        stack_fits = subst (Above ws qs) e x.above

        pub stack_room : length qs < 20
        stack_room = omega (arith, shallow ws (length qs) q stack_fits)

        sized : size_of o ≡ q.size
        sized = ap size_of e

        pub stack_few : t.visits + q.size < 2 ^ 20
        stack_few = omega (arith, sized, x.visits, x.few)

        module _ (r : Result Head Spoiled) (new : List ℤ) (hd : Headed ws n band end first q t cells r new) where
          entered : (w : Window) (s : State) → s ≡ after n first (queue_of ws n band end w q) (Ok t, cells)
              → after n first (queue_of ws n band end w q₀) (Ok t₀, cells₀) ≡ after n first (pending (queue_of ws n band end w) qs) s
          entered w s d =
              x.rest w
              ∙ (λ k. after n first (todo w (e k) qs) (Ok t, cells))
              ∙ after_append n first (queue_of ws n band end w q) (pending (queue_of ws n band end w) qs) (Ok t, cells)
              ∙ ap (after n first (pending (queue_of ws n band end w) qs)) (sym d)

          -- it read a spoiled word
          pub stack_cut : (y : Spoiled) → r ≡ Err y → (r' : Result Tally Spoiled) → IsErr r' → (w : Window) → Along n first (queue_of ws n band end w q₀) q₀.size t₀ cells₀ r' new
          stack_cut y d (Ok u) i w = absurd (cc)
          stack_cut y d (Err z) i w =
              let g = subst (λ (r : Result Head Spoiled). Headed ws n band end first q t cells r new) d hd in
              record {
                came = sym (entered w (Err y, new) (sym (g.rest w)) ∙ after_stopped n first _ y new);
                visits = tt;
              }

          -- the walk goes on
          module _ (h : Head) (d : r ≡ Ok h) (o' : Option Queue) (qs' : List Queue) (went : Went qs h.left h.right o' qs') where
            ok : Headed ws n band end first q t cells (Ok h) new
            ok = subst (λ (r : Result Head Spoiled). Headed ws n band end first q t cells r new) d hd

            pub stack_step : Stacked qs' o' h.tally new
            stack_step =
                let above = went_above ws q qs qs' h.left h.right o' stack_fits x.held ok.below.left ok.below.right went in
                record {
                  rest = λ w. let f = queue_of ws n band end w in
                      entered w _ (sym (ok.rest w))
                      ∙ sym (after_append n first (of_some f h.left ++ of_some f h.right) (pending f qs) (Ok h.tally, new))
                      ∙ ap (λ (y : List Event). after n first y (Ok h.tally, new)) (went_rest f qs qs' h.left h.right o' went);
                  held = above.0;
                  above = above.1;
                  visits = omega (arith, x.visits, sized, ok.below.visits, ok.below.sizes, went_size qs h.left h.right o' qs' went);
                  few = x.few;
                }

            pub stack_less : size_of o' + total qs' < size_of o + total qs
            stack_less = omega (arith, sized, ok.below.sizes, went_size qs h.left h.right o' qs' went)
