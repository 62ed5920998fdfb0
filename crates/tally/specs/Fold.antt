-- The events' outcome in `paper` (positions in order, and visits) beside what the code gives: `Stands`, which `given_after` takes from one to the other.
use Rattle.std.specs.Prelude.{◌≡◌, refl, Bool, true, false, cond, List, [], ◌∷◌, ◌++◌, ℕ, ◌+◌, ◌≤◌, ◌<◌, ltb, length, drop, set, ℤ, Result, Ok, IsErr}
use Rattle.std.proofs.Common.{sym, ap, ◌∙◌, subst, arith, length-append, ltb-true}
use mathlib.Core.List.{map-append}
use Rattle.std.proofs.lemmas.List.{length-map}
use Rattle.lists.specs.Filling.{filled, filled_none, filled_more}
use Rattle.paper.specs.Descriptor.{number_of}
use Rattle.paper.specs.Results.{numbers_of}
use Rattle.paper.specs.Walk.{Event, visit, due, spoiled, Walked, walked, stopped, step, run}
use Rattle.tally.specs.State.{State, spoilt, does, onward, listing, after, after_past}
use Rattle.tally.specs.declared.Spoiled.{Spoiled}
use Rattle.tally.specs.declared.Tally.{Tally}

abbrev pub tally : ℕ → ℕ → Tally
tally l v = record { listed = l; visits = v }

-- what a walk gives: where none is spoiled, how many are listed, the visits, and the numbers in the cells; else the cells from n on stay
abbrev pub Given : ℕ → ℤ → List ℤ → Walked → Result Tally Spoiled → List ℤ → Type 0
Given n first cells (walked ps v) r after = (r ≡ Ok (tally (length ps) v)) × (after ≡ filled (numbers_of first ps) cells) × (length ps ≤ n)
Given n first cells stopped r after = IsErr r × (drop n after ≡ drop n cells)

module _ (n : ℕ) (first : ℤ) (cells : List ℤ) where
  -- what the code keeps stands for what has come of the events
  data Stands : Walked → State → Type 0 where
    going : (ps : List ℕ) (v : ℕ) (st : State) → length ps ≤ n → st ≡ (Ok (tally (length ps) v), filled (numbers_of first ps) cells) → Stands (walked ps v) st
    ended : (new : List ℤ) → Stands stopped (spoilt, new)

  one_more : (ps : List ℕ) (p : ℕ) → set (filled (numbers_of first ps) cells) (length ps) (number_of first p) ≡ filled (numbers_of first (ps ++ (p ∷ []))) cells
  one_more ps p =
      ap (λ (k : ℕ). set (filled (numbers_of first ps) cells) k (number_of first p)) (sym (length-map ps (number_of first)))
      ∙ filled_more (numbers_of first ps) (number_of first p) cells
      ∙ ap (λ (ys : List ℤ). filled ys cells) (sym (map-append (number_of first) ps (p ∷ [])))

  listed : (ps : List ℕ) (v p : ℕ) (t : Bool) → ltb (length ps) n ≡ t
      → Stands (cond t (walked (ps ++ (p ∷ [])) v) stopped)
      (cond {A = State} t (Ok (tally (length ps + 1) v), set (filled (numbers_of first ps) cells) (length ps) (number_of first p)) (spoilt, filled (numbers_of first ps) cells))
  listed ps v p true e =
      let h : length ps < n = ltb-true (length ps) n e in
      let g : length (ps ++ (p ∷ [])) ≡ length ps + 1 = length-append ps (p ∷ []) in
      going (ps ++ (p ∷ [])) v _ (omega arith) (λ i. (Ok (tally (sym g i) v), one_more ps p i))
  listed ps v p false e = ended (filled (numbers_of first ps) cells)

  first_step : (e : Event) (ps : List ℕ) (v : ℕ) → length ps ≤ n
      → Stands (step n (walked ps v) e) (does n first e (tally (length ps) v) (filled (numbers_of first ps) cells))
  unfolding step does listing
  first_step (visit k i) ps v h = going ps (v + 1) _ h refl
  first_step (due p) ps v h = listed ps v p (ltb (length ps) n) refl
  first_step spoiled ps v h = ended (filled (numbers_of first ps) cells)

  stands_step : (e : Event) (o : Walked) (st : State) → Stands o st → Stands (step n o e) (onward n first e st.0 st.1)
  unfolding step onward
  stands_step e o st₀ (going ps v st h q) =
      subst (λ (s : State). Stands (step n (walked ps v) e) (onward n first e s.0 s.1)) (sym q) (first_step e ps v h)
  stands_step e o st₀ (ended new) = ended new

  stands_run : (es : List Event) (o : Walked) (st : State) → Stands o st → Stands (run n o es) (after n first es st)
  unfolding run after
  stands_run [] o st h = h
  stands_run (e ∷ es) o st h = stands_run es (step n o e) _ (stands_step e o st h)

  given : (o : Walked) (st : State) → Stands o st → drop n st.1 ≡ drop n cells → Given n first cells o st.0 st.1
  given o st₀ (going ps v st h q) d = (ap (λ (s : State). s.0) q, ap (λ (s : State). s.1) q, h)
  given o st₀ (ended new) d = (refl, d)

  -- what the whole of some events gives
  pub given_after : (es : List Event) (r : Result Tally Spoiled) (new : List ℤ) → (r, new) ≡ after n first es (Ok (tally 0 0), cells) → Given n first cells (run n (walked [] 0) es) r new
  given_after es r new e =
      subst (λ (s : State). Given n first cells (run n (walked [] 0) es) s.0 s.1) (sym e)
      (given (run n (walked [] 0) es) _ (stands_run es (walked [] 0) (Ok (tally 0 0), cells) (going [] 0 _ (omega arith) (λ i. (Ok (tally 0 0), sym (filled_none cells) i)))) (after_past n first es (Ok (tally 0 0), cells)))
