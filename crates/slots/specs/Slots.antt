-- The slots of a node that lies inside the window's a..b.
use Rattle.std.specs.Prelude.{◌≡◌, refl, Bool, true, false, not, List, [], ◌∷◌, ℕ, zero, suc, ◌+◌, ◌-◌, ◌≤◌, ◌<◌, ℤ, Ok, Err}
use Rattle.std.proofs.Common.{sym, ap, ◌∙◌, arith}
use Rattle.std.specs.Int.Signed.{le_z, lt_z}
use Rattle.paper.specs.Walk.{atSlot, Event, visit, due, word, record_at, when, as_position, slots_walk}
use Rattle.paper.specs.declared.Window.{Window}
use Rattle.tally.specs.State.{State, seen, listing, after, after_end, after_stopped, after_visit, after_due, after_spoiled, listing_visits, Along}
use Rattle.tally.specs.Reads.{position, is_position, no_position, le_not}
use Rattle.tally.specs.declared.Spoiled.{Spoiled}
use Rattle.tally.specs.declared.Tally.{Tally}

module _ (ws : List ℤ) (n : ℕ) (first : ℤ) (w : Window) where
  abbrev does : List Event → State → State
  does es s = after n first es s

  -- one slot, before what follows
  abbrev one : (i : ℕ) → List Event → List Event
  one i x = visit atSlot i ∷ as_position n (word ws i) (λ q. when (le_z (record_at ws q).y1 w.d) (due q ∷ x))

  slots_more : (r i : ℕ) → 0 < r → slots_walk ws n w r i ≡ one i (slots_walk ws n w (r - 1) (i + 1))
  unfolding slots_walk
  slots_more zero i h = absurd (omega arith)
  slots_more (suc r) i h = let e : r ≡ suc r - 1 = omega arith in ap (λ (k : ℕ). one i (slots_walk ws n w k (i + 1))) e

  slots_none : (i : ℕ) → slots_walk ws n w 0 i ≡ []
  unfolding slots_walk
  slots_none i = refl

  module _ (r₀ i₀ : ℕ) (t₀ : Tally) (c₀ : List ℤ) where
    -- the loop: what is left of the slots does what all of them do
    pub record Row (i : ℕ) (t : Tally) (c : List ℤ) : Type 0 where
      pub rest : does (slots_walk ws n w r₀ i₀) (Ok t₀, c₀) ≡ does (slots_walk ws n w (i₀ + r₀ - i) i) (Ok t, c)
      pub visits : t.visits + i₀ ≤ t₀.visits + i

    pub row_start : Row i₀ t₀ c₀
    row_start = let e : r₀ ≡ i₀ + r₀ - i₀ = omega arith in record { rest = ap (λ (r : ℕ). does (slots_walk ws n w r i₀) (Ok t₀, c₀)) e; visits = omega arith }

    module _ (i : ℕ) (t : Tally) (c : List ℤ) (row : Row i t c) where
      pub row_end : i₀ + r₀ ≤ i → i ≤ i₀ + r₀ → Along n first (slots_walk ws n w r₀ i₀) r₀ t₀ c₀ (Ok t) c
      row_end h g =
          let e : i₀ + r₀ - i ≡ 0 = omega arith in
          record {
            came = sym (row.rest ∙ ap (λ (k : ℕ). does (slots_walk ws n w k i) (Ok t, c)) e ∙ ap (λ (x : List Event). does x (Ok t, c)) (slots_none i) ∙ after_end _ _ _);
            visits = omega (arith, row.visits);
          }

      module _ (h : i < i₀ + r₀) where
        abbrev left : List Event
        left = slots_walk ws n w (i₀ + r₀ - (i + 1)) (i + 1)

        abbrev chosen : ℕ → List Event
        chosen q = when (le_z (record_at ws q).y1 w.d) (due q ∷ left)

        opened : does (slots_walk ws n w r₀ i₀) (Ok t₀, c₀) ≡ does (as_position n (word ws i) chosen) (Ok (seen t), c)
        opened =
            let e : i₀ + r₀ - i - 1 ≡ i₀ + r₀ - (i + 1) = omega arith in
            row.rest
            ∙ ap (λ (x : List Event). does x (Ok t, c)) (slots_more (i₀ + r₀ - i) i (omega arith))
            ∙ ap (λ (k : ℕ). does (one i (slots_walk ws n w k (i + 1))) (Ok t, c)) e
            ∙ after_visit _ _ t c atSlot i _

        -- the word is no position
        pub row_spoiled : (x : Spoiled) → position n (word ws i) ≡ Err x → Along n first (slots_walk ws n w r₀ i₀) r₀ t₀ c₀ (Err x) c
        row_spoiled x b = record {
          came = sym (opened ∙ ap (λ (es : List Event). does es (Ok (seen t), c)) (no_position n (word ws i) chosen x b) ∙ after_spoiled _ _ (seen t) c);
          visits = tt;
        }

        module _ (q : ℕ) (b : position n (word ws i) ≡ Ok q) where
          goes : (v : Bool) → v ≡ lt_z w.d (record_at ws q).y1 → does (slots_walk ws n w r₀ i₀) (Ok t₀, c₀) ≡ does (when (not v) (due q ∷ left)) (Ok (seen t), c)
          goes v e = opened
              ∙ ap (λ (es : List Event). does es (Ok (seen t), c)) (is_position n (word ws i) chosen q b ∙ ap (λ (u : Bool). when u (due q ∷ left)) (le_not (record_at ws q).y1 w.d ∙ ap not (sym e)))

          -- the slot is above the window
          pub row_above : true ≡ lt_z w.d (record_at ws q).y1 → Along n first (slots_walk ws n w r₀ i₀) r₀ t₀ c₀ (Ok (seen t)) c
          row_above e = record { came = sym (goes true e ∙ after_end _ _ _); visits = omega (arith, row.visits) }

          module _ (e : false ≡ lt_z w.d (record_at ws q).y1) where
            listed : does (slots_walk ws n w r₀ i₀) (Ok t₀, c₀) ≡ does left (listing n first q (seen t) c)
            listed = goes false e ∙ after_due _ _ (seen t) c q left

            -- its number is due where n are listed
            pub row_full : (x : Spoiled) (new : List ℤ) → (Err x, new) ≡ listing n first q (seen t) c → Along n first (slots_walk ws n w r₀ i₀) r₀ t₀ c₀ (Err x) new
            row_full x new g = record { came = sym (listed ∙ ap (does left) (sym g) ∙ after_stopped _ _ left x new); visits = tt }

            pub row_step : (u : Tally) (new : List ℤ) → (Ok u, new) ≡ listing n first q (seen t) c → Row (i + 1) u new
            row_step u new g = record { rest = listed ∙ ap (does left) (sym g); visits = omega (arith, row.visits, listing_visits n first (seen t) c q u new g) }
