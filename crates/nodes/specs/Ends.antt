-- What one node reads: the ends of its run.
use Rattle.std.specs.Prelude.{◌≡◌, refl, Bool, true, false, not, ◌&&◌, ◌||◌, cond, List, [], ◌∷◌, ℕ, ◌+◌, ◌-◌, ◌≤◌, ◌<◌, ltb, ℤ, Result, Ok, Err}
use Rattle.std.proofs.Common.{sym, ap, ap₂, ◌∙◌, true≢false, arith, ltb-true, ltb-false}
use Rattle.std.specs.Int.Signed.{lt_z}
use Rattle.paper.specs.Walk.{Event, spoiled, word, record_at, when, as_position, by_ends}
use Rattle.paper.specs.declared.Window.{Window}
use Rattle.tally.specs.Reads.{position, is_position, no_position, le_not}
use Rattle.tally.specs.declared.Spoiled.{Spoiled}
use Rattle.nodes.specs.declared.Ends.{Ends}
use Rattle.nodes.specs.declared.Ends.TheVariants.{Out, In, Across}

abbrev pub by_case : Ends → (slots below : List Event) → List Event
by_case Out slots below = []
by_case In slots below = slots
by_case Across slots below = below

module _ (ws : List ℤ) (n : ℕ) (w : Window) (size z : ℕ) where
  -- its first and its last word are read, and what follows goes by their x
  abbrev reads : (slots below : List Event) → List Event
  reads slots below = as_position n (word ws z) (λ f. as_position n (word ws (z + size - 1)) (λ l. by_ends w (record_at ws f).x1 (record_at ws l).x1 slots below))

  -- a node of a size whose run of the x order stands from word z on
  pub record Ended (r : Ends) : Type 0 where
    pub told : (slots below : List Event) → reads slots below ≡ by_case r slots below
    -- both ends of a node of one are one word
    pub many : r ≡ Across → 1 < size

  -- one of its ends is no position
  pub record EndsCut : Type 0 where
    pub told : (slots below : List Event) → reads slots below ≡ spoiled ∷ []

  pub ends_first : (x : Spoiled) → position n (word ws z) ≡ Err x → EndsCut
  ends_first x e = record { told = λ slots below. no_position n (word ws z) _ x e }

  module _ (first : ℕ) (ef : position n (word ws z) ≡ Ok first) where
    pub ends_last : (x : Spoiled) → position n (word ws (z + size - 1)) ≡ Err x → EndsCut
    ends_last x e = record { told = λ slots below. is_position n (word ws z) _ first ef ∙ no_position n (word ws (z + size - 1)) _ x e }

    module _ (last : ℕ) (el : position n (word ws (z + size - 1)) ≡ Ok last) where
      abbrev fx : ℤ
      fx = (record_at ws first).x1

      abbrev lx : ℤ
      lx = (record_at ws last).x1

      -- the four tests as the code makes them
      tested : (slots below : List Event) → reads slots below ≡ when (not (lt_z lx w.a || lt_z w.b fx)) (cond (not (lt_z fx w.a) && not (lt_z w.b lx)) slots below)
      tested slots below =
          is_position n (word ws z) _ first ef
          ∙ is_position n (word ws (z + size - 1)) _ last el
          ∙ ap₂ (λ (s t : Bool). when (not (lt_z lx w.a || lt_z w.b fx)) (cond (s && t) slots below)) (le_not w.a fx) (le_not lx w.b)

      same : (p q : ℕ) → ◌≡◌ {A = Result ℕ Spoiled} (Ok p) (Ok q) → p ≡ q
      same p q e = cc

      single : size ≤ 1 → 0 < size → first ≡ last
      single h g = let e : z ≡ z + size - 1 = omega arith in same first last (sym ef ∙ ap (λ (i : ℕ). position n (word ws i)) e ∙ el)

      pub ends_left : true ≡ lt_z lx w.a → Ended Out
      ends_left a = record {
        told = λ slots below. tested slots below ∙ ap (λ (s : Bool). when (not (s || lt_z w.b fx)) (cond (not (lt_z fx w.a) && not (lt_z w.b lx)) slots below)) (sym a);
        many = λ e. absurd (cc);
      }

      module _ (a : false ≡ lt_z lx w.a) where
        pub ends_right : true ≡ lt_z w.b fx → Ended Out
        ends_right b = record {
          told = λ slots below. tested slots below ∙ ap₂ (λ (s t : Bool). when (not (s || t)) (cond (not (lt_z fx w.a) && not (lt_z w.b lx)) slots below)) (sym a) (sym b);
          many = λ e. absurd (cc);
        }

        module _ (b : false ≡ lt_z w.b fx) where
          meeting : (slots below : List Event) → reads slots below ≡ cond (not (lt_z fx w.a) && not (lt_z w.b lx)) slots below
          meeting slots below = tested slots below ∙ ap₂ (λ (s t : Bool). when (not (s || t)) (cond (not (lt_z fx w.a) && not (lt_z w.b lx)) slots below)) (sym a) (sym b)

          many_of : 0 < size → (first ≡ last → ⊥) → 1 < size
          many_of g h = go (ltb 1 size) refl
            where
              go : (t : Bool) → ltb 1 size ≡ t → 1 < size
              go true e = ltb-true 1 size e
              go false e = absurd (h (single (ltb-false 1 size e) g))

          pub ends_cut_left : 0 < size → true ≡ lt_z fx w.a → Ended Across
          ends_cut_left g c = record {
            told = λ slots below. meeting slots below ∙ ap (λ (s : Bool). cond (not s && not (lt_z w.b lx)) slots below) (sym c);
            many = λ e. many_of g (λ q. true≢false (c ∙ ap (λ (p : ℕ). lt_z (record_at ws p).x1 w.a) q ∙ sym a));
          }

          module _ (c : false ≡ lt_z fx w.a) where
            pub ends_cut_right : 0 < size → true ≡ lt_z w.b lx → Ended Across
            ends_cut_right g d = record {
              told = λ slots below. meeting slots below ∙ ap₂ (λ (s t : Bool). cond (not s && not t) slots below) (sym c) (sym d);
              many = λ e. many_of g (λ q. true≢false (d ∙ ap (λ (p : ℕ). lt_z w.b (record_at ws p).x1) (sym q) ∙ sym b));
            }

            pub ends_in : false ≡ lt_z w.b lx → Ended In
            ends_in d = record {
              told = λ slots below. meeting slots below ∙ ap₂ (λ (s t : Bool). cond (not s && not t) slots below) (sym c) (sym d);
              many = λ e. absurd (cc);
            }
