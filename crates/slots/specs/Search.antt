-- The search of level 0: what is walked after it, whatever that is, is walked from the slot found.
use Rattle.std.specs.Prelude.{◌≡◌, Bool, true, false, cond, List, ◌∷◌, eqb, ℤ, Ok, Err}
use Rattle.std.proofs.Math.Path.{refl}
use Rattle.std.proofs.Common.{sym, ap, ap₂, ◌∙◌, arith, eq-eqb, ne_eqb, eqb-true}
use Prim.Native.Nat.{ℕ, zero, suc, ◌+◌, ◌-◌, ◌/◌, ◌≤◌, ◌<◌}
use Rattle.std.proofs.lemmas.Bool.{eqb-false}
use Rattle.std.specs.Int.Signed.{le_z}
use Rattle.paper.specs.Words.{levels_at}
use Rattle.paper.specs.Walk.{atSearch, Event, visit, word, record_at, as_position, search_to}
use Rattle.paper.specs.declared.Window.{Window}
use Rattle.tally.specs.State.{seen, spoilt, after, after_visit, after_spoiled}
use Rattle.tally.specs.Reads.{position, is_position, no_position}
use Rattle.tally.specs.declared.Spoiled.{Spoiled}
use Rattle.tally.specs.declared.Tally.{Tally}
use Rattle.slots.specs.declared.Found.{Found}

module _ (ws : List ℤ) (n : ℕ) (w : Window) where
  -- one mid
  abbrev one : (lo hi : ℕ) → (down up : List Event) → List Event
  one lo hi down up =
      visit atSearch (levels_at n + (lo + hi) / 2)
      ∷ as_position n (word ws (levels_at n + (lo + hi) / 2)) (λ q. cond (le_z w.c (record_at ws q).y1) down up)

  module _ (x : ℕ → List Event) where
    ended : (f lo hi : ℕ) → lo ≡ hi → search_to ws n w f lo hi x ≡ x lo
    unfolding search_to
    ended zero lo hi h = refl
    ended (suc f) lo hi h = rw (eq-eqb lo hi h)

    more : (f lo hi : ℕ) → lo < hi → search_to ws n w (suc f) lo hi x ≡ one lo hi (search_to ws n w f lo ((lo + hi) / 2) x) (search_to ws n w f ((lo + hi) / 2 + 1) hi x)
    unfolding search_to
    more f lo hi h = rw (ne_eqb lo hi (λ e. omega arith))

    enough : (f g lo hi : ℕ) → lo ≤ hi → hi - lo ≤ f → hi - lo ≤ g → search_to ws n w f lo hi x ≡ search_to ws n w g lo hi x
    enough zero g lo hi o a b = ended zero lo hi (omega arith) ∙ sym (ended g lo hi (omega arith))
    enough (suc f) zero lo hi o a b = ended (suc f) lo hi (omega arith) ∙ sym (ended zero lo hi (omega arith))
    enough (suc f) (suc g) lo hi o a b =
        go (eqb lo hi) refl
        (λ h. enough f g lo ((lo + hi) / 2) (omega arith) (omega arith) (omega arith))
        (λ h. enough f g ((lo + hi) / 2 + 1) hi (omega arith) (omega arith) (omega arith))
      where
        go : (t : Bool) → eqb lo hi ≡ t
            → (lo < hi → search_to ws n w f lo ((lo + hi) / 2) x ≡ search_to ws n w g lo ((lo + hi) / 2) x)
            → (lo < hi → search_to ws n w f ((lo + hi) / 2 + 1) hi x ≡ search_to ws n w g ((lo + hi) / 2 + 1) hi x)
            → search_to ws n w (suc f) lo hi x ≡ search_to ws n w (suc g) lo hi x
        go true e p q = let h = eqb-true lo hi e in ended (suc f) lo hi h ∙ sym (ended (suc g) lo hi h)
        go false e p q = let h : lo < hi = omega (arith, eqb-false lo hi e) in more f lo hi h ∙ ap₂ (one lo hi) (p h) (q h) ∙ sym (more g lo hi h)

    -- the search between lo and hi
    abbrev between : (lo hi : ℕ) → List Event
    between lo hi = search_to ws n w (hi - lo) lo hi x

    parts : (lo hi : ℕ) → lo < hi → between lo hi ≡ one lo hi (between lo ((lo + hi) / 2)) (between ((lo + hi) / 2 + 1) hi)
    parts lo hi h =
        enough (hi - lo) (suc (hi - lo)) lo hi (omega arith) (omega arith) (omega arith)
        ∙ more (hi - lo) lo hi h
        ∙ ap₂ (one lo hi)
        (enough (hi - lo) ((lo + hi) / 2 - lo) lo ((lo + hi) / 2) (omega arith) (omega arith) (omega arith))
        (enough (hi - lo) (hi - ((lo + hi) / 2 + 1)) ((lo + hi) / 2 + 1) hi (omega arith) (omega arith) (omega arith))

  pub record Searched (t : Tally) (r : Found) : Type 0 where
    pub rest : (l : ℤ) (x : ℕ → List Event) (cells : List ℤ) → after n l (search_to ws n w n 0 n x) (Ok t, cells) ≡ after n l (x r.p) (Ok r.tally, cells)
    pub inside : r.p ≤ n
    pub visits : r.tally.visits ≤ t.visits + n

  -- a spoiled word was read
  pub record SearchCut (t : Tally) : Type 0 where
    pub rest : (l : ℤ) (x : ℕ → List Event) (cells : List ℤ) → after n l (search_to ws n w n 0 n x) (Ok t, cells) ≡ (spoilt, cells)

  -- the loop: what is left of the search does what the whole does
  pub record Seeking (t₀ : Tally) (lo hi : ℕ) (t : Tally) : Type 0 where
    pub rest : (l : ℤ) (x : ℕ → List Event) (cells : List ℤ) → after n l (search_to ws n w n 0 n x) (Ok t₀, cells) ≡ after n l (between x lo hi) (Ok t, cells)
    pub order : lo ≤ hi
    pub high : hi ≤ n
    pub visits : t.visits + (hi - lo) ≤ t₀.visits + n

  module _ (t₀ : Tally) where
    pub seek_start : Seeking t₀ 0 n t₀
    seek_start =
        let e : n ≡ n - 0 = omega arith in
        record { rest = λ l x cells. ap (λ (f : ℕ). after n l (search_to ws n w f 0 n x) (Ok t₀, cells)) e; order = omega arith; high = omega arith; visits = omega arith }

    module _ (lo hi : ℕ) (t : Tally) (s : Seeking t₀ lo hi t) where
      pub seek_end : hi ≤ lo → Searched t₀ (record { tally = t; p = lo })
      seek_end h =
          let e : lo ≡ hi = omega (arith, s.order) in
          record {
            rest = λ l x cells. s.rest l x cells ∙ ap (λ (es : List Event). after n l es (Ok t, cells)) (ended x (hi - lo) lo hi e);
            inside = omega (arith, s.order, s.high);
            visits = omega (arith, s.visits);
          }

      module _ (h : lo < hi) where
        abbrev read : ℤ
        read = word ws (levels_at n + (lo + hi) / 2)

        abbrev chosen : (ℕ → List Event) → ℕ → List Event
        chosen x q = cond (le_z w.c (record_at ws q).y1) (between x lo ((lo + hi) / 2)) (between x ((lo + hi) / 2 + 1) hi)

        opened : (l : ℤ) (x : ℕ → List Event) (cells : List ℤ) → after n l (search_to ws n w n 0 n x) (Ok t₀, cells) ≡ after n l (as_position n read (chosen x)) (Ok (seen t), cells)
        opened l x cells = s.rest l x cells ∙ ap (λ (es : List Event). after n l es (Ok t, cells)) (parts x lo hi h) ∙ after_visit n l t cells atSearch _ _

        pub seek_spoiled : (e : Spoiled) → position n read ≡ Err e → SearchCut t₀
        seek_spoiled e b = record {
          rest = λ l x cells. opened l x cells ∙ ap (λ (es : List Event). after n l es (Ok (seen t), cells)) (no_position n read (chosen x) e b) ∙ after_spoiled n l (seen t) cells;
        }

        module _ (q : ℕ) (b : position n read ≡ Ok q) where
          goes : (v : Bool) → v ≡ le_z w.c (record_at ws q).y1 → (l : ℤ) (x : ℕ → List Event) (cells : List ℤ)
              → after n l (search_to ws n w n 0 n x) (Ok t₀, cells) ≡ after n l (cond v (between x lo ((lo + hi) / 2)) (between x ((lo + hi) / 2 + 1) hi)) (Ok (seen t), cells)
          goes v e l x cells = opened l x cells
              ∙ ap (λ (es : List Event). after n l es (Ok (seen t), cells)) (is_position n read (chosen x) q b)
              ∙ ap (λ (c : Bool). after n l (cond c (between x lo ((lo + hi) / 2)) (between x ((lo + hi) / 2 + 1) hi)) (Ok (seen t), cells)) (sym e)

          pub seek_down : true ≡ le_z w.c (record_at ws q).y1 → Seeking t₀ lo ((lo + hi) / 2) (seen t)
          seek_down e = record { rest = goes true e; order = omega arith; high = omega (arith, s.high); visits = omega (arith, s.visits) }

          pub seek_up : false ≡ le_z w.c (record_at ws q).y1 → Seeking t₀ ((lo + hi) / 2 + 1) hi (seen t)
          seek_up e = record { rest = goes false e; order = omega arith; high = s.high; visits = omega (arith, s.visits) }
