-- What the code keeps of a walk, and what a list of `paper`'s events makes of it: `after`. A walk that goes on has a tally, one that read a spoiled word is an Err.
-- A proof cites the laws `after_..` and `along_..` and opens nothing.
use Rattle.std.specs.Prelude.{◌≡◌, refl, Bool, true, false, cond, List, [], ◌∷◌, ◌++◌, ℕ, ◌+◌, ◌≤◌, ◌<◌, ltb, length, set, drop, ℤ, Result, Ok, Err, IfOk}
use Rattle.std.proofs.Common.{sym, ap, ◌∙◌, arith, lt-ltb, le-ltb, ltb-true}
use Rattle.std.proofs.lemmas.Result.{IfOk-weaker}
use Rattle.std.proofs.Math.Seq.{set_out, drop-set-lt}
use Rattle.paper.specs.Descriptor.{number_of}
use Rattle.paper.specs.Walk.{Kind, Event, visit, due, spoiled}
use Rattle.tally.specs.declared.Tally.{Tally}
use Rattle.tally.specs.declared.Spoiled.{Spoiled}

-- what a walk gives, and the number cells
abbrev pub State : Type 0
State = Result Tally Spoiled × List ℤ

abbrev pub seen : Tally → Tally
seen t = record { listed = t.listed; visits = t.visits + 1 }

abbrev pub counted : Tally → Tally
counted t = record { listed = t.listed + 1; visits = t.visits }

abbrev pub spoilt : Result Tally Spoiled
spoilt = Err (record {})

-- the number of p is due; past the end of the cells it is counted and not written
unfoldable pub listing : ℕ → ℤ → ℕ → Tally → List ℤ → State
listing n first p t cells = cond (ltb t.listed n) (Ok (counted t), set cells t.listed (number_of first p)) (spoilt, cells)

unfoldable pub does : ℕ → ℤ → Event → Tally → List ℤ → State
does n first (visit k i) t cells = (Ok (seen t), cells)
does n first (due p) t cells = listing n first p t cells
does n first spoiled t cells = (spoilt, cells)

-- nothing is done once a spoiled word has been read
unfoldable pub onward : ℕ → ℤ → Event → Result Tally Spoiled → List ℤ → State
onward n first e (Ok t) cells = does n first e t cells
onward n first e (Err x) cells = (Err x, cells)

-- what comes of events
unfoldable pub after : ℕ → ℤ → List Event → State → State
after n first [] s = s
after n first (e ∷ es) s = after n first es (onward n first e s.0 s.1)

-- a walk along some events, from a tally and the cells, with at most so many visits
pub record Along (n : ℕ) (first : ℤ) (es : List Event) (most : ℕ) (t : Tally) (cells : List ℤ) (r : Result Tally Spoiled) (new : List ℤ) : Type 0 where
  pub came : (r, new) ≡ after n first es (Ok t, cells)
  pub visits : IfOk r (λ u. u.visits ≤ t.visits + most)

module _ (n : ℕ) (first : ℤ) where
  pub after_end : (s : State) → after n first [] s ≡ s
  unfolding after
  after_end s = refl

  pub after_append : (a b : List Event) (s : State) → after n first (a ++ b) s ≡ after n first b (after n first a s)
  unfolding after
  after_append [] b s = refl
  after_append (e ∷ a) b s = after_append a b _

  -- once a spoiled word has been read
  pub after_stopped : (es : List Event) (x : Spoiled) (cells : List ℤ) → after n first es (Err x, cells) ≡ (Err x, cells)
  unfolding after onward
  after_stopped [] x cells = refl
  after_stopped (e ∷ es) x cells = after_stopped es x cells

  module _ (t : Tally) (cells : List ℤ) where
    pub after_visit : (k : Kind) (i : ℕ) (es : List Event) → after n first (visit k i ∷ es) (Ok t, cells) ≡ after n first es (Ok (seen t), cells)
    unfolding after onward does
    after_visit k i es = refl

    pub after_due : (p : ℕ) (es : List Event) → after n first (due p ∷ es) (Ok t, cells) ≡ after n first es (listing n first p t cells)
    unfolding after onward does
    after_due p es = refl

    pub after_spoiled : after n first (spoiled ∷ []) (Ok t, cells) ≡ (spoilt, cells)
    unfolding after onward does
    after_spoiled = refl

    -- ---- a number that is due
    pub listing_full : (p : ℕ) → n ≤ t.listed → (spoilt, cells) ≡ listing n first p t cells
    unfolding listing
    listing_full p h = rw (le-ltb t.listed n h)

    pub listing_room : (p : ℕ) → t.listed < n → (Ok (counted t), set cells t.listed (number_of first p)) ≡ listing n first p t cells
    unfolding listing
    listing_room p h = rw (lt-ltb t.listed n h)

    pub listing_past : (p : ℕ) → t.listed < n → length cells ≤ t.listed → (Ok (counted t), cells) ≡ listing n first p t cells
    unfolding listing
    listing_past p h g = rw (lt-ltb t.listed n h, set_out cells t.listed (number_of first p) g)

    same : (u v : Tally) → ◌≡◌ {A = Result Tally Spoiled} (Ok u) (Ok v) → u.visits ≡ v.visits
    same u v e = let q : u ≡ v = cc in ap (λ (x : Tally). x.visits) q

    apart : (u : Tally) → ◌≡◌ {A = Result Tally Spoiled} (Ok u) spoilt → ⊥
    apart u e = cc

    pub listing_visits : (p : ℕ) (u : Tally) (new : List ℤ) → (Ok u, new) ≡ listing n first p t cells → u.visits ≡ t.visits
    unfolding listing
    listing_visits p u new = go (ltb t.listed n) (set cells t.listed (number_of first p))
      where
        go : (b : Bool) (c : List ℤ) → (Ok u, new) ≡ cond {A = State} b (Ok (counted t), c) (spoilt, cells) → u.visits ≡ t.visits
        go true c e = same u (counted t) (ap (λ (s : State). s.0) e)
        go false c e = absurd (apart u (ap (λ (s : State). s.0) e))

  -- ---- the cells from n on stay, whatever the events
  does_past : (e : Event) (t : Tally) (cells : List ℤ) → drop n (does n first e t cells).1 ≡ drop n cells
  unfolding does listing
  does_past (visit k i) t cells = refl
  does_past (due p) t cells = go (ltb t.listed n) refl
    where
      go : (b : Bool) → ltb t.listed n ≡ b → drop n (cond {A = State} b (Ok (counted t), set cells t.listed (number_of first p)) (spoilt, cells)).1 ≡ drop n cells
      go true e = drop-set-lt n cells t.listed (number_of first p) (ltb-true t.listed n e)
      go false e = refl
  does_past spoiled t cells = refl

  onward_past : (e : Event) (r : Result Tally Spoiled) (cells : List ℤ) → drop n (onward n first e r cells).1 ≡ drop n cells
  unfolding onward
  onward_past e (Ok t) cells = does_past e t cells
  onward_past e (Err x) cells = refl

  pub after_past : (es : List Event) (s : State) → drop n (after n first es s).1 ≡ drop n s.1
  unfolding after
  after_past [] s = refl
  after_past (e ∷ es) s = after_past es _ ∙ onward_past e s.0 s.1

  -- ---- a walk, and then another by `?`
  module _ (a b : List Event) (m k most : ℕ) (few : m + k ≤ most) (t : Tally) (cells mid : List ℤ) where
    -- the first goes on: the second begins with its tally
    pub along_then : (u : Tally) → Along n first a m t cells (Ok u) mid → (r : Result Tally Spoiled) (new : List ℤ) → Along n first b k u mid r new → Along n first (a ++ b) most t cells r new
    along_then u one r new two = record {
      came = two.came ∙ ap (after n first b) one.came ∙ sym (after_append a b (Ok t, cells));
      visits = IfOk-weaker r (λ v. v.visits ≤ u.visits + k) (λ v. v.visits ≤ t.visits + most) (λ v h. omega (arith, one.visits)) two.visits;
    }

    -- the first read a spoiled word: the whole is cut there
    pub along_cut : (x : Spoiled) → Along n first a m t cells (Err x) mid → Along n first (a ++ b) most t cells (Err x) mid
    along_cut x one = record { came = sym (after_stopped b x mid) ∙ ap (after n first b) one.came ∙ sym (after_append a b (Ok t, cells)); visits = tt }
