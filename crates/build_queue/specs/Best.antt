-- The one that a queue takes, sought from the front of positions that stand by (level, position): there a strictly better key alone decides, since of
-- equal keys the earlier place comes first.
-- Use: `Best` is what the search finds; `Seen` holds while it goes on (`seen_first`, `seen_better`, `seen_kept`). For every axis and either end. Assumes nothing.
use Rattle.std.specs.Prelude.{◌≡◌, Bool, true, false, not, ◌&&◌, List, [], ◌∷◌, ℕ, ◌+◌, ◌≤◌, ◌<◌, T, ℤ, length, get_or, take}
use Rattle.std.proofs.Common.{subst, add-one, arith, take-suc, take_all}
use Rattle.std.specs.Int.Signed.{lt_z}
use Rattle.lists.specs.Plain.{same}
use Rattle.lists.specs.Tests.{yes_not}
use Rattle.lists.specs.Orders.{up_to, le_self}
use Rattle.lists.specs.Every.{All, all_map, all_append, sorted_get_d}
use Rattle.lists.specs.Sorting.{InOrder}
use Rattle.paper.specs.declared.Segment.{Segment}
use Rattle.paper.specs.Words.{Axis, End, near_of, far_of, taken_before}
use Rattle.build_queue.specs.Queues.{lower, taken_linear}

-- the key of an end, and whether one key is taken before another
abbrev pub key_at : List Segment → Axis → End → ℕ → ℤ
key_at rs axis End.low p = near_of rs axis p
key_at rs axis End.high p = far_of rs axis p

abbrev pub ahead : End → ℤ → ℤ → Bool
ahead End.low x y = lt_z x y
ahead End.high x y = lt_z y x

module _ (rs : List Segment) (axis : Axis) (end : End) where
  -- place b holds the one taken
  pub record Best (ps : List ℕ) (b : ℕ) : Type 0 where
    pub inside : b < length ps
    pub least : All (λ p. T (up_to (taken_before rs axis end) (get_or ps b 0) p)) ps

  -- the best of the first i is at place b
  pub record Seen (ps : List ℕ) (b i : ℕ) : Type 0 where
    pub some : b < i
    pub within : i ≤ length ps
    pub least : All (λ p. T (up_to (taken_before rs axis end) (get_or ps b 0) p)) (take i ps)

  abbrev up : ℕ → ℕ → Bool
  up = up_to (taken_before rs axis end)

  -- a better key comes before
  better : (p q : ℕ) → ahead end (key_at rs axis end p) (key_at rs axis end q) ≡ true → T (taken_before rs axis end p q)
  better p q h = go end h
    where
      go : (e : End) → ahead e (key_at rs axis e p) (key_at rs axis e q) ≡ true → T (taken_before rs axis e p q)
      go End.low h = rw h tt
      go End.high h = rw h tt

  -- one that is no better and stands later does not
  later : (p q : ℕ) → ahead end (key_at rs axis end q) (key_at rs axis end p) ≡ false → T (up_to (lower rs axis) p q) → T (up p q)
  later p q h k = go end h
    where
      shape : (s c : Bool) → T (not c) → T (not (s && c))
      shape true c n = n
      shape false c n = tt

      go : (e : End) → ahead e (key_at rs axis e q) (key_at rs axis e p) ≡ false → T (up_to (taken_before rs axis e) p q)
      go End.low h = rw h (shape (same (near_of rs axis q) (near_of rs axis p)) (lower rs axis q p) k)
      go End.high h = rw h (shape (same (far_of rs axis q) (far_of rs axis p)) (lower rs axis q p) k)

  one_more : (ps : List ℕ) (i x : ℕ) → i < length ps → All (λ p. T (up x p)) (take i ps) → T (up x (get_or ps i 0)) → All (λ p. T (up x p)) (take (i + 1) ps)
  one_more ps i x h a u = rw (add-one i, take-suc ps i 0 h) (all_append a (All.also {x = get_or ps i 0} u All.none))

  pub seen_first : (ps : List ℕ) → 0 < length ps → Seen ps 0 1
  seen_first [] h = absurd (omega arith)
  seen_first (p ∷ ps) h = record { some = omega arith; within = omega arith; least = All.also (le_self up (taken_linear rs axis end).order p) All.none }

  module _ (ps : List ℕ) (b i : ℕ) (seen : Seen ps b i) (more : i < length ps) where
    pub seen_better : ahead end (key_at rs axis end (get_or ps i 0)) (key_at rs axis end (get_or ps b 0)) ≡ true → Seen ps i (i + 1)
    seen_better h =
        let x : ℕ = get_or ps i 0 in
        let y : ℕ = get_or ps b 0 in
        let u : T (up x y) = (taken_linear rs axis end).order.total y x (yes_not (taken_before rs axis end x y) (better x y h)) in
        record {
          some = omega arith;
          within = omega arith;
          least = one_more ps i x more (all_map (λ p k. (taken_linear rs axis end).order.trans x y p u k) seen.least) (le_self up (taken_linear rs axis end).order x);
        }

    pub seen_kept : InOrder (lower rs axis) ps → ahead end (key_at rs axis end (get_or ps i 0)) (key_at rs axis end (get_or ps b 0)) ≡ false → Seen ps b (i + 1)
    seen_kept stands h = record {
      some = omega (arith, seen.some);
      within = omega arith;
      least = one_more ps i (get_or ps b 0) more seen.least (later (get_or ps b 0) (get_or ps i 0) h (sorted_get_d b i 0 seen.some more stands));
    }

  pub seen_all : (ps : List ℕ) (b i : ℕ) → Seen ps b i → length ps ≤ i → Best ps b
  seen_all ps b i seen h = record {
    inside = omega (arith, seen.some, seen.within);
    least = subst (All (λ p. T (up (get_or ps b 0) p))) (take_all i ps h) seen.least;
  }
