-- The reading's result as a function that antt computes, for examples: what the automaton says is what `paper` allows.
use Rattle.std.specs.Prelude.{◌≡◌, refl, Bool, true, false, cond, List, [], ◌∷◌, ℕ, suc, ◌≤◌, ◌<◌, ℤ, length, take}
use Rattle.std.proofs.Common.{sym, ap, ◌∙◌, subst, arith}
use Rattle.lists.specs.Tests.{by_test, holds}
use Rattle.paper.specs.Answers.{judged, refused, done}
use Rattle.paper.specs.Results.{Result, over}
use Rattle.paper.specs.Wkt.{bad_text, coordinates_of, reader_order, Read, refuses, accepts}
use Rattle.paper.specs.declared.Segment.{Segment}
use Rattle.wkt_read.specs.Machine.{ended, failed, Reading, step, run, start}
use Rattle.wkt_read.specs.Sound.{run_accepted}
use Rattle.wkt_read.specs.Decided.{place_at}

-- coordinates, four to a segment
unfoldable pub grouped : List ℤ → List Segment
grouped [] = []
grouped (a ∷ []) = []
grouped (a ∷ b ∷ []) = []
grouped (a ∷ b ∷ c ∷ []) = []
grouped (a ∷ b ∷ c ∷ d ∷ zs) = record { x1 = a; y1 = b; x2 = c; y2 = d } ∷ grouped zs

grouped_back : (ss : List Segment) → grouped (coordinates_of ss) ≡ ss
unfolding grouped coordinates_of
grouped_back [] = refl
grouped_back (s ∷ ss) = ap (λ l. s ∷ l) (grouped_back ss)

-- the byte at which the automaton fails, or the length
unfoldable pub place_from : Reading → List ℕ → ℕ
place_from r [] = 0
place_from r (b ∷ bs) = cond (failed (step r b).state) 0 (suc (place_from (step r b) bs))

record Failing (r : Reading) (bs : List ℕ) (p : ℕ) : Type 0 where
  within : p ≤ length bs
  alive : failed (run r (take p bs)).state ≡ false
  dead : p < length bs → failed (run r (take (suc p) bs)).state ≡ true

failing : (bs : List ℕ) (r : Reading) → failed r.state ≡ false → Failing r bs (place_from r bs)
unfolding place_from run
failing [] r a = record { within = omega arith; alive = a; dead = λ h. absurd (omega arith) }
failing (b ∷ bs) r a = go (failed (step r b).state) refl (failing bs (step r b))
  where
    go : (t : Bool) → failed (step r b).state ≡ t → (failed (step r b).state ≡ false → Failing (step r b) bs (place_from (step r b) bs)) → Failing r (b ∷ bs) (cond t 0 (suc (place_from (step r b) bs)))
    go true e f = record { within = omega arith; alive = a; dead = λ h. e }
    go false e f = let g = f e in record { within = omega (arith, g.within); alive = g.alive; dead = λ h. g.dead (omega arith) }

abbrev pub decided : List ℕ → List ℤ → Result
decided text cells =
    let r = run start text in
    cond (ended r.state)
    (judged (reader_order (grouped r.numbers) cells) (λ x. (refused x, cells)) (done (length (grouped r.numbers)) 0, over (coordinates_of (grouped r.numbers)) cells))
    (refused (bad_text (place_from start text)), cells)

pub read_decided : (text : List ℕ) (cells : List ℤ) → Read text cells (decided text cells)
read_decided text cells = by_test (ended (run start text).state) yes_read no_read
  where
    answers : List Segment → Result
    answers ss = judged (reader_order ss cells) (λ x. (refused x, cells)) (done (length ss) 0, over (coordinates_of ss) cells)

    yes_read : ended (run start text).state ≡ true → Read text cells (decided text cells)
    yes_read e =
        let a = run_accepted text (holds e) in
        let g : grouped (run start text).numbers ≡ a.segments = ap grouped a.numbers ∙ grouped_back a.segments in
        subst (λ t. Read text cells (cond t (answers (grouped (run start text).numbers)) (refused (bad_text (place_from start text)), cells))) (sym e)
        (subst (λ ss. Read text cells (answers ss)) (sym g) (accepts a.segments a.accepted))

    no_read : ended (run start text).state ≡ false → Read text cells (decided text cells)
    no_read e =
        let f = failing text start refl in
        subst (λ t. Read text cells (cond t (answers (grouped (run start text).numbers)) (refused (bad_text (place_from start text)), cells))) (sym e)
        (refuses (place_from start text) (place_at text (place_from start text) f.within f.alive f.dead e))
