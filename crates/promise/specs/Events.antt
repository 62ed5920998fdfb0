-- What a list of the walk's events counts: visits, positions that are due, spoiled words; and what comes of it.
-- Use: state what is due as `count (is_due q) events ≡ ..` for every test q of positions; `run_ends` says that a list with no spoiled word and no more
-- than n positions due ends with those positions, `dues`, in order, and as many visits as it has. Assumes nothing.
use Rattle.std.specs.Prelude.{◌≡◌, refl, List, [], ◌∷◌, ◌++◌, Bool, true, false, ℕ, ◌+◌, ◌-◌, ◌≤◌, ◌<◌, length, ℤ, pos, ltb, leb}
use Rattle.std.proofs.Common.{sym, ap, ap₂, ◌∙◌, append_assoc, append-nil, add-zero, arith, length-append, lt→ltb, le→leb}
use Rattle.lists.specs.Plain.{count}
use Rattle.lists.specs.Tests.{is_true}
use Rattle.lists.specs.Counting.{count_length}
use Rattle.paper.specs.Walk.{Event, visit, due, spoiled, as_position, as_count, walked, step, run}

abbrev pub is_due : (ℕ → Bool) → Event → Bool
is_due q (visit k i) = false
is_due q (due p) = q p
is_due q spoiled = false

abbrev pub is_visit : Event → Bool
is_visit (visit k i) = true
is_visit (due p) = false
is_visit spoiled = false

abbrev pub is_spoiled : Event → Bool
is_spoiled (visit k i) = false
is_spoiled (due p) = false
is_spoiled spoiled = true

-- how many visits, and how many positions due
abbrev pub visits_of : List Event → ℕ
visits_of es = count is_visit es

abbrev pub dues_of : List Event → ℕ
dues_of es = count (is_due (λ p. true)) es

-- no word that is read is spoiled
abbrev pub Clean : List Event → Type 0
Clean es = count is_spoiled es ≡ 0

-- ---- words that are not spoiled

pub position_read : (n : ℕ) (z : ℤ) (p : ℕ) (next : ℕ → List Event) → z ≡ pos p → p < n → as_position n z next ≡ next p
position_read n z p next e h = rw (e, is_true (ltb p n) (lt→ltb p n h)) refl

pub count_read : (p left right : ℕ) (z : ℤ) (k : ℕ) (next : ℕ → List Event) → z ≡ pos k → k ≤ p → k ≤ left → p - k ≤ right → as_count p left right z next ≡ next k
count_read p left right z k next e h i j =
    rw (e, is_true (leb k p) (le→leb k p h), is_true (leb k left) (le→leb k left i), is_true (leb (p - k) right) (le→leb (p - k) right j)) refl

-- ---- what comes of the events

-- the positions that are due, in order
unfoldable pub dues : List Event → List ℕ
dues [] = []
dues (visit k i ∷ es) = dues es
dues (due p ∷ es) = p ∷ dues es
dues (spoiled ∷ es) = dues es

pub dues_append : (es fs : List Event) → dues (es ++ fs) ≡ dues es ++ dues fs
unfolding dues
dues_append [] fs = refl
dues_append (visit k i ∷ es) fs = dues_append es fs
dues_append (due p ∷ es) fs = ap (λ (l : List ℕ). p ∷ l) (dues_append es fs)
dues_append (spoiled ∷ es) fs = dues_append es fs

pub dues_count : (q : ℕ → Bool) (es : List Event) → count q (dues es) ≡ count (is_due q) es
unfolding dues count
dues_count q [] = refl
dues_count q (visit k i ∷ es) = omega (arith, dues_count q es)
dues_count q (due p ∷ es) = omega (arith, dues_count q es)
dues_count q (spoiled ∷ es) = omega (arith, dues_count q es)

pub dues_length : (es : List Event) → length (dues es) ≡ dues_of es
dues_length es = sym (count_length (dues es)) ∙ dues_count (λ p. true) es

pub run_ends : (n : ℕ) (es : List Event) (ps : List ℕ) (v : ℕ) → Clean es → length ps + dues_of es ≤ n
    → run n (walked ps v) es ≡ walked (ps ++ dues es) (v + visits_of es)
unfolding run step dues count
run_ends n [] ps v c h = ap₂ walked (sym (append-nil ps)) (sym (add-zero v))
run_ends n (visit k i ∷ es) ps v c h =
    let e : v + 1 + visits_of es ≡ v + (1 + visits_of es) = omega arith in
    run_ends n es ps (v + 1) (omega (arith, c)) (omega (arith, h)) ∙ ap (λ (x : ℕ). walked (ps ++ dues es) x) e
run_ends n (due p ∷ es) ps v c h =
    let lt : length ps < n = omega (arith, h) in
    let e : v + visits_of es ≡ v + (0 + visits_of es) = omega arith in
    let l = length-append ps (p ∷ []) in
    rw (is_true (ltb (length ps) n) (lt→ltb (length ps) n lt))
    (run_ends n es (ps ++ (p ∷ [])) v (omega (arith, c)) (omega (arith, h)) ∙ ap₂ walked (append_assoc ps (p ∷ []) (dues es)) e)
run_ends n (spoiled ∷ es) ps v c h = absurd (omega (arith, c))
