-- What the code keeps of a reading: values clipped one above the limits, the count of numbers, and of those before the first beyond the limits.
-- Use: `shown_step` and `tally_step` for a loop over the bytes; `clipped_all` says that clipping changes no answer. Assumes nothing.
use Rattle.std.specs.Prelude.{◌≡◌, refl, Bool, true, false, not, cond, ◌&&◌, List, [], ◌∷◌, ◌++◌, map, ℕ, zero, suc, ◌+◌, ◌-◌, ◌*◌, ◌≤◌, min, eqb, leb, ℤ, pos, negsuc, neg_ℤ, length}
use Rattle.std.proofs.Common.{sym, ap, ap₂, ◌∙◌, arith, length-append, ne_eqb, leb-true, leb-false, le-leb}
use Rattle.std.proofs.Math.Dec.{eqb-suc-suc}
use Rattle.std.proofs.lemmas.Bool.{lt-leb}
use Rattle.lists.specs.Tests.{by_test, clash}
use Rattle.paper.specs.Limits.{coordinate_fits}
use Rattle.paper.specs.Lines.{digit0, minus}
use Rattle.wkt_read.specs.declared.automaton.State.{State}
use Rattle.wkt_read.specs.declared.Reader.{Reader}
use Rattle.wkt_read.specs.declared.Tally.{Tally}
use Rattle.wkt_read.specs.Machine.{step_state, is_signed, in_number, Reading, signed_value, finished, step, run}

-- ---- values
abbrev pub clip : ℕ → ℕ
clip v = min v 536870913

abbrev pub grown : ℕ → ℕ → ℕ
grown v b = clip (10 * v + (b - digit0))

grown_clip : (v d : ℕ) → clip (10 * v + d) ≡ clip (10 * clip v + d)
grown_clip v d = omega arith

-- what the code keeps of a reading
abbrev pub shown : Reading → Reader
shown r = record { state = r.state; negative = r.negative; value = clip r.value }

abbrev pub read_on : Reader → ℕ → Reader
read_on h b =
    let s = step_state h.state b in
    cond (in_number s)
    (record { state = s; negative = h.negative; value = grown h.value b })
    (record { state = s; negative = is_signed s && eqb b minus; value = 0 })

pub shown_step : (r : Reading) (b : ℕ) → shown (step r b) ≡ read_on (shown r) b
shown_step r b = go (step_state r.state b) (in_number (step_state r.state b))
  where
    go : (s : State) (t : Bool)
        → shown (cond t (record { state = s; negative = r.negative; value = 10 * r.value + (b - digit0); numbers = r.numbers }) (record { state = s; negative = is_signed s && eqb b minus; value = 0; numbers = finished r }))
        ≡ cond t (record { state = s; negative = r.negative; value = grown (clip r.value) b }) (record { state = s; negative = is_signed s && eqb b minus; value = 0 })
    go s true = ap (λ v. record { state = s; negative = r.negative; value = v }) (grown_clip r.value (b - digit0))
    go s false = refl

-- ---- counts
abbrev pub ends_number : Reader → State → Bool
ends_number h s = in_number h.state && not (in_number s)

unfoldable pub fitting_of : List ℤ → ℕ
fitting_of [] = 0
fitting_of (z ∷ zs) = cond (coordinate_fits z) (suc (fitting_of zs)) 0

abbrev pub counted : Tally → Reader → State → Tally
counted t h s =
    cond (ends_number h s)
    (record { numbers = t.numbers + 1; fitting = cond (eqb t.fitting t.numbers && leb h.value 536870912) (t.fitting + 1) t.fitting })
    t

abbrev pub tally_of : List ℤ → Tally
tally_of ns = record { numbers = length ns; fitting = fitting_of ns }

pub fitting_le : (ns : List ℤ) → fitting_of ns ≤ length ns
unfolding fitting_of
fitting_le [] = omega arith
fitting_le (z ∷ zs) = go (coordinate_fits z) (fitting_le zs)
  where
    go : (t : Bool) → fitting_of zs ≤ length zs → cond t (suc (fitting_of zs)) 0 ≤ suc (length zs)
    go true h = omega arith
    go false h = omega arith

-- one number more at the end
fitting_snoc : (ns : List ℤ) (z : ℤ) → fitting_of (ns ++ (z ∷ [])) ≡ cond (eqb (fitting_of ns) (length ns) && coordinate_fits z) (fitting_of ns + 1) (fitting_of ns)
unfolding fitting_of
fitting_snoc [] z = refl
fitting_snoc (y ∷ ns) z = go (coordinate_fits y) (fitting_of ns) (length ns) (fitting_of (ns ++ (z ∷ []))) (coordinate_fits z) (fitting_snoc ns z)
  where
    go : (t : Bool) (f l g : ℕ) (u : Bool) → g ≡ cond (eqb f l && u) (f + 1) f → cond t (suc g) 0 ≡ cond (eqb (cond t (suc f) 0) (suc l) && u) (cond t (suc f) 0 + 1) (cond t (suc f) 0)
    go false f l g u e = ap (λ w. cond (w && u) 1 0) (sym (ne_eqb 0 (suc l) (λ q. omega arith)))
    go true f l g u e = ap suc e ∙ up (eqb f l && u) ∙ ap (λ w. cond (w && u) (suc f + 1) (suc f)) (sym (eqb-suc-suc f l))
      where
        up : (w : Bool) → suc (cond w (f + 1) f) ≡ cond w (suc f + 1) (suc f)
        up true = omega arith
        up false = refl

-- within the limits or not, a clipped value says
clip_leb : (v : ℕ) → leb v 536870912 ≡ leb (clip v) 536870912
clip_leb v =
    by_test (leb v 536870912)
    (λ e. e ∙ sym (le-leb (clip v) 536870912 (omega (arith, leb-true v 536870912 e))))
    (λ e. e ∙ sym (lt-leb (clip v) 536870912 (omega (arith, leb-false v 536870912 e))))

leb_suc : (v m : ℕ) → leb v m ≡ leb (suc v) (suc m)
leb_suc v m =
    by_test (leb v m)
    (λ e. e ∙ sym (le-leb (suc v) (suc m) (omega (arith, leb-true v m e))))
    (λ e. e ∙ sym (lt-leb (suc v) (suc m) (omega (arith, leb-false v m e))))

and_yes : (t : Bool) → (t && true) ≡ t
and_yes true = refl
and_yes false = refl

fits_value : (n : Bool) (v : ℕ) → coordinate_fits (signed_value n v) ≡ leb (clip v) 536870912
fits_value false v = clip_leb v
fits_value true zero = refl
fits_value true (suc v) = and_yes (leb v 536870911) ∙ leb_suc v 536870911 ∙ clip_leb (suc v)

-- the tally of one byte more
pub tally_step : (r : Reading) (b : ℕ) → tally_of (step r b).numbers ≡ counted (tally_of r.numbers) (shown r) (step_state r.state b)
tally_step r b = go (step_state r.state b) (in_number (step_state r.state b)) (in_number r.state)
  where
    z : ℤ
    z = signed_value r.negative r.value

    more : tally_of (r.numbers ++ (z ∷ []))
        ≡ record { numbers = length r.numbers + 1; fitting = cond (eqb (fitting_of r.numbers) (length r.numbers) && leb (clip r.value) 536870912) (fitting_of r.numbers + 1) (fitting_of r.numbers) }
    more =
        ap₂ (λ x y. record { numbers = x; fitting = y }) (length-append r.numbers (z ∷ []))
        (fitting_snoc r.numbers z ∙ ap (λ t. cond (eqb (fitting_of r.numbers) (length r.numbers) && t) (fitting_of r.numbers + 1) (fitting_of r.numbers)) (fits_value r.negative r.value))

    go : (s : State) (t u : Bool)
        → tally_of (cond {A = Reading} t (record { state = s; negative = r.negative; value = 10 * r.value + (b - digit0); numbers = r.numbers }) (record { state = s; negative = is_signed s && eqb b minus; value = 0; numbers = cond u (r.numbers ++ (z ∷ [])) r.numbers })).numbers
        ≡ cond (u && not t)
        (record { numbers = length r.numbers + 1; fitting = cond (eqb (fitting_of r.numbers) (length r.numbers) && leb (clip r.value) 536870912) (fitting_of r.numbers + 1) (fitting_of r.numbers) })
        (tally_of r.numbers)
    go s true true = refl
    go s true false = refl
    go s false true = more
    go s false false = refl

-- ---- the numbers of one byte more
pub ends_yes : (r : Reading) (b : ℕ) → ends_number (shown r) (step_state r.state b) ≡ true → (step r b).numbers ≡ r.numbers ++ (signed_value r.negative r.value ∷ [])
ends_yes r b = go (step_state r.state b) (in_number (step_state r.state b)) (in_number r.state)
  where
    go : (s : State) (t u : Bool) → (u && not t) ≡ true
        → (cond {A = Reading} t (record { state = s; negative = r.negative; value = 10 * r.value + (b - digit0); numbers = r.numbers }) (record { state = s; negative = is_signed s && eqb b minus; value = 0; numbers = cond u (r.numbers ++ (signed_value r.negative r.value ∷ [])) r.numbers })).numbers
        ≡ r.numbers ++ (signed_value r.negative r.value ∷ [])
    go s true true e = clash (sym e)
    go s true false e = clash (sym e)
    go s false true e = refl
    go s false false e = clash (sym e)

pub ends_no : (r : Reading) (b : ℕ) → ends_number (shown r) (step_state r.state b) ≡ false → (step r b).numbers ≡ r.numbers
ends_no r b = go (step_state r.state b) (in_number (step_state r.state b)) (in_number r.state)
  where
    go : (s : State) (t u : Bool) → (u && not t) ≡ false
        → (cond {A = Reading} t (record { state = s; negative = r.negative; value = 10 * r.value + (b - digit0); numbers = r.numbers }) (record { state = s; negative = is_signed s && eqb b minus; value = 0; numbers = cond u (r.numbers ++ (signed_value r.negative r.value ∷ [])) r.numbers })).numbers
        ≡ r.numbers
    go s true true e = refl
    go s true false e = refl
    go s false true e = clash e
    go s false false e = refl

-- never fewer, and at most one a byte
step_grows : (r : Reading) (b : ℕ) → (length r.numbers ≤ length (step r b).numbers) × (length (step r b).numbers ≤ length r.numbers + 1)
step_grows r b =
    by_test (ends_number (shown r) (step_state r.state b))
    (λ e. let g = ap length (ends_yes r b e) ∙ length-append r.numbers (signed_value r.negative r.value ∷ []) in (omega arith, omega arith))
    (λ e. let g = ap length (ends_no r b e) in (omega arith, omega arith))

pub run_grows : (bs : List ℕ) (r : Reading) → (length r.numbers ≤ length (run r bs).numbers) × (length (run r bs).numbers ≤ length r.numbers + length bs)
unfolding run
run_grows [] r = (omega arith, omega arith)
run_grows (b ∷ bs) r =
    let g = step_grows r b in
    let h = run_grows bs (step r b) in
    (omega (arith, g.0, h.0), omega (arith, g.1, h.1))

-- ---- clipped numbers
abbrev pub clipped : ℤ → ℤ
clipped (pos v) = pos (clip v)
clipped (negsuc v) = neg_ℤ (pos (clip (suc v)))

pub clipped_signed : (n : Bool) (v : ℕ) → clipped (signed_value n v) ≡ signed_value n (clip v)
clipped_signed false v = refl
clipped_signed true zero = refl
clipped_signed true (suc v) = refl

clipped_fits : (z : ℤ) → coordinate_fits z ≡ true → clipped z ≡ z
clipped_fits (pos v) e = let g : clip v ≡ v = omega (arith, leb-true v 536870912 e) in ap pos g
clipped_fits (negsuc v) e =
    let g : clip (suc v) ≡ suc v = omega (arith, leb-true v 536870911 (sym (and_yes (leb v 536870911)) ∙ e)) in
    ap (λ k. neg_ℤ (pos k)) g

-- where all are within the limits, clipping changes none
pub clipped_all : (ns : List ℤ) → fitting_of ns ≡ length ns → map clipped ns ≡ ns
unfolding fitting_of
clipped_all [] e = refl
clipped_all (z ∷ ns) e = go (coordinate_fits z) refl (λ q. clipped_all ns q) e
  where
    rest : suc (fitting_of ns) ≡ suc (length ns) → fitting_of ns ≡ length ns
    rest q = omega arith

    go : (t : Bool) → coordinate_fits z ≡ t → (fitting_of ns ≡ length ns → map clipped ns ≡ ns) → cond t (suc (fitting_of ns)) 0 ≡ suc (length ns) → map clipped (z ∷ ns) ≡ z ∷ ns
    go true f h q = ap₂ (λ x l. x ∷ l) (clipped_fits z f) (h (rest q))
    go false f h q = absurd (omega arith)
