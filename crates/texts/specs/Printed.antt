-- A line of numbers, number by number, and the whole of an A line and of an R line, part by part.
use Rattle.std.specs.Prelude.{◌≡◌, refl, List, [], ◌∷◌, ◌++◌, ℕ, ◌+◌, ◌≤◌, ◌<◌, min, leb, ℤ, pos, length, take, get_or}
use Rattle.std.proofs.Common.{sym, ap, ◌∙◌, append_assoc, append-nil, arith, add-one, leb-true, leb-false, take-suc, take_all}
use Rattle.std.specs.Int.Signed.{mag}
use Rattle.lists.specs.Tests.{by_test}
use Rattle.lists.specs.Plain.{to_nat}
use Rattle.paper.specs.Results.{Result}
use Rattle.paper.specs.Lines.{tab, line_feed, letter_A, letter_R, decimal, tabbed, printed}
use Rattle.texts.specs.declared.Output.{Output}
use Rattle.texts.specs.Written.{Wrote, wrote_join}
use Rattle.texts.specs.Digits.{digits_of, decimal_le}

-- each number after a tab
unfoldable pub fields_text : List ℤ → List ℕ
fields_text [] = []
fields_text (z ∷ zs) = tab ∷ (decimal z ++ fields_text zs)

pub no_fields : fields_text [] ≡ []
unfolding fields_text
no_fields = refl

one_more : (l : List ℤ) (z : ℤ) → fields_text (l ++ (z ∷ [])) ≡ fields_text l ++ (tab ∷ decimal z)
unfolding fields_text
one_more [] z = ap (λ t. tab ∷ t) (append-nil (decimal z))
one_more (x ∷ xs) z = ap (λ t. tab ∷ (decimal x ++ t)) (one_more xs z) ∙ ap (λ t. tab ∷ t) (sym (append_assoc (decimal x) (fields_text xs) (tab ∷ decimal z)))

-- one number more of a list
pub fields_next : (l : List ℤ) (i : ℕ) → i < length l → fields_text (take (i + 1) l) ≡ fields_text (take i l) ++ (tab ∷ decimal (get_or l i (pos 0)))
fields_next l i h = ap fields_text (ap (λ k. take k l) (add-one i) ∙ take-suc l i (pos 0) h) ∙ one_more (take i l) (get_or l i (pos 0))

-- and the line feed
pub fields_end : (l : List ℤ) → fields_text l ++ (line_feed ∷ []) ≡ tabbed l
unfolding fields_text tabbed
fields_end [] = refl
fields_end (z ∷ zs) = ap (λ t. tab ∷ t) (append_assoc (decimal z) (fields_text zs) (line_feed ∷ []) ∙ ap (λ t. decimal z ++ t) (fields_end zs))

-- a tab and a number of 64 bits
pub field_le : (z : ℤ) → mag z < 9223372036854775808 → length (tab ∷ decimal z) ≤ 21
field_le z h = omega (arith, decimal_le 18 z (omega (arith, h)))

pub take_least : (count : ℕ) (l : List ℤ) → take (min count (length l)) l ≡ take count l
take_least count l =
    by_test (leb count (length l))
    (λ t. let e : min count (length l) ≡ count = omega (arith, leb-true count (length l) t) in ap (λ k. take k l) e)
    (λ t.
    let h : length l ≤ count = omega (arith, leb-false count (length l) t) in
    let e : min count (length l) ≡ length l = omega arith in
    ap (λ k. take k l) e ∙ take_all (length l) l (omega arith) ∙ sym (take_all count l h))

-- ---- the whole of an A line and of an R line, part by part
module _ {a b c d e : Output} where
  pub wrote_answer : (r : Result) → Wrote (letter_A ∷ []) a b → Wrote (tab ∷ decimal r.0.count) b c → Wrote (tab ∷ decimal r.0.visits) c d → Wrote (tabbed (take (to_nat r.0.count) r.1)) d e → Wrote (printed r) a e
  unfolding tabbed
  wrote_answer r letter count visits numbers = wrote_join letter (wrote_join count (wrote_join visits numbers))

  pub wrote_fault : (m n : ℕ) → Wrote (letter_R ∷ []) a b → Wrote (tab ∷ digits_of m) b c → Wrote (tab ∷ digits_of n) c d → Wrote (line_feed ∷ []) d e → Wrote (letter_R ∷ tabbed (pos m ∷ pos n ∷ [])) a e
  unfolding tabbed
  wrote_fault m n letter number line end = wrote_join letter (wrote_join number (wrote_join line end))
