-- The numbers of a line from a place on, and the form that a letter and numbers make: what the functions on fields say, put together to `line_of`.
use Rattle.std.specs.Prelude.{◌≡◌, refl, ℕ, ◌+◌, ◌-◌, ◌≤◌, ◌<◌, leb, eqb, ℤ, pos, length, drop, set, get_or}
use Rattle.std.proofs.Common.{sym, ◌∙◌, ⊎_elim, eq-or-lt_of_le, arith, le-leb, eq-eqb, ne_eqb, length-append, take-suc-set, add-one, drop_of_length-le, take-suc, length-take-le}
use Rattle.std.proofs.Math.Path.{ap, subst}
use Rattle.std.proofs.Math.Bool.{cond}
use mathlib.Core.List.{List, [], ◌∷◌, ◌++◌, append_assoc, append-nil}
use Rattle.std.proofs.Math.Option.{Option, none, some}
use Rattle.std.proofs.Math.Nat.{sub-zero}
use Rattle.std.proofs.lemmas.Bool.{lt-leb}
use Rattle.std.proofs.Math.ListN.{take}
use Rattle.paper.specs.Lines.{letter_T, letter_S, letter_W, Line, table, segment, window, other, tab, parts, fields_of, number_in, also, numbers_in, four, as_table, as_segment, as_window, form_of, by_fields, line_of}
use Rattle.fields.specs.Marks.{Ends, Parted, parted, some_part, ends_parts, part_rest, clear_last}
use Rattle.std.specs.Prelude.{Option as Maybe, Some as is, None as no, unwrap_or}
use Rattle.fields.specs.declared.Line.{Line as Read}
use Rattle.fields.specs.declared.Line.TheVariants.{Table, Segment, Window, Other}

-- the fields of a line that start at a place; none past its end
abbrev pub fields_from : List ℕ → ℕ → List (List ℕ)
fields_from f a = cond (leb a (length f)) (parts tab (drop a f)) []

abbrev pub numbers_from : List ℕ → ℕ → Option (List ℤ)
numbers_from f a = numbers_in (fields_from f a)

-- not as many numbers as k
abbrev pub Fewer : ℕ → Option (List ℤ) → Type 0
Fewer k none = 0 ≤ k
Fewer k (some zs) = length zs < k

-- one number at least, or a field that is none
data Some : Option (List ℤ) → Type 0 where
  no_numbers : Some none
  numbers : (z : ℤ) (zs : List ℤ) → Some (some (z ∷ zs))

also_some : (m : Option ℤ) (n : Option (List ℤ)) → Some (also m n)
also_some none n = no_numbers
also_some (some z) none = no_numbers
also_some (some z) (some zs) = numbers z zs

-- what the code's options say
abbrev pub is_field : List ℕ → ℕ → Maybe (ℤ × ℕ) → Type 0
is_field f a (is p) = numbers_from f a ≡ also (some p.0) (numbers_from f p.1)
is_field f a no = Fewer 1 (numbers_from f a)

abbrev pub shown_numbers : Maybe (List ℤ) → Option (List ℤ)
shown_numbers (is zs) = some zs
shown_numbers no = none

-- so many numbers, no more and no fewer
abbrev pub exactly : ℕ → Option (List ℤ) → Option (List ℤ)
exactly n none = none
exactly n (some zs) = cond (eqb (length zs) n) (some zs) none

abbrev pub shown_line : Read → Line
shown_line (Table kind lower) = table kind lower
shown_line (Segment s) = segment s
shown_line (Window w) = window w
shown_line Other = other

abbrev pub shown_form : Maybe Read → Line
shown_form (is l) = shown_line l
shown_form no = other

pub shown_or : (l : Maybe Read) → shown_line (unwrap_or l Other) ≡ shown_form l
shown_or (is l) = refl
shown_or no = refl

-- ---- the fields from a place on, where the first ends
ends_fields : (f : List ℕ) {a e : ℕ} → Ends tab f a e → parts tab (drop a f) ≡ take (e - a) (drop a f) ∷ fields_from f (e + 1)
ends_fields f {a} {e} h = ⊎_elim final inner (eq-or-lt_of_le h.within)
  where
    inner : e < length f → parts tab (drop a f) ≡ take (e - a) (drop a f) ∷ fields_from f (e + 1)
    inner l =
        ap (parts tab) (sym (append-nil (drop a f)))
        ∙ ends_parts tab f h l []
        ∙ ap (λ xs. take (e - a) (drop a f) ∷ parts tab xs) (append-nil (drop (e + 1) f))
        ∙ ap (λ b. take (e - a) (drop a f) ∷ cond b (parts tab (drop (e + 1) f)) []) (sym (le-leb (e + 1) (length f) (omega arith)))

    final : e ≡ length f → parts tab (drop a f) ≡ take (e - a) (drop a f) ∷ fields_from f (e + 1)
    final l =
        let end : length f ≤ e = omega arith in
        ap (parts tab) (part_rest f a e h.starts ∙ ap (λ xs. take (e - a) (drop a f) ++ xs) (drop_of_length-le f end) ∙ append-nil (take (e - a) (drop a f)))
        ∙ clear_last tab h.clear
        ∙ ap (λ b. take (e - a) (drop a f) ∷ cond b (parts tab (drop (e + 1) f)) []) (sym (lt-leb (e + 1) (length f) (omega arith)))

module _ (f : List ℕ) where
  from_inside : {a : ℕ} → a ≤ length f → fields_from f a ≡ parts tab (drop a f)
  from_inside {a} h = ap (λ b. cond b (parts tab (drop a f)) []) (le-leb a (length f) h)

  -- past the end there is no number
  pub past_end : {a : ℕ} → length f < a → numbers_from f a ≡ some []
  unfolding numbers_in
  past_end {a} h = ap (λ b. numbers_in (cond b (parts tab (drop a f)) [])) (lt-leb a (length f) h)

  -- a field that starts at a
  numbers_at : {a e : ℕ} → a ≤ length f → Ends tab f a e → numbers_from f a ≡ also (number_in (take (e - a) (drop a f))) (numbers_from f (e + 1))
  unfolding numbers_in
  numbers_at h k = ap numbers_in (from_inside h ∙ ends_fields f k)

  pub no_field : {a : ℕ} → length f < a → Fewer 1 (numbers_from f a)
  no_field {a} h = subst (Fewer 1) (sym (past_end h)) (omega arith)

  pub no_number : {a e : ℕ} → a ≤ length f → Ends tab f a e → none ≡ number_in (take (e - a) (drop a f)) → Fewer 1 (numbers_from f a)
  no_number {a} {e} h k n = subst (Fewer 1) (sym (numbers_at h k ∙ ap (λ x. also x (numbers_from f (e + 1))) (sym n))) (omega arith)

  pub a_number : {a e : ℕ} {z : ℤ} → a ≤ length f → Ends tab f a e → some z ≡ number_in (take (e - a) (drop a f)) → numbers_from f a ≡ also (some z) (numbers_from f (e + 1))
  a_number {a} {e} h k n = numbers_at h k ∙ ap (λ x. also x (numbers_from f (e + 1))) (sym n)

  -- up to the end there is one
  more : {a : ℕ} → a ≤ length f → Some (numbers_from f a)
  unfolding numbers_in
  more {a} h = subst (λ fs. Some (numbers_in fs)) (sym (from_inside h)) (go (some_part tab (drop a f)))
    where
      go : {fs : List (List ℕ)} → Parted fs → Some (numbers_in fs)
      go (parted l ls) = also_some (number_in l) (numbers_in ls)

-- ---- numbers one after the other
abbrev pub after : List ℤ → Option (List ℤ) → Option (List ℤ)
after xs none = none
after xs (some zs) = some (xs ++ zs)

pub after_none : (n : Option (List ℤ)) → n ≡ after [] n
after_none none = refl
after_none (some zs) = refl

after_more : (xs : List ℤ) (z : ℤ) (n : Option (List ℤ)) → after xs (also (some z) n) ≡ after (xs ++ (z ∷ [])) n
after_more xs z none = refl
after_more xs z (some zs) = ap (λ l. some l) (sym (append_assoc xs (z ∷ []) zs))

-- one number more is read, and written in its place
pub after_set : (xs : List ℤ) (i : ℕ) {y z : ℤ} (n : Option (List ℤ)) → y ≡ z → i < length xs → after (take i xs) (also (some z) n) ≡ after (take (i + 1) (set xs i y)) n
after_set xs i {y} {z} n e h =
    after_more (take i xs) z n ∙ ap (λ l. after l n) (ap (λ x. take i xs ++ (x ∷ [])) (sym e) ∙ sym (take-suc-set xs i y h) ∙ ap (λ k. take k (set xs i y)) (sym (add-one i)))

exactly_is : {n : ℕ} (zs : List ℤ) → length zs ≡ n → exactly n (some zs) ≡ some zs
exactly_is {n} zs e = rw (eq-eqb (length zs) n e) refl

exactly_not : {n : ℕ} (zs : List ℤ) → (length zs ≡ n → ⊥) → exactly n (some zs) ≡ none
exactly_not {n} zs e = rw (ne_eqb (length zs) n e) refl

pub too_few : {n : ℕ} (xs : List ℤ) (m : Option (List ℤ)) → length xs < n → Fewer 1 m → none ≡ exactly n (after xs m)
too_few xs none h k = refl
too_few xs (some zs) h k = sym (exactly_not (xs ++ zs) (λ e. absurd (omega (arith, length-append xs zs))))

too_many : {n : ℕ} (xs : List ℤ) {m : Option (List ℤ)} → length xs ≡ n → Some m → none ≡ exactly n (after xs m)
too_many xs e no_numbers = refl
too_many xs e (numbers z zs) = sym (exactly_not (xs ++ (z ∷ zs)) (λ d. absurd (omega (arith, length-append xs (z ∷ zs)))))

module _ (f : List ℕ) {n a : ℕ} (xs : List ℤ) (l : length xs ≡ n) where
  pub as_many : length f < a → some xs ≡ exactly n (after xs (numbers_from f a))
  as_many h = sym (ap (λ m. exactly n (after xs m)) (past_end f h) ∙ ap (λ zs. exactly n (some zs)) (append-nil xs) ∙ exactly_is xs l)

  pub more_left : a ≤ length f → none ≡ exactly n (after xs (numbers_from f a))
  more_left h = too_many xs l (more f h)

-- ---- the letter
pub form_T : (n : Option (List ℤ)) (zs : List ℤ) → some zs ≡ exactly 2 n → as_table (get_or zs 0 (pos 0)) (get_or zs 1 (pos 0)) ≡ form_of letter_T n
form_T none zs e = cc
form_T (some []) zs e = cc
form_T (some (x ∷ [])) zs e = cc
form_T (some (x ∷ y ∷ [])) zs e = let d : zs ≡ x ∷ y ∷ [] = cc in rw d refl
form_T (some (x ∷ y ∷ w ∷ ws)) zs e = let d = e ∙ exactly_not (x ∷ y ∷ w ∷ ws) (λ d. absurd (omega arith)) in cc

pub no_form_T : (n : Option (List ℤ)) → none ≡ exactly 2 n → other ≡ form_of letter_T n
no_form_T none e = refl
no_form_T (some []) e = refl
no_form_T (some (x ∷ [])) e = refl
no_form_T (some (x ∷ y ∷ [])) e = cc
no_form_T (some (x ∷ y ∷ w ∷ ws)) e = refl

module _ (g : ℤ → ℤ → ℤ → ℤ → Line) where
  pub four_is : (ws zs : List ℤ) → some zs ≡ exactly 4 (some ws) → g (get_or zs 0 (pos 0)) (get_or zs 1 (pos 0)) (get_or zs 2 (pos 0)) (get_or zs 3 (pos 0)) ≡ four g ws
  four_is [] zs e = cc
  four_is (x ∷ []) zs e = cc
  four_is (x ∷ y ∷ []) zs e = cc
  four_is (x ∷ y ∷ z ∷ []) zs e = cc
  four_is (x ∷ y ∷ z ∷ w ∷ []) zs e = let d : zs ≡ x ∷ y ∷ z ∷ w ∷ [] = cc in rw d refl
  four_is (x ∷ y ∷ z ∷ w ∷ v ∷ ws) zs e = let d = e ∙ exactly_not (x ∷ y ∷ z ∷ w ∷ v ∷ ws) (λ d. absurd (omega arith)) in cc

  pub four_not : (ws : List ℤ) → none ≡ exactly 4 (some ws) → other ≡ four g ws
  four_not [] e = refl
  four_not (x ∷ []) e = refl
  four_not (x ∷ y ∷ []) e = refl
  four_not (x ∷ y ∷ z ∷ []) e = refl
  four_not (x ∷ y ∷ z ∷ w ∷ []) e = cc
  four_not (x ∷ y ∷ z ∷ w ∷ v ∷ ws) e = refl

pub form_S : (n : Option (List ℤ)) (zs : List ℤ) → some zs ≡ exactly 4 n → as_segment (get_or zs 0 (pos 0)) (get_or zs 1 (pos 0)) (get_or zs 2 (pos 0)) (get_or zs 3 (pos 0)) ≡ form_of letter_S n
form_S none zs e = cc
form_S (some ws) zs e = four_is as_segment ws zs e

pub no_form_S : (n : Option (List ℤ)) → none ≡ exactly 4 n → other ≡ form_of letter_S n
no_form_S none e = refl
no_form_S (some ws) e = four_not as_segment ws e

pub form_W : (n : Option (List ℤ)) (zs : List ℤ) → some zs ≡ exactly 4 n → as_window (get_or zs 0 (pos 0)) (get_or zs 1 (pos 0)) (get_or zs 2 (pos 0)) (get_or zs 3 (pos 0)) ≡ form_of letter_W n
form_W none zs e = cc
form_W (some ws) zs e = four_is as_window ws zs e

pub no_form_W : (n : Option (List ℤ)) → none ≡ exactly 4 n → other ≡ form_of letter_W n
no_form_W none e = refl
no_form_W (some ws) e = four_not as_window ws e

pub no_letter : (b : ℕ) (n : Option (List ℤ)) → (b ≡ letter_T → ⊥) → (b ≡ letter_S → ⊥) → (b ≡ letter_W → ⊥) → other ≡ form_of b n
no_letter b none t s w = refl
no_letter b (some zs) t s w = rw (ne_eqb b letter_T t, ne_eqb b letter_S s, ne_eqb b letter_W w) refl

module _ (f : List ℕ) where
  pub too_long : 80 < length f → other ≡ line_of f
  unfolding line_of
  too_long h = ap (λ b. cond b (by_fields (fields_of f)) other) (sym (lt-leb (length f) 80 h))

  by_fields_is : length f ≤ 80 → {e : ℕ} → Ends tab f 0 e → line_of f ≡ by_fields (take e f ∷ fields_from f (e + 1))
  unfolding line_of
  by_fields_is h {e} k =
      ap (λ b. cond b (by_fields (fields_of f)) other) (le-leb (length f) 80 h)
      ∙ ap by_fields (ends_fields f k ∙ ap (λ m. take m f ∷ fields_from f (e + 1)) (sub-zero e))

  pub no_letter_field : length f ≤ 80 → {e : ℕ} → Ends tab f 0 e → (e ≡ 1 → ⊥) → other ≡ line_of f
  no_letter_field h {e} k n = sym (by_fields_is h k ∙ go (take e f) (fields_from f (e + 1)) (λ l. n (sym (length-take-le e f k.within) ∙ l)))
    where
      go : (l : List ℕ) (ls : List (List ℕ)) → (length l ≡ 1 → ⊥) → by_fields (l ∷ ls) ≡ other
      go [] ls m = refl
      go (b ∷ []) ls m = absurd (m refl)
      go (b ∷ c ∷ bs) ls m = refl

  pub letter_field : length f ≤ 80 → {e : ℕ} → Ends tab f 0 e → e ≡ 1 → line_of f ≡ form_of (get_or f 0 0) (numbers_from f 2)
  letter_field h {e} k n =
      by_fields_is h k
      ∙ ap (λ m. by_fields (take m f ∷ fields_from f (m + 1))) n
      ∙ ap (λ l. by_fields (l ∷ fields_from f 2)) (take-suc f 0 0 (omega (arith, k.within)))
