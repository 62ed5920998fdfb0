-- The parts of a text between marks (tabs in a line, line feeds in the input): where one ends, and what is left after it.
-- Use: `end_of` gives `Ends`; `ends_parts` makes of it the first part and the parts after it, with any text behind.
use Rattle.std.specs.Prelude.{◌≡◌, refl, Bool, ℕ, suc, ◌+◌, ◌-◌, ◌≤◌, ◌<◌, eqb, length, take, drop, get_or}
use Rattle.std.proofs.Common.{sym, ◌∙◌, arith, add-one, eq-eqb, ne_eqb, length-drop, length-take-le, take_all, take-append-drop, drop-cons, get_or-drop, drop-drop}
use Rattle.std.proofs.Math.Path.{ap}
use Rattle.std.proofs.Math.Bool.{true, false, cond}
use mathlib.Core.List.{List, [], ◌∷◌, ◌++◌, append_assoc, append-nil}
use Rattle.std.specs.Prelude.{Some, None}
use Rattle.std.specs.List.{position, position_or_len}
use Rattle.std.proofs.lemmas.Bool.{eqb-false, eqb-true}
use Rattle.std.proofs.lemmas.List.{get_or-take}
use Rattle.std.proofs.lemmas.List.Quantifiers.{position-Some}
use Rattle.std.proofs.lemmas.List.Sums.{fails_before_first}
use Rattle.std.proofs.lemmas.Grind.{common_steps}
use Rattle.paper.specs.Lines.{onto, parts}

-- bytes before the first of some parts
abbrev pub before : List ℕ → List (List ℕ) → List (List ℕ)
before xs [] = xs ∷ []
before xs (l ∷ ls) = (xs ++ l) ∷ ls

-- no mark among the bytes: whatever follows them, they are the start of its first part
pub record Clear (mark : ℕ) (xs : List ℕ) : Type 0 where
  pub then : (ys : List ℕ) → parts mark (xs ++ ys) ≡ before xs (parts mark ys)

-- the part of f from a on ends at e
pub record Ends (mark : ℕ) (f : List ℕ) (a e : ℕ) : Type 0 where
  pub starts : a ≤ e
  pub within : e ≤ length f
  pub clear : Clear mark (take (e - a) (drop a f))
  pub stops : e < length f → get_or f e 0 ≡ mark

pub data Parted : List (List ℕ) → Type 0 where
  parted : (l : List ℕ) (ls : List (List ℕ)) → Parted (l ∷ ls)

module _ (mark : ℕ) where
  before_onto : (xs : List ℕ) (x : ℕ) (ps : List (List ℕ)) → before xs (onto x ps) ≡ before (xs ++ (x ∷ [])) ps
  before_onto xs x [] = refl
  before_onto xs x (l ∷ ls) = ap (λ y. y ∷ ls) (sym (append_assoc xs (x ∷ []) l))

  before_before : (xs ys : List ℕ) (ps : List (List ℕ)) → before xs (before ys ps) ≡ before (xs ++ ys) ps
  before_before xs ys [] = refl
  before_before xs ys (l ∷ ls) = ap (λ y. y ∷ ls) (sym (append_assoc xs ys l))

  unmarked : (x : ℕ) (ys : List ℕ) → (x ≡ mark → ⊥) → parts mark (x ∷ ys) ≡ onto x (parts mark ys)
  unfolding parts
  unmarked x ys n = ap (λ b. cond b ([] ∷ parts mark ys) (onto x (parts mark ys))) (ne_eqb x mark n)

  marked : (x : ℕ) (ys : List ℕ) → x ≡ mark → parts mark (x ∷ ys) ≡ [] ∷ parts mark ys
  unfolding parts
  marked x ys e = ap (λ b. cond b ([] ∷ parts mark ys) (onto x (parts mark ys))) (eq-eqb x mark e)

  -- there is a first part
  pub some_part : (ys : List ℕ) → Parted (parts mark ys)
  unfolding parts
  some_part [] = parted [] []
  some_part (b ∷ bs) = go (eqb b mark) (some_part bs)
    where
      go : (t : Bool) {ps : List (List ℕ)} → Parted ps → Parted (cond t ([] ∷ ps) (onto b ps))
      go true (parted l ls) = parted [] (l ∷ ls)
      go false (parted l ls) = parted (b ∷ l) ls

  -- bytes before none
  before_none : {ps : List (List ℕ)} → Parted ps → ps ≡ before [] ps
  before_none (parted l ls) = refl

  pub clear_nil : Clear mark []
  clear_nil = record { then = λ ys. before_none (some_part ys) }

  pub clear_more : {xs : List ℕ} → Clear mark xs → (x : ℕ) → (x ≡ mark → ⊥) → Clear mark (xs ++ (x ∷ []))
  clear_more {xs} c x n = record {
    then = λ ys.
        ap (parts mark) (append_assoc xs (x ∷ []) ys)
        ∙ c.then (x ∷ ys)
        ∙ ap (before xs) (unmarked x ys n)
        ∙ before_onto xs x (parts mark ys);
  }

  pub clear_join : {xs ys : List ℕ} → Clear mark xs → Clear mark ys → Clear mark (xs ++ ys)
  clear_join {xs} {ys} c d = record {
    then = λ zs.
        ap (parts mark) (append_assoc xs ys zs)
        ∙ c.then (ys ++ zs)
        ∙ ap (before xs) (d.then zs)
        ∙ before_before xs ys (parts mark zs);
  }

  pub clear_all : (xs : List ℕ) → ((k : ℕ) → k < length xs → eqb (get_or xs k 0) mark ≡ false) → Clear mark xs
  clear_all [] h = clear_nil
  clear_all (x ∷ xs) h =
      clear_join (clear_more clear_nil x (eqb-false x mark (h 0 (omega arith)))) (clear_all xs (λ k l. h (suc k) (omega arith)))

  -- clear bytes, then a mark: the first part, and the others
  pub clear_marked : {xs : List ℕ} → Clear mark xs → (x : ℕ) (ys : List ℕ) → x ≡ mark → parts mark (xs ++ (x ∷ ys)) ≡ xs ∷ parts mark ys
  clear_marked {xs} c x ys e = c.then (x ∷ ys) ∙ ap (before xs) (marked x ys e) ∙ ap (λ l. l ∷ parts mark ys) (append-nil xs)

  -- clear bytes and nothing after them
  pub clear_last : {xs : List ℕ} → Clear mark xs → parts mark xs ≡ xs ∷ []
  unfolding parts
  clear_last {xs} c = ap (parts mark) (sym (append-nil xs)) ∙ c.then [] ∙ ap (λ l. l ∷ []) (append-nil xs)

-- where there is no first mark, there is none
absent : (p : ℕ → Bool) (xs : List ℕ) → position p xs ≡ None → (k : ℕ) → k < length xs → p (get_or xs k 0) ≡ false
absent p xs e k l =
    let n : length xs ≤ position_or_len p xs = grind (arith, common_steps) in
    fails_before_first p xs k 0 (omega arith)

-- ---- the text from a part on
-- the text from a on is the part that ends at e and what stands from e on
pub part_rest : (f : List ℕ) (a e : ℕ) → a ≤ e → drop a f ≡ take (e - a) (drop a f) ++ drop e f
part_rest f a e h =
    let g : a + (e - a) ≡ e = omega arith in
    sym (take-append-drop (e - a) (drop a f)) ∙ ap (λ l. take (e - a) (drop a f) ++ l) (drop-drop (e - a) a f ∙ ap (λ k. drop k f) g)

module _ (mark : ℕ) (f : List ℕ) where
  -- the part ends at the first mark, or at the end of the text where there is none
  pub ends_found : {a : ℕ} → a ≤ length f → (k : ℕ) → Some k ≡ position (λ b. eqb b mark) (drop a f) → Ends mark f a (a + k)
  ends_found {a} h k e =
      let p = position-Some (λ b. eqb b mark) (drop a f) k 0 (sym e) in
      let n : (a + k) - a ≡ k = omega arith in
      record {
        starts = omega arith;
        within = omega (arith, p.0, length-drop a f);
        clear = rw n (clear_all mark (take k (drop a f)) (λ i l.
            let m : i < k = omega (arith, length-take-le k (drop a f) (omega (arith, p.0))) in
            ap (λ b. eqb b mark) (get_or-take k (drop a f) i 0 m) ∙ p.2 i m));
        stops = λ l. sym (get_or-drop a f k 0) ∙ eqb-true (get_or (drop a f) k 0) mark p.1;
      }

  pub ends_last : {a : ℕ} → a ≤ length f → None ≡ position (λ b. eqb b mark) (drop a f) → Ends mark f a (length f)
  ends_last {a} h e = record {
    starts = h;
    within = omega arith;
    clear = rw (take_all (length f - a) (drop a f) (omega (arith, length-drop a f))) (clear_all mark (drop a f) (absent (λ b. eqb b mark) (drop a f) (sym e)));
    stops = λ l. absurd (omega arith);
  }

  -- the parts of what stands from a on, with any text behind, where the part that starts at a ends at a mark
  pub ends_parts : {a e : ℕ} → Ends mark f a e → e < length f → (ys : List ℕ) → parts mark (drop a f ++ ys) ≡ take (e - a) (drop a f) ∷ parts mark (drop (e + 1) f ++ ys)
  ends_parts {a} {e} h l ys =
      ap (λ xs. parts mark (xs ++ ys)) (part_rest f a e h.starts)
      ∙ ap (parts mark) (append_assoc (take (e - a) (drop a f)) (drop e f) ys)
      ∙ ap (λ xs. parts mark (take (e - a) (drop a f) ++ (xs ++ ys))) (drop-cons f e 0 l ∙ ap (λ k. get_or f e 0 ∷ drop k f) (sym (add-one e)))
      ∙ clear_marked mark h.clear (get_or f e 0) (drop (e + 1) f ++ ys) (h.stops l)
