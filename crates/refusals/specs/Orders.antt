-- The outcome of an order of refusals: the five tests of a table that stand first in every order over one, and an answer that is 0 only where nothing was refused.
use Rattle.std.specs.Prelude.{◌≡◌, refl, Bool, true, false, cond, List, [], ◌∷◌, ◌++◌, ℕ, ◌≤◌, ◌<◌, ℤ, pos, length, Option, Some, None, is_some, unwrap_or, Result, Ok, Err}
use Rattle.std.proofs.Common.{sym, ap, ◌∙◌}
use Rattle.lists.specs.Tests.{by_test, clash}
use Rattle.lists.specs.Every.{All}
use Rattle.paper.specs.Answers.{Answer, answer, bad_kind, bad_lower, bad_extent, bad_strides, bad_cells, judged, refused}
use Rattle.paper.specs.declared.Descriptor.{Descriptor}
use Rattle.paper.specs.declared.Reply.{Reply}
use Rattle.promise.specs.Calls.{not_judged, none_refused}
use Rattle.table.specs.Cells.{Held}
use Rattle.refusals.specs.declared.Refusal.{Refusal}
use Rattle.refusals.specs.declared.Refusal.TheVariants.{Kind, Lower, Extent, Strides, Far, Slanted, Room, Window, Index, Spoiled, Nowhere, Cells, Text, Slice}

-- what a refusal answers: given, with the count and the position that it returns
abbrev pub answer_of : Refusal → Answer
answer_of Kind = answer 1 true
answer_of Lower = answer 2 true
answer_of Extent = answer 3 true
answer_of Strides = answer 4 true
answer_of (Far p) = record { number = 5; given = true; count = 0; position = p }
answer_of (Slanted p) = record { number = 6; given = true; count = 0; position = p }
answer_of (Room due) = record { number = 7; given = true; count = due; position = 0 }
answer_of (Window i) = record { number = 8; given = true; count = 0; position = i }
answer_of Index = answer 9 true
answer_of (Spoiled i) = record { number = 10; given = true; count = 0; position = i }
answer_of Nowhere = answer 11 true
answer_of (Cells place) = record { number = 12; given = true; count = place.coordinate; position = place.position }
answer_of (Text p) = record { number = 13; given = true; count = 0; position = p }
answer_of Slice = answer 14 true

-- a reply has room for what it returns
abbrev pub Carried : Refusal → Type 0
Carried r = ((answer_of r).count < 9223372036854775808) × ((answer_of r).position < 9223372036854775808)

-- the first answer that is given
abbrev pub first_given : List Answer → Option Answer
first_given xs = judged xs (λ x. Some x) None

-- a test of some answers: an error is the first that is given, and where there is none none is
abbrev pub Decided : {A : Type 0} → List Answer → Result A Refusal → Type 0
Decided xs (Ok a) = first_given xs ≡ None
Decided xs (Err r) = (first_given xs ≡ Some (answer_of r)) × Carried r

-- the reply of a call that is done or refused
abbrev pub reply_of : Result Reply Refusal → Reply
reply_of (Ok reply) = reply
reply_of (Err r) = refused (answer_of r)

-- the tests that stand first in each order over a table: 1, 2, 3, 4, 12
abbrev pub table_order : List ℤ → Descriptor → List Answer
table_order table d = bad_kind d.kind ∷ bad_lower d.kind d.lower ∷ bad_extent d.extent ∷ bad_strides d ∷ bad_cells (pos (length table)) d ∷ []

-- ---- one test

module _ {A : Type 0} (x : Answer) (rest : List Answer) (f : Answer → A) (done : A) where
  pub refuses : {r : A} → x.given ≡ true → r ≡ f x → r ≡ judged (x ∷ rest) f done
  refuses e h = h ∙ sym (ap (λ b. cond b (f x) (judged rest f done)) e)

  pub passes : {r : A} → x.given ≡ false → r ≡ judged rest f done → r ≡ judged (x ∷ rest) f done
  passes e h = h ∙ sym (ap (λ b. cond b (f x) (judged rest f done)) e)

-- ---- tests that an order begins with

-- None says that none is given
pub none_given : (xs : List Answer) → first_given xs ≡ None → All (λ x. x.given ≡ false) xs
none_given [] e = All.none
none_given (x ∷ xs) e = by_test x.given never (λ t. All.also t (none_given xs (sym (at t) ∙ e)))
  where
    at : {b : Bool} → x.given ≡ b → first_given (x ∷ xs) ≡ cond b (Some x) (first_given xs)
    at t = ap (λ g. cond g (Some x) (first_given xs)) t

    never : x.given ≡ true → All (λ x. x.given ≡ false) (x ∷ xs)
    never t = clash (ap is_some (sym (at t) ∙ e))

pub none_first : (x : Answer) → first_given (x ∷ []) ≡ None → x.given ≡ false
none_first x e = first (none_given (x ∷ []) e)
  where
    first : All (λ x. x.given ≡ false) (x ∷ []) → x.given ≡ false
    first (All.also t All.none) = t

-- a refusal, and the lent cells or bytes as they were
abbrev pub refuse : {B : Type 0} → B → Answer → Reply × B
refuse cells x = (refused x, cells)

module _ {A : Type 0} (rest : List Answer) (f : Answer → A) (done : A) where
  -- where one of them is given it decides
  pub first_decides : (xs : List Answer) {x : Answer} → first_given xs ≡ Some x → f x ≡ judged (xs ++ rest) f done
  first_decides [] e = clash (ap is_some (sym e))
  first_decides (y ∷ xs) {x} e = go y.given (first_decides xs) e
    where
      go : (b : Bool) → (first_given xs ≡ Some x → f x ≡ judged (xs ++ rest) f done) → cond b (Some y) (first_given xs) ≡ Some x → f x ≡ cond b (f y) (judged (xs ++ rest) f done)
      go true h e = sym (ap (λ o. f (unwrap_or o y)) e)
      go false h e = h e

  -- where none is given the others decide
  pub others_decide : {xs : List Answer} → All (λ x. x.given ≡ false) xs → judged rest f done ≡ judged (xs ++ rest) f done
  others_decide All.none = refl
  others_decide (All.also {x = x} {l = xs} t ts) = passes x (xs ++ rest) f done t (others_decide ts)

-- the tests of the cells alone, 3, 4, 12
pub held : (len : ℤ) (d : Descriptor) → first_given (bad_extent d.extent ∷ bad_strides d ∷ bad_cells len d ∷ []) ≡ None → Held len d
held len d e = go (none_given (bad_extent d.extent ∷ bad_strides d ∷ bad_cells len d ∷ []) e)
  where
    go : All (λ x. x.given ≡ false) (bad_extent d.extent ∷ bad_strides d ∷ bad_cells len d ∷ []) → Held len d
    go (All.also r (All.also s (All.also t All.none))) = record { extent = r; strides = s; cells = t }

-- ---- an order over a table

module _ (table : List ℤ) (d : Descriptor) where
  -- a table that passes the first five tests
  pub record Passed : Type 0 where
    pub kind : (bad_kind d.kind).given ≡ false
    pub lower : (bad_lower d.kind d.lower).given ≡ false
    pub held : Held (pos (length table)) d

  pub table_pass : first_given (table_order table d) ≡ None → Passed
  table_pass e = go (none_given (table_order table d) e)
    where
      go : All (λ x. x.given ≡ false) (table_order table d) → Passed
      go (All.also p (All.also q (All.also r (All.also s (All.also t All.none))))) = record { kind = p; lower = q; held = record { extent = r; strides = s; cells = t } }

  module _ {B : Type 0} (rest : List Answer) (cells : B) (done : Reply × B) where
    -- one of the five refuses
    pub table_given : {x : Answer} → first_given (table_order table d) ≡ Some x → refuse cells x ≡ judged (table_order table d ++ rest) (refuse cells) done
    table_given e = first_decides rest (refuse cells) done (table_order table d) e

    -- none does
    pub table_left : first_given (table_order table d) ≡ None → judged rest (refuse cells) done ≡ judged (table_order table d ++ rest) (refuse cells) done
    table_left e = others_decide rest (refuse cells) done (none_given (table_order table d) e)

-- ---- the number 0 is returned only where nothing was refused
pub zero_done : {B : Type 0} {xs : List Answer} (cells : B) (done : Reply × B) → All (λ x. 1 ≤ x.number) xs
    → (judged xs (refuse cells) done).0.number ≡ pos 0 → judged xs (refuse cells) done ≡ done
zero_done {xs} cells done h e = not_judged xs (refuse cells) done (none_refused cells done h e)
