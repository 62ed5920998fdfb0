-- How the input falls into lines, and what is still owed for the lines that are left: a line cut off, the last line, a line that is too long.
use Rattle.std.specs.Prelude.{◌≡◌, refl, List, [], ◌∷◌, ◌++◌, ℕ, ◌+◌, ◌<◌, pos, length}
use Rattle.std.proofs.Common.{sym, ap, ◌∙◌, append_assoc, arith, length-append}
use Rattle.paper.specs.Lines.{line_feed, parts, without_empty_last, lines_of, line_of, other, State, start, filling, asking, Read, fault, next, read, tabbed, letter_R, after, from_line, program}
use Rattle.fields.specs.Marks.{before, Clear, Parted, parted, some_part, clear_marked, clear_last}
use Rattle.fields.specs.Forms.{too_long}

-- what a text still prints from line k on
abbrev pub owed : State → ℕ → List ℕ → List ℕ
owed s k text = from_line (lines_of text) k s

-- the text of a fault
abbrev pub fault_text : ℕ → ℕ → List ℕ
fault_text number k = letter_R ∷ tabbed (pos number ∷ pos k ∷ [])

keep_more : (l : List ℕ) {ps : List (List ℕ)} → Parted ps → without_empty_last (l ∷ ps) ≡ l ∷ without_empty_last ps
unfolding without_empty_last
keep_more l (parted m ls) = refl

-- a line, its line feed and more text
pub line_cut : {l : List ℕ} → Clear line_feed l → (b : ℕ) (rest : List ℕ) → b ≡ line_feed → (s : State) (k : ℕ) → owed s k (l ++ (b ∷ rest)) ≡ after (read s (line_of l)) k (λ s'. owed s' (k + 1) rest)
unfolding from_line
line_cut {l} c b rest e s k =
    ap (λ ls. from_line ls k s) (ap without_empty_last (clear_marked line_feed c b rest e) ∙ keep_more l (some_part line_feed rest))

-- the last line, where its line feed is missing
pub line_last : (l : List ℕ) → Clear line_feed l → 0 < length l → (s : State) (k : ℕ) → owed s k l ≡ after (read s (line_of l)) k (λ s'. [])
unfolding from_line without_empty_last
line_last [] c h s k = absurd (omega arith)
line_last (b ∷ bs) c h s k = ap (λ ps. from_line (without_empty_last ps) k s) (clear_last line_feed c)

-- nothing is left
pub none_owed : (s : State) (k : ℕ) → owed s k [] ≡ []
unfolding from_line without_empty_last parts
none_owed s k = refl

-- a line of another form is a fault wherever it stands
pub other_fault : (s : State) → read s other ≡ fault 0
unfolding read
other_fault start = refl
other_fault (filling first segments) = refl
other_fault (asking first segments) = refl

some_line : (b : ℕ) (l : List ℕ) (ls : List (List ℕ)) → (rest : List (List ℕ)) × (without_empty_last ((b ∷ l) ∷ ls) ≡ (b ∷ l) ∷ rest)
unfolding without_empty_last
some_line b l [] = ([], refl)
some_line b l (m ∷ ls) = (without_empty_last (m ∷ ls), refl)

-- a line that is too long is a fault before its end is seen
pub line_long : (l : List ℕ) → Clear line_feed l → 80 < length l → (rest : List ℕ) (s : State) (k : ℕ) → owed s k (l ++ rest) ≡ fault_text 0 k
unfolding from_line
line_long [] c h rest s k = absurd (omega arith)
line_long (b ∷ bs) c h rest s k = ap (λ ps. from_line (without_empty_last ps) k s) (c.then rest) ∙ go (some_part line_feed rest)
  where
    go : {ps : List (List ℕ)} → Parted ps → from_line (without_empty_last (before (b ∷ bs) ps)) k s ≡ fault_text 0 k
    go (parted m ls) =
        let first = some_line b (bs ++ m) ls in
        ap (λ x. from_line x k s) first.1
        ∙ ap (λ x. after (read s x) k (from_line first.0 (k + 1))) (sym (too_long (b ∷ (bs ++ m)) (omega (arith, length-append bs m))))
        ∙ ap (λ r. after r k (from_line first.0 (k + 1))) (other_fault s)

-- ---- a fault ends all; otherwise the text of the line and what is owed after it
pub faulty : {r : Read} {number : ℕ} → r ≡ fault number → (k : ℕ) (rest : State → List ℕ) → after r k rest ≡ fault_text number k
faulty e k rest = ap (λ x. after x k rest) e

pub onward : {r : Read} {s : State} {text : List ℕ} → r ≡ next s text → (k : ℕ) (rest : State → List ℕ) → after r k rest ≡ text ++ rest s
onward e k rest = ap (λ x. after x k rest) e

-- ---- input in chunks: each printed what was owed for it
pub record Fed (owing : List ℕ → List ℕ) (chunk text : List ℕ) (left : List ℕ → List ℕ) : Type 0 where
  pub fed : (rest : List ℕ) → owing (chunk ++ rest) ≡ text ++ left rest

pub fed_join : {a b c : List ℕ → List ℕ} {x y s t : List ℕ} → Fed a x s b → Fed b y t c → Fed a (x ++ y) (s ++ t) c
fed_join {a} {b} {c} {x} {y} {s} {t} h k = record {
  fed = λ rest.
      ap a (append_assoc x y rest) ∙ h.fed (y ++ rest) ∙ ap (λ l. s ++ l) (k.fed rest) ∙ sym (append_assoc s t (c rest));
}

-- the program, from the owing of its start
pub program_is : (text : List ℕ) → program text ≡ owed start 1 text
unfolding program
program_is text = refl
