-- The automaton fails exactly where no accepted text can follow; so the place of a refusal is where it fails, and any two results of a reading are equal.
use Rattle.std.specs.Prelude.{◌≡◌, refl, Bool, true, false, List, [], ◌∷◌, ◌++◌, ℕ, suc, ◌-◌, ◌≤◌, ◌<◌, T, ℤ, length, take, drop}
use Rattle.std.proofs.Common.{sym, ap, ◌∙◌, subst, arith, take-append-drop, take-take}
use Rattle.lists.specs.Tests.{by_test, clash}
use Rattle.lists.specs.Maps.{map_drop}
use Rattle.paper.specs.Answers.{judged, refused, done}
use Rattle.paper.specs.Results.{Result, over}
use Rattle.paper.specs.Wkt.{space, opening, closing, comma, capital, Dead, Place, bad_text, coordinates_of, reader_order, Read, refuses, accepts}
use Rattle.axes.specs.declared.Word.{Word}
use Rattle.axes.specs.declared.Word.TheVariants.{X1, Y1, X2, Y2}
use Rattle.wkt_read.specs.declared.automaton.State.{State}
use Rattle.wkt_read.specs.declared.automaton.State.TheVariants.{Start, Name, Named, Body, Empty, Line, Due, Signed, Number, After, More, End, Failed}
use Rattle.wkt_read.specs.Machine.{name, empty, step_state, ended, failed, Reading, to, step, run, at, start, run_append}
use Rattle.wkt_read.specs.Complete.{rest_of_name, rest_of_empty, accepted_run, accepted_once}
use Rattle.wkt_read.specs.Sound.{Bound, Shape, loose, signed, counted, shape_run, shape_start, run_accepted}

-- ---- from every state but the failed one some text goes on to the end
record Live (r : Reading) : Type 0 where
  rest : List ℕ
  ends : T (ended (run r rest).state)

abbrev line_end : List ℕ
line_end = closing ∷ closing ∷ []

-- what follows a coordinate, and what follows where it is due
abbrev afterwards : Word → List ℕ
afterwards X1 = space ∷ 48 ∷ comma ∷ 48 ∷ space ∷ 48 ∷ line_end
afterwards Y1 = comma ∷ 48 ∷ space ∷ 48 ∷ line_end
afterwards X2 = space ∷ 48 ∷ line_end
afterwards Y2 = line_end

number_live : (c : Word) (n : Bool) (v : ℕ) (ns : List ℤ) → T (ended (run (record { state = Number c; negative = n; value = v; numbers = ns }) (afterwards c)).state)
unfolding run
number_live X1 n v ns = tt
number_live Y1 n v ns = tt
number_live X2 n v ns = tt
number_live Y2 n v ns = tt

after_live : (c : Word) (ns : List ℤ) → T (ended (run (at (After c) ns) (afterwards c)).state)
unfolding run
after_live X1 ns = tt
after_live Y1 ns = tt
after_live X2 ns = tt
after_live Y2 ns = tt

name_live : (k : ℕ) → k ≤ 14 → (ns : List ℤ) → T (ended (run (at (Name k) ns) (drop k name ++ (space ∷ empty))).state)
unfolding run
name_live k h ns =
    subst (λ r. T (ended r.state))
    (sym (run_append (at (Name k) ns) (drop k name) (space ∷ empty) ∙ ap (λ r. run r (space ∷ empty)) (rest_of_name ns (14 - k) k (omega arith) (drop k name) (map_drop capital k name))))
    tt

empty_live : (k : ℕ) → k ≤ 4 → (ns : List ℤ) → T (ended (run (at (Empty k) ns) (drop k empty)).state)
empty_live k h ns = subst (λ r. T (ended r.state)) (sym (rest_of_empty ns (4 - k) k (omega arith) (drop k empty) (map_drop capital k empty))) tt

live_at : (s : State) (ns : List ℤ) → Bound s → (failed s ≡ false) → Live (at s ns)
unfolding run
live_at Start ns h f = record { rest = name ++ (space ∷ empty); ends = tt }
live_at (Name k) ns h f = record { rest = drop k name ++ (space ∷ empty); ends = name_live k h ns }
live_at Named ns h f = record { rest = space ∷ empty; ends = tt }
live_at Body ns h f = record { rest = empty; ends = tt }
live_at (Empty k) ns h f = record { rest = drop k empty; ends = empty_live k h ns }
live_at Line ns h f = record { rest = opening ∷ 48 ∷ afterwards X1; ends = tt }
live_at (Due c) ns h f = record { rest = 48 ∷ afterwards c; ends = number_live c false 0 ns }
live_at (Signed c) ns h f = record { rest = 48 ∷ afterwards c; ends = number_live c false 0 ns }
live_at (Number c) ns h f = record { rest = afterwards c; ends = number_live c false 0 ns }
live_at (After c) ns h f = record { rest = afterwards c; ends = after_live c ns }
live_at More ns h f = record { rest = closing ∷ []; ends = tt }
live_at End ns h f = record { rest = []; ends = tt }
live_at Failed ns h f = clash f

live : {r : Reading} → Shape r → failed r.state ≡ false → Live r
unfolding run
live (loose s ns h) f = live_at s ns h f
live (signed c n ns) f = record { rest = 48 ∷ afterwards c; ends = number_live c n 0 ns }
live (counted c n v ns) f = record { rest = afterwards c; ends = number_live c n v ns }

-- ---- from the failed one none
to_state : (r : Reading) (b : ℕ) (s : State) → (to r b s).state ≡ s
to_state r b Start = refl
to_state r b (Name k) = refl
to_state r b Named = refl
to_state r b Body = refl
to_state r b (Empty k) = refl
to_state r b Line = refl
to_state r b (Due c) = refl
to_state r b (Signed c) = refl
to_state r b (Number c) = refl
to_state r b (After c) = refl
to_state r b More = refl
to_state r b End = refl
to_state r b Failed = refl

failed_step : (s : State) (b : ℕ) → failed s ≡ true → failed (step_state s b) ≡ true
failed_step Start b e = clash (sym e)
failed_step (Name k) b e = clash (sym e)
failed_step Named b e = clash (sym e)
failed_step Body b e = clash (sym e)
failed_step (Empty k) b e = clash (sym e)
failed_step Line b e = clash (sym e)
failed_step (Due c) b e = clash (sym e)
failed_step (Signed c) b e = clash (sym e)
failed_step (Number c) b e = clash (sym e)
failed_step (After c) b e = clash (sym e)
failed_step More b e = clash (sym e)
failed_step End b e = clash (sym e)
failed_step Failed b e = refl

pub state_step : (r : Reading) (b : ℕ) → (step r b).state ≡ step_state r.state b
state_step r b = to_state r b (step_state r.state b)

failed_run : (bs : List ℕ) (r : Reading) → failed r.state ≡ true → failed (run r bs).state ≡ true
unfolding run
failed_run [] r e = e
failed_run (b ∷ bs) r e = failed_run bs (step r b) (ap failed (state_step r b) ∙ failed_step r.state b e)

pub failed_more : (a b : List ℕ) → failed (run start a).state ≡ true → failed (run start (a ++ b)).state ≡ true
failed_more a b e = ap (λ r. failed r.state) (run_append start a b) ∙ failed_run b (run start a) e

-- ---- so it fails exactly where no accepted text can follow
pub failed_dead : (text : List ℕ) → failed (run start text).state ≡ true → Dead text
failed_dead text e rest segments a = clash (sym (failed_more text rest e) ∙ ap (λ r. failed r.state) (accepted_run segments a))

pub dead_failed : (text : List ℕ) → Dead text → failed (run start text).state ≡ true
dead_failed text d = by_test (failed (run start text).state) (λ e. e) go
  where
    go : failed (run start text).state ≡ false → failed (run start text).state ≡ true
    go e =
        let l = live (shape_run text shape_start) e in
        let a = run_accepted (text ++ l.rest) (subst (λ r. T (ended r.state)) (sym (run_append start text l.rest)) l.ends) in
        absurd (d l.rest a.segments a.accepted)

-- ---- the place of a refusal
pub place_at : (text : List ℕ) (p : ℕ) → p ≤ length text → failed (run start (take p text)).state ≡ false → (p < length text → failed (run start (take (suc p) text)).state ≡ true) → ended (run start text).state ≡ false → Place text p
place_at text p h alive dead unended = record {
  unaccepted = λ segments a. clash (sym (ap (λ r. ended r.state) (accepted_run segments a)) ∙ unended);
  within = h;
  first = λ i l d. before i l (dead_failed (take (suc i) text) d);
  dead = λ l. failed_dead (take (suc p) text) (dead l);
}
  where
    before : (i : ℕ) → i < p → failed (run start (take (suc i) text)).state ≡ true → ⊥
    before i l e =
        let s : take (suc i) text ++ drop (suc i) (take p text) ≡ take p text = ap (λ x. x ++ drop (suc i) (take p text)) (sym (take-take (suc i) p text (omega arith))) ∙ take-append-drop (suc i) (take p text) in
        clash (sym (ap (λ x. failed (run start x).state) (sym s) ∙ failed_more (take (suc i) text) (drop (suc i) (take p text)) e) ∙ alive)

place_le : {text : List ℕ} {p q : ℕ} → Place text p → Place text q → q ≤ p
place_le {text} {p} {q} a b = below (λ l. b.first p l (a.dead (omega (arith, b.within))))
  where
    below : (p < q → ⊥) → q ≤ p
    below n = omega arith

pub place_once : {text : List ℕ} {p q : ℕ} → Place text p → Place text q → p ≡ q
place_once a b = omega (arith, place_le a b, place_le b a)

-- ---- any two results of a reading are equal
pub read_once : {text : List ℕ} {cells : List ℤ} {r s : Result} → Read text cells r → Read text cells s → r ≡ s
read_once {cells = cells} (refuses p a) (refuses q b) = ap (λ k. (refused (bad_text k), cells)) (place_once a b)
read_once (refuses p a) (accepts segments b) = absurd (a.unaccepted segments b)
read_once (accepts segments a) (refuses q b) = absurd (b.unaccepted segments a)
read_once {cells = cells} (accepts a h) (accepts b k) =
    ap (λ ss. judged (reader_order ss cells) (λ x. (refused x, cells)) (done (length ss) 0, over (coordinates_of ss) cells)) (accepted_once a b h k)
