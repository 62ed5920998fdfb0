-- One element taken out of a list: the first by one order, out of a list that stands by another.
-- Use: find a place whose element no other comes before; then `taken_first` and `others_stand` give the head of the sort, and what is left in the second order. Assumes nothing.
use Rattle.std.specs.Prelude.{◌≡◌, Bool, List, ◌∷◌, ◌++◌, ℕ, zero, suc, ◌+◌, ◌<◌, T, length, get_or, take, drop}
use Rattle.std.proofs.Common.{sym, ap, ◌∙◌, arith, length-append, length-take, length-drop}
use Rattle.std.proofs.Math.Seq.{split_at}
use Rattle.lists.specs.Plain.{count, sort}
use Rattle.lists.specs.Tests.{gate}
use Rattle.lists.specs.Orders.{Linear, up_to}
use Rattle.lists.specs.Every.{All, all_take, all_drop, all_append, Sorted}
use Rattle.lists.specs.Counting.{count_append, count_cons}
use Rattle.lists.specs.Sorting.{InOrder, sort_count, sort_all, sort_sorted, sort_sorted_list, sort_same, unique}

module _ {A : Type 0} where
  -- xs without the element at place b
  abbrev pub without : ℕ → List A → List A
  without b xs = take b xs ++ drop (suc b) xs

  pub without_length : (b : ℕ) (xs : List A) → b < length xs → suc (length (without b xs)) ≡ length xs
  without_length b xs h = simp (length-append, length-take, length-drop) (omega arith)

  without_sorted : {R : A → A → Type 0} (b : ℕ) {xs : List A} → Sorted R xs → Sorted R (without b xs)
  without_sorted zero Sorted.none = Sorted.none
  without_sorted zero (Sorted.next h s) = s
  without_sorted (suc b) Sorted.none = Sorted.none
  without_sorted (suc b) (Sorted.next h s) = Sorted.next (all_append (all_take b h) (all_drop (suc b) h)) (without_sorted b s)

  without_all : {P : A → Type 0} (b : ℕ) {xs : List A} → All P xs → All P (without b xs)
  without_all b h = all_append (all_take b h) (all_drop (suc b) h)

  pub without_count : (q : A → Bool) (b : ℕ) (d : A) (xs : List A) → b < length xs → count q xs ≡ gate (q (get_or xs b d)) 1 + count q (without b xs)
  without_count q b d xs h =
      ap (count q) (split_at xs b d h)
      ∙ omega (
        arith,
        count_append q (take b xs) (get_or xs b d ∷ drop (suc b) xs),
        count_cons q (get_or xs b d) (drop (suc b) xs),
        count_append q (take b xs) (drop (suc b) xs),
      )

module _ {A : Type 0} (before : A → A → Bool) (linear : Linear (up_to before)) (b : ℕ) (d : A) (xs : List A) (inside : b < length xs)
    (least : All (λ y. T (up_to before (get_or xs b d) y)) xs) where
  -- the sort begins with it
  pub taken_first : sort before xs ≡ get_or xs b d ∷ sort before (without b xs)
  taken_first =
      unique before linear (sort_sorted before linear.order xs)
      (Sorted.next (sort_all before (without_all b least)) (sort_sorted before linear.order (without b xs)))
      (λ q.
      sort_count before q xs
      ∙ without_count q b d xs inside
      ∙ sym (count_cons q (get_or xs b d) (sort before (without b xs)) ∙ ap (λ n. gate (q (get_or xs b d)) 1 + n) (sort_count before q (without b xs))))

  -- the others, sorted by the order that the list stands in, are the list without it
  pub others_stand : (second : A → A → Bool) → Linear (up_to second) → InOrder second xs → sort second (drop 1 (sort before xs)) ≡ without b xs
  others_stand second order stands =
      ap (λ l. sort second (drop 1 l)) taken_first
      ∙ sort_same second order (sort before (without b xs)) (without b xs) (λ q. sort_count before q (without b xs))
      ∙ sort_sorted_list second (without_sorted b stands)
