-- The words at the front of a list, up to `cut`, parted in one pass: those that fail a test close up at the front, those that pass go from `cut` on, both in their order.
-- Use: `Going` holds while the pass goes on: what is still due, put at its two places, is the whole (`begun`, `goes`, `stays_here`, `done`). Assumes nothing.
use Rattle.std.specs.Prelude.{◌≡◌, refl, Bool, true, false, not, ℕ, suc, ◌+◌, ◌-◌, ◌≤◌, ◌<◌, ℤ, pos, get_or, set}
use Rattle.std.proofs.Math.Path.{sym, ap}
use Rattle.std.proofs.Common.{ap₂, ◌∙◌, add-one, length-set}
use mathlib.Core.List.{List, [], ◌∷◌}
use native.Mathlib.Omega.{arith}
use Rattle.std.proofs.Math.ListN.{length}
use Rattle.std.specs.Int.Signed.{lt_z}
use Rattle.lists.specs.Plain.{to_nat, filter}
use Rattle.lists.specs.Counting.{filter_length, count_parts}
use Rattle.lists.specs.Filters.{filter_yes, filter_no}
use Rattle.paper.specs.Words.{far_of}
use Rattle.build_queue.specs.Ends.{records_in, axis_in}
use Rattle.build_queue.specs.declared.Ends.{Ends}
use Rattle.lists.specs.Parts.{win, put, length_win, length_put, win_cons, win_set, win_put_left, put_one, put_step, put_nil, put_swap}

-- whether the position that a word stands for ends before the centre
abbrev pub goes_left : Ends → ℤ → ℤ → Bool
goes_left ends centre z = lt_z (far_of (records_in ends) (axis_in ends) (to_nat z)) centre

module _ (goes : ℤ → Bool) where
  abbrev stayed : ℤ → Bool
  stayed z = not (goes z)

  -- s with those of ws that stay put at o, and those that go put at l
  abbrev pub parted : List ℤ → (o l : ℕ) → List ℤ → List ℤ
  parted ws o l s = put l (filter goes ws) (put o (filter stayed ws) s)

  both_lengths : (ws : List ℤ) → length (filter goes ws) + length (filter stayed ws) ≡ length ws
  both_lengths ws = omega (arith, filter_length goes ws, filter_length stayed ws, count_parts goes ws)

  pub record Going (s₀ : List ℤ) (cut : ℕ) (s : List ℤ) (o l i : ℕ) : Type 0 where
    pub within : i ≤ cut
    pub above : cut ≤ l
    pub all : o + l ≡ i + cut
    pub long : length s ≡ length s₀
    pub stay : o + length (filter stayed (win i (cut - i) s)) ≡ length (filter stayed (win 0 cut s₀))
    pub due : parted (win i (cut - i) s) o l s ≡ parted (win 0 cut s₀) 0 cut s₀

  module _ (s₀ : List ℤ) (cut : ℕ) (room : cut + cut ≤ length s₀) where
    pub begun : Going s₀ cut s₀ 0 cut 0
    begun =
        let z : cut - 0 ≡ cut = omega arith in
        record { within = omega arith; above = omega arith; all = refl; long = refl; stay = rw z (omega arith); due = ap (λ n. parted (win 0 n s₀) 0 cut s₀) z }

    module _ (s : List ℤ) (o l i : ℕ) (g : Going s₀ cut s o l i) where
      abbrev x : ℤ
      x = get_or s i (pos 0)

      abbrev rest : List ℤ
      rest = win (i + 1) (cut - (i + 1)) s

      module _ (more : i < cut) where
        next : win i (cut - i) s ≡ x ∷ rest
        next =
            let m : cut - i ≡ suc (cut - suc i) = omega arith in
            rw (add-one i, m) (win_cons i (cut - suc i) (pos 0) s (omega (arith, g.long)))

        rest_length : length rest ≡ cut - (i + 1)
        rest_length = length_win (i + 1) (cut - (i + 1)) s (omega (arith, g.long))

        pub places : (o ≤ i) × (l < length s)
        places = (omega (arith, g.all, g.above), omega (arith, g.all, g.long))

        pub stays_here : goes x ≡ false → Going s₀ cut (set s o x) (o + 1) l (i + 1)
        stays_here h =
            let same : win (i + 1) (cut - (i + 1)) (set s o x) ≡ rest = win_set (i + 1) (cut - (i + 1)) o x s (omega (arith, places)) in
            let go-is : filter goes (win i (cut - i) s) ≡ filter goes rest = ap (filter goes) next ∙ filter_no goes x rest h in
            let stay_is : filter stayed (win i (cut - i) s) ≡ x ∷ filter stayed rest = ap (filter stayed) next ∙ filter_yes stayed x rest (ap not h) in
            record {
              within = omega arith;
              above = g.above;
              all = omega (arith, g.all);
              long = length-set s o x ∙ g.long;
              stay = ap (λ w. (o + 1) + length (filter stayed w)) same ∙ omega (arith, g.stay, ap length stay_is);
              due =
                  ap (λ w. parted w (o + 1) l (set s o x)) same
                  ∙ ap (λ k. put l (filter goes rest) (put k (filter stayed rest) (set s o x))) (add-one o)
                  ∙ ap (put l (filter goes rest)) (sym (put_step o x (filter stayed rest) s (omega (arith, places))))
                  ∙ ap₂ (λ u v. put l u (put o v s)) (sym go-is) (sym stay_is)
                  ∙ g.due;
            }

        pub goes_on : goes x ≡ true → Going s₀ cut (set s l x) o (l + 1) (i + 1)
        goes_on h =
            let one : set s l x ≡ put l (x ∷ []) s = put_one l x s (omega (arith, places)) in
            let same : win (i + 1) (cut - (i + 1)) (set s l x) ≡ rest =
            ap (win (i + 1) (cut - (i + 1))) one ∙ win_put_left (i + 1) (cut - (i + 1)) l (x ∷ []) s (omega (arith, g.above)) (omega (arith, places)) in
            let go-is : filter goes (win i (cut - i) s) ≡ x ∷ filter goes rest = ap (filter goes) next ∙ filter_yes goes x rest h in
            let stay_is : filter stayed (win i (cut - i) s) ≡ filter stayed rest = ap (filter stayed) next ∙ filter_no stayed x rest (ap not h) in
            let few : o + length (filter stayed rest) ≤ l = omega (arith, both_lengths rest, rest_length, places, g.above) in
            let long : length (put o (filter stayed rest) s) ≡ length s = length_put o (filter stayed rest) s (omega (arith, few, places)) in
            record {
              within = omega arith;
              above = omega (arith, g.above);
              all = omega (arith, g.all);
              long = length-set s l x ∙ g.long;
              stay = ap (λ w. o + length (filter stayed w)) same ∙ omega (arith, g.stay, ap length stay_is);
              due =
                  ap (λ w. parted w o (l + 1) (set s l x)) same
                  ∙ ap₂ (λ k t. put k (filter goes rest) (put o (filter stayed rest) t)) (add-one l) one
                  ∙ ap (put (suc l) (filter goes rest)) (sym (put_swap o l (filter stayed rest) (x ∷ []) s few (omega (arith, places))))
                  ∙ ap (put (suc l) (filter goes rest)) (sym (put_one l x (put o (filter stayed rest) s) (omega (arith, long, places))))
                  ∙ sym (put_step l x (filter goes rest) (put o (filter stayed rest) s) (omega (arith, long, places)))
                  ∙ ap₂ (λ u v. put l u (put o v s)) (sym go-is) (sym stay_is)
                  ∙ g.due;
            }

      ended : cut ≤ i → win i (cut - i) s ≡ []
      unfolding win
      ended h = let z : cut - i ≡ 0 = omega arith in rw z

      pub end_count : cut ≤ i → o ≡ length (filter stayed (win 0 cut s₀))
      unfolding filter
      end_count h = omega (arith, g.stay, ap (λ w. length (filter stayed w)) (ended h))

      pub end_list : cut ≤ i → s ≡ parted (win 0 cut s₀) 0 cut s₀
      unfolding filter
      end_list h = sym (ap (λ w. parted w o l s) (ended h) ∙ put_nil l (put o [] s) ∙ put_nil o s) ∙ g.due
