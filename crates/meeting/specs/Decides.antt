-- The corner test of `paper` decides Meeting, both directions, wherever a ≤ b and c ≤ d: `decides`. The law is Weighing's; here tests are read as facts.
use Rattle.std.specs.Prelude.{◌≡◌, Bool, true, false, ◌&&◌, ◌||◌, [], ◌∷◌, ◌↔◌, ◌⊎◌, T, ℤ, pos, ◌-ℤ◌, ◌≤ℤ◌}
use Rattle.std.proofs.Common.{inl, inr, ⊎_elim}
use Rattle.std.specs.Int.Signed.{le_z, le_z_yes}
use Rattle.whole.specs.Whole.{#, ◌⊖◌, of, whole}
use Rattle.lists.specs.Plain.{any}
use Rattle.lists.specs.Tests.{is_true, holds, both, fst_of, snd_of, or_cases, or_in, or_more}
use Rattle.paper.specs.Meeting.{Meets}
use Rattle.paper.specs.Corners.{overlaps, weight, weights, weighed}
use Rattle.paper.specs.declared.Segment.{Segment}
use Rattle.paper.specs.declared.Window.{Window}
use Rattle.meeting.specs.Weighing.{Box, Any, Up, Down, axis, meets_test}

-- ---- tests and facts
or_T : (p q : Bool) → T (p || q) ↔ (T p ⊎ T q)
or_T p q = (λ t. or_cases p q t (λ s. inl s) (λ s. inr s), ⊎_elim (or_in p q) (or_more p q))

box_T : (lo hi u1 u2 : ℤ) → T (overlaps lo hi u1 u2) ↔ Box (axis lo hi u1 u2)
box_T lo hi u1 u2 = (
  λ t. record {
    starts = ⊎_elim (λ h. inl (low (le_z_yes h))) (λ h. inr (low' (le_z_yes h))) ((or_T (le_z lo u1) (le_z lo u2)).0 (fst_of (le_z lo u1 || le_z lo u2) (le_z u1 hi || le_z u2 hi) t));
    ends = ⊎_elim (λ h. inl (high (le_z_yes h))) (λ h. inr (high' (le_z_yes h))) ((or_T (le_z u1 hi) (le_z u2 hi)).0 (snd_of (le_z lo u1 || le_z lo u2) (le_z u1 hi || le_z u2 hi) t));
  },
  λ b.
      both (le_z lo u1 || le_z lo u2) (le_z u1 hi || le_z u2 hi)
      ((or_T (le_z lo u1) (le_z lo u2)).1 (⊎_elim (λ h. inl (low_back h).le) (λ h. inr (low_back' h).le) b.starts))
      ((or_T (le_z u1 hi) (le_z u2 hi)).1 (⊎_elim (λ h. inl (high_back h).le) (λ h. inr (high_back' h).le) b.ends)),
)
  where
    low : lo ≤ℤ u1 → (lo -ℤ u1) ≤ℤ pos 0
    low h = omega (whole, of (# lo ⊖ # u1))

    low' : lo ≤ℤ u2 → (lo -ℤ u1) ≤ℤ (u2 -ℤ u1)
    low' h = omega (whole, of (# lo ⊖ # u1), of (# u2 ⊖ # u1))

    high : u1 ≤ℤ hi → pos 0 ≤ℤ (hi -ℤ u1)
    high h = omega (whole, of (# hi ⊖ # u1))

    high' : u2 ≤ℤ hi → (u2 -ℤ u1) ≤ℤ (hi -ℤ u1)
    high' h = omega (whole, of (# hi ⊖ # u1), of (# u2 ⊖ # u1))

    low_back : (lo -ℤ u1) ≤ℤ pos 0 → lo ≤ℤ u1
    low_back h = omega (whole, of (# lo ⊖ # u1))

    low_back' : (lo -ℤ u1) ≤ℤ (u2 -ℤ u1) → lo ≤ℤ u2
    low_back' h = omega (whole, of (# lo ⊖ # u1), of (# u2 ⊖ # u1))

    high_back : pos 0 ≤ℤ (hi -ℤ u1) → u1 ≤ℤ hi
    high_back h = omega (whole, of (# hi ⊖ # u1))

    high_back' : (u2 -ℤ u1) ≤ℤ (hi -ℤ u1) → u2 ≤ℤ hi
    high_back' h = omega (whole, of (# hi ⊖ # u1), of (# u2 ⊖ # u1))

-- of four tests
four_T : (a b c d : Bool) → T (a || (b || (c || (d || false)))) ↔ (T a ⊎ (T b ⊎ (T c ⊎ T d)))
four_T true b c d = (λ t. inl tt, λ t. tt)
four_T false true c d = (λ t. inr (inl tt), λ t. tt)
four_T false false true d = (λ t. inr (inr (inl tt)), λ t. tt)
four_T false false false true = (λ t. inr (inr (inr tt)), λ t. tt)
four_T false false false false = (λ t. absurd t, ⊎_elim (λ t. absurd t) (⊎_elim (λ t. absurd t) (⊎_elim (λ t. absurd t) (λ t. t))))

four_map : {A B C D A' B' C' D' : Type 0} → (A → A') → (B → B') → (C → C') → (D → D') → A ⊎ (B ⊎ (C ⊎ D)) → A' ⊎ (B' ⊎ (C' ⊎ D'))
four_map f g h k = ⊎_elim (λ a. inl (f a)) (⊎_elim (λ b. inr (inl (g b))) (⊎_elim (λ c. inr (inr (inl (h c)))) (λ d. inr (inr (inr (k d))))))

any_T : (q : ℤ → Bool) (a b c d : ℤ) → T (any q (a ∷ b ∷ c ∷ d ∷ [])) ↔ (T (q a) ⊎ (T (q b) ⊎ (T (q c) ⊎ T (q d))))
unfolding any
any_T q a b c d = four_T (q a) (q b) (q c) (q d)

module _ (w : Window) (s : Segment) where
  abbrev at : (x y : ℤ) → ℤ
  at x y = weight s x y

  ups : Bool
  ups = any (λ z. le_z (pos 0) z) (weights w s)

  downs : Bool
  downs = any (λ z. le_z z (pos 0)) (weights w s)

  ups_T : T ups ↔ Any Up (axis w.a w.b s.x1 s.x2) (axis w.c w.d s.y1 s.y2)
  unfolding ups
  ups_T =
      let e = any_T (λ z. le_z (pos 0) z) (at w.a w.c) (at w.b w.c) (at w.a w.d) (at w.b w.d) in
      (λ t. four_map le_z_yes le_z_yes le_z_yes le_z_yes (e.0 t), λ p. e.1 (four_map (λ h. h.le) (λ h. h.le) (λ h. h.le) (λ h. h.le) p))

  downs_T : T downs ↔ Any Down (axis w.a w.b s.x1 s.x2) (axis w.c w.d s.y1 s.y2)
  unfolding downs
  downs_T =
      let e = any_T (λ z. le_z z (pos 0)) (at w.a w.c) (at w.b w.c) (at w.a w.d) (at w.b w.d) in
      (λ t. four_map le_z_yes le_z_yes le_z_yes le_z_yes (e.0 t), λ p. e.1 (four_map (λ h. h.le) (λ h. h.le) (λ h. h.le) (λ h. h.le) p))

  pub decides : w.a ≤ℤ w.b → w.c ≤ℤ w.d → (weighed w s ≡ true) ↔ Meets s w
  unfolding ups downs
  decides h g =
      let e = meets_test s w h g in
      let across = overlaps w.a w.b s.x1 s.x2 in
      let along = overlaps w.c w.d s.y1 s.y2 in (
        λ t.
            let rest = snd_of across (along && (ups && downs)) (holds t) in
            let sides = snd_of along (ups && downs) rest in
            e.1 (record {
              across = (box_T w.a w.b s.x1 s.x2).0 (fst_of across (along && (ups && downs)) (holds t));
              along = (box_T w.c w.d s.y1 s.y2).0 (fst_of along (ups && downs) rest);
              ups = ups_T.0 (fst_of ups downs sides);
              downs = downs_T.0 (snd_of ups downs sides);
            }),
        λ m.
            let t = e.0 m in
            is_true (weighed w s)
            (both across (along && (ups && downs)) ((box_T w.a w.b s.x1 s.x2).1 t.across)
            (both along (ups && downs) ((box_T w.c w.d s.y1 s.y2).1 t.along) (both ups downs (ups_T.1 t.ups) (downs_T.1 t.downs)))),
      )
