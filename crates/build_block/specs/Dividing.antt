-- A run that stands by near, divided: those that stay at the front, those that go left and right at the fronts of their own blocks' words.
-- Use: `Divided` is what is left behind, by the `Division` found; `divided` proves it from what the cut, the parting and the two moves leave. For every axis. Assumes nothing.
use Rattle.std.specs.Prelude.{◌≡◌, Bool, not, List, map, ℕ, ◌+◌, ◌-◌, ◌*◌, ◌/◌, ◌≤◌, ◌<◌, ℤ, pos, length, get_or, take, drop}
use Rattle.std.proofs.Common.{sym, ap, subst, ◌∙◌, arith}
use Rattle.std.specs.Int.Signed.{lt_z}
use Rattle.std.proofs.lemmas.List.{length-map}
use Rattle.lists.specs.Plain.{to_nat, filter}
use Rattle.lists.specs.Maps.{map_take, map_drop}
use Rattle.lists.specs.Filters.{filter_map}
use Rattle.lists.specs.Parts.{win, put, length_win, length_put, win_put_at, win_put_left, win_put_right, take_win, drop_win}
use Rattle.build_queue.specs.Runs.{named, Stands}
use Rattle.build_block.specs.Sides.{Tidy, Nearer, centre_at, centre_middle, sides, somebody, rights_end, lefts_front, stays_front}
use Rattle.build_block.specs.Cutting.{Cut, reached}
use Rattle.build_block.specs.Separating.{parted}
use Rattle.build_block.specs.declared.Division.{Division}
use Rattle.paper.specs.declared.Segment.{Segment}
use Rattle.paper.specs.Words.{Axis, near_of, far_of, stays, lefts, rights}

module _ (rs : List Segment) (axis : Axis) where
  -- ps divided by their centre, in ys
  pub record Divided (ps : List ℕ) (ys : List ℤ) (r : Division) : Type 0 where
    pub centre : r.centre ≡ centre_at rs axis ps
    pub stay : r.stay ≡ length (stays rs axis (centre_at rs axis ps) ps)
    pub left : r.cut - r.stay ≡ length (lefts rs axis (centre_at rs axis ps) ps)
    pub right : length ps - r.cut ≡ length (rights rs axis (centre_at rs axis ps) ps)
    pub some : 0 < r.stay
    pub least : r.stay ≤ r.cut
    pub most : r.cut ≤ length ps
    pub stays_in : win 0 r.stay ys ≡ map pos (stays rs axis (centre_at rs axis ps) ps)
    pub lefts_in : win (8 * r.stay) (r.cut - r.stay) ys ≡ map pos (lefts rs axis (centre_at rs axis ps) ps)
    pub rights_in : win (8 * r.cut) (length ps - r.cut) ys ≡ map pos (rights rs axis (centre_at rs axis ps) ps)

  module _ (tidy : Tidy rs axis) (goes : ℤ → Bool) (m cut stay : ℕ) (centre : ℤ) (xs y₁ y₂ : List ℤ) where
    abbrev ps : List ℕ
    ps = named (win 0 m xs)

    abbrev c : ℤ
    c = centre_at rs axis ps

    abbrev mine : ℕ → Bool
    mine p = lt_z (far_of rs axis p) c

    module _ (some : 0 < m) (long : length xs ≡ 8 * m) (run : Stands (Nearer rs axis) (win 0 m xs))
        (middle : centre ≡ near_of rs axis (get_or ps (m / 2) 0)) (agrees : (p : ℕ) → goes (pos p) ≡ lt_z (far_of rs axis p) centre)
        (found : Cut rs axis centre ps cut)
        (moved : y₁ ≡ put (8 * cut) (win cut (m - cut) xs) xs)
        (parting : y₂ ≡ parted goes (win 0 cut y₁) 0 cut y₁) (staying : stay ≡ length (filter (λ z. not (goes z)) (win 0 cut y₁))) where
      size : length ps ≡ m
      size = length-map (win 0 m xs) to_nat ∙ length_win 0 m xs (omega arith)

      centre_is : centre ≡ c
      centre_is = middle ∙ ap (λ k. near_of rs axis (get_or ps (k / 2) 0)) (sym size) ∙ centre_middle rs axis run.order

      cut_at : Cut rs axis c ps cut
      cut_at = subst (λ z. Cut rs axis z ps cut) centre_is found

      bounds : (0 < cut) × (cut ≤ m)
      bounds = (reached rs axis centre ps (m / 2) cut (omega (arith, some, size)) middle found, omega (arith, found.within, size))

      test_is : (p : ℕ) → goes (pos p) ≡ mine p
      test_is p = agrees p ∙ ap (lt_z (far_of rs axis p)) centre_is

      -- the words up to the cut, and after it
      front : win 0 cut y₁ ≡ map pos (take cut ps)
      front =
          let n : m ≡ cut + (m - cut) = omega (arith, bounds) in
          ap (win 0 cut) moved
          ∙ win_put_left 0 cut (8 * cut) (win cut (m - cut) xs) xs (omega arith) (omega (arith, bounds))
          ∙ sym (take_win 0 cut (m - cut) xs (omega (arith, bounds)))
          ∙ ap (λ k. take cut (win 0 k xs)) (sym n)
          ∙ ap (take cut) (sym run.plain)
          ∙ sym (map_take pos cut ps)

      back : win cut (m - cut) xs ≡ map pos (drop cut ps)
      back =
          let n : m ≡ cut + (m - cut) = omega (arith, bounds) in
          let z : 0 + cut ≡ cut = omega arith in
          ap (λ k. win k (m - cut) xs) (sym z)
          ∙ sym (drop_win 0 cut (m - cut) xs (omega (arith, bounds)))
          ∙ ap (λ k. drop cut (win 0 k xs)) (sym n)
          ∙ ap (drop cut) (sym run.plain)
          ∙ sym (map_drop pos cut ps)

      abbrev S : List ℤ
      S = filter (λ z. not (goes z)) (win 0 cut y₁)

      abbrev L : List ℤ
      L = filter goes (win 0 cut y₁)

      S_is : S ≡ map pos (stays rs axis c ps)
      S_is =
          ap (filter (λ z. not (goes z))) front
          ∙ filter_map pos (λ z. not (goes z)) (take cut ps)
          ∙ ap (λ (t : ℕ → Bool). map pos (filter (λ p. not (t p)) (take cut ps))) (λ i p. test_is p i)
          ∙ ap (map pos) (sym (stays_front rs axis tidy c ps cut cut_at.low cut_at.high))

      L_is : L ≡ map pos (lefts rs axis c ps)
      L_is =
          ap (filter goes) front
          ∙ filter_map pos goes (take cut ps)
          ∙ ap (λ (t : ℕ → Bool). map pos (filter t (take cut ps))) (λ i p. test_is p i)
          ∙ ap (map pos) (sym (lefts_front rs axis tidy c ps cut cut_at.low cut_at.high))

      R_is : win cut (m - cut) xs ≡ map pos (rights rs axis c ps)
      R_is = back ∙ ap (map pos) (sym (rights_end rs axis tidy c ps cut cut_at.low cut_at.high))

      R_long : length (win cut (m - cut) xs) ≡ m - cut
      R_long = length_win cut (m - cut) xs (omega (arith, bounds))

      stay_is : stay ≡ length (stays rs axis c ps)
      stay_is = staying ∙ ap length S_is ∙ length-map (stays rs axis c ps) pos

      rights_are : m - cut ≡ length (rights rs axis c ps)
      rights_are = sym R_long ∙ ap length R_is ∙ length-map (rights rs axis c ps) pos

      pub counts : (0 < stay) × (stay ≤ cut) × (cut ≤ m) × (cut - stay ≡ length (lefts rs axis c ps))
      counts =
          let all = sides rs axis tidy c ps in
          let one = somebody rs axis tidy ps (omega (arith, size)) in (
            omega (arith, one, stay_is),
            omega (arith, all, stay_is, rights_are, size, bounds),
            bounds.1,
            omega (arith, all, stay_is, rights_are, size, bounds),
          )

      S_long : length S ≡ stay
      S_long = sym staying

      L_long : length L ≡ cut - stay
      L_long = ap length L_is ∙ length-map (lefts rs axis c ps) pos ∙ sym counts.3

      long₁ : length y₁ ≡ 8 * m
      long₁ = ap length moved ∙ length_put (8 * cut) (win cut (m - cut) xs) xs (omega (arith, R_long, bounds)) ∙ long

      abbrev y₀ : List ℤ
      y₀ = put 0 S y₁

      long₀ : length y₀ ≡ 8 * m
      long₀ = length_put 0 S y₁ (omega (arith, S_long, counts, long₁)) ∙ long₁

      is₂ : y₂ ≡ put cut L y₀
      is₂ = parting

      pub long₂ : length y₂ ≡ 8 * m
      long₂ = ap length is₂ ∙ length_put cut L y₀ (omega (arith, L_long, counts, long₀)) ∙ long₀

      abbrev K : List ℤ
      K = win cut (cut - stay) y₂

      K_is : K ≡ L
      K_is = ap (win cut (cut - stay)) is₂ ∙ win_put_at cut (cut - stay) L y₀ L_long (omega (arith, counts, long₀))

      K_long : length K ≡ cut - stay
      K_long = ap length K_is ∙ L_long

      module _ (y₃ : List ℤ) (carried : y₃ ≡ put (8 * stay) (win cut (cut - stay) y₂) y₂) where
        pub divided : Divided ps y₃ (record { centre = centre; stay = stay; cut = cut })
        divided = record {
          centre = centre_is;
          stay = stay_is;
          left = counts.3;
          right = ap (λ n. n - cut) size ∙ rights_are;
          some = counts.0;
          least = counts.1;
          most = omega (arith, counts, size);
          stays_in =
              ap (win 0 stay) carried
              ∙ win_put_left 0 stay (8 * stay) K y₂ (omega arith) (omega (arith, counts, long₂))
              ∙ ap (win 0 stay) is₂
              ∙ win_put_left 0 stay cut L y₀ (omega (arith, counts)) (omega (arith, counts, long₀))
              ∙ win_put_at 0 stay S y₁ S_long (omega arith)
              ∙ S_is;
          lefts_in =
              ap (win (8 * stay) (cut - stay)) carried
              ∙ win_put_at (8 * stay) (cut - stay) K y₂ K_long (omega (arith, counts, long₂))
              ∙ K_is
              ∙ L_is;
          rights_in =
              ap (λ n. win (8 * cut) (n - cut) y₃) size
              ∙ ap (win (8 * cut) (m - cut)) carried
              ∙ win_put_right (8 * cut) (m - cut) (8 * stay) K y₂ (omega (arith, K_long, counts)) (omega (arith, K_long, counts, long₂))
              ∙ ap (win (8 * cut) (m - cut)) is₂
              ∙ win_put_right (8 * cut) (m - cut) cut L y₀ (omega (arith, L_long, counts)) (omega (arith, L_long, counts, long₀))
              ∙ win_put_right (8 * cut) (m - cut) 0 S y₁ (omega (arith, S_long, counts)) (omega (arith, S_long, counts, long₁))
              ∙ ap (win (8 * cut) (m - cut)) moved
              ∙ win_put_at (8 * cut) (m - cut) (win cut (m - cut) xs) xs R_long (omega (arith, counts))
              ∙ R_is;
        }
