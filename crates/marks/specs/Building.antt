-- What the public builder gives along its order 1, 2, 3, 4, 12, 7, 5, 6, and that the words are an index, as what it promises where it is done.
use Rattle.std.specs.Prelude.{◌≡◌, refl, List, [], ◌∷◌, ◌≤◌, ◌<◌, ℤ, pos, length, Some, None}
use Rattle.std.proofs.Common.{sym, ap, subst, ◌∙◌, lt-ltb, le-ltb}
use Rattle.paper.specs.Descriptor.{first_number, size_of, segments_of}
use Rattle.paper.specs.Answers.{Answer, bad_buffer, bad_coordinate, bad_slant, judged, refused, done}
use Rattle.paper.specs.Words.{W, index_words}
use Rattle.paper.specs.Results.{Result, over, built}
use Rattle.paper.specs.Demands.{IndexOf}
use Rattle.paper.specs.declared.Descriptor.{Descriptor}
use Rattle.promise.specs.Demands.{build_promise}
use Rattle.refusals.specs.Orders.{answer_of, first_given, none_given, refuse, first_decides, others_decide, table_order, table_given, table_left, refuses, passes}
use Rattle.refusals.specs.declared.Refusal.TheVariants.{Room}

module _ (table : List ℤ) (d : Descriptor) (index : List ℤ) where
  -- the reply and the words of a builder that is done
  abbrev words : List ℤ
  words = over (index_words (first_number d.kind d.lower) (segments_of d table)) index

  abbrev answer : Result
  answer = (done (W (size_of d)) 0, words)

  -- ---- the ways out, by the tests along the order; each gives the promise too
  abbrev pub GivenBuild : Result → Type 0
  GivenBuild r = (r ≡ built table d index) × (r.0.number ≡ pos 0 → IndexOf (first_number d.kind d.lower) (segments_of d table) r.1)

  gives : {r : Result} → r ≡ built table d index → GivenBuild r
  gives {r} e = (
    e,
    λ z.
        subst (λ (x : Result). IndexOf (first_number d.kind d.lower) (segments_of d table) x.1) (sym e)
        (build_promise table d index (ap (λ (x : Result). x.0.number) (sym e) ∙ z)),
  )

  abbrev limits : List Answer
  limits = bad_coordinate (segments_of d table) ∷ bad_slant (segments_of d table) ∷ []

  abbrev after : List Answer
  after = bad_buffer (W (size_of d)) (length index) ∷ limits

  pub by_table : {x : Answer} → first_given (table_order table d) ≡ Some x → GivenBuild (refused x, index)
  unfolding built
  by_table e = gives (table_given table d after index answer e)

  module _ (p : first_given (table_order table d) ≡ None) where
    onward : {r : Result} → r ≡ judged after (refuse index) answer → GivenBuild r
    unfolding built
    onward e = gives (e ∙ table_left table d after index answer p)

    pub by_room : length index < W (size_of d) → GivenBuild (refused (answer_of (Room 0)), index)
    by_room l = onward (refuses (bad_buffer (W (size_of d)) (length index)) limits (refuse index) answer (lt-ltb (length index) (W (size_of d)) l) refl)

    module _ (l : W (size_of d) ≤ length index) where
      roomy : {r : Result} → r ≡ judged limits (refuse index) answer → GivenBuild r
      roomy e = onward (passes (bad_buffer (W (size_of d)) (length index)) limits (refuse index) answer (le-ltb (length index) (W (size_of d)) l) e)

      pub by_straight : {x : Answer} → first_given limits ≡ Some x → GivenBuild (refused x, index)
      by_straight e = roomy (first_decides [] (refuse index) answer limits e)

      pub by_building : {cells : List ℤ} → first_given limits ≡ None → cells ≡ words → GivenBuild (done (W (size_of d)) 0, cells)
      by_building k o = roomy (ap (λ x. (done (W (size_of d)) 0, x)) o ∙ others_decide [] (refuse index) answer (none_given limits k))
