-- What `write` gives and promises along its order 1, 2, 3, 4, 12, 5, 7, by the tests on the way.
use Rattle.std.specs.Prelude.{◌≡◌, refl, List, [], ◌∷◌, ◌++◌, ℕ, ◌+◌, ◌≤◌, ◌<◌, ℤ, pos, length, drop, Some, None}
use Rattle.std.proofs.Common.{sym, ap, ◌∙◌, subst, arith, lt-ltb, le-ltb}
use Rattle.lists.specs.Parts.{put}
use Rattle.paper.specs.Descriptor.{segments_of}
use Rattle.paper.specs.Answers.{Answer, bad_coordinate, bad_buffer, judged, refused, done}
use Rattle.paper.specs.Wkt.{text_of, written, ReadsBack, new_text}
use Rattle.paper.specs.declared.Descriptor.{Descriptor}
use Rattle.paper.specs.declared.Reply.{Reply}
use Rattle.wkt_table.specs.RoundTrip.{round_trip}
use Rattle.refusals.specs.Orders.{answer_of, first_given, none_given, first_decides, others_decide, table_order, table_given, table_left, refuses, passes}
use Rattle.refusals.specs.declared.Refusal.TheVariants.{Room}

zero_more : (n : ℕ) → 0 + n ≡ n
zero_more n = omega arith

put_front : (v xs : List ℕ) → put 0 v xs ≡ v ++ drop (length v) xs
unfolding put
put_front v xs = ap (λ k. v ++ drop k xs) (zero_more (length v))

module _ (table : List ℤ) (d : Descriptor) (text : List ℕ) where
  abbrev new : List ℕ
  new = text_of (segments_of d table)

  abbrev refuse : Answer → Reply × List ℕ
  refuse x = (refused x, text)

  abbrev spelled : Reply × List ℕ
  spelled = (done (length new) 0, new ++ drop (length new) text)

  abbrev room : List Answer
  room = bad_buffer (length new) (length text) ∷ []

  abbrev after : List Answer
  after = bad_coordinate (segments_of d table) ∷ room

  -- what is given holds the promise too
  abbrev pub GivenText : Reply × List ℕ → Type 0
  GivenText r = (r ≡ written table d text) × (r.0.number ≡ pos 0 → ReadsBack (new_text r) (segments_of d table))

  gives : {r : Reply × List ℕ} → r ≡ written table d text → GivenText r
  gives e = (e, λ n. subst (λ x. ReadsBack (new_text x) (segments_of d table)) (sym e) (round_trip table d text (ap (λ x. x.0.number) (sym e) ∙ n)))

  pub by_table : {x : Answer} → first_given (table_order table d) ≡ Some x → GivenText (refused x, text)
  unfolding written
  by_table e = gives (table_given table d after text spelled e)

  module _ (p : first_given (table_order table d) ≡ None) where
    onward : {r : Reply × List ℕ} → r ≡ judged after refuse spelled → GivenText r
    unfolding written
    onward e = gives (e ∙ table_left table d after text spelled p)

    pub by_far : {x : Answer} → first_given (bad_coordinate (segments_of d table) ∷ []) ≡ Some x → GivenText (refused x, text)
    by_far e = onward (first_decides room refuse spelled (bad_coordinate (segments_of d table) ∷ []) e)

    module _ (k : first_given (bad_coordinate (segments_of d table) ∷ []) ≡ None) where
      near : {r : Reply × List ℕ} → r ≡ judged room refuse spelled → GivenText r
      near e = onward (e ∙ others_decide room refuse spelled (none_given (bad_coordinate (segments_of d table) ∷ []) k))

      pub by_room : length text < length new → GivenText (refused (answer_of (Room 0)), text)
      by_room l = near (refuses (bad_buffer (length new) (length text)) [] refuse spelled (lt-ltb (length text) (length new) l) refl)

      pub by_text : {bytes : List ℕ} → length new ≤ length text → bytes ≡ put 0 new text → GivenText (done (length new) 0, bytes)
      by_text l w =
          near (passes (bad_buffer (length new) (length text)) [] refuse spelled (le-ltb (length text) (length new) l)
          (ap (λ y. (done (length new) 0, y)) (w ∙ put_front new text)))
