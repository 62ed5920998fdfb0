-- What the check leaves of `queue`: two words, then the two queues in the parts lent on.
use Rattle.std.specs.Prelude.{◌≡◌, List, [], ◌∷◌, ◌++◌, map, ℕ, ◌+◌, ◌-◌, ◌*◌, ◌/◌, ◌<◌, ℤ, pos, length, take, drop, set}
use Rattle.std.proofs.Common.{sym, ap, ◌∙◌, arith}
use Rattle.std.proofs.Math.ListN.{length-map}
use Rattle.std.proofs.Math.Seq.{length-take-le}
use borrow.Rule.Slice.PartMut.{put_mid}
use Rattle.lists.specs.Plain.{to_nat}
use Rattle.paper.specs.declared.Segment.{Segment}
use Rattle.paper.specs.Words.{Axis, End, queue_words, queue_words_to}
use Rattle.axes.specs.Axes.{end_of}
use Rattle.build_queue.specs.Ends.{records_in, axis_in}
use Rattle.build_queue.specs.Runs.{named, front, front_is, fronted, Stands, part_length}
use Rattle.build_queue.specs.Queues.{queue_one}
use Rattle.build_queue.specs.Parting.{By, Headed}
use Rattle.build_queue.specs.Parting as parting
use Rattle.build_queue.proofs.+queue.Goals as goal

none : (rs : List Segment) (axis : Axis) (end : End) (xs : List ℤ) → length xs ≡ 2 * (length xs / 2) → length xs / 2 ≡ 0 → xs ≡ queue_words rs axis end (named (front xs))
unfolding queue_words_to
none rs axis end [] h z = let e : front [] ≡ [] = ap (λ k. take k []) z in ap (λ l. queue_words rs axis end (named l)) (sym e)
none rs axis end (x ∷ xs) h z = absurd (omega arith)

one : (rs : List Segment) (axis : Axis) (end : End) (xs : List ℤ) → length xs ≡ 2 * (length xs / 2) → length xs / 2 ≡ 1 → map pos (named (front xs)) ≡ front xs
    → set xs 1 (pos 0) ≡ queue_words rs axis end (named (front xs))
one rs axis end [] h z p = absurd (omega arith)
one rs axis end (x ∷ []) h z p = absurd (omega arith)
one rs axis end (x ∷ y ∷ []) h z p =
    let e : front (x ∷ y ∷ []) ≡ x ∷ [] = ap (λ k. take k (x ∷ y ∷ [])) z in
    let w : pos (to_nat x) ∷ [] ≡ x ∷ [] = ap (λ l. map pos (named l)) (sym e) ∙ p ∙ e in
    sym (ap (λ l. l ++ (pos 0 ∷ [])) w) ∙ sym (queue_one rs axis end (to_nat x)) ∙ ap (λ l. queue_words rs axis end (named l)) (sym e)
one rs axis end (x ∷ y ∷ z' ∷ xs) h z p = absurd (omega arith)

-- what is known after `head`
module _ (rs : List Segment) (axis : Axis) (end : End) (xs ys : List ℤ) (whole : length xs ≡ 2 * (length xs / 2)) (some : length xs / 2 ≡ 0 → ⊥)
    (kept : length ys ≡ length xs) (hd : Headed rs axis end (named (front xs)) ys) where
  abbrev s : ℕ
  s = length xs / 2

  size : length (named (front xs)) ≡ s
  size = length-map (front xs) to_nat ∙ length-take-le s xs (omega (arith, whole))

  more : 0 < s
  more = omega (arith, some)

  same : length ys ≡ 2 * s
  same = kept ∙ whole

  left_long : length (take (2 + 2 * (s / 2) - 2) (drop 2 ys)) ≡ 2 * (s / 2)
  left_long = part_length 2 (2 + 2 * (s / 2) - 2) ys (omega (arith, same, more)) ∙ omega arith

  left_less : length (take (2 + 2 * (s / 2) - 2) (drop 2 ys)) < length xs
  left_less = omega (arith, left_long, whole, more)

  left_run : (length (take (2 + 2 * (s / 2) - 2) (drop 2 ys)) ≡ 2 * (length (take (2 + 2 * (s / 2) - 2) (drop 2 ys)) / 2)) × Stands (By rs axis) (front (take (2 + 2 * (s / 2) - 2) (drop 2 ys)))
  left_run = fronted (s / 2) _ left_long (By rs axis) (parting.first_run rs axis end s (named (front xs)) ys size more same hd)

  -- and after the left queue
  module _ (e₁ : List ℤ) (is₁ : e₁ ≡ queue_words rs axis end (named (front (take (2 + 2 * (s / 2) - 2) (drop 2 ys))))) where
    first : e₁ ≡ queue_words rs axis end (named (take (s / 2) (take (2 + 2 * (s / 2) - 2) (drop 2 ys))))
    first = is₁ ∙ ap (λ l. queue_words rs axis end (named l)) (front_is (s / 2) _ left_long)

    abbrev y₁ : List ℤ
    y₁ = put_mid 2 (2 + 2 * (s / 2) - 2) ys e₁

    as_long : length y₁ ≡ 2 * s
    as_long = parting.as_long₁ rs axis end s (named (front xs)) ys size more same hd e₁ first

    abbrev back : List ℤ
    back = take (length y₁ - (2 + 2 * (s / 2))) (drop (2 + 2 * (s / 2)) y₁)

    right_long : length back ≡ 2 * (s - 1 - s / 2)
    right_long = part_length (2 + 2 * (s / 2)) (length y₁ - (2 + 2 * (s / 2))) y₁ (omega (arith, as_long, more)) ∙ omega (arith, as_long, more)

    right_less : length back < length xs
    right_less = omega (arith, right_long, whole, more)

    right_run : (length back ≡ 2 * (length back / 2)) × Stands (By rs axis) (front back)
    right_run = fronted (s - 1 - s / 2) back right_long (By rs axis) (parting.second_run rs axis end s (named (front xs)) ys size more same hd e₁ first)

    module _ (e₂ : List ℤ) (is₂ : e₂ ≡ queue_words rs axis end (named (front back))) where
      built : put_mid (2 + 2 * (s / 2)) (length y₁ - (2 + 2 * (s / 2))) y₁ e₂ ≡ queue_words rs axis end (named (front xs))
      built =
          parting.built rs axis end s (named (front xs)) ys size more same hd e₁ first e₂
          (is₂ ∙ ap (λ l. queue_words rs axis end (named l)) (front_is (s - 1 - s / 2) back right_long))

pub returns-then-s-eq0 : goal.returns-then-s-eq0
returns-then-s-eq0 t c =
    let a = c.args in
    none (records_in a.ends) (axis_in a.ends) (end_of a.end) a.part.now c.requires.0 c.if-s-eq0.true

pub returns-then-s-eq1 : goal.returns-then-s-eq1
returns-then-s-eq1 t c =
    let a = c.args in
    one (records_in a.ends) (axis_in a.ends) (end_of a.end) a.part.now c.requires.0 c.if-s-eq1.true c.requires.1.plain

pub queue-requires : goal.queue-requires
queue-requires t c =
    let a = c.args in
    let rs = records_in a.ends in
    let axis = axis_in a.ends in
    let end = end_of a.end in (
      omega (arith, left_less rs axis end a.part.now c.head.new.part c.requires.0 c.if-s-eq0.false c.head.auto.part c.head.ensures),
      left_run rs axis end a.part.now c.head.new.part c.requires.0 c.if-s-eq0.false c.head.auto.part c.head.ensures,
    )

pub queue-requires-2 : goal.queue-requires-2
queue-requires-2 t c =
    let a = c.args in
    let rs = records_in a.ends in
    let axis = axis_in a.ends in
    let end = end_of a.end in
    let e₁ = c.queue.new.part in (
      omega (arith, right_less rs axis end a.part.now c.head.new.part c.requires.0 c.if-s-eq0.false c.head.auto.part c.head.ensures e₁ c.queue.ensures),
      right_run rs axis end a.part.now c.head.new.part c.requires.0 c.if-s-eq0.false c.head.auto.part c.head.ensures e₁ c.queue.ensures,
    )

pub returns : goal.returns
returns t c =
    let a = c.args in
    built (records_in a.ends) (axis_in a.ends) (end_of a.end) a.part.now c.head.new.part c.requires.0 c.if-s-eq0.false c.head.auto.part c.head.ensures
    c.queue.new.part c.queue.ensures c.queue-2.new.part c.queue-2.ensures
