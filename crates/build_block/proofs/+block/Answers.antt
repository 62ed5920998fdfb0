-- What the check leaves of `block`: prepared, its queues, then the two blocks in the parts lent on.
use Rattle.std.specs.Prelude.{◌≡◌, List, [], ◌∷◌, ℕ, ◌+◌, ◌-◌, ◌*◌, ◌/◌, ◌≤◌, ◌<◌, ℤ, length, take, drop}
use Rattle.std.proofs.Common.{rules, sym, ap, ◌∙◌, arith}
use borrow.Rule.Slice.PartMut.{put_mid, put_same}
use Rattle.paper.specs.declared.Segment.{Segment}
use Rattle.paper.specs.Words.{Axis, block_words, block_words_to}
use Rattle.lists.specs.Parts.{win}
use Rattle.build_queue.specs.Ends.{records_in, axis_in}
use Rattle.build_queue.specs.Runs.{named, Stands, part_length}
use Rattle.build_queue.specs.Parting.{By}
use Rattle.build_block.specs.Straight.{tidy}
use Rattle.build_block.specs.Fronts.{front, front_length, front_is, fronted}
use Rattle.build_block.specs.Sides.{Tidy, Nearer}
use Rattle.build_block.specs.declared.Division.{Division}
use Rattle.build_block.specs.Joining as join
use Rattle.build_block.proofs.+block.Goals as goal

none : (rs : List Segment) (axis : Axis) (xs : List ℤ) → length xs ≡ 0 → xs ≡ block_words rs axis (named (front xs))
unfolding win block_words_to
none rs axis [] z = let e : front [] ≡ [] = ap (λ k. take (k / 8) []) z in ap (λ l. block_words rs axis (named l)) (sym e)
none rs axis (x ∷ xs) z = absurd (omega arith)

-- a block's words, whose positions stand by near at their front
abbrev Run : List Segment → Axis → List ℤ → Type 0
Run rs axis xs = (length xs ≡ 8 * (length xs / 8)) × (length xs / 8 < 2147483648) × Stands (Nearer rs axis) (front xs)

-- what is known after `prepare`, by plain values
module _ (rs : List Segment) (axis : Axis) (near_first : Tidy rs axis) (xs ys : List ℤ) (r : Division) (run : Run rs axis xs) (some : 0 < length xs / 8) (kept : length ys ≡ length xs)
    (ready : join.Prepared rs axis (named (front xs)) ys r) where
  abbrev m : ℕ
  m = length xs / 8

  same : length ys ≡ 8 * m
  same = kept ∙ run.0

  facts : (0 < r.stay) × (r.stay ≤ r.cut) × (r.cut ≤ m)
  facts = join.sizes rs axis near_first (named (front xs)) ys m r (front_length xs) some same run.2.order ready

  queue_runs : (4 + 4 * r.stay ≤ length ys) × Stands (By rs axis) (win 4 r.stay ys) × Stands (By rs axis) (win (4 + 2 * r.stay) r.stay ys)
  queue_runs =
      let run_of = join.queue_run rs axis near_first (named (front xs)) ys m r (front_length xs) some same run.2.order ready in
      (omega (arith, facts, same), run_of _ ready.low, run_of _ ready.high)

  -- after `queues`
  module _ (y₁ : List ℤ) (e₀ : y₁ ≡ join.queued rs axis r.stay ys) where
    k₁ : length y₁ ≡ 8 * m
    k₁ = join.k₁ rs axis near_first (named (front xs)) ys m r (front_length xs) some same run.2.order ready y₁ e₀

    abbrev left : List ℤ
    left = take (8 * r.cut - 8 * r.stay) (drop (8 * r.stay) y₁)

    left_long : length left ≡ 8 * (r.cut - r.stay)
    left_long = part_length (8 * r.stay) (8 * r.cut - 8 * r.stay) y₁ (omega (arith, facts, k₁)) ∙ omega (arith, facts)

    left_run : Run rs axis left
    left_run =
        fronted (r.cut - r.stay) left left_long (Nearer rs axis) (omega (arith, facts, run.1))
        (join.left_run rs axis near_first (named (front xs)) ys m r (front_length xs) some same run.2.order ready y₁ e₀)

    left_less : length left < length xs
    left_less = omega (arith, left_long, facts, run.0)

    -- after the first `block`
    module _ (e₁ : List ℤ) (is₁ : e₁ ≡ block_words rs axis (named (front left))) where
      f₁ : e₁ ≡ block_words rs axis (named (win 0 (r.cut - r.stay) left))
      f₁ = is₁ ∙ ap (λ l. block_words rs axis (named l)) (front_is (r.cut - r.stay) left left_long)

      abbrev y₂ : List ℤ
      y₂ = put_mid (8 * r.stay) (8 * r.cut - 8 * r.stay) y₁ e₁

      k₂ : length y₂ ≡ 8 * m
      k₂ = join.k₂ rs axis near_first (named (front xs)) ys m r (front_length xs) some same run.2.order ready y₁ e₀ e₁ f₁

      abbrev right : List ℤ
      right = take (length y₂ - 8 * r.cut) (drop (8 * r.cut) y₂)

      right_long : length right ≡ 8 * (m - r.cut)
      right_long = part_length (8 * r.cut) (length y₂ - 8 * r.cut) y₂ (omega (arith, facts, k₂)) ∙ omega (arith, facts, k₂)

      right_run : Run rs axis right
      right_run =
          fronted (m - r.cut) right right_long (Nearer rs axis) (omega (arith, facts, run.1))
          (join.right_run rs axis near_first (named (front xs)) ys m r (front_length xs) some same run.2.order ready y₁ e₀ e₁ f₁)

      right_less : length right < length xs
      right_less = omega (arith, right_long, facts, run.0)

      -- and the second
      module _ (e₂ : List ℤ) (is₂ : e₂ ≡ block_words rs axis (named (front right))) where
        built : put_mid (8 * r.cut) (length y₂ - 8 * r.cut) y₂ e₂ ≡ block_words rs axis (named (front xs))
        built =
            join.built rs axis near_first (named (front xs)) ys m r (front_length xs) some same run.2.order ready y₁ e₀ e₁ f₁ e₂
            (is₂ ∙ ap (λ l. block_words rs axis (named l)) (front_is (m - r.cut) right right_long))

    -- of one position: both blocks are empty, and come back as they were
    module _ (alone : length y₁ ≡ 8) where
      one : m ≡ 1
      one = omega (arith, k₁, alone)

      none_left : left ≡ block_words rs axis (named (front left))
      none_left = none rs axis left (omega (arith, left_long, facts, one))

      none_right : right left none_left ≡ block_words rs axis (named (front (right left none_left)))
      none_right = none rs axis (right left none_left) (omega (arith, right_long left none_left, facts, one))

      back_left : y₁ ≡ y₂ left none_left
      back_left = sym (put_same (8 * r.stay) (8 * r.cut - 8 * r.stay) y₁)

      built_alone : y₁ ≡ block_words rs axis (named (front xs))
      built_alone =
          back_left
          ∙ sym (put_same (8 * r.cut) (length (y₂ left none_left) - 8 * r.cut) (y₂ left none_left))
          ∙ built left none_left (right left none_left) none_right

pub returns-then-is_empty : goal.returns-then-is_empty
returns-then-is_empty t c =
    let z : length c.args.part.now ≡ 0 = search rules in
    none (records_in c.args.ends) (axis_in c.args.ends) c.args.part.now z

pub queues-requires : goal.queues-requires
queues-requires t c =
    let a = c.args in
    let q = c.prepare-stay in
    queue_runs (records_in a.ends) (axis_in a.ends) (tidy a.ends) a.part.now q.new.part q.result c.requires (omega (arith, q.ensures.counts)) q.auto.part q.ensures.ready

pub returns-then-part-eq8 : goal.returns-then-part-eq8
returns-then-part-eq8 t c =
    let a = c.args in
    let q = c.prepare-stay in
    built_alone (records_in a.ends) (axis_in a.ends) (tidy a.ends) a.part.now q.new.part q.result c.requires (omega (arith, q.ensures.counts)) q.auto.part q.ensures.ready
    c.queues.new.part c.queues.ensures c.if-part-eq8.true

pub block-requires : goal.block-requires
block-requires t c =
    let a = c.args in
    let q = c.prepare-stay in
    let rs = records_in a.ends in
    let axis = axis_in a.ends in
    let some : 0 < length a.part.now / 8 = omega (arith, q.ensures.counts) in (
      omega (arith, left_less rs axis (tidy a.ends) a.part.now q.new.part q.result c.requires some q.auto.part q.ensures.ready c.queues.new.part c.queues.ensures),
      left_run rs axis (tidy a.ends) a.part.now q.new.part q.result c.requires some q.auto.part q.ensures.ready c.queues.new.part c.queues.ensures,
    )

pub block-requires-2 : goal.block-requires-2
block-requires-2 t c =
    let a = c.args in
    let q = c.prepare-stay in
    let rs = records_in a.ends in
    let axis = axis_in a.ends in
    let some : 0 < length a.part.now / 8 = omega (arith, q.ensures.counts) in (
      omega (
        arith,
        right_less rs axis (tidy a.ends) a.part.now q.new.part q.result c.requires some q.auto.part q.ensures.ready c.queues.new.part c.queues.ensures c.block.new.part c.block.ensures,
      ),
      right_run rs axis (tidy a.ends) a.part.now q.new.part q.result c.requires some q.auto.part q.ensures.ready c.queues.new.part c.queues.ensures c.block.new.part c.block.ensures,
    )

pub returns : goal.returns
returns t c =
    let a = c.args in
    let q = c.prepare-stay in
    built (records_in a.ends) (axis_in a.ends) (tidy a.ends) a.part.now q.new.part q.result c.requires (omega (arith, q.ensures.counts)) q.auto.part q.ensures.ready
    c.queues.new.part c.queues.ensures c.block.new.part c.block.ensures c.block-2.new.part c.block-2.ensures
