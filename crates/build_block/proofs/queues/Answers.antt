-- What the check leaves of `queues`.
use Rattle.std.specs.Prelude.{◌≡◌, List, ℕ, ◌+◌, ◌-◌, ◌*◌, ◌/◌, ◌≤◌, ℤ, length, take, drop}
use Rattle.std.proofs.Common.{sym, ap, subst, ◌∙◌, arith}
use Rattle.std.proofs.Math.ListN.{length-map}
use borrow.Rule.Slice.PartMut.{put_mid}
use Rattle.lists.specs.Plain.{to_nat}
use Rattle.lists.specs.Parts.{win, put, length_win, length_put, win_put_right, lent}
use Rattle.paper.specs.declared.Segment.{Segment}
use Rattle.paper.specs.Words.{Axis, End, queue_words}
use Rattle.build_queue.specs.Ends.{records_in, axis_in}
use Rattle.build_queue.specs.Runs.{named, front, front_is, fronted, Stands, part_length, part_take}
use Rattle.build_queue.specs.Queues.{queue_length}
use Rattle.build_queue.specs.Parting.{By}
use Rattle.build_block.specs.Joining.{queued, queues_built}
use Rattle.build_block.proofs.queues.Goals as goal

module _ (rs : List Segment) (axis : Axis) (a : ℕ) (xs : List ℤ) (room : 4 + 4 * a ≤ length xs) where
  abbrev lows : List ℤ
  lows = take (4 + 2 * a - 4) (drop 4 xs)

  low_long : length lows ≡ 2 * a
  low_long = part_length 4 (4 + 2 * a - 4) xs (omega (arith, room)) ∙ omega arith

  low_run : Stands (By rs axis) (win 4 a xs) → (length lows ≡ 2 * (length lows / 2)) × Stands (By rs axis) (front lows)
  low_run h = fronted a lows low_long (By rs axis) (subst (Stands (By rs axis)) (sym (part_take 4 a (4 + 2 * a - 4) xs (omega arith))) h)

  -- when the low queue is built, the part is as long, and the second run as it was
  module _ (e₁ : List ℤ) (is₁ : e₁ ≡ queue_words rs axis End.low (named (front lows))) where
    first : e₁ ≡ queue_words rs axis End.low (named (take a lows))
    first = is₁ ∙ ap (λ l. queue_words rs axis End.low (named l)) (front_is a lows low_long)

    built_length : length e₁ ≡ 2 * a
    built_length =
        let n : length (take a lows) ≡ a = ap length (part_take 4 a (4 + 2 * a - 4) xs (omega arith)) ∙ length_win 4 a xs (omega (arith, room)) in
        ap length first ∙ queue_length rs axis End.low (named (take a lows)) ∙ ap (λ i. 2 * i) (length-map (take a lows) to_nat ∙ n)

    abbrev y₁ : List ℤ
    y₁ = put_mid 4 (4 + 2 * a - 4) xs e₁

    back : y₁ ≡ put 4 e₁ xs
    back = lent 4 (4 + 2 * a - 4) xs e₁ (omega (arith, built_length))

    abbrev highs : List ℤ
    highs = take (4 + 4 * a - (4 + 2 * a)) (drop (4 + 2 * a) y₁)

    high_long : length highs ≡ 2 * a
    high_long =
        let same : length y₁ ≡ length xs = ap length back ∙ length_put 4 e₁ xs (omega (arith, built_length, room)) in
        part_length (4 + 2 * a) (4 + 4 * a - (4 + 2 * a)) y₁ (omega (arith, same, room)) ∙ omega arith

    high_front : take a highs ≡ win (4 + 2 * a) a xs
    high_front =
        part_take (4 + 2 * a) a (4 + 4 * a - (4 + 2 * a)) y₁ (omega arith)
        ∙ ap (win (4 + 2 * a) a) back
        ∙ win_put_right (4 + 2 * a) a 4 e₁ xs (omega (arith, built_length)) (omega (arith, built_length, room))

    high_run : Stands (By rs axis) (win (4 + 2 * a) a xs) → (length highs ≡ 2 * (length highs / 2)) × Stands (By rs axis) (front highs)
    high_run h = fronted a highs high_long (By rs axis) (subst (Stands (By rs axis)) (sym high_front) h)

    both_built : (e₂ : List ℤ) → e₂ ≡ queue_words rs axis End.high (named (front highs)) → put_mid (4 + 2 * a) (4 + 4 * a - (4 + 2 * a)) y₁ e₂ ≡ queued rs axis a xs
    both_built e₂ is₂ = queues_built rs axis a xs e₁ e₂ room first (is₂ ∙ ap (λ l. queue_words rs axis End.high (named l)) (front_is a highs high_long))

pub queue-requires : goal.queue-requires
queue-requires c =
    let a = c.args in
    low_run (records_in a.ends) (axis_in a.ends) a.stay a.part.now c.requires.0 c.requires.1

pub queue-requires-2 : goal.queue-requires-2
queue-requires-2 c =
    let a = c.args in
    high_run (records_in a.ends) (axis_in a.ends) a.stay a.part.now c.requires.0 c.queue.new.part c.queue.ensures c.requires.2

pub returns : goal.returns
returns c =
    let a = c.args in
    both_built (records_in a.ends) (axis_in a.ends) a.stay a.part.now c.requires.0 c.queue.new.part c.queue.ensures c.queue-2.new.part c.queue-2.ensures
