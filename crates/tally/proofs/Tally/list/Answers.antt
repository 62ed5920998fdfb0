-- What the check leaves of `list`.
use Rattle.std.proofs.Common.{rules, ap, ◌∙◌, List, set, ℤ, Ok, w32}
use Rattle.std.proofs.lemmas.Int.{to_z-of_z}
use Rattle.tally.specs.State.{counted, listing_full, listing_room, listing_past}
use Rattle.tally.proofs.Tally.list.Goals as goal
use Rattle.tally.proofs.Tally.list.Goals.{else-at-numbers, then-at-numbers}

pub returns-then-index-at : goal.returns-then-index-at
returns-then-index-at c =
    listing_full c.args.index.n c.args.index.lower c.args.self c.args.numbers.now c.args.p c.if-index-at.true

pub returns : goal.returns
returns c =
    let t = c.args.self in
    let cells = c.args.numbers.now in
    elim c.if-at-numbers.branch [
      | then-at-numbers w ↦ ap (λ (new : List ℤ). (Ok (counted t), new)) (w.numbers-is ∙ ap (λ (v : ℤ). set cells t.listed v) (to_z-of_z w32 w.number.result (search rules) ∙ w.number.ensures))
          ∙ listing_room c.args.index.n c.args.index.lower t cells c.args.p c.if-index-at.false
      | else-at-numbers w ↦ ap (λ (new : List ℤ). (Ok (counted t), new)) w.numbers-is
          ∙ listing_past c.args.index.n c.args.index.lower t cells c.args.p c.if-index-at.false w.if-at-numbers.false
    ]
