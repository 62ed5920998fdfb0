-- What the check leaves of `enter`.
use Rattle.std.proofs.Common.{◌∙◌, refl, sym, ap, w64, rules}
use Rattle.std.specs.Int.Signed.{le_z}
use Rattle.std.proofs.lemmas.Int.{to_z-of_z}
use Rattle.tally.specs.State.{listing}
use Rattle.queues.specs.Queues.{head_spoiled, head_false, head_beside, head_due, head_full}
use Rattle.queues.proofs.Queue.enter.Goals as goal
use Rattle.queues.proofs.Queue.enter.Goals.{then-contains+in_ok-listed, else-contains}

pub returns-in_err-p : goal.returns-in_err-p
returns-in_err-p c =
    let a = c.args in
    head_spoiled _ _ _ _ _ _ c.requires.inside.0 _ _ _ (sym c.position_at.ensures.value ∙ c.in_err-p.was) _ c.from_residual.ensures.0

pub returns-then-not-holds : goal.returns-then-not-holds
returns-then-not-holds c =
    let a = c.args in
    rw c.seen-seen.ensures
    (head_false _ _ _ _ _ _ c.requires.inside.0 _ _ _ (sym c.position_at.ensures.value ∙ c.in_ok-p.was)
    (sym c.if-not-holds.true ∙ c.holds.ensures))

pub returns-in_err-listed : goal.returns-in_err-listed
returns-in_err-listed c =
    let a = c.args in
    head_full _ _ _ _ _ _ c.requires.inside.0 _ _ _ (sym c.position_at.ensures.value ∙ c.in_ok-p.was)
    (sym c.if-not-holds.false ∙ c.holds.ensures) _ _ refl refl (sym c.if-contains.true ∙ c.contains.ensures) c.list.new.numbers _
    ((λ i. (sym c.in_err-listed.was i, c.list.new.numbers)) ∙ c.list.ensures ∙ ap (λ t. listing a.index.n a.index.lower c.in_ok-p.p t a.numbers.now) c.seen-seen.ensures)
    _ c.from_residual-in_err-listed.ensures.0

pub returns : goal.returns
returns c =
    let a = c.args in
    let low = to_z-of_z w64 a.band.low (search rules) in
    let high = to_z-of_z w64 a.band.high (search rules) in
    let split = to_z-of_z w64 c.word_at-split.result (search rules) ∙ c.word_at-split.ensures in
    let said = sym c.position_at.ensures.value ∙ c.in_ok-p.was in
    let holds = sym c.if-not-holds.false ∙ c.holds.ensures in
    rw (c.if_due.ensures, c.if_due-2.ensures, c.left.ensures, c.right.ensures) (
    elim c.if-contains.branch [
      | then-contains+in_ok-listed w ↦
          rw (w.listed-is, w.numbers-is)
          (head_due _ _ _ _ _ _ c.requires.inside.0 _ _ _ said holds
          _ _ (λ i. le_z (low i) (split i)) (λ i. le_z (split i) (high i)) (sym w.if-contains.true ∙ c.contains.ensures) w.list.new.numbers _
          ((λ i. (sym w.in_ok-listed.was i, w.list.new.numbers)) ∙ w.list.ensures ∙ ap (λ t. listing a.index.n a.index.lower c.in_ok-p.p t a.numbers.now) c.seen-seen.ensures))
      | else-contains w ↦
          rw (w.listed-is, w.numbers-is, c.seen-seen.ensures)
          (head_beside _ _ _ _ _ _ c.requires.inside.0 _ _ _ said holds
          _ _ (λ i. le_z (low i) (split i)) (λ i. le_z (split i) (high i)) (sym w.if-contains.false ∙ c.contains.ensures))
    ]
    )
