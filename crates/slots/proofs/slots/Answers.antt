-- What the check leaves of `slots`.
use Rattle.std.specs.Prelude.{◌≡◌, Ok, Err}
use Rattle.std.proofs.Common.{arith, sym}
use Rattle.std.proofs.lemmas.Result.{err_from_is_err_and}
use Rattle.std.proofs.lemmas.Int.{to_z-of_z}
use Rattle.slots.specs.Slots.{row_spoiled, row_above, row_full, row_step, row_end}
use Rattle.slots.proofs.slots.Goals as goal

pub returns-in_err-q : goal.returns-in_err-q
returns-in_err-q c =
    let a = c.loop-at in
    let p = err_from_is_err_and c.from_residual.result c.from_residual.ensures.1 in
    rw p.1 (row_spoiled _ _ _ _ _ _ _ _ a.at a.tally a.numbers a.invariant c.loop-at-test.true _ (sym c.in_err-q.ensures.value))

pub returns-then-above : goal.returns-then-above
returns-then-above c =
    let a = c.loop-at in
    rw c.seen-tally.ensures (row_above _ _ _ _ _ _ _ _ a.at a.tally a.numbers a.invariant c.loop-at-test.true c.in_ok-q.q (sym c.in_ok-q.ensures.value) (grind (arith, to_z-of_z)))

pub returns-in_err-tally : goal.returns-in_err-tally
returns-in_err-tally c =
    let a = c.loop-at in
    let p = err_from_is_err_and c.from_residual-in_err-tally.result c.from_residual-in_err-tally.ensures.1 in
    let e : c.list.result ≡ Err c.in_err-tally.field-0.0 = grind arith in
    rw p.1 (row_full _ _ _ _ _ _ _ _ a.at a.tally a.numbers a.invariant c.loop-at-test.true c.in_ok-q.q (sym c.in_ok-q.ensures.value) (grind (arith, to_z-of_z)) _ _ (rw (c.seen-tally.ensures, e) at c.list.ensures))

pub loop-at-preserved : goal.loop-at-preserved
loop-at-preserved c =
    let a = c.loop-at in
    let e : c.list.result ≡ Ok c.in_ok-tally.tally = grind arith in
    row_step _ _ _ _ _ _ _ _ a.at a.tally a.numbers a.invariant c.loop-at-test.true c.in_ok-q.q (sym c.in_ok-q.ensures.value) (grind (arith, to_z-of_z)) _ _ (rw (c.seen-tally.ensures, e) at c.list.ensures)

pub returns : goal.returns
returns c = let a = c.loop-at in row_end _ _ _ _ _ _ _ _ a.at a.tally a.numbers a.invariant c.loop-at-test.false (omega arith)
