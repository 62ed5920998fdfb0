-- What the check leaves of `search`.
use Rattle.std.proofs.Common.{arith, sym}
use Rattle.std.proofs.lemmas.Result.{err_from_is_err_and}
use Rattle.std.proofs.lemmas.Int.{to_z-of_z}
use Rattle.slots.specs.Search.{seek_end, seek_spoiled, seek_down, seek_up}
use Rattle.slots.proofs.search.Goals as goal

pub returns-in_err-q : goal.returns-in_err-q
returns-in_err-q c =
    let a = c.loop-lo in
    let p = err_from_is_err_and c.from_residual.result c.from_residual.ensures.1 in
    rw p.1 (seek_spoiled _ _ _ _ a.lo a.hi a.tally a.invariant c.loop-lo-test.true _ (sym (rw c.levels_at.ensures at c.in_err-q.ensures.value)))

pub loop-lo-preserved-then-reaches : goal.loop-lo-preserved-then-reaches
loop-lo-preserved-then-reaches c =
    let a = c.loop-lo in
    rw c.seen-tally.ensures (seek_down _ _ _ _ a.lo a.hi a.tally a.invariant c.loop-lo-test.true c.in_ok-q.q (sym (rw c.levels_at.ensures at c.in_ok-q.ensures.value)) (grind (arith, to_z-of_z)))

pub loop-lo-preserved : goal.loop-lo-preserved
loop-lo-preserved c =
    let a = c.loop-lo in
    rw c.seen-tally.ensures (seek_up _ _ _ _ a.lo a.hi a.tally a.invariant c.loop-lo-test.true c.in_ok-q.q (sym (rw c.levels_at.ensures at c.in_ok-q.ensures.value)) (grind (arith, to_z-of_z)))

pub returns : goal.returns
returns c = let a = c.loop-lo in seek_end _ _ _ _ a.lo a.hi a.tally a.invariant c.loop-lo-test.false
