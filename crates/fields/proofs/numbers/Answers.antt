-- What the check leaves of `numbers`.
use Rattle.std.proofs.Common.{rules, pos, take, ap, ◌∙◌, arith, length-set, length-take-le, take_all}
use Rattle.std.proofs.lemmas.List.{length-replicate}
use Rattle.std.proofs.lemmas.Int.{to_z-of_z}
use mir.Syntax.{w64}
use Rattle.fields.specs.Forms.{numbers_from, after, after_none, after_set, too_few, as_many, more_left}
use Rattle.fields.proofs.numbers.Goals as goal

pub loop-number-init : goal.loop-number-init
loop-number-init g c = record { long = length-replicate g.row.N (pos 0); read = after_none (numbers_from c.args.f.now 2) }

pub loop-number-preserved : goal.loop-number-preserved
loop-number-preserved g c =
    let l = c.loop-number in
    let e = to_z-of_z w64 c.in_ok-z.z (search rules) in
    record {
      long = length-set l.number-items l.number-index _ ∙ l.invariant.long;
      read = l.invariant.read ∙ ap (after (take l.number-index l.number-items)) c.in_ok-z.ensures ∙ after_set l.number-items l.number-index (numbers_from c.args.f.now c.in_ok-z.next) e (omega (arith, l.invariant.long));
    }

pub returns-in_err-z : goal.returns-in_err-z
returns-in_err-z g c =
    let l = c.loop-number in
    rw (c.from_residual.ensures, l.invariant.read)
    (too_few (take l.number-index l.number-items) (numbers_from c.args.f.now l.at) (omega (arith, l.invariant.long, length-take-le l.number-index l.number-items (omega arith))) c.in_err-z.ensures)

pub returns-then-at-f : goal.returns-then-at-f
returns-then-at-f g c =
    let l = c.loop-number in
    let e = take_all l.number-index l.number-items (omega arith) in
    rw (l.invariant.read, e) (more_left c.args.f.now l.number-items (omega arith) c.if-at-f.true)

pub returns : goal.returns
returns g c =
    let l = c.loop-number in
    let e = take_all l.number-index l.number-items (omega arith) in
    rw (l.invariant.read, e) (as_many c.args.f.now l.number-items (omega arith) c.if-at-f.false)
