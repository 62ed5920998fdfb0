-- What the check leaves of `end_of`.
use Rattle.std.proofs.Common.{◌-◌, length, drop, arith, length-drop, take_all}
use Rattle.fields.specs.Marks.{ends_found, ends_last}
use Rattle.fields.proofs.end_of.Goals as goal

pub returns-in-Some : goal.returns-in-Some
returns-in-Some c =
    let f = c.args.text.now in
    let e = take_all (length f - c.args.a) (drop c.args.a f) (omega (arith, length-drop c.args.a f)) in
    ends_found c.args.mark f c.requires c.in-Some.k (rw e at c.in-Some.ensures)

pub returns-in-None : goal.returns-in-None
returns-in-None c =
    let f = c.args.text.now in
    let e = take_all (length f - c.args.a) (drop c.args.a f) (omega (arith, length-drop c.args.a f)) in
    ends_last c.args.mark f c.requires (rw e at c.in-None.ensures)
