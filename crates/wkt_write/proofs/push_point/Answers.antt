-- What the check leaves of `push_point`.
use Rattle.std.proofs.Common.{ℕ, w64, length-append, arith}
use Rattle.std.proofs.lemmas.Int.{to_z-of_z}
use Rattle.texts.specs.Written.{wrote_length, wrote_join}
use Rattle.wkt_write.specs.Spelling.{passed_length}
use Rattle.wkt_write.proofs.push_point.Goals as goal

pub push-requires : goal.push-requires
push-requires c =
    let a = c.args in
    omega (arith, length-append {A = ℕ}, passed_length a.x c.ranges.x, passed_length a.y c.ranges.y, wrote_length c.push_number.ensures)

pub push_number-requires-2 : goal.push_number-requires-2
push_number-requires-2 c =
    let a = c.args in
    omega (arith, length-append {A = ℕ}, passed_length a.x c.ranges.x, passed_length a.y c.ranges.y, wrote_length c.push_number.ensures, wrote_length c.push.ensures)

pub returns : goal.returns
returns c =
    let e = to_z-of_z w64 c.args.x c.ranges.x in
    let f = to_z-of_z w64 c.args.y c.ranges.y in
    wrote_join (rw e at c.push_number.ensures) (wrote_join c.push.ensures (rw f at c.push_number-2.ensures))
