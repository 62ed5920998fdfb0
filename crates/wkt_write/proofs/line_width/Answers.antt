-- What the check leaves of `line_width`.
use Rattle.std.proofs.Common.{rules, arith}
use Rattle.wkt_write.specs.Spelling.{line_length, passed_length}
use Rattle.wkt_write.proofs.line_width.Goals as goal

pub returns : goal.returns
returns c =
    let s = c.args.segment in
    (omega (arith, line_length s, passed_length s.x1 (search rules), passed_length s.y1 (search rules), passed_length s.x2 (search rules), passed_length s.y2 (search rules)), omega arith)
