-- What the check leaves of `push_line`.
use Rattle.std.proofs.Common.{◌≡◌, ◌∷◌, ◌+◌, ℤ, w64, SFits, to_z, of_z, length, length-append, rules, arith}
use Rattle.std.proofs.lemmas.Int.{to_z-of_z}
use Rattle.paper.specs.Lines.{decimal}
use Rattle.paper.specs.Wkt.{space, point_text}
use Rattle.texts.specs.Written.{wrote_length, wrote_join}
use Rattle.wkt_write.specs.Spelling.{passed_length, line_length}
use Rattle.wkt_write.proofs.push_line.Goals as goal

-- the length of a point as the code passes it
point_length : (x y : ℤ) → SFits w64 x → SFits w64 y → length (point_text (to_z w64 (of_z w64 x)) (to_z w64 (of_z w64 y))) ≡ length (decimal x) + 1 + length (decimal y)
point_length x y f g =
    omega (arith, length-append (decimal (to_z w64 (of_z w64 x))) (space ∷ decimal (to_z w64 (of_z w64 y))), passed_length x f, passed_length y g)

pub push_point-requires : goal.push_point-requires
push_point-requires c =
    let s = c.args.segment in
    omega (arith, line_length s, point_length s.x1 s.y1 (search rules) (search rules), point_length s.x2 s.y2 (search rules) (search rules), wrote_length c.push.ensures)

pub push_all-requires : goal.push_all-requires
push_all-requires c =
    let s = c.args.segment in
    omega (arith, line_length s, point_length s.x1 s.y1 (search rules) (search rules), point_length s.x2 s.y2 (search rules) (search rules), wrote_length c.push.ensures, wrote_length c.push_point.ensures)

pub push_point-requires-2 : goal.push_point-requires-2
push_point-requires-2 c =
    let s = c.args.segment in
    omega (
      arith,
      line_length s,
      point_length s.x1 s.y1 (search rules) (search rules),
      point_length s.x2 s.y2 (search rules) (search rules),
      wrote_length c.push.ensures,
      wrote_length c.push_point.ensures,
      wrote_length c.push_all.ensures,
    )

pub push-requires-2 : goal.push-requires-2
push-requires-2 c =
    let s = c.args.segment in
    omega (
      arith,
      line_length s,
      point_length s.x1 s.y1 (search rules) (search rules),
      point_length s.x2 s.y2 (search rules) (search rules),
      wrote_length c.push.ensures,
      wrote_length c.push_point.ensures,
      wrote_length c.push_all.ensures,
      wrote_length c.push_point-2.ensures,
    )

pub returns : goal.returns
returns c =
    let s = c.args.segment in
    let e = to_z-of_z w64 s.x1 (search rules) in
    let f = to_z-of_z w64 s.y1 (search rules) in
    let g = to_z-of_z w64 s.x2 (search rules) in
    let h = to_z-of_z w64 s.y2 (search rules) in
    wrote_join c.push.ensures (wrote_join (rw (e, f) at c.push_point.ensures) (wrote_join c.push_all.ensures (wrote_join (rw (g, h) at c.push_point-2.ensures) c.push-2.ensures)))
