-- What the check leaves of `push_text`.
use Rattle.std.proofs.Common.{◌++◌, length, ap, arith}
use Rattle.paper.specs.Descriptor.{segments_of}
use Rattle.paper.specs.Wkt.{body_text}
use Rattle.texts.specs.Written.{wrote_length, wrote_join}
use Rattle.wkt_write.specs.Spelling.{name_bytes}
use Rattle.wkt_write.proofs.push_text.Goals as goal

pub push_all-requires : goal.push_all-requires
push_all-requires c =
    let body = body_text (segments_of c.args.table.descriptor c.args.table.cells.now) in
    omega (arith, c.requires, ap (λ l. length (l ++ body)) name_bytes)

pub push_body-requires : goal.push_body-requires
push_body-requires c =
    let body = body_text (segments_of c.args.table.descriptor c.args.table.cells.now) in
    omega (arith, c.requires, ap (λ l. length (l ++ body)) name_bytes, wrote_length c.push_all.ensures)

pub returns : goal.returns
returns c = rw name_bytes (wrote_join c.push_all.ensures c.push_body.ensures)
