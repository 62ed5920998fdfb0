-- What the check leaves of `kalinosz_cell`.
use Rattle.std.proofs.Common.{sym, ◌∙◌, w64}
use Rattle.std.proofs.lemmas.Int.{to_z-of_z}
use Rattle.hosts.specs.Answered.{host_cell_is}
use Rattle.hosts.proofs.kalinosz_cell.Goals as goal

pub returns : goal.returns
returns c =
    let f = c.ranges in
    let a = c.args in
    let z = to_z-of_z w64 c.to_c.result (record { sfits = c.to_c.type_inv }) ∙ c.to_c.ensures ∙ c.cell_answer.ensures in
    (simp (to_z-of_z w64 a.length f.length, to_z-of_z w64 a.base f.base, to_z-of_z w64 a.n f.n, to_z-of_z w64 a.segment_stride f.segment_stride, to_z-of_z w64 a.coordinate_stride f.coordinate_stride, to_z-of_z w64 a.position f.position, to_z-of_z w64 a.coordinate f.coordinate) at z)
    ∙ sym (host_cell_is a.length a.base a.n a.segment_stride a.coordinate_stride a.position a.coordinate)
