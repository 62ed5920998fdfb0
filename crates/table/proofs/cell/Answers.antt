-- What the check leaves of `cell`.
use Rattle.std.specs.Prelude.{◌≡◌, ◌+ℤ◌}
use Rattle.std.proofs.Common.{rules, ap, ◌∙◌, SFits}
use Rattle.std.specs.Int.{w64}
use Rattle.paper.specs.Descriptor.{cell_of}
use Rattle.table.specs.Address.{cell_is, cell_back}
use Rattle.table.proofs.cell.Goals as goal

pub returns-clause-value : goal.returns-clause-value
returns-clause-value c =
    let a = c.args in
    let f : SFits w64 a.descriptor.base = search rules in
    let whole : a.descriptor.base +ℤ c.offset-away.result ≡ cell_of a.descriptor a.i a.j = ap (λ o. a.descriptor.base +ℤ o) c.offset-away.ensures ∙ cell_is a.descriptor a.i a.j in
    cell_back f (record { sfits = c.offset-away.type_inv }) whole c.requires.3
