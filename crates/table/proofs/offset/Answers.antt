-- What the check leaves of `offset`.
use Rattle.std.proofs.Common.{refl}
use Rattle.table.specs.Address.{sum_fits, sum_is}
use Rattle.table.proofs.offset.Goals as goal

pub overflow_add-result : goal.overflow_add-result
overflow_add-result c = let a = c.args in sum_fits a.descriptor a.i a.j c.requires refl refl

pub returns : goal.returns
returns c = let a = c.args in sum_is a.descriptor a.i a.j c.requires refl refl
