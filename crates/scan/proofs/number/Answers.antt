-- What the check leaves of `number`.
use Rattle.std.specs.Int.{w32}
use Rattle.std.proofs.Common.{refl, ◌∙◌}
use Rattle.std.proofs.lemmas.Int.{to_z-of_z}
use Rattle.scan.specs.Listing.{sum_fits, sum_is, sum_narrow}
use Rattle.scan.proofs.number.Goals as goal

pub overflow_add-result : goal.overflow_add-result
overflow_add-result c = let a = c.args in sum_fits a.descriptor a.i c.requires.0 c.requires.1 c.first_number.ensures.value refl

pub overflow_cast-result-2 : goal.overflow_cast-result-2
overflow_cast-result-2 c = let a = c.args in sum_narrow a.descriptor a.i c.requires.0 c.requires.1 c.first_number.ensures.value refl

pub returns : goal.returns
returns c =
    let a = c.args in
    let e = c.first_number.ensures.value in
    to_z-of_z w32 _ (sum_narrow a.descriptor a.i c.requires.0 c.requires.1 e refl) ∙ sum_is a.descriptor a.i c.requires.0 c.requires.1 e refl
