-- What the check leaves of `bad_header`.
use Rattle.std.proofs.Common.{◌≡◌, ◌∙◌, not, ◌||◌, pos, ◌+ℤ◌, rules}
use Rattle.std.specs.Int.{w32}
use Rattle.std.specs.Int.Signed.{lt_z}
use Rattle.std.proofs.lemmas.Int.{to_z-of_z}
use Rattle.lists.specs.Plain.{same}
use Rattle.paper.specs.Limits.{extent_fits, lower_fits}
use Rattle.walk.proofs.bad_header.Goals as goal

pub returns : goal.returns
returns c =
    let n : c.contains.result ≡ extent_fits c.args.n = search rules in
    let l : c.contains-2.result ≡ lower_fits c.args.lower = search rules in
    let k = to_z-of_z w32 c.args.n c.ranges.n in
    let a = to_z-of_z w32 c.args.across c.ranges.across in
    let u = to_z-of_z w32 c.args.upright c.ranges.upright in
    let s = c.adds_up.ensures ∙ (λ i. same (a i +ℤ u i) (k i)) in
    λ i. not (n i) || not (l i) || lt_z (a i) (pos 0) || lt_z (u i) (pos 0) || not (s i)
