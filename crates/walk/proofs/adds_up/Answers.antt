-- What the check leaves of `adds_up`.
use Rattle.std.proofs.Common.{◌≡◌, ◌∙◌, ap₂, nat_eq, ℤ, ◌+ℤ◌, to_z, of_z, w64, SFits, rules, arith}
use Rattle.std.specs.Int.{w32}
use Rattle.std.proofs.lemmas.Int.{ints, to_z-of_z}
use Rattle.lists.specs.Plain.{same}
use Rattle.walk.proofs.adds_up.Goals as goal

words_same : (u v : ℤ) → SFits w64 u → SFits w64 v → nat_eq (of_z w64 u) (of_z w64 v) ≡ same u v
words_same u v f g = grind (arith, ints)

-- a word of 32 bits, as an i64
widened : (z r : ℤ) → SFits w32 z → SFits w64 r → r ≡ to_z w32 (of_z w32 z) → to_z w64 (of_z w64 r) ≡ z
widened z r f g e = to_z-of_z w64 r g ∙ e ∙ to_z-of_z w32 z f

sum_fits : (y z : ℤ) → SFits w32 y → SFits w32 z → SFits w64 (y +ℤ z)
sum_fits y z f g = omega (arith, ints)

pub returns : goal.returns
returns c =
    let a = widened c.args.across c.from.result c.ranges.across (search rules) c.from.ensures in
    let b = widened c.args.upright c.from-2.result c.ranges.upright (search rules) c.from-2.ensures in
    let d = c.from-3.ensures ∙ to_z-of_z w32 c.args.n c.ranges.n in
    let f : SFits w64 c.args.n = search (rules, ints) in
    ap₂ (λ y z. nat_eq (of_z w64 y) (of_z w64 z)) (ap₂ ◌+ℤ◌ a b) d
    ∙ words_same (c.args.across +ℤ c.args.upright) c.args.n (sum_fits c.args.across c.args.upright c.ranges.across c.ranges.upright) f
