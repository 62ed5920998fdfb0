-- What the check leaves of `words_answer`.
use Rattle.std.proofs.Common.{◌≡◌, refl, ap, ◌∙◌, pos, w64}
use Rattle.std.proofs.lemmas.Int.{to_z-of_z}
use Rattle.lists.specs.Plain.{to_nat}
use Rattle.paper.specs.Words.{W}
use Rattle.hosts.specs.Answered.{words_3, words_0, extent_through}
use Rattle.hosts.proofs.words_answer.Goals as goal

pub returns-then-bad_extent : goal.returns-then-bad_extent
returns-then-bad_extent c = words_3 c.args.n (extent_through c.args.n c.ranges.n c.bad_extent.ensures c.if-bad_extent.true) refl

pub returns : goal.returns
returns c =
    let size : c.index.result ≡ to_nat c.args.n = ap to_nat (c.index.ensures ∙ to_z-of_z w64 c.args.n c.ranges.n) in
    words_0 c.args.n (extent_through c.args.n c.ranges.n c.bad_extent.ensures c.if-bad_extent.false)
    (to_z-of_z w64 c.count.result c.count.ensures.fits ∙ c.count.ensures.value ∙ ap pos (c.words.ensures.0 ∙ ap W size))
