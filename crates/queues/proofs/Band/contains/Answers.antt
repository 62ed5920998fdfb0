-- What the check leaves of `contains`.
use Rattle.std.proofs.Common.{◌≡◌, ◌∙◌, ap, ◌&&◌, rules}
use Rattle.std.specs.Int.Signed.{le_z}
use Rattle.paper.specs.Walk.{record_at}
use Rattle.axes.specs.Axes.{coordinate_of, level_is}
use Rattle.queues.proofs.Band.contains.Goals as goal

pub returns : goal.returns
returns c =
    let s = record_at c.args.index.words.now c.args.p in
    let band = c.args.self in
    let level = c.coordinate-level.ensures ∙ ap (λ word. coordinate_of word s) c.level.ensures ∙ level_is s band.axis in
    let e : c.contains.result ≡ (le_z band.low c.coordinate-level.result && le_z c.coordinate-level.result band.high) = search rules in
    e ∙ ap (λ z. le_z band.low z && le_z z band.high) level
