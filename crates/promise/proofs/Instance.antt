-- The theorems at the table of specs/Instance.
use Rattle.std.specs.Prelude.{refl, [], pos}
use Rattle.paper.specs.Walk.{walk_of}
use Rattle.paper.specs.Demands.{Asked}
use Rattle.promise.proofs.Demands.{index_demands}
use Rattle.promise.specs.Instance.{segments, window, words, accepted}

pub asked : Asked segments window (walk_of words window)
asked = index_demands (pos 1) segments window words (record { numbered = refl; accepted = accepted; rest = []; words = refl }) refl
