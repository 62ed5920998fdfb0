-- What a builder that is done promises. The theorems on the walk and the query stand in proofs/ (Demands), over all the parts here.
use Rattle.std.specs.Prelude.{◌≡◌, List, ℤ, pos, length, drop}
use Rattle.std.proofs.Common.{ap}
use Rattle.paper.specs.Descriptor.{first_number, segments_of}
use Rattle.paper.specs.Words.{index_words}
use Rattle.paper.specs.Results.{Result, built}
use Rattle.paper.specs.Demands.{IndexOf}
use Rattle.paper.specs.declared.Descriptor.{Descriptor}
use Rattle.promise.specs.Calls.{build_accepts, build_done}

-- a builder that is done has written an index of the table, in whatever buffer
pub build_promise : (table : List ℤ) (d : Descriptor) (index : List ℤ) → (built table d index).0.number ≡ pos 0
    → IndexOf (first_number d.kind d.lower) (segments_of d table) (built table d index).1
build_promise table d index e =
    let a = build_accepts table d index e in
    let words = index_words (first_number d.kind d.lower) (segments_of d table) in
    record { numbered = a.lower; accepted = a.straight; rest = drop (length words) index; words = ap (λ (r : Result). r.1) (build_done table d index e) }
