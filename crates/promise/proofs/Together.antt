-- From a builder that is done to what a query of its words promises.
use Rattle.std.specs.Prelude.{◌≡◌, false, List, ℤ, pos, length}
use Rattle.paper.specs.Descriptor.{first_number, segments_of}
use Rattle.paper.specs.Answers.{bad_window}
use Rattle.paper.specs.Results.{built, queried}
use Rattle.paper.specs.Demands.{QueryPromise}
use Rattle.paper.specs.declared.Descriptor.{Descriptor}
use Rattle.paper.specs.declared.Window.{Window}
use Rattle.promise.specs.Demands.{build_promise}
use Rattle.promise.proofs.Demands.{query_promise}

pub build_then_query : (table : List ℤ) (d : Descriptor) (index : List ℤ) (w : Window) (numbers : List ℤ)
    → (built table d index).0.number ≡ pos 0 → (bad_window w).given ≡ false
    → QueryPromise (first_number d.kind d.lower) (segments_of d table) w (length numbers) (queried (built table d index).1 w numbers)
build_then_query table d index w numbers e good =
    query_promise (first_number d.kind d.lower) (segments_of d table) w (built table d index).1 numbers (build_promise table d index e) good
