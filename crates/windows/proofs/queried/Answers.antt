-- What the check leaves of `queried`: each way out stands in the order.
use Rattle.std.proofs.Common.{refl, sym}
use Rattle.lists.specs.Tests.{by_test, clash}
use Rattle.paper.specs.Answers.{bad_slice, bad_window}
use Rattle.paper.specs.Orders.{bad_index}
use Rattle.paper.specs.Windows.{window_at}
use Rattle.std.proofs.Math.ListN.{length}
use Rattle.windows.specs.Outcome.{with_promise, index_refused, slice_refused, window_refused, not_found}
use Rattle.windows.proofs.queried.Goals as goal

pub returns-in_default-clause-given : goal.returns-in_default-clause-given
returns-in_default-clause-given c =
    let a = c.args in
    with_promise a.words.now a.edges.now a.counts.now a.numbers.now
    (index_refused a.words.now a.edges.now a.counts.now a.numbers.now (by_test (bad_index a.words.now).given (λ t. t) (λ t. clash (sym (c.in_default.ensures.some.1 t)))))

pub returns-in_default-new-clause-given : goal.returns-in_default-new-clause-given
returns-in_default-new-clause-given c =
    let a = c.args in
    with_promise a.words.now a.edges.now a.counts.now a.numbers.now
    (slice_refused a.words.now a.edges.now a.counts.now a.numbers.now (c.in-Some.ensures.some.0 refl)
    (by_test (bad_slice a.edges.now (length a.counts.now)).given (λ t. t) (λ t. clash (sym (c.in_default-new.ensures.some.1 t)))))

pub returns-in-Some-first_bad-clause-given : goal.returns-in-Some-first_bad-clause-given
returns-in-Some-first_bad-clause-given c =
    let a = c.args in
    with_promise a.words.now a.edges.now a.counts.now a.numbers.now
    (window_refused a.words.now a.edges.now a.counts.now a.numbers.now (c.in-Some.ensures.some.0 refl) (c.in-Some-new.ensures.some.0 refl) c.in-Some-first_bad.bad
    (rw c.in-Some-new.ensures.value at c.in-Some-first_bad.ensures))

pub answer-requires : goal.answer-requires
answer-requires c =
    let e = c.in-Some-new.ensures in
    rw e.value (e.some.0 refl, not_found c.args.edges.now 8 (λ i. (bad_window (window_at c.args.edges.now i)).given) (rw e.value at c.in_default-first_bad.ensures))

pub returns-clause-given : goal.returns-clause-given
returns-clause-given c =
    let a = c.args in
    with_promise a.words.now a.edges.now a.counts.now a.numbers.now (rw (c.in-Some.ensures.value, c.in-Some-new.ensures.value) at c.answer.ensures.given)
