-- What the check leaves of `queried`: each way out stands in the order.
use Rattle.std.proofs.Common.{refl, sym}
use Rattle.std.proofs.lemmas.Result.{err_from_is_err_and}
use Rattle.lists.specs.Tests.{by_test, clash}
use Rattle.paper.specs.Orders.{bad_index}
use Rattle.marks.specs.Querying.{with_promise, index_refused, window_refused}
use Rattle.marks.proofs.queried.Goals as goal

pub returns-in_default-clause-given : goal.returns-in_default-clause-given
returns-in_default-clause-given c =
    let a = c.args in
    with_promise a.words.now a.window a.numbers.now
    (index_refused a.words.now a.window a.numbers.now (by_test (bad_index a.words.now).given (λ t. t) (λ t. clash (sym (c.in_default.ensures.some.1 t)))))

pub returns-in_err-frame-clause-given : goal.returns-in_err-frame-clause-given
returns-in_err-frame-clause-given c =
    let a = c.args in
    let p = err_from_is_err_and c.from_residual.result c.from_residual.ensures.1 in
    rw (p.1, p.2)
    (with_promise a.words.now a.window a.numbers.now (window_refused a.words.now a.window a.numbers.now (c.in-Some.ensures.some.0 refl) c.in_err-frame.ensures.decided.0))

pub returns-clause-given : goal.returns-clause-given
returns-clause-given c =
    with_promise c.args.words.now c.args.window c.args.numbers.now (rw (c.in-Some.ensures.value, c.in_ok-frame.ensures.frame) at c.answer.ensures.given)
