-- What the check leaves of `all_digits`.
use Rattle.std.proofs.Common.{rules, ◌≡◌, ◌↔◌, IsTrue, EachIndex, slice_index, true}
use Rattle.paper.specs.Lines.{is_digit}
use Rattle.fields.specs.Numbers.{digits_told}
use Rattle.fields.proofs.all_digits.Goals as goal

pub returns : goal.returns
returns c =
    let xs = c.args.bytes.now in
    let e : IsTrue c.all.result ↔ EachIndex xs (λ k. is_digit (slice_index xs k) ≡ true) = search rules in
    digits_told c.all.result xs e
