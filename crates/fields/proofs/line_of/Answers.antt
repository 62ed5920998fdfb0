-- What the check leaves of `line_of`.
use Rattle.std.proofs.Common.{sym, ap, ◌∙◌}
use Rattle.fields.specs.Forms.{shown_line, shown_or, too_long, no_letter_field, letter_field}
use Rattle.fields.proofs.line_of.Goals as goal
use Rattle.fields.proofs.line_of.Goals.{then-long-via-then-long, then-long-via-else-long+then-end_of-ne1}

pub returns-then-long : goal.returns-then-long
returns-then-long c =
    elim c.then-long.branch [
      | then-long-via-then-long w ↦ too_long c.args.f.now w.if-long.true
      | then-long-via-else-long+then-end_of-ne1 w ↦ no_letter_field c.args.f.now w.if-long.false w.end_of.ensures w.if-end_of-ne1.true
    ]

pub returns : goal.returns
returns c =
    ap shown_line c.unwrap_or.ensures
    ∙ shown_or c.by_letter.result
    ∙ c.by_letter.ensures
    ∙ sym (letter_field c.args.f.now c.if-long.false c.end_of.ensures c.if-end_of-ne1.false)
