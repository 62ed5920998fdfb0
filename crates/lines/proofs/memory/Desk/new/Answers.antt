-- What the check leaves of `new`: a slice filled with zeros is as many zeros as it has elements.
use Rattle.std.proofs.Common.{pos, replicate, ap, ◌∙◌}
use Rattle.lines.proofs.memory.Desk.new.Goals as goal

pub returns-clause-blank : goal.returns-clause-blank
returns-clause-blank c = record {
  cells = c.fill.ensures.after (λ y e. e) ∙ ap (λ n. replicate n (pos 0)) c.requires.table;
  index = c.fill-2.ensures.after (λ y e. e) ∙ ap (λ n. replicate n (pos 0)) c.requires.words;
  numbers = c.fill-3.ensures.after (λ y e. e) ∙ ap (λ n. replicate n (pos 0)) c.requires.numbered;
  carry = c.fill-4.ensures.after (λ y e. e) ∙ ap (λ n. replicate n 0) c.requires.carries;
}
