-- What the check leaves of `answer`.
use Rattle.std.proofs.Common.{◌≡◌, pos, length, take, replicate, sym, ap, ◌∙◌, subst, arith, length-take-le}
use Rattle.std.proofs.Math.Seq.{take_at}
use Rattle.paper.specs.Results.{queried}
use Rattle.paper.specs.Lines.{printed}
use Rattle.texts.specs.Written.{Wrote}
use Rattle.lines.specs.Asking.{most_words, printed_over}
use Rattle.lines.proofs.Table.answer.Goals as goal

pub slice_bounds-query-end : goal.slice_bounds-query-end
slice_bounds-query-end c =
    sym (length-take-le c.words-words.result c.args.index.now (omega (arith, c.words-words.ensures.0, most_words c.args.self.size c.requires.0, c.requires.1)))

pub returns : goal.returns
returns c =
    let a = c.args in
    let q = c.query-reply in
    let n = c.words-words in
    let i : length a.index.now ≡ 7684 = c.requires.1 in
    let m : length a.numbers.now ≡ 256 = c.requires.2 in
    -- the words that are lent, and the cells, before the query and after it
    let words = length-take-le n.result a.index.now (omega (arith, n.ensures.0, most_words a.self.size c.requires.0)) ∙ n.ensures.0 in
    let cells = length-take-le a.self.size a.numbers.now (omega (arith, c.requires.0)) in
    let again = take_at q.new.numbers _ a.self.size (q.auto.numbers ∙ cells) in
    subst (λ t. Wrote t a.out.now c.push_answer.new.self)
    (ap (λ l. printed (q.result, l)) again
    ∙ ap printed q.ensures.numbers_after
    ∙ printed_over (take n.result a.index.now) a.w a.self.size words (take a.self.size a.numbers.now) cells
    ∙ ap (λ n. printed (queried (take n a.index.now) a.w (replicate a.self.size (pos 0)))) n.ensures.0)
    c.push_answer.ensures
