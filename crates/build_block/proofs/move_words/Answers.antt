-- What the check leaves of `move_words`.
use Rattle.std.proofs.Common.{sym, ◌∙◌}
use Rattle.lists.specs.Parts.{copied, win, put_nil}
use Rattle.build_block.proofs.move_words.Goals as goal

pub returns-then-n-eq0 : goal.returns-then-n-eq0
unfolding win
returns-then-n-eq0 c = rw c.if-n-eq0.true (sym (put_nil c.args.to c.args.part.now))

pub returns : goal.returns
returns c = c.copy_within.ensures.after ∙ copied c.args.from c.args.to c.args.n c.args.part.now c.requires.0
