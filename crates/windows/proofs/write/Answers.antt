-- What the check leaves of `write`.
use Rattle.windows.specs.Outcome.{asked_again}
use Rattle.windows.proofs.write.Goals as goal

pub returns-clause-numbers_after : goal.returns-clause-numbers_after
returns-clause-numbers_after c = (asked_again c.requires.kept c.args.counts.now c.args.numbers.now c.requires.fits.0 c.requires.fits.1 c.ask.result c.ask.ensures).1
