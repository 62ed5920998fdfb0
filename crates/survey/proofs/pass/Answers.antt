-- What the check leaves of `pass`: what is printed lies within the output.
use Rattle.std.proofs.Common.{◌∙◌}
use Rattle.texts.specs.Written.{wrote_length, wrote_within}
use Rattle.survey.proofs.pass.Goals as goal

pub write_out-requires : goal.write_out-requires
write_out-requires c = (wrote_within c.feed-after.ensures.turned.wrote, wrote_length c.feed-after.ensures.turned.wrote ∙ c.requires.1.1)
