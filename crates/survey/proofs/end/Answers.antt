-- What the check leaves of `end`: what is printed lies within the output.
use Rattle.std.proofs.Common.{◌∙◌}
use Rattle.texts.specs.Written.{wrote_length, wrote_within}
use Rattle.survey.proofs.end.Goals as goal

pub write_out-requires : goal.write_out-requires
write_out-requires c = (wrote_within c.finish.ensures.finished.wrote, wrote_length c.finish.ensures.finished.wrote ∙ c.requires.1.1)
