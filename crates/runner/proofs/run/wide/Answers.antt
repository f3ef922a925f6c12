-- The room is enough, by the lesson's tokens.
use Rattle.runner.proofs.RunLaws.{wide_fits}
use Rattle.runner.proofs.run.wide.Goals as goal

pub returns : goal.returns
returns c = wide_fits c.requires.0.few c.requires.3 c.compiled.ensures
