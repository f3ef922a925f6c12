-- A lesson that is not small goes to `wide`; for the others the room here is enough, by their tokens.
use Rattle.runner.proofs.RunLaws.{small-fits}
use Rattle.runner.proofs.run.accepted.Goals as goal

pub returns : goal.returns
returns c = small-fits c.if-s-gt-SMALL.false c.requires.3 c.compiled.ensures
