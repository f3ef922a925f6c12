-- The code is written, and its run reports what the machine does.
use Rattle.runner.proofs.RunLaws.{completed}
use Rattle.runner.proofs.run.compiled.Goals as goal

pub returns : goal.returns
returns c = completed _ _ _ _ _ _ _ _ _ _ c.prepare.ensures c.execute-e.ensures
