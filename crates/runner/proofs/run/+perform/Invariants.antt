-- The measure is 1 before the lesson is checked.
use Rattle.std.proofs.Common.{cond}
use Rattle.std.specs.Prelude.{is_none}
use Rattle.runner.proofs.run.+perform.Given as goal

abbrev pub decreases-perform : goal.decreases-perform
decreases-perform l = cond (is_none l.known) 1 0
