-- The measure is how many classes may still come. Each return is a law of `ClassLaws`.
use Rattle.writer.proofs.classes.+each.Given as goal

abbrev pub decreases-each : goal.decreases-each
decreases-each l = l.p.left
