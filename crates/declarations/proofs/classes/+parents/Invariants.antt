-- The measure is what is left. Each return is a law of `ClassLaws`.
use Rattle.declarations.proofs.classes.+parents.Given as goal

abbrev pub decreases-parents : goal.decreases-parents
decreases-parents l = l.left
