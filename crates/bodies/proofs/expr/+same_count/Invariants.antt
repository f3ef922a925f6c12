-- The measure is what is left. Each return is a law of `ExpressionLaws`.
use Rattle.bodies.proofs.expr.+same_count.Given as goal

abbrev pub decreases-same_count : goal.decreases-same_count
decreases-same_count l = l.left
