-- The measure is what is left. Each return is a law of `BodyLaws`.
use Rattle.typecheck.proofs.method.+methods.Given as goal

abbrev pub decreases-methods : goal.decreases-methods
decreases-methods l = l.left
